use Rattle.std.proofs.Common.{◌≡◌, ◌+◌, ◌<◌, ◌++◌, ◌∷◌, [], Some, length, get_or, drop, refl, sym, ◌∙◌, inl, inr}
use Rattle.std.proofs.lemmas.Str.{IsCharBoundary-after_ascii}
use Rattle.fed_words.specs.Utility.{choice_of}
use Rattle.fed_words.proofs.Each.{gives-either}
use Rattle.fed_words.proofs.Groups.{letter-argument, letter-argument-wrong, letter-switch, letter-switch-wrong, letter_is_low, some_from}
use Rattle.fed_words.proofs.spelling.read_group.Goals as goal

pub range_from-argument-requires : goal.range_from-argument-requires
range_from-argument-requires c = λ some.
    let known : choice_of c.args.utility (get_or c.args.word.now c.loop-index.index 0) ≡ Some c.in-Some.option = rw c.as_bytes-bytes.ensures.value at (sym c.in-Some.ensures) in
    let within : c.loop-index.index < length c.args.word.now = rw c.as_bytes-bytes.ensures.value at c.loop-index-test.true in
    IsCharBoundary-after_ascii c.args.word.now c.loop-index.index c.utf8.word within (letter_is_low c.args.utility (get_or c.args.word.now c.loop-index.index 0) c.in-Some.option known)

pub returns-in_err-set : goal.returns-in_err-set
returns-in_err-set c = λ items e.
    let known : choice_of c.args.utility (get_or c.args.word.now c.loop-index.index 0) ≡ Some c.in-Some.option = rw c.as_bytes-bytes.ensures.value at (sym c.in-Some.ensures) in
    let within : c.loop-index.index < length c.args.word.now = rw c.as_bytes-bytes.ensures.value at c.loop-index-test.true in
    let some : 0 < length (drop (c.loop-index.index + 1) c.args.word.now) = rw c.range_from-argument.ensures.value at (some_from (length c.range_from-argument.result.now) (sym c.if-is_empty.false ∙ c.is_empty.ensures)) in
    let far = c.loop-index.invariant items e in
    gives-either _ c.from_residual.result _ c.in_err-set.field-0.0 c.from_residual.ensures.1 (elim (c.in_err-set.ensures far.0 far.1) [
      | inl refused ↦ inl refused
      | inr wrong ↦ inr (far.2 ∙ letter-argument-wrong c.args.roster.now c.args.utility c.args.word.now c.loop-index.index far.0 (get_or c.args.word.now c.loop-index.index 0) within refl c.in-Some.option known c.in_err-set.field-0.0 (sym c.if-takes_argument.ensures) some (rw c.range_from-argument.ensures.value at wrong))
    ])

pub returns-then-takes_argument : goal.returns-then-takes_argument
returns-then-takes_argument c = λ items e.
    let known : choice_of c.args.utility (get_or c.args.word.now c.loop-index.index 0) ≡ Some c.in-Some.option = rw c.as_bytes-bytes.ensures.value at (sym c.in-Some.ensures) in
    let within : c.loop-index.index < length c.args.word.now = rw c.as_bytes-bytes.ensures.value at c.loop-index-test.true in
    let some : 0 < length (drop (c.loop-index.index + 1) c.args.word.now) = rw c.range_from-argument.ensures.value at (some_from (length c.range_from-argument.result.now) (sym c.if-is_empty.false ∙ c.is_empty.ensures)) in
    let far = c.loop-index.invariant items e in
    far.2 ∙ letter-argument c.args.roster.now c.args.utility c.args.word.now c.loop-index.index far.0 (get_or c.args.word.now c.loop-index.index 0) within refl c.in-Some.option known c.set.new.self (sym c.if-takes_argument.ensures) some (rw c.range_from-argument.ensures.value at (c.in_ok-set.ensures far.0 far.1))

pub returns-in_err-set-2 : goal.returns-in_err-set-2
returns-in_err-set-2 c = λ items e.
    let known : choice_of c.args.utility (get_or c.args.word.now c.loop-index.index 0) ≡ Some c.in-Some.option = rw c.as_bytes-bytes.ensures.value at (sym c.in-Some.ensures) in
    let within : c.loop-index.index < length c.args.word.now = rw c.as_bytes-bytes.ensures.value at c.loop-index-test.true in
    let far = c.loop-index.invariant items e in
    gives-either _ c.from_residual-in_err-set-2.result _ c.in_err-set-2.field-0.0 c.from_residual-in_err-set-2.ensures.1 (elim (c.in_err-set-2.ensures far.0 far.1) [
      | inl refused ↦ inl refused
      | inr wrong ↦ inr (far.2 ∙ letter-switch-wrong c.args.roster.now c.args.utility c.args.word.now c.loop-index.index far.0 (get_or c.args.word.now c.loop-index.index 0) within refl c.in-Some.option known (sym c.if-takes_argument.ensures) c.in_err-set-2.field-0.0 wrong)
    ])

pub loop-index-preserved : goal.loop-index-preserved
loop-index-preserved c = λ items e.
    let known : choice_of c.args.utility (get_or c.args.word.now c.loop-index.index 0) ≡ Some c.in-Some.option = rw c.as_bytes-bytes.ensures.value at (sym c.in-Some.ensures) in
    let within : c.loop-index.index < length c.args.word.now = rw c.as_bytes-bytes.ensures.value at c.loop-index-test.true in
    let far = c.loop-index.invariant items e in
    (far.0 ++ (c.in-Some.option, []) ∷ [], c.in_ok-set-2.ensures far.0 far.1, far.2 ∙ letter-switch c.args.roster.now c.args.utility c.args.word.now c.loop-index.index far.0 (get_or c.args.word.now c.loop-index.index 0) within refl c.in-Some.option known (sym c.if-takes_argument.ensures))
