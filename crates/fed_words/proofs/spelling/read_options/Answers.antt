use Rattle.std.proofs.Common.{◌≡◌, ◌+◌, ◌++◌, ◌∷◌, [], Some, None, Ok, get_or, drop, sym, ap, ◌∙◌, inl, inr}
use Rattle.fed_words.specs.Item.{words_of}
use Rattle.fed_words.specs.Reading.{reading}
use Rattle.fed_words.specs.Spelling.{group, spelling}
use Rattle.fed_words.proofs.Each.{gives-either}
use Rattle.fed_words.proofs.Readings.{options-argument, options-end, options-fault, options-group, options-operand, options-wrong}
use Rattle.fed_words.proofs.Spellings.{rest_words, word_at}
use Rattle.fed_words.proofs.spelling.read_options.Goals as goal

pub returns-in_err-set : goal.returns-in_err-set
returns-in_err-set c =
    let here = word_at c.args.words.now c.loop-index.index (record { ref_ptr = (0, 0); now = [] }) c.loop-index-test.true in
    let said : reading c.args.roster.now [] (spelling c.args.utility None (words_of c.args.words.now)) ≡ reading c.args.roster.now c.loop-index.invariant.0 (spelling c.args.utility (Some c.in-Some.option) (drop c.loop-index.index (words_of c.args.words.now))) = rw c.in-Some.is at c.loop-index.invariant.2 in
    gives-either _ c.from_residual.result _ c.in_err-set.field-0.0 c.from_residual.ensures.1 (elim (c.in_err-set.ensures c.loop-index.invariant.0 c.loop-index.invariant.1) [
      | inl refused ↦ inl refused
      | inr wrong ↦ inr (said ∙ options-wrong c.args.roster.now c.args.utility (words_of c.args.words.now) c.loop-index.index c.loop-index.invariant.0 (get_or c.args.words.now c.loop-index.index (record { ref_ptr = (0, 0); now = [] })).now here.0 here.1 c.in-Some.option c.in_err-set.field-0.0 wrong)
    ])

pub loop-index-preserved-in-Some : goal.loop-index-preserved-in-Some
loop-index-preserved-in-Some c =
    let here = word_at c.args.words.now c.loop-index.index (record { ref_ptr = (0, 0); now = [] }) c.loop-index-test.true in
    let said : reading c.args.roster.now [] (spelling c.args.utility None (words_of c.args.words.now)) ≡ reading c.args.roster.now c.loop-index.invariant.0 (spelling c.args.utility (Some c.in-Some.option) (drop c.loop-index.index (words_of c.args.words.now))) = rw c.in-Some.is at c.loop-index.invariant.2 in (
      c.loop-index.invariant.0 ++ (c.in-Some.option, (get_or c.args.words.now c.loop-index.index (record { ref_ptr = (0, 0); now = [] })).now) ∷ [],
      c.in_ok-set.ensures c.loop-index.invariant.0 c.loop-index.invariant.1,
      said ∙ options-argument c.args.roster.now c.args.utility (words_of c.args.words.now) c.loop-index.index c.loop-index.invariant.0 (get_or c.args.words.now c.loop-index.index (record { ref_ptr = (0, 0); now = [] })).now here.0 here.1 c.in-Some.option,
    )

pub returns-then-not-is_options : goal.returns-then-not-is_options
returns-then-not-is_options c =
    let here = word_at c.args.words.now c.loop-index.index (record { ref_ptr = (0, 0); now = [] }) c.loop-index-test.true in
    let said : reading c.args.roster.now [] (spelling c.args.utility None (words_of c.args.words.now)) ≡ reading c.args.roster.now c.loop-index.invariant.0 (spelling c.args.utility None (drop c.loop-index.index (words_of c.args.words.now))) = rw c.in_default.is at c.loop-index.invariant.2 in
    said ∙ options-operand c.args.roster.now c.args.utility (words_of c.args.words.now) c.loop-index.index c.loop-index.invariant.0 (get_or c.args.words.now c.loop-index.index (record { ref_ptr = (0, 0); now = [] })).now here.0 here.1 c.loop-index.settings (sym c.if-not-is_options.ensures) c.loop-index.invariant.1
    ∙ ap (λ words. Ok (c.loop-index.settings, words)) (sym (rest_words c.args.words.now c.loop-index.index))

pub returns-then-is_end : goal.returns-then-is_end
returns-then-is_end c =
    let here = word_at c.args.words.now c.loop-index.index (record { ref_ptr = (0, 0); now = [] }) c.loop-index-test.true in
    let said : reading c.args.roster.now [] (spelling c.args.utility None (words_of c.args.words.now)) ≡ reading c.args.roster.now c.loop-index.invariant.0 (spelling c.args.utility None (drop c.loop-index.index (words_of c.args.words.now))) = rw c.in_default.is at c.loop-index.invariant.2 in
    said ∙ options-end c.args.roster.now c.args.utility (words_of c.args.words.now) c.loop-index.index c.loop-index.invariant.0 (get_or c.args.words.now c.loop-index.index (record { ref_ptr = (0, 0); now = [] })).now here.0 here.1 c.loop-index.settings (sym c.if-is_end.ensures) c.loop-index.invariant.1
    ∙ ap (λ words. Ok (c.loop-index.settings, words)) (sym (rest_words c.args.words.now (c.loop-index.index + 1)))

pub returns-in_err-wanted : goal.returns-in_err-wanted
returns-in_err-wanted c =
    let here = word_at c.args.words.now c.loop-index.index (record { ref_ptr = (0, 0); now = [] }) c.loop-index-test.true in
    let said : reading c.args.roster.now [] (spelling c.args.utility None (words_of c.args.words.now)) ≡ reading c.args.roster.now c.loop-index.invariant.0 (spelling c.args.utility None (drop c.loop-index.index (words_of c.args.words.now))) = rw c.in_default.is at c.loop-index.invariant.2 in
    gives-either _ c.from_residual-in_err-wanted.result _ c.in_err-wanted.field-0.0 c.from_residual-in_err-wanted.ensures.1 (elim (c.in_err-wanted.ensures c.loop-index.invariant.0 c.loop-index.invariant.1) [
      | inl refused ↦ inl refused
      | inr wrong ↦ inr (said ∙ options-fault c.args.roster.now c.args.utility (words_of c.args.words.now) c.loop-index.index c.loop-index.invariant.0 (get_or c.args.words.now c.loop-index.index (record { ref_ptr = (0, 0); now = [] })).now here.0 here.1 c.in_err-wanted.field-0.0 (sym c.if-is_end.ensures) (sym c.if-not-is_options.ensures) wrong)
    ])

pub loop-index-preserved : goal.loop-index-preserved
loop-index-preserved c =
    let here = word_at c.args.words.now c.loop-index.index (record { ref_ptr = (0, 0); now = [] }) c.loop-index-test.true in
    let said : reading c.args.roster.now [] (spelling c.args.utility None (words_of c.args.words.now)) ≡ reading c.args.roster.now c.loop-index.invariant.0 (spelling c.args.utility None (drop c.loop-index.index (words_of c.args.words.now))) = rw c.in_default.is at c.loop-index.invariant.2 in
    let goes = options-group c.args.roster.now c.args.utility (words_of c.args.words.now) c.loop-index.index c.loop-index.invariant.0 (get_or c.args.words.now c.loop-index.index (record { ref_ptr = (0, 0); now = [] })).now here.0 here.1 c.read_group.new.settings c.in_ok-wanted.wanted (sym c.if-is_end.ensures) (sym c.if-not-is_options.ensures) (c.in_ok-wanted.ensures c.loop-index.invariant.0 c.loop-index.invariant.1) in (
      c.loop-index.invariant.0 ++ (group c.args.utility (drop 1 (get_or c.args.words.now c.loop-index.index (record { ref_ptr = (0, 0); now = [] })).now)).items,
      goes.0,
      said ∙ goes.1,
    )
