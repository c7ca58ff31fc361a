use Rattle.std.proofs.Common.{◌≡◌, ℕ, ◌<◌, List, Some, arith, get_or, position, sym, true}
use Rattle.std.proofs.lemmas.Bool.{eqb-true}
use Rattle.std.proofs.lemmas.List.Quantifiers.{position-Some}
use Rattle.std.proofs.lemmas.Str.{IsCharBoundary-after_ascii, IsCharBoundary-before_ascii}
use Rattle.fed_words.specs.Identifier.{is_dot}
use Rattle.fed_words.proofs.identifiers.read_identifier.Goals as goal

dot_small : (word : List ℕ) (dot : ℕ) → is_dot (get_or word dot 0) ≡ true → get_or word dot 0 < 128
dot_small word dot e = omega (arith, eqb-true (get_or word dot 0) 46 e)

pub range-requires-clause-end_boundary : goal.range-requires-clause-end_boundary
range-requires-clause-end_boundary c =
    let found : position is_dot c.args.word.now ≡ Some c.in-Some.dot = rw c.as_bytes.ensures.value at (sym c.in-Some.ensures) in
    let place = position-Some is_dot c.args.word.now c.in-Some.dot 0 found in
    IsCharBoundary-before_ascii c.args.word.now c.in-Some.dot place.0 (dot_small c.args.word.now c.in-Some.dot place.1)

pub range_from-requires : goal.range_from-requires
range_from-requires c = λ some.
    let found : position is_dot c.args.word.now ≡ Some c.in-Some.dot = rw c.as_bytes.ensures.value at (sym c.in-Some.ensures) in
    let place = position-Some is_dot c.args.word.now c.in-Some.dot 0 found in
    IsCharBoundary-after_ascii c.args.word.now c.in-Some.dot c.utf8.word place.0 (dot_small c.args.word.now c.in-Some.dot place.1)
