-- How many ranges a site has once one more is retired.
use Rattle.std.specs.Prelude.{count_by, not, ◌&&◌, ◌||◌, nat_le, nat_lt, unwrap_or, IfSome}
use Rattle.std.specs.BTreeMap.{is_at}
use Rattle.std.specs.List.{range_with_len}
use Rattle.std.specs.Map.{lookup}
use Rattle.std.specs.Ordering.{nat_cmp}
use Rattle.std.proofs.Common.{◌≡◌, ℕ, suc, ◌≤◌, ◌+◌, List, [], ◌∷◌, length, Bool, false, Option, Some, None, sym, ap, ◌∙◌, arith}
use Rattle.std.proofs.lemmas.Bool.{leb-false, ltb-false, or_parts}
use Rattle.fed_stamp.specs.Version.{counter_of}
use Rattle.fed_model.specs.Origin.{ranges_with}
use Rattle.fed_model.specs.Refusals.{is_bad_range}
use Rattle.fed_model.specs.Retired.{is_within}
use Rattle.fed_ranges.specs.declared.ranges.Range.{Range}
use Rattle.fed_ranges.specs.Ranges.{is_in, has, added, AreApart, EndBy, starts_after}
use Rattle.fed_ranges.specs.RangeLaws.{added_apart, added_has}
use Rattle.fed_ranges.specs.Retired.{retired_at}
use Rattle.fed_ranges.specs.Retirements.{RetirementsValue, EndBefore, no_retirements}
use Rattle.fed_ranges.proofs.RangeCounts.{counted_ranges}
use Rattle.fed_board.specs.Board.{BoardValue, IsBoard, AreKnownRetirements, board_reads}
use Rattle.fed_board.proofs.RangeSteps.{ends_added, ends_later}

or_turned : (a b : Bool) → (a || b) ≡ (b || a)
or_turned a b = grind arith

-- a test of numbers counts as another that agrees with it
count_same : (p q : ℕ → Bool) → ((k : ℕ) → p k ≡ q k) → (ks : List ℕ) → count_by p ks ≡ count_by q ks
count_same p q same ks = (λ i. count_by (λ k. same k i) ks)

-- ranges that end before a counter end by a number that isn't below it
ends_by : (end most : ℕ) (rs : List Range) → end ≤ most + 1 → EndBefore end rs → EndBy most rs
ends_by end most [] le e = tt
ends_by end most (r ∷ rs) le e = let f = e.0 in (omega arith, ends_by end most rs le e.1)

module _ (b : BoardValue) (here first last : ℕ) (i : IsBoard b) (good : is_bad_range (board_reads b) here first last ≡ false) where
  abbrev range : Range
  range = record { first = first; last = last }

  abbrev most : ℕ
  most = counter_of b.version here

  low : 1 ≤ first
  low = let p = or_parts (nat_le first 0) _ good in let e = leb-false first 0 p.0 in omega arith

  some : first ≤ last
  some = let p = or_parts (nat_le first 0) _ good in let q = or_parts (nat_lt last first) _ p.1 in ltb-false last first q.0

  far : last ≤ most
  far = let p = or_parts (nat_le first 0) _ good in let q = or_parts (nat_lt last first) _ p.1 in ltb-false most last q.1

  apart : (o : Option RetirementsValue) → IfSome o (AreKnownRetirements b.version here) → AreApart 1 (unwrap_or o no_retirements).ranges
  apart None k = tt
  apart (Some x) k = k.apart

  ends : (o : Option RetirementsValue) → IfSome o (AreKnownRetirements b.version here) → EndBefore (suc most) (unwrap_or o no_retirements).ranges
  ends None k = tt
  ends (Some x) k = let c = k.covered in ends_later x.ranges x.latest (suc most) (omega arith) k.before

  pub counted : (rs : List Range) → rs ≡ (retired_at b.retired here).ranges → length (added range rs) ≡ ranges_with (board_reads b) here first last
  counted rs is =
      let mine : List Range = (retired_at b.retired here).ranges in
      let a : AreApart 1 mine = apart (lookup (is_at (nat_cmp here)) b.retired) (i.retired here) in
      let e : EndBefore (suc most) mine = ends (lookup (is_at (nat_cmp here)) b.retired) (i.retired here) in
      let more : List Range = added range mine in
      let l = low in
      let f = far in
      let more_apart : AreApart 1 more = added_apart 1 range mine (omega arith) some a in
      let more_ends : EndBy (0 + suc most) more = ends_by (suc most) (0 + suc most) more (omega arith) (ends_added range mine (suc most) (omega arith) e) in
      let has_more : (k : ℕ) → has more k ≡ (has mine k || is_within first last k) = λ k. added_has 1 range mine k some a ∙ or_turned (is_in range k) (has mine k) in
      ap (λ xs. length (added range xs)) is
      ∙ sym (counted_ranges more (suc most) 0 more_apart more_ends)
      ∙ count_same (starts_after more) (λ k. not (has mine k || is_within first last k) && (has mine (suc k) || is_within first last (suc k)))
      (λ k j. not (has_more k j) && has_more (suc k) j) (range_with_len 0 (suc most))
