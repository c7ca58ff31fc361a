-- At which range a number is looked for: the first that doesn't end below it.
use Rattle.std.specs.Prelude.{nat_le, nat_lt}
use Rattle.std.specs.List.Sorted.{IsPartitionedBy, IsPartitionPoint}
use Rattle.std.proofs.Common.{◌≡◌, ℕ, zero, suc, length, slice_index_or, ◌+◌, ◌≤◌, ◌<◌, List, [], ◌∷◌, Bool, true, false, ◌||◌, ◌&&◌, sym, ap, ◌∙◌, arith}
use Rattle.std.proofs.lemmas.Bool.{le-leb, le-ltb, lt-ltb, ltb-true, ltb-false, lt-leb}
use Rattle.fed_ranges.specs.declared.ranges.Range.{Range}
use Rattle.fed_ranges.specs.Ranges.{has, AreApart}
use Rattle.fed_ranges.specs.RangeLaws.{none_below, same_bits}

-- a later range ends later
lasts_rise : (low : ℕ) (rs : List Range) (i j : ℕ) (d : Range) → AreApart low rs → i ≤ j → j < length rs → (slice_index_or rs i d).last ≤ (slice_index_or rs j d).last
lasts_rise low [] i j d a le less = absurd (omega arith)
lasts_rise low (r ∷ rs) zero zero d a le less = omega arith
lasts_rise low (r ∷ rs) zero (suc j) d a le less = let b = from_low (r.last + 2) rs j d a.2 (omega arith) in omega arith
  where
    from_low : (low : ℕ) (rs : List Range) (j : ℕ) (d : Range) → AreApart low rs → j < length rs → low ≤ (slice_index_or rs j d).last
    from_low low [] j d a less = absurd (omega arith)
    from_low low (r ∷ rs) zero d a less = let f = a.0 in let g = a.1 in omega arith
    from_low low (r ∷ rs) (suc j) d a less = let f = a.0 in let g = a.1 in let h = from_low (r.last + 2) rs j d a.2 (omega arith) in omega arith
lasts_rise low (r ∷ rs) (suc i) zero d a le less = absurd (omega arith)
lasts_rise low (r ∷ rs) (suc i) (suc j) d a le less = lasts_rise (r.last + 2) rs i j d a.2 (omega arith) (omega arith)

pub partitioned : (n : ℕ) (rs : List Range) → AreApart 0 rs → IsPartitionedBy (λ (r : Range). nat_lt r.last n) rs
partitioned n rs a i j d le less e =
    let rise = lasts_rise 0 rs i j d a le less in
    let below = ltb-true (slice_index_or rs j d).last n e in
    lt-ltb (slice_index_or rs i d).last n (omega arith)

if_only : (a b c t : Bool) → b ≡ true → c ≡ false → t ≡ true → ((a && b) || c) ≡ (t && a)
if_only a b c t e f g = grind (arith, e, f, g)

if_later : (a b c : Bool) → b ≡ false → ((a && b) || c) ≡ c
if_later a b c e = grind (arith, e)

lt_both : (i m : ℕ) → nat_lt i m ≡ nat_lt (suc i) (suc m)
lt_both i m = same_bits (nat_lt i m) (nat_lt (suc i) (suc m))
    (λ e. let h = ltb-true i m e in lt-ltb (suc i) (suc m) (omega arith))
    (λ e. let h = ltb-true (suc i) (suc m) e in lt-ltb i m (omega arith))

-- the first range that doesn't end below the number has it, or none does
pub found_at : (low n : ℕ) (rs : List Range) (i : ℕ) (d : Range) → AreApart low rs → i ≤ length rs
    → ((k : ℕ) → k < i → (slice_index_or rs k d).last < n) → ((k : ℕ) → i ≤ k → k < length rs → n ≤ (slice_index_or rs k d).last)
    → has rs n ≡ (nat_lt i (length rs) && nat_le (slice_index_or rs i d).first n)
found_at low n [] i d a le below above = sym (ap (λ b. b && nat_le (slice_index_or [] i d).first n) (le-ltb i 0 (omega arith)))
found_at low n (r ∷ rs) zero d a le below above =
    let reach : n ≤ r.last = above 0 (omega arith) (omega arith) in
    if_only (nat_le r.first n) (nat_le n r.last) (has rs n) (nat_lt 0 (suc (length rs))) (le-leb n r.last reach) (none_below (r.last + 2) rs n a.2 (omega arith)) (lt-ltb 0 (suc (length rs)) (omega arith))
found_at low n (r ∷ rs) (suc i) d a le below above =
    let out : r.last < n = below 0 (omega arith) in
    if_later (nat_le r.first n) (nat_le n r.last) (has rs n) (lt-leb n r.last out)
    ∙ found_at (r.last + 2) n rs i d a.2 (omega arith) (λ k l. below (suc k) (omega arith)) (λ k l m. above (suc k) (omega arith) (omega arith))
    ∙ ap (λ b. b && nat_le (slice_index_or rs i d).first n) (lt_both i (length rs))

pub found_by : (n : ℕ) (rs : List Range) (i : ℕ) (d : Range) → AreApart 0 rs → i ≤ length rs
    → IsPartitionPoint (λ (r : Range). nat_lt r.last n ≡ true) (λ (r : Range). nat_lt r.last n ≡ false) rs i → has rs n ≡ (nat_lt i (length rs) && nat_le (slice_index_or rs i d).first n)
found_by n rs i d a le p = found_at 0 n rs i d a le
    (λ k l. ltb-true (slice_index_or rs k d).last n (p.0 k d (omega arith) l))
    (λ k l m. ltb-false (slice_index_or rs k d).last n (p.1 k d l m))
