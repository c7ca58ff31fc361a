-- Sets of numbers as lists of ranges.
use Rattle.std.specs.Prelude.{ℕ, suc, ◌+◌, ◌≤◌, Bool, false, not, ◌&&◌, ◌||◌, nat_le, nat_lt, min, max, List, [], ◌∷◌, Option, Some, None, if◌then◌else◌}
use Rattle.fed_ranges.specs.declared.ranges.Range.{Range}

-- the number is in the range
abbrev pub is_in : Range → ℕ → Bool
is_in r n = nat_le r.first n && nat_le n r.last

-- the number is in one of the ranges
abbrev pub has : List Range → ℕ → Bool
has [] n = false
has (r ∷ rs) n = is_in r n || has rs n

-- the ranges ascend from the number on, none is empty, and between two there is a number that is in none
abbrev pub AreApart : ℕ → List Range → Type 0
AreApart low [] = Unit {0}
AreApart low (r ∷ rs) = (low ≤ r.first) × (r.first ≤ r.last) × AreApart (r.last + 2) rs

abbrev pub IsCanonical : List Range → Type 0
IsCanonical rs = AreApart 0 rs

-- where a range may begin, behind one that ends there or as the first
abbrev pub least_after : Option ℕ → ℕ
least_after None = 0
least_after (Some last) = last + 2

-- so the range does not touch the one before it, and is not empty
abbrev pub MayFollow : Option ℕ → Range → Type 0
MayFollow last r = (least_after last ≤ r.first) × (r.first ≤ r.last)

-- the one ends before the other starts, with a number between them
abbrev pub is_before : Range → Range → Bool
is_before r s = nat_lt (r.last + 1) s.first

-- from the least number of both to the greatest
abbrev pub both : Range → Range → Range
both r s = record { first = min r.first s.first; last = max r.last s.last }

-- the ranges with one more: those that it touches become one with it
abbrev pub added : Range → List Range → List Range
added c [] = c ∷ []
added c (r ∷ rs) =
    if is_before r c then r ∷ added c rs
    else if is_before c r then c ∷ added r rs
    else added (both c r) rs

-- all ranges of both
abbrev pub joined : List Range → List Range → List Range
joined rs [] = rs
joined rs (c ∷ cs) = joined (added c rs) cs

-- a range starts after the number: it is in none, and the next is
abbrev pub starts_after : List Range → ℕ → Bool
starts_after rs n = not (has rs n) && has rs (suc n)

-- no range ends above the number
abbrev pub EndBy : ℕ → List Range → Type 0
EndBy most [] = Unit {0}
EndBy most (r ∷ rs) = (r.last ≤ most) × EndBy most rs
