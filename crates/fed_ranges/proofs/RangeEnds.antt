-- Ranges that begin at 1 or later and end before a number.
use Rattle.std.proofs.Common.{ℕ, ◌≤◌, ◌+◌, ◌↔◌, List, [], ◌∷◌, arith}
use Rattle.fed_ranges.specs.declared.ranges.Range.{Range}
use Rattle.fed_ranges.specs.Ranges.{AreApart, IsCanonical}
use Rattle.fed_ranges.specs.Retirements.{AreBetween, EndBefore}

ends : (end : ℕ) (rs : List Range) → AreBetween end rs → EndBefore end rs
ends end [] b = tt
ends end (r ∷ rs) b = (b.0.1, ends end rs b.1)

starts : (end : ℕ) (rs : List Range) → IsCanonical rs → AreBetween end rs → AreApart 1 rs
starts end [] a b = tt
starts end (r ∷ rs) a b = (b.0.0, a.1, a.2)

from_parts : (end low : ℕ) (rs : List Range) → 1 ≤ low → AreApart low rs → EndBefore end rs → AreBetween end rs
from_parts end low [] one a e = tt
from_parts end low (r ∷ rs) one a e = let f = a.0 in let g = a.1 in ((omega arith, e.0), from_parts end (r.last + 2) rs (omega arith) a.2 e.1)

pub between_parts : (end : ℕ) (rs : List Range) → IsCanonical rs → AreBetween end rs ↔ (AreApart 1 rs × EndBefore end rs)
between_parts end rs a = (λ b. (starts end rs a b, ends end rs b), λ p. from_parts end 1 rs (omega arith) p.0 p.1)
