-- What is known of the ranges that a site has retired, once a range is added and once two lists join.
use Rattle.std.specs.Prelude.{if◌then◌else◌}
use Rattle.std.proofs.Common.{◌≡◌, ◌≢◌, ℕ, ◌+◌, ◌≤◌, ◌<◌, List, [], ◌∷◌, Bool, true, false, refl, ap, inl, inr, arith}
use Rattle.std.proofs.lemmas.Bool.{le-ltb, or_cases}
use Rattle.fed_ranges.specs.declared.ranges.Range.{Range}
use Rattle.fed_ranges.specs.Ranges.{is_in, has, AreApart, is_before, both, added, joined}
use Rattle.fed_ranges.specs.RangeLaws.{in_high, added_apart}
use Rattle.fed_ranges.specs.Retirements.{with_range, EndBefore}

pub from_zero : (rs : List Range) → AreApart 1 rs → AreApart 0 rs
from_zero [] a = tt
from_zero (r ∷ rs) a = (omega arith, a.1, a.2)

pub joined_from : (rs ss : List Range) (low from : ℕ) → AreApart low rs → AreApart from ss → low ≤ from → AreApart low (joined rs ss)
joined_from rs [] low from a b le = a
joined_from rs (s ∷ ss) low from a b le =
    let first = b.0 in
    let last = b.1 in
    joined_from (added s rs) ss low (s.last + 2) (added_apart low s rs (omega arith) b.1 a) b.2 (omega arith)

-- a range that has a number is added
pub with_range_is : (c : Range) (rs : List Range) → c.first ≤ c.last → with_range c rs ≡ added c rs
with_range_is c rs some = ap (λ b. if b then rs else added c rs) (le-ltb c.last c.first some)

-- ---- where they end
pub ends_later : (rs : List Range) (m n : ℕ) → m ≤ n → EndBefore m rs → EndBefore n rs
ends_later [] m n le e = tt
ends_later (r ∷ rs) m n le e = let f = e.0 in (omega arith, ends_later rs m n le e.1)

pub ends_added : (c : Range) (rs : List Range) (n : ℕ) → c.last < n → EndBefore n rs → EndBefore n (added c rs)
ends_added c [] n l e = (l, tt)
ends_added c (r ∷ rs) n l e = go (λ d. ends_added d rs n) (is_before r c) (is_before c r)
  where
    go : ((d : Range) → d.last < n → EndBefore n rs → EndBefore n (added d rs)) → (p q : Bool) → EndBefore n (if p then r ∷ added c rs else if q then c ∷ added r rs else added (both c r) rs)
    go ih true q = (e.0, ih c l e.1)
    go ih false true = (l, ih r e.0 e.1)
    go ih false false = let f = e.0 in ih (both c r) (omega arith) e.1

pub ends_joined : (rs ss : List Range) (n : ℕ) → EndBefore n rs → EndBefore n ss → EndBefore n (joined rs ss)
ends_joined rs [] n a b = a
ends_joined rs (s ∷ ss) n a b = ends_joined (added s rs) ss n (ends_added s rs n b.0 a) b.1

-- a number in them is below where they end
pub has_before : (rs : List Range) (n m : ℕ) → has rs n ≡ true → EndBefore m rs → n < m
has_before [] n m h e = cc
has_before (r ∷ rs) n m h e = elim (or_cases (is_in r n) (has rs n) h) [
  | inl x ↦ (let high = in_high r n x in let f = e.0 in omega arith)
  | inr x ↦ has_before rs n m x e.1
]

-- ---- that there are any
pub some_added : (c : Range) (rs : List Range) → added c rs ≢ []
some_added c [] = λ e. cc
some_added c (r ∷ rs) = go (λ d. some_added d rs) (is_before r c) (is_before c r)
  where
    go : ((d : Range) → added d rs ≢ []) → (p q : Bool) → (if p then r ∷ added c rs else if q then c ∷ added r rs else added (both c r) rs) ≢ []
    go ih true q = λ e. cc
    go ih false true = λ e. cc
    go ih false false = ih (both c r)

pub some_joined : (rs ss : List Range) → rs ≢ [] → joined rs ss ≢ []
some_joined rs [] h = h
some_joined rs (s ∷ ss) h = some_joined (added s rs) ss (some_added s rs)

pub some_joined_right : (rs ss : List Range) → ss ≢ [] → joined rs ss ≢ []
some_joined_right rs [] h = absurd (h refl)
some_joined_right rs (s ∷ ss) h = some_joined (added s rs) ss (some_added s rs)
