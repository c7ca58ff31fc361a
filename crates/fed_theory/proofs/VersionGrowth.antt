-- What a version that has grown covers.
use Rattle.std.proofs.Common.{◌≡◌, ℕ, ◌≤◌, ◌<◌, max, true, replicate, List, length, get_or-set_same, subst, arith, inl, inr}
use Rattle.std.proofs.lemmas.Bool.{leb-true, le-leb}
use Rattle.fed_stamp.specs.Stamp.{StampValue}
use Rattle.fed_stamp.specs.Version.{counter_of, covers, joined, raised, is_below}
use Rattle.fed_stamp.proofs.VersionLaws.{below_from_each, each_from_below, below_trans, below_joined_left, below_joined_right, covers_more, joined_least}
use Rattle.fed_lattice.proofs.VersionOfLaws.{raised_cases, counter_of_zeros}

pub below_raised : (v : List ℕ) (s : StampValue) → is_below v (raised v s) ≡ true
below_raised v s = below_from_each v (raised v s) (λ i. elim (raised_cases v s i) [
  | inl e ↦ omega (arith, e)
  | inr e ↦ omega (arith, e.1)
])

pub covers_raised : (v : List ℕ) (s t : StampValue) → covers v t ≡ true → covers (raised v s) t ≡ true
covers_raised v s t = covers_more v (raised v s) t (below_raised v s)

-- a raised version covers the stamp
pub own_raised : (v : List ℕ) (s : StampValue) → s.site < length v → covers (raised v s) s ≡ true
own_raised v s small =
    let e : counter_of (raised v s) s.site ≡ max (counter_of v s.site) s.counter = get_or-set_same v s.site _ 0 small in
    le-leb s.counter (counter_of (raised v s) s.site) (omega arith)

-- a version below another stays so where both see one more stamp
pub raised_below : (t v : List ℕ) (s : StampValue) → covers (raised v s) s ≡ true → is_below t v ≡ true → is_below (raised t s) (raised v s) ≡ true
raised_below t v s seen below = below_from_each (raised t s) (raised v s) (λ i.
    let more : counter_of v i ≤ counter_of (raised v s) i = each_from_below v (raised v s) (below_raised v s) i in
    let less : counter_of t i ≤ counter_of v i = each_from_below t v below i in
    elim (raised_cases t s i) [
      | inl e ↦ omega (arith, e, more, less)
      | inr e ↦
          let own : s.counter ≤ counter_of (raised v s) i = subst (λ j. s.counter ≤ counter_of (raised v s) j) e.0 (leb-true s.counter (counter_of (raised v s) s.site) seen) in
          omega (arith, e.1, more, less, own)
    ])

pub zeros_below : (n : ℕ) (w : List ℕ) → is_below (replicate n 0) w ≡ true
zeros_below n w = below_from_each (replicate n 0) w (λ i. omega (arith, counter_of_zeros n i))

pub joined_below : (t u v w : List ℕ) → is_below t v ≡ true → is_below u w ≡ true → is_below (joined t u) (joined v w) ≡ true
joined_below t u v w p q = joined_least t u (joined v w) (below_trans t v (joined v w) p (below_joined_left v w)) (below_trans u w (joined v w) q (below_joined_right v w))
