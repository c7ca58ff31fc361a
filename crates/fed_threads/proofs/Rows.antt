-- A fact of each item of several lists, as far as a loop over the lists has come.
use Rattle.std.proofs.Common.{◌≡◌, ◌<◌, ◌+◌, ℕ, zero, suc, List, [], ◌∷◌, length, get_or, map, Option, sym, ap, subst, arith, inl, inr}
use Rattle.std.specs.Global.{Vec}
use Rattle.std.specs.List.{slice_get}
use Rattle.fed_threads.proofs.Greedy.{same_or_not}

pub items_are : {X : Type 0} (rows : List (Vec X)) (s : ℕ) (v : Vec X) → s < length rows → v ≡ get_or rows s v
    → get_or (map (λ (w : Vec X). w.items) rows) s [] ≡ v.items
items_are [] s v h is = absurd (omega arith)
items_are {X} (w ∷ rows) zero v h is = ap (λ (x : Vec X). x.items) (sym is)
items_are (w ∷ rows) (suc s) v h is = items_are rows s v (omega arith) is

pub holds_more : {X : Type 0} (Good : Option X → Type 0) (rows : List (Vec X)) (k : ℕ) (v : Vec X)
    → k < length rows
    → v ≡ get_or rows k v
    → ((a b : ℕ) → a < k → Good (slice_get (get_or (map (λ (w : Vec X). w.items) rows) a []) b))
    → ((b : ℕ) → Good (slice_get v.items b))
    → (a b : ℕ) → a < k + 1 → Good (slice_get (get_or (map (λ (w : Vec X). w.items) rows) a []) b)
holds_more {X} Good rows k v h is so_far here a b lt =
    elim (same_or_not a k) [
      | inl e ↦
          subst (λ n. Good (slice_get (get_or (map (λ (w : Vec X). w.items) rows) n []) b)) (sym e)
          (subst (λ (xs : List X). Good (slice_get xs b)) (sym (items_are rows k v h is)) (here b))
      | inr ne ↦ so_far a b (omega arith)
    ]
