-- The laws of one part of a value whose parts change by name: `change` is what a change of the whole changes in it.
use Rattle.std.proofs.Common.{ℕ, List, ◌∷◌, ◌++◌, Option}
use Rattle.fed_stamp.specs.Stamp.{StampValue}
use Rattle.fed_lattice.specs.Both.{applied_option}
use Rattle.fed_lattice.specs.BothLaws.{well_formed_option, option_stands, part_joined_stands}
use Rattle.fed_lattice.specs.History.{History, IsFresh, Agree}
use Rattle.fed_lattice.specs.Laws.{AddsChange, JoinsHistories, StandsForSets}
use Rattle.fed_lattice.specs.Part.{part}
use Rattle.fed_lattice.specs.PartLaws.{fresh_part, same_part}
use Rattle.fed_lattice.specs.Sets.{IsSameSet}

pub applied_well_formed : {X D : Type 0} (applied : X → StampValue → D → X) (well_formed : X → Type 0)
    → ((x : X) (s : StampValue) (d : D) → well_formed x → well_formed (applied x s d))
    → (x : X) (s : StampValue) (c : Option D) → well_formed x → well_formed (applied_option applied x s c)
applied_well_formed applied well_formed law x s c p = well_formed_option applied well_formed x s c p (λ d. law x s d p)

module _ {X C D : Type 0} (change : C → Option D) (well_formed : X → Type 0) (is_history : History D → Type 0) (stands_for : X → History D → Type 0) where
  pub part_adds_change : (applied : X → StampValue → D → X) → AddsChange well_formed is_history stands_for applied
      → (x : X) (h : History C) (s : StampValue) (c : C) → well_formed x → stands_for x (part change h)
      → is_history (part change h) → IsFresh s h → is_history (part change ((s, c) ∷ h))
      → stands_for (applied_option applied x s (change c)) (part change ((s, c) ∷ h))
  part_adds_change applied law x h s c p r k f i =
      option_stands applied stands_for is_history x (part change h) s (change c) (λ d. law x (part change h) s d p r k (fresh_part change s h f)) r i

  pub part_joins_histories : (joined : X → List ℕ → X → List ℕ → X) → JoinsHistories well_formed is_history stands_for joined
      → (x y : X) (v w : List ℕ) (g h : History C) → well_formed x → well_formed y → stands_for x (part change g) → stands_for y (part change h)
      → Agree v g w h → is_history (part change g) → is_history (part change h)
      → stands_for (joined x v y w) (part change (g ++ h))
  part_joins_histories joined law x y v w g h p q rx ry a i j =
      part_joined_stands change stands_for is_history (joined x v y w) v w g h (law x y v w (part change g) (part change h) p q rx ry) a i j

pub part_stands_for_sets : {X C D : Type 0} (change : C → Option D) (stands_for : X → History D → Type 0) → StandsForSets stands_for
    → (x : X) (g h : History C) → IsSameSet g h → stands_for x (part change g) → stands_for x (part change h)
part_stands_for_sets change stands_for law x g h e p = law x (part change g) (part change h) (same_part change g h e) p
