-- Comparisons that tell all values apart.
use Rattle.std.specs.Prelude.{◌≡◌, ◌↔◌, Bool, true}

-- the test holds exactly of identical values
abbrev pub TellsApart : {X : Type 0} → (X → X → Bool) → Type 0
TellsApart {X} eq = (a b : X) → (eq a b ≡ true) ↔ (a ≡ b)
