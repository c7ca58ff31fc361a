-- Lists as sets: order and repeats don't matter.
use Rattle.std.specs.Prelude.{◌≡◌, ◌⊎◌, List, [], ◌∷◌}

-- x is a member
abbrev pub Has : {A : Type 0} → List A → A → Type 0
Has [] x = ⊥
Has (y ∷ ys) x = (y ≡ x) ⊎ Has ys x

-- each member of ys is a member of xs
abbrev pub Includes : {A : Type 0} → List A → List A → Type 0
Includes {A} xs ys = (x : A) → Has ys x → Has xs x

-- the two have the same members
abbrev pub IsSameSet : {A : Type 0} → List A → List A → Type 0
IsSameSet xs ys = Includes xs ys × Includes ys xs
