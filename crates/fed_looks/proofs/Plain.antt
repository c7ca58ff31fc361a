-- Values that have no float in them.
use Rattle.std.specs.Prelude.{◌||◌, flat_map}
use Rattle.std.specs.List.{AllByRecursion}
use Rattle.std.proofs.Common.{◌≡◌, Bool, true, false, List, [], ◌∷◌, ◌++◌, map, refl, ap, ◌∙◌}
use Rattle.serde_json.specs.Data.{Data}
use Rattle.serde_json.specs.View.{items_of}
use Rattle.serde_json.specs.Written.{has_float, items_have_float, members_have_float}
use Rattle.fed_json.specs.Objects.{Named, members_from}
use Rattle.fed_json.specs.Values.{list_value}

-- ---- objects
pub members_plain : (ms : Named) → AllByRecursion (λ m. has_float m.1 ≡ false) ms → members_have_float (members_from ms) ≡ false
members_plain [] h = refl
members_plain (m ∷ ms) h = rw (h.0, members_plain ms h.1) refl

-- ---- arrays
abbrev pub ArePlain : List Data → Type 0
ArePlain ds = items_have_float (items_of ds) ≡ false

either_plain : (a b c : Bool) → (b ≡ false → c ≡ false) → (a || b) ≡ false → (a || c) ≡ false
either_plain true b c f e = absurd cc
either_plain false b c f e = f e

joined_plain : (ds es : List Data) → ArePlain ds → ArePlain es → ArePlain (ds ++ es)
joined_plain [] es h k = k
joined_plain (d ∷ ds) es h k =
    either_plain (has_float d) (items_have_float (items_of ds)) (items_have_float (items_of (ds ++ es))) (λ e. joined_plain ds es e k) h

pub mapped_plain : {X : Type 0} (f : X → Data) → ((x : X) → has_float (f x) ≡ false) → (xs : List X) → has_float (list_value (map f xs)) ≡ false
mapped_plain f h [] = refl
mapped_plain f h (x ∷ xs) = ap (λ b. b || items_have_float (items_of (map f xs))) (h x) ∙ mapped_plain f h xs

pub gathered_plain : {X : Type 0} (f : X → List Data) → ((x : X) → ArePlain (f x)) → (xs : List X) → has_float (list_value (flat_map f xs)) ≡ false
gathered_plain f h [] = refl
gathered_plain f h (x ∷ xs) = joined_plain (f x) (flat_map f xs) (h x) (gathered_plain f h xs)
