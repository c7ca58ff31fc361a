-- The elements and the names of a value in memory.
use Rattle.std.proofs.Common.{◌≡◌, ℕ, length, true, false, List, [], ◌∷◌, map, refl, sym, ap, ◌∙◌, Some, Ok, String, Global, string_bytes}
use Rattle.std.specs.List.{zip}
use Rattle.std.specs.Str.{bytes_eq}
use Rattle.std.specs.Cmp.Lexicographic.{pointwise, unequal}
use Rattle.std.proofs.lemmas.List.{length-map}
use Rattle.std.proofs.lemmas.Slice.Eq.{bytes_eq-Decides, slice_eq-Decides}
use Rattle.serde_json.specs.Data.{Data, null, boolean, number, string, array, object, member}
use Rattle.serde_json.specs.Find.{as_object, as_array}
use Rattle.serde_json.specs.View.{view, items_view, members_view}
use Rattle.serde_json.specs.declared.value.Value.{Value}
use Rattle.fed_json.specs.Values.{list_of, elements_of}
use Rattle.fed_json.specs.Objects.{members_from, object_value, names_of, has_names}

pub list_of-items_view : (vs : List Value) → list_of (items_view vs) ≡ map view vs
list_of-items_view [] = refl
list_of-items_view (v ∷ vs) = ap (λ (ds : List Data). view v ∷ ds) (list_of-items_view vs)

names_of-members_view : (es : List (String Global × Value)) → names_of (members_view es) ≡ map (λ e. string_bytes e.0) es
names_of-members_view [] = refl
names_of-members_view (e ∷ es) = ap (λ (ns : List (List ℕ)). string_bytes e.0 ∷ ns) (names_of-members_view es)

first_keys : (es : List (String Global × Value)) → map string_bytes (map (λ e. e.0) es) ≡ map (λ e. string_bytes e.0) es
first_keys [] = refl
first_keys (e ∷ es) = ap (λ (ns : List (List ℕ)). string_bytes e.0 ∷ ns) (first_keys es)

-- the names of an object are the keys of its map
pub names_of-keys : (es : List (String Global × Value)) → names_of (members_view es) ≡ map string_bytes (map (λ e. e.0) es)
names_of-keys es = names_of-members_view es ∙ sym (first_keys es)

-- an object with these names, by its map
pub has_names_by : (d : Data) (es : List (String Global × Value)) (names : List (List ℕ)) → Some (members_view es) ≡ as_object d → pointwise bytes_eq (map string_bytes (map (λ e. e.0) es)) names ≡ has_names names d
has_names_by (object ms) es names e =
    let same : members_view es ≡ ms = cc in
    rw (← same, names_of-keys es)
has_names_by null es names e = absurd cc
has_names_by (boolean b) es names e = absurd cc
has_names_by (number n) es names e = absurd cc
has_names_by (string s) es names e = absurd cc
has_names_by (array ds) es names e = absurd cc

-- an object of another length has other names
pub other_length : (d : Data) (es : List (String Global × Value)) (names : List (List ℕ)) → Some (members_view es) ≡ as_object d → (length es ≡ length names → ⊥) → false ≡ has_names names d
other_length d es names e apart =
    let keys = map string_bytes (map (λ e. e.0) es) in
    let long : length keys ≡ length es = length-map (map (λ e. e.0) es) string_bytes ∙ length-map es (λ e. e.0) in
    sym (unequal bytes_eq keys names (λ h. apart (sym long ∙ h))) ∙ has_names_by d es names e

made_of : (es : List (String Global × Value)) → members_view es ≡ members_from (zip (names_of (members_view es)) (map (λ e. view e.1) es))
made_of [] = refl
made_of (e ∷ es) = ap (member (string_bytes e.0) (view e.1)) (made_of es)

-- an object is made of its names and its values
pub object_by : (d : Data) (es : List (String Global × Value)) (names : List (List ℕ)) (ds : List Data) → Some (members_view es) ≡ as_object d → has_names names d ≡ true → map (λ e. view e.1) es ≡ ds → d ≡ object_value (zip names ds)
object_by (object ms) es names ds e named values =
    let same : members_view es ≡ ms = cc in
    let keys : names_of ms ≡ names = (slice_eq-Decides bytes_eq-Decides (names_of ms) names _ refl).0 named in
    rw (← keys, ← values, ← same) (ap object (made_of es))
object_by null es names ds e named values = absurd cc
object_by (boolean b) es names ds e named values = absurd cc
object_by (number n) es names ds e named values = absurd cc
object_by (string s) es names ds e named values = absurd cc
object_by (array xs) es names ds e named values = absurd cc

-- the elements of an array, by the vector that holds them
pub elements_by : (d : Data) (vs : List Value) → Some (items_view vs) ≡ as_array d → Ok (map view vs) ≡ elements_of d
elements_by (array ds) vs e =
    let same : items_view vs ≡ ds = cc in
    rw (← same, list_of-items_view vs) refl
elements_by null vs e = absurd cc
elements_by (boolean b) vs e = absurd cc
elements_by (number n) vs e = absurd cc
elements_by (string s) vs e = absurd cc
elements_by (object ms) vs e = absurd cc
