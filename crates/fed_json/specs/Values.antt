-- Arrays, texts and truth values.
use Rattle.std.specs.Prelude.{ℕ, Bool, false, ◌==◌, length, if◌then◌else◌, List, [], ◌∷◌, Option, None, Some, is_some, Ok, Err}
use Rattle.std.specs.Str.{bytes_eq}
use Rattle.serde_json.specs.Data.{Data, null, string, array, Items, no_items, item}
use Rattle.serde_json.specs.Find.{as_null, as_bool, as_str}
use Rattle.serde_json.specs.View.{items_of}
use Rattle.fed_lattice.specs.Results.{◌>>=◌, mapped}
use Rattle.fed_json.specs.declared.flaws.Flaw.TheVariants.{Shape}
use Rattle.fed_json.specs.Reading.{Reading, both, or_shape}

abbrev pub list_value : List Data → Data
list_value ds = array (items_of ds)

abbrev pub list_of : Items → List Data
list_of no_items = []
list_of (item d ds) = d ∷ list_of ds

abbrev pub elements_of : Data → Reading (List Data)
elements_of (array ds) = Ok (list_of ds)
elements_of _ = Err Shape

abbrev pub text_of : Data → Reading (List ℕ)
text_of d = or_shape (as_str d)

abbrev pub truth_of : Data → Reading Bool
truth_of d = or_shape (as_bool d)

abbrev pub is_word : List ℕ → Data → Bool
is_word word (string s) = bytes_eq s word
is_word word _ = false

-- an array of two, each read in its own way
abbrev pub pair_from : {A B : Type 0} → (Data → Reading A) → (Data → Reading B) → List Data → Reading (A × B)
pair_from f g (a ∷ b ∷ []) = both (f a) (g b)
pair_from f g _ = Err Shape

abbrev pub pair_of : {A B : Type 0} → (Data → Reading A) → (Data → Reading B) → Data → Reading (A × B)
pair_of f g d = elements_of d >>= pair_from f g

abbrev pub pair_value : {A B : Type 0} → (A → Data) → (B → Data) → A × B → Data
pair_value v w p = list_value (v p.0 ∷ w p.1 ∷ [])

-- all of these, each read in the same way
abbrev pub all_of : {A : Type 0} → (Data → Reading A) → List Data → Reading (List A)
all_of f [] = Ok []
all_of f (d ∷ ds) = mapped (λ p. p.0 ∷ p.1) (both (f d) (all_of f ds))

abbrev pub array_of : {A : Type 0} → (Data → Reading A) → Data → Reading (List A)
array_of f d = elements_of d >>= all_of f

-- an array of so many
abbrev pub row_of : {A : Type 0} → ℕ → (Data → Reading A) → Data → Reading (List A)
row_of n f d = elements_of d >>= λ ds. if length ds == n then all_of f ds else Err Shape

-- null stands for none
abbrev pub or_null : {A : Type 0} → (Data → Reading A) → Data → Reading (Option A)
or_null f d = if is_some (as_null d) then Ok None else mapped (λ x. Some x) (f d)

abbrev pub null_or : {A : Type 0} → (A → Data) → Option A → Data
null_or v None = null
null_or v (Some x) = v x
