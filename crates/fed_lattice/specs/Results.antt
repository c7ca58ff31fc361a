-- Results after results: what follows from a value; an error stays.
use Rattle.std.specs.Prelude.{List, [], ◌∷◌, Result, Ok, Err}

infixl 10 ◌>>=◌
abbrev pub ◌>>=◌ : {A B E : Type 0} → Result A E → (A → Result B E) → Result B E
(Ok x) >>= f = f x
(Err e) >>= f = Err e

abbrev pub mapped : {A B E : Type 0} → (A → B) → Result A E → Result B E
mapped f (Ok x) = Ok (f x)
mapped f (Err e) = Err e

-- what each of a list says, in order, or the first error
abbrev pub each : {A B E : Type 0} → (A → Result B E) → List A → Result (List B) E
each says [] = Ok []
each says (x ∷ xs) = says x >>= λ y. each says xs >>= λ ys. Ok (y ∷ ys)
