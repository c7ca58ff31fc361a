-- What a result without an error says of its steps.
use Rattle.std.proofs.Common.{◌≡◌, Bool, true, false, cond, List, [], ◌∷◌, All, Result, Ok, Err, refl}
use Rattle.std.proofs.lemmas.List.Elements.{All-cons, All-nil}
use Rattle.fed_lattice.specs.Results.{◌>>=◌, mapped, each}

pub bind_ok : {A B E : Type 0} (r : Result A E) (f : A → Result B E) (y : B) → (r >>= f) ≡ Ok y → (x : A) × (r ≡ Ok x) × (f x ≡ Ok y)
bind_ok (Ok x) f y e = (x, refl, e)
bind_ok (Err d) f y e = absurd cc

pub mapped_ok : {A B E : Type 0} (r : Result A E) (f : A → B) (y : B) → mapped f r ≡ Ok y → (x : A) × (r ≡ Ok x) × (f x ≡ y)
mapped_ok (Ok x) f y e = (x, refl, cc)
mapped_ok (Err d) f y e = absurd cc

pub when_ok : {A E : Type 0} (b : Bool) (d : E) (r : Result A E) (y : A) → cond b r (Err d) ≡ Ok y → (b ≡ true) × (r ≡ Ok y)
when_ok true d r y e = (refl, e)
when_ok false d r y e = absurd cc

pub ok_is : {A E : Type 0} (x y : A) → ◌≡◌ {A = Result A E} (Ok x) (Ok y) → x ≡ y
ok_is x y e = cc

-- what holds of each that is said holds of all
pub each_all : {A B E : Type 0} (says : A → Result B E) (P : B → Type 0) → ((x : A) (y : B) → says x ≡ Ok y → P y)
    → (xs : List A) (ys : List B) → each says xs ≡ Ok ys → All P ys
each_all says P h [] ys e = let nothing : [] ≡ ys = cc in rw (← nothing) (All-nil P)
each_all says P h (x ∷ xs) ys e =
    let first = bind_ok (says x) _ ys e in
    let others = bind_ok (each says xs) _ ys first.2 in
    let whole : first.0 ∷ others.0 ≡ ys = cc (others.2) in
    rw (← whole) (All-cons P first.0 others.0 (h x first.0 first.1) (each_all says P h xs others.0 others.1))
