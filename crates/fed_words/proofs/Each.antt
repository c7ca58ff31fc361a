-- What each of a list says, found one after another.
use Rattle.std.proofs.Common.{◌≡◌, ℕ, suc, inl, inr, ◌⊎◌, ◌+◌, ◌<◌, ◌≤◌, List, [], ◌∷◌, ◌++◌, length, get_or, drop, Option, Some, None, Ok, Err, refl, ap, sym, ◌∙◌, add-one, append-nil, append_assoc, drop-cons}
use Rattle.std.specs.Option.{option_or}
use Rattle.std.specs.Result.{IsErrAnd}
use Rattle.fed_lattice.specs.Results.{◌>>=◌, mapped, each}
use Rattle.fed_words.specs.declared.faults.UsageFault.TheVariants.{NoMemory}
use Rattle.std.proofs.lemmas.List.{at_drop_all}
use Rattle.fed_words.specs.declared.faults.UsageFault.{UsageFault}
use Rattle.fed_words.specs.Fault.{OrFault, Gives}
use Rattle.fed_words.specs.Last.{last_of}

-- what was found, and then what each of the rest says
abbrev pub each_after : {A B : Type 0} → (A → OrFault B) → List B → List A → OrFault (List B)
each_after says done rest = mapped (λ ys. done ++ ys) (each says rest)

mapped-itself : {A : Type 0} (a : OrFault A) → mapped (λ x. x) a ≡ a
mapped-itself (Ok x) = refl
mapped-itself (Err fault) = refl

pub each-start : {A B : Type 0} (says : A → OrFault B) (all : List A) → each says all ≡ each_after says [] all
each-start says all = sym (mapped-itself (each says all))

one_more : {B : Type 0} (done : List B) (y : B) (rest : OrFault (List B)) → mapped (λ ys. done ++ ys) (rest >>= λ ys. Ok (y ∷ ys)) ≡ mapped (λ ys. (done ++ y ∷ []) ++ ys) rest
one_more done y (Ok ys) = ap Ok (sym (append_assoc done (y ∷ []) ys))
one_more done y (Err fault) = refl

module _ {A B : Type 0} (says : A → OrFault B) (done : List B) (all : List A) (k : ℕ) (x : A) (within : k < length all) (item : x ≡ get_or all k x) where
  here : drop k all ≡ x ∷ drop (k + 1) all
  here = rw (add-one) (drop-cons all k x within ∙ ap (λ y. y ∷ drop (suc k) all) (sym item))

  pub each-more : (y : B) → says x ≡ Ok y → each_after says done (drop k all) ≡ each_after says (done ++ y ∷ []) (drop (k + 1) all)
  each-more y e = rw (here, e) (one_more done y (each says (drop (k + 1) all)))

  pub each-fault : (fault : UsageFault) → says x ≡ Err fault → each_after says done (drop k all) ≡ Err fault
  each-fault fault e = rw (here, e) refl

one_by_one : {A : Type 0} (a : OrFault A) → a ≡ (a >>= λ x. Ok x)
one_by_one (Ok x) = refl
one_by_one (Err fault) = refl

after : {B : Type 0} (a : OrFault B) (r s : OrFault (List B)) → (a >>= λ y. (r >>= λ ys. s >>= λ zs. Ok (ys ++ zs)) >>= λ ys. Ok (y ∷ ys)) ≡ ((a >>= λ y. r >>= λ ys. Ok (y ∷ ys)) >>= λ ys. s >>= λ zs. Ok (ys ++ zs))
after (Ok y) (Ok ys) (Ok zs) = refl
after (Ok y) (Ok ys) (Err fault) = refl
after (Ok y) (Err fault) s = refl
after (Err fault) r s = refl

-- of two lists, the one behind the other
pub each-append : {A B : Type 0} (says : A → OrFault B) (xs ys : List A) → each says (xs ++ ys) ≡ (each says xs >>= λ before. each says ys >>= λ behind. Ok (before ++ behind))
each-append says [] ys = one_by_one (each says ys)
each-append says (x ∷ xs) ys = rw (each-append says xs ys) (after (says x) (each says xs) (each says ys))

pub each-end : {A B : Type 0} (says : A → OrFault B) (done : List B) (all : List A) (k : ℕ) → length all ≤ k → each_after says done (drop k all) ≡ Ok done
each-end says done all k past = at_drop_all (each_after says done) all k past ∙ ap Ok (append-nil done)

pub gives-either : {A B : Type 0} (view : A → B) (r : OrFault A) (answer : OrFault B) (fault : UsageFault) → IsErrAnd r (λ f. f ≡ fault) → (fault ≡ NoMemory) ⊎ (answer ≡ Err fault) → Gives view r answer
gives-either view (Ok x) answer fault h e = absurd h
gives-either view (Err f) answer fault h (inl e) = inl (h ∙ e)
gives-either view (Err f) answer fault h (inr e) = inr (e ∙ ap Err (sym h))

or-none : {B : Type 0} (o : Option B) → option_or None o ≡ option_or o None
or-none None = refl
or-none (Some y) = refl

or-assoc : {B : Type 0} (a b d : Option B) → option_or (option_or a b) d ≡ option_or a (option_or b d)
or-assoc None b d = refl
or-assoc (Some y) b d = refl

-- of one more, the last
pub last_of-push : {A B : Type 0} (says : A → Option B) (xs : List A) (x : A) → last_of says (xs ++ x ∷ []) ≡ option_or (says x) (last_of says xs)
last_of-push says [] x = or-none (says x)
last_of-push says (z ∷ xs) x = rw (last_of-push says xs x) (or-assoc (says x) (last_of says xs) (says z))

pub each-length : {A B : Type 0} (says : A → OrFault B) (xs : List A) (ys : List B) → each says xs ≡ Ok ys → length ys ≡ length xs
each-length says [] ys e = let nothing : [] ≡ ys = cc in ap length (sym nothing)
each-length {A = A} {B = B} says (x ∷ xs) ys e = at (says x) (each says xs) (each-length says xs) ys e
  where
    at : (a : OrFault B) (rest : OrFault (List B)) → ((zs : List B) → rest ≡ Ok zs → length zs ≡ length xs) → (ys : List B) → (a >>= λ y. rest >>= λ zs. Ok (y ∷ zs)) ≡ Ok ys → length ys ≡ suc (length xs)
    at (Ok y) (Ok zs) h ys e = let whole : y ∷ zs ≡ ys = cc in ap length (sym whole) ∙ ap suc (h zs refl)
    at (Ok y) (Err fault) h ys e = absurd cc
    at (Err fault) rest h ys e = absurd cc

-- at the exit of a `?`
pub gives-fault : {A B : Type 0} (view : A → B) (r : OrFault A) (answer : OrFault B) (fault : UsageFault) → IsErrAnd r (λ f. f ≡ fault) → answer ≡ Err fault → Gives view r answer
gives-fault view (Ok x) answer fault h e = absurd h
gives-fault view (Err f) answer fault h e = inr (e ∙ ap Err (sym h))

pub gives-no_memory : {A B : Type 0} (view : A → B) (r : OrFault A) (answer : OrFault B) → IsErrAnd r (λ f. f ≡ NoMemory) → Gives view r answer
gives-no_memory view (Ok x) answer h = absurd h
gives-no_memory view (Err f) answer h = inl h
