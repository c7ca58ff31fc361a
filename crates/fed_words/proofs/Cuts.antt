-- Texts that are cut at a byte which their parts don't have.
use Rattle.std.proofs.Common.{◌≡◌, ℕ, suc, ◌<◌, Bool, true, false, List, [], ◌∷◌, ◌++◌, length, drop, map, Ok, refl, ap, ◌∙◌, arith, add-one}
use Rattle.std.specs.Prelude.{◌==◌, is_some, nat_lt, position}
use Rattle.std.specs.List.{All, after_first, before_first, join_with_byte, list_all, position_or_len, slice_split}
use Rattle.std.proofs.lemmas.Bool.Decides.{nat_tests}
use Rattle.std.proofs.lemmas.List.Elements.{All-cons, All-head, All-tail}
use Rattle.std.proofs.lemmas.Bool.{eq-eqb, and_parts}
use Rattle.std.proofs.Math.Seq.{take-append_seam}
use Rattle.fed_lattice.specs.Results.{each}
use Rattle.fed_words.specs.Fault.{OrFault}

-- no byte passes
abbrev pub Free : (ℕ → Bool) → List ℕ → Type 0
Free p [] = Unit {0}
Free p (x ∷ xs) = (p x ≡ false) × Free p xs

pub free-append : (p : ℕ → Bool) (xs ys : List ℕ) → Free p xs → Free p ys → Free p (xs ++ ys)
free-append p [] ys h k = k
free-append p (x ∷ xs) ys h k = (h.0, free-append p xs ys h.1 k)

pub free_from_all : (p test : ℕ → Bool) (xs : List ℕ) → ((b : ℕ) → test b ≡ true → p b ≡ false) → list_all test xs ≡ true → Free p xs
free_from_all p test [] h e = tt
free_from_all p test (x ∷ xs) h e = let parts = and_parts (test x) (list_all test xs) e in (h x parts.0, free_from_all p test xs h parts.1)

module _ (p : ℕ → Bool) (y : ℕ) (ys : List ℕ) (passes : p y ≡ true) where
  place : (xs : List ℕ) → Free p xs → position_or_len p (xs ++ y ∷ ys) ≡ length xs
  place [] free = rw passes refl
  place (x ∷ xs) free = rw free.0 (omega (arith, place xs free.1))

  drop-front : (xs : List ℕ) → drop (suc (length xs)) (xs ++ y ∷ ys) ≡ ys
  drop-front [] = refl
  drop-front (x ∷ xs) = drop-front xs

  more : (xs : List ℕ) → length xs < length (xs ++ y ∷ ys)
  more [] = omega arith
  more (x ∷ xs) = let next = more xs in omega arith

  pub cut-found : (xs : List ℕ) → Free p xs → is_some (position p (xs ++ y ∷ ys)) ≡ true
  cut-found xs free = let less : nat_lt (length xs) (length (xs ++ y ∷ ys)) ≡ true = (let fact = more xs in grind (arith, nat_tests)) in rw (place xs free, less) refl

  pub cut-before : (xs : List ℕ) → Free p xs → before_first p (xs ++ y ∷ ys) ≡ xs
  cut-before xs free = rw (place xs free) (take-append_seam xs (y ∷ ys))

  pub cut-after : (xs : List ℕ) → Free p xs → after_first p (xs ++ y ∷ ys) ≡ ys
  cut-after xs free = rw (place xs free, add-one) (drop-front xs)

  pub split-first : (xs : List ℕ) → Free p xs → slice_split p (xs ++ y ∷ ys) ≡ xs ∷ slice_split p ys
  split-first [] free = rw passes refl
  split-first (x ∷ xs) free = rw (free.0, split-first xs free.1) refl

pub split-none : (p : ℕ → Bool) (xs : List ℕ) → Free p xs → slice_split p xs ≡ xs ∷ []
split-none p [] free = refl
split-none p (x ∷ xs) free = rw (free.0, split-none p xs free.1) refl

-- pieces that are joined by a byte which they don't have are cut apart again
pub split-join : (c : ℕ) (pieces : List (List ℕ)) → 0 < length pieces → All (Free (λ b. b == c)) pieces → slice_split (λ b. b == c) (join_with_byte c pieces) ≡ pieces
split-join c [] some free = absurd (omega arith)
split-join c (x ∷ []) some free = split-none (λ b. b == c) x (All-head (Free (λ b. b == c)) x [] free)
split-join c (x ∷ y ∷ pieces) some free =
    split-first (λ b. b == c) c (join_with_byte c (y ∷ pieces)) (eq-eqb c c refl) x (All-head (Free (λ b. b == c)) x (y ∷ pieces) free)
    ∙ ap (λ zs. x ∷ zs) (split-join c (y ∷ pieces) (omega arith) (All-tail (Free (λ b. b == c)) x (y ∷ pieces) free))

pub free-join : (p : ℕ → Bool) (c : ℕ) (pieces : List (List ℕ)) → p c ≡ false → All (Free p) pieces → Free p (join_with_byte c pieces)
free-join p c [] e free = tt
free-join p c (x ∷ []) e free = All-head (Free p) x [] free
free-join p c (x ∷ y ∷ pieces) e free = free-append p x (c ∷ join_with_byte c (y ∷ pieces)) (All-head (Free p) x (y ∷ pieces) free) (e, free-join p c (y ∷ pieces) e (All-tail (Free p) x (y ∷ pieces) free))

pub all-map : {A B : Type 0} (P : B → Type 0) (f : A → B) (Q : A → Type 0) → ((a : A) → Q a → P (f a)) → (xs : List A) → All Q xs → All P (map f xs)
all-map P f Q h [] all = λ k d within. absurd (omega arith)
all-map P f Q h (x ∷ xs) all = All-cons P (f x) (map f xs) (h x (All-head Q x xs all)) (all-map P f Q h xs (All-tail Q x xs all))

-- what each of a list says, where each says what it was made of
pub each-said : {W A B : Type 0} (says : A → OrFault B) (text : W → A) (means : W → B) (Q : W → Type 0) → ((w : W) → Q w → says (text w) ≡ Ok (means w)) → (ws : List W) → All Q ws → each says (map text ws) ≡ Ok (map means ws)
each-said says text means Q h [] all = refl
each-said says text means Q h (w ∷ ws) all = rw (h w (All-head Q w ws all), each-said says text means Q h ws (All-tail Q w ws all)) refl
