-- The first item of a list that passes a test, and how many do.
use Rattle.std.proofs.Common.{◌≡◌, ◌≢◌, ◌<◌, ◌≤◌, ◌+◌, ℕ, zero, suc, List, [], ◌∷◌, length, get_or, take, Bool, true, false, ◌&&◌, not, cond, Option, Some, None, refl, ap, arith}
use Rattle.std.proofs.lemmas.Bool.{lt-ltb, le-ltb}
use Rattle.std.proofs.lemmas.List.Sums.{sum_by-cons}
use Rattle.std.specs.List.{slice_get, sum_by, count_by, list_all, position, prefix_len}
use lib.Dec.{ltb}

abbrev pub passes : {X : Type 0} → (X → Bool) → Bool → Option X → Bool
passes p b None = b
passes p b (Some x) = p x

one : (t : Bool) → t ≡ true → cond {A = ℕ} t 1 0 ≡ 1
one true e = refl
one false e = cc

none : (t : Bool) → t ≡ false → cond {A = ℕ} t 1 0 ≡ 0
none true e = cc
none false e = refl

count_first : {X : Type 0} (p : X → Bool) (x : X) (xs : List X) → count_by p (x ∷ xs) ≡ cond (p x) 1 0 + count_by p xs
count_first p x xs = sum_by-cons (λ y. cond (p y) 1 0) x xs

pub counts : {X : Type 0} (p : X → Bool) (xs : List X) (q : ℕ) → passes p false (slice_get xs q) ≡ true → 1 ≤ count_by p xs
counts p [] q is = cc
counts p (x ∷ xs) zero is = omega (arith, count_first p x xs, one (p x) is)
counts p (x ∷ xs) (suc q) is = omega (arith, count_first p x xs, counts p xs q is)

-- two places that pass count twice
pub counts_twice : {X : Type 0} (p : X → Bool) (xs : List X) (q r : ℕ) → q ≢ r
    → passes p false (slice_get xs q) ≡ true
    → passes p false (slice_get xs r) ≡ true
    → 2 ≤ count_by p xs
counts_twice p [] q r ne f g = cc
counts_twice p (x ∷ xs) zero zero ne f g = absurd (ne refl)
counts_twice p (x ∷ xs) zero (suc r) ne f g = omega (arith, count_first p x xs, one (p x) f, counts p xs r g)
counts_twice p (x ∷ xs) (suc q) zero ne f g = omega (arith, count_first p x xs, one (p x) g, counts p xs q f)
counts_twice p (x ∷ xs) (suc q) (suc r) ne f g =
    omega (arith, count_first p x xs, counts_twice p xs q r (λ e. ne (ap suc e)) f g)

-- none passes where the count is 0
pub none_counts : {X : Type 0} (p : X → Bool) (xs : List X) (q : ℕ) (b : Bool) → count_by p xs ≡ 0
    → passes p false (slice_get xs q) ≡ b
    → b ≡ false
none_counts p xs q false e is = refl
none_counts p xs q true e is = absurd (omega (arith, e, counts p xs q is))

pub record StandsFirst {X : Type 0} (p : X → Bool) (xs : List X) : Type 0 where
  pub place : ℕ
  pub passes_there : passes p false (slice_get xs place) ≡ true
  pub before : (r : ℕ) → r < place → passes p false (slice_get xs r) ≡ false

first_by : {X : Type 0} (p : X → Bool) (x : X) (xs : List X) (b : Bool) → p x ≡ b → (1 ≤ count_by p xs → StandsFirst p xs)
    → 1 ≤ count_by p (x ∷ xs)
    → StandsFirst p (x ∷ xs)
first_by p x xs true is later some = record { place = 0; passes_there = is; before = λ r lt. absurd (omega arith) }
first_by p x xs false is later some =
    let rest : StandsFirst p xs = later (omega (arith, some, count_first p x xs, none (p x) is)) in
    record { place = suc rest.place; passes_there = rest.passes_there; before = before rest }
  where
    before : (rest : StandsFirst p xs) (r : ℕ) → r < suc rest.place → passes p false (slice_get (x ∷ xs) r) ≡ false
    before rest zero lt = is
    before rest (suc r) lt = rest.before r (omega arith)

pub first_of_some : {X : Type 0} (p : X → Bool) (xs : List X) → 1 ≤ count_by p xs → StandsFirst p xs
first_of_some p [] some = absurd (omega arith)
first_of_some p (x ∷ xs) some = first_by p x xs (p x) refl (first_of_some p xs) some

prefix_at : {X : Type 0} (p : X → Bool) (xs : List X) (q : ℕ) → passes p false (slice_get xs q) ≡ true
    → ((r : ℕ) → r < q → passes p false (slice_get xs r) ≡ false)
    → prefix_len (λ x. not (p x)) xs ≡ q
prefix_at p [] q is before = cc
prefix_at p (x ∷ xs) zero is before = rw is refl
prefix_at p (x ∷ xs) (suc q) is before =
    rw (before 0 (omega arith)) (omega (arith, prefix_at p xs q is (λ r lt. before (suc r) (omega arith))))

prefix_all : {X : Type 0} (p : X → Bool) (xs : List X) → count_by p xs ≡ 0 → prefix_len (λ x. not (p x)) xs ≡ length xs
prefix_all p [] e = refl
prefix_all p (x ∷ xs) e =
    rw (none_counts p (x ∷ xs) 0 (p x) e refl) (omega (arith, prefix_all p xs (omega (arith, e, count_first p x xs))))

below_length : {X : Type 0} (p : X → Bool) (xs : List X) (q : ℕ) → passes p false (slice_get xs q) ≡ true → q < length xs
below_length p [] q is = cc
below_length p (x ∷ xs) zero is = omega arith
below_length p (x ∷ xs) (suc q) is = omega (arith, below_length p xs q is)

some_below : (n m q : ℕ) → n ≡ q → q < m → cond {A = Option ℕ} (ltb n m) (Some n) None ≡ Some q
some_below n m q e lt = rw (e, lt-ltb q m lt) refl

none_past : (n m : ℕ) → n ≡ m → cond {A = Option ℕ} (ltb n m) (Some n) None ≡ None
none_past n m e = rw (le-ltb n m (omega arith)) refl

pub position_is : {X : Type 0} (p : X → Bool) (xs : List X) (first : StandsFirst p xs) → position p xs ≡ Some first.place
position_is p xs first =
    some_below (prefix_len (λ x. not (p x)) xs) (length xs) first.place
    (prefix_at p xs first.place first.passes_there first.before) (below_length p xs first.place first.passes_there)

pub position_none : {X : Type 0} (p : X → Bool) (xs : List X) → count_by p xs ≡ 0 → position p xs ≡ None
position_none p xs e = none_past (prefix_len (λ x. not (p x)) xs) (length xs) (prefix_all p xs e)

-- all of the first items pass where each does
pub all_taken : {X : Type 0} (p : X → Bool) (xs : List X) (n : ℕ)
    → ((r : ℕ) → r < n → passes p true (slice_get xs r) ≡ true)
    → list_all p (take n xs) ≡ true
all_taken p [] zero each = refl
all_taken p [] (suc n) each = refl
all_taken p (x ∷ xs) zero each = refl
all_taken p (x ∷ xs) (suc n) each =
    rw (each 0 (omega arith)) (all_taken p xs n (λ r lt. each (suc r) (omega arith)))

and_false : (a b : Bool) → b ≡ false → (a && b) ≡ false
and_false true b e = e
and_false false b e = refl

pub not_all_taken : {X : Type 0} (p : X → Bool) (xs : List X) (n r : ℕ) → r < n
    → passes p true (slice_get xs r) ≡ false
    → list_all p (take n xs) ≡ false
not_all_taken p [] n r lt is = cc
not_all_taken p (x ∷ xs) zero r lt is = absurd (omega arith)
not_all_taken p (x ∷ xs) (suc n) zero lt is = rw is refl
not_all_taken p (x ∷ xs) (suc n) (suc r) lt is = and_false (p x) _ (not_all_taken p xs n r (omega arith) is)

-- all lists pass where all but one do and that one does
all_pass : {X : Type 0} (f : List X → Bool) (rows : List (List X)) → ((j : ℕ) → j < length rows → f (get_or rows j []) ≡ true) → list_all f rows ≡ true
all_pass f [] each = refl
all_pass f (x ∷ rows) each = rw (each 0 (omega arith)) (all_pass f rows (λ j lt. each (suc j) (omega arith)))

and_one : (a b : Bool) → b ≡ true → (a && b) ≡ a
and_one true b e = e
and_one false b e = refl

pub all_but_one : {X : Type 0} (f : List X → Bool) (rows : List (List X)) (k : ℕ) → k < length rows
    → ((j : ℕ) → j ≢ k → f (get_or rows j []) ≡ true)
    → list_all f rows ≡ f (get_or rows k [])
all_but_one f [] k h each = absurd (omega arith)
all_but_one f (x ∷ rows) zero h each =
    and_one (f x) (list_all f rows) (all_pass f rows (λ j lt. each (suc j) (λ e. absurd (omega arith))))
all_but_one f (x ∷ rows) (suc k) h each =
    rw (each 0 (λ e. absurd (omega arith))) (all_but_one f rows k (omega arith) (λ j ne. each (suc j) (λ e. ne (omega arith))))

-- counts over several lists
pub counted_in : {X : Type 0} (p : X → Bool) (rows : List (List X)) (k : ℕ)
    → count_by p (get_or rows k []) ≤ sum_by (λ (xs : List X). count_by p xs) rows
counted_in p [] k = omega arith
counted_in p (x ∷ rows) zero = omega (arith, sum_by-cons (λ xs. count_by p xs) x rows)
counted_in p (x ∷ rows) (suc k) = omega (arith, sum_by-cons (λ xs. count_by p xs) x rows, counted_in p rows k)

pub counted_in_two : {X : Type 0} (p : X → Bool) (rows : List (List X)) (k j : ℕ) → k ≢ j
    → count_by p (get_or rows k []) + count_by p (get_or rows j []) ≤ sum_by (λ (xs : List X). count_by p xs) rows
counted_in_two p [] k j ne = omega arith
counted_in_two p (x ∷ rows) zero zero ne = absurd (ne refl)
counted_in_two p (x ∷ rows) zero (suc j) ne = omega (arith, sum_by-cons (λ xs. count_by p xs) x rows, counted_in p rows j)
counted_in_two p (x ∷ rows) (suc k) zero ne = omega (arith, sum_by-cons (λ xs. count_by p xs) x rows, counted_in p rows k)
counted_in_two p (x ∷ rows) (suc k) (suc j) ne =
    omega (arith, sum_by-cons (λ xs. count_by p xs) x rows, counted_in_two p rows k j (λ e. ne (ap suc e)))

pub counted_inside : {X : Type 0} (p : X → Bool) (rows : List (List X)) (k : ℕ) → 1 ≤ count_by p (get_or rows k []) → k < length rows
counted_inside p [] k h = absurd (omega arith)
counted_inside p (x ∷ rows) zero h = omega arith
counted_inside p (x ∷ rows) (suc k) h = omega (arith, counted_inside p rows k h)

pub found_inside : {X : Type 0} (p : X → Bool) (rows : List (List X)) (k q : ℕ) → passes p false (slice_get (get_or rows k []) q) ≡ true → k < length rows
found_inside p rows k q is = counted_inside p rows k (counts p (get_or rows k []) q is)
