-- The numbers of ships, as they are found in the tables.
use Rattle.std.proofs.Common.{◌≡◌, ◌≢◌, ◌<◌, ◌≤◌, ◌+◌, ◌==◌, ◌&&◌, ℕ, zero, suc, List, [], ◌∷◌, ◌++◌, length, get_or, set, map, Bool, true, false, cond, Option, Some, None, position, refl, sym, ap, subst, ◌∙◌, inl, inr, arith, zero-add, replicate}
use Rattle.std.specs.Global.{Vec}
use Rattle.std.specs.List.{position_from}
use Rattle.std.specs.Option.{option_map_or}
use Rattle.std.proofs.lemmas.Bool.{cases_eq, cases_lt, cond-true, cond-false, eq-eqb, eqb-true, ne_eqb, and_from}
use Rattle.std.proofs.lemmas.Iterator.Adapters.{position_from-zero}
use Rattle.std.proofs.lemmas.List.{get_or_past, get_or_push, get_or_append_left, get_or-set_same, get_or-set_other, length-map, length_push, set-get_or}
use Rattle.fed_threads.specs.Course.{number_in, IsIndexed, numbers_of, placed_in}
use Rattle.fed_threads.specs.Placing.{with_next}
use Rattle.fed_threads.specs.Settled.{is_ship_of, number_of}

abbrev either_first : Option ℕ → Option ℕ → Option ℕ
either_first None o = o
either_first (Some i) o = Some i

pushed : (b : Bool) (i : ℕ) (o p q : Option ℕ) → o ≡ either_first p q → cond b (Some i) o ≡ either_first (cond b (Some i) p) q
pushed true i o p q e = refl
pushed false i o p q e = e

from_push : (t : ℕ × ℕ → Bool) (i : ℕ) (xs : List (ℕ × ℕ)) (x : ℕ × ℕ) → position_from t i (xs ++ x ∷ []) ≡ either_first (position_from t i xs) (cond (t x) (Some (i + length xs)) None)
from_push t i [] x = ap (λ (n : ℕ). cond (t x) (Some n) None) (let e : i ≡ i + 0 = omega arith in e)
from_push t i (y ∷ ys) x =
    pushed (t y) i (position_from t (i + 1) (ys ++ x ∷ [])) (position_from t (i + 1) ys) (cond (t x) (Some (i + suc (length ys))) None)
    (from_push t (i + 1) ys x
    ∙ ap (λ (n : ℕ). either_first (position_from t (i + 1) ys) (cond (t x) (Some n) None)) (let e : (i + 1) + length ys ≡ i + suc (length ys) = omega arith in e))

push : (t : ℕ × ℕ → Bool) (xs : List (ℕ × ℕ)) (x : ℕ × ℕ) → position t (xs ++ x ∷ []) ≡ either_first (position t xs) (cond (t x) (Some (length xs)) None)
push t xs x =
    position_from-zero t (xs ++ x ∷ []) ∙ from_push t 0 xs x
    ∙ ap (λ (n : ℕ). either_first (position_from t 0 xs) (cond (t x) (Some n) None)) (zero-add (length xs))
    ∙ ap (λ (o : Option ℕ). either_first o (cond (t x) (Some (length xs)) None)) (sym (position_from-zero t xs))

first_none : (o p : Option ℕ) → p ≡ None → either_first o p ≡ o
first_none None p e = e
first_none (Some i) p e = refl

first_some : (o p : Option ℕ) (n : ℕ) → option_map_or (λ k. k + 1) o 0 ≡ 0 → p ≡ Some n → option_map_or (λ k. k + 1) (either_first o p) 0 ≡ n + 1
first_some None p n none e = ap (λ (q : Option ℕ). option_map_or (λ k. k + 1) q 0) e
first_some (Some i) p n none e = absurd (omega arith)

-- another ship changes no number
pub number_kept : (ships : List (ℕ × ℕ)) (x : ℕ × ℕ) (sender place : ℕ) → is_ship_of sender place x ≡ false → number_of (ships ++ x ∷ []) sender place ≡ number_of ships sender place
number_kept ships x sender place other =
    ap (λ (o : Option ℕ). option_map_or (λ k. k + 1) o 0)
    (push (is_ship_of sender place) ships x ∙ first_none (position (is_ship_of sender place) ships) _ (cond-false (is_ship_of sender place x) (Some (length ships)) None other))

-- a ship that has none yet gets the next one
pub number_next : (ships : List (ℕ × ℕ)) (sender place : ℕ) → number_of ships sender place ≡ 0 → number_of (ships ++ (sender, place) ∷ []) sender place ≡ length ships + 1
number_next ships sender place none =
    let here : is_ship_of sender place (sender, place) ≡ true = and_from (sender == sender) (place == place) (eq-eqb sender sender refl) (eq-eqb place place refl) in
    ap (λ (o : Option ℕ). option_map_or (λ k. k + 1) o 0) (push (is_ship_of sender place) ships (sender, place))
    ∙ first_some (position (is_ship_of sender place) ships) _ (length ships) none (cond-true (is_ship_of sender place (sender, place)) (Some (length ships)) None here)

not_ship : (sender place s k : ℕ) → ((s ≡ sender) → (k ≡ place) → ⊥) → is_ship_of sender place (s, k) ≡ false
not_ship sender place s k apart = go (s == sender) refl
  where
    go : (b : Bool) → (s == sender) ≡ b → (b && (k == place)) ≡ false
    go false e = refl
    go true e = ne_eqb k place (apart (eqb-true s sender e))

module _ (tables : List (List ℕ)) (s : ℕ) (inside : s < length tables) (m : ℕ) where
  abbrev old : List ℕ
  old = get_or tables s []

  abbrev more : List (List ℕ)
  more = set tables s (old ++ m ∷ [])

  row_same : get_or more s [] ≡ old ++ m ∷ []
  row_same = get_or-set_same tables s (old ++ m ∷ []) [] inside

  in_new : number_in more s (length old) ≡ m
  in_new = ap (λ (row : List ℕ). get_or row (length old) 0) row_same ∙ get_or_push old m 0 (length old) refl

  in_row : (k : ℕ) → k ≢ length old → get_or (old ++ m ∷ []) k 0 ≡ get_or old k 0
  in_row k apart = elim (cases_lt k (length old)) [
    | inl l ↦ get_or_append_left old (m ∷ []) 0 k l
    | inr far ↦ (
        let past : length (old ++ m ∷ []) ≤ k = omega (arith, length_push old m) in
        get_or_past (old ++ m ∷ []) k 0 past ∙ sym (get_or_past old k 0 far))
  ]

  in_old : (t k : ℕ) → ((t ≡ s) → (k ≡ length old) → ⊥) → number_in more t k ≡ number_in tables t k
  in_old t k apart = elim (cases_eq t s) [
    | inl is ↦ (
        subst (λ (j : ℕ). number_in more j k ≡ number_in tables j k) (sym is)
        (ap (λ (row : List ℕ). get_or row k 0) row_same ∙ in_row k (apart is)))
    | inr ne ↦ ap (λ (row : List ℕ). get_or row k 0) (get_or-set_other tables s t (old ++ m ∷ []) [] ne)
  ]

-- one place more, of no ship
pub indexed_other : (ships : List (ℕ × ℕ)) (tables : List (List ℕ)) (s : ℕ) → s < length tables → IsIndexed ships tables → IsIndexed ships (set tables s (get_or tables s [] ++ 0 ∷ []))
indexed_other ships tables s inside is t k = elim (cases_eq t s) [
  | inl e ↦ elim (cases_eq k (length (get_or tables s []))) [
    | inl f ↦ (
        let here : number_in (set tables s (get_or tables s [] ++ 0 ∷ [])) s (length (get_or tables s [])) ≡ 0 = in_new tables s inside 0 in
        let before : number_in tables s (length (get_or tables s [])) ≡ 0 = get_or_past (get_or tables s []) (length (get_or tables s [])) 0 (omega arith) in
        let same : number_in (set tables s (get_or tables s [] ++ 0 ∷ [])) t k ≡ number_in tables t k = subst (λ (j : ℕ). number_in (set tables s (get_or tables s [] ++ 0 ∷ [])) j k ≡ number_in tables j k) (sym e) (subst (λ (j : ℕ). number_in (set tables s (get_or tables s [] ++ 0 ∷ [])) s j ≡ number_in tables s j) (sym f) (here ∙ sym before)) in
        same ∙ is t k)
    | inr ne ↦ in_old tables s inside 0 t k (λ p q. ne q) ∙ is t k
  ]
  | inr ne ↦ in_old tables s inside 0 t k (λ p q. ne p) ∙ is t k
]

-- one place more, of a ship
pub indexed_ship : (ships : List (ℕ × ℕ)) (tables : List (List ℕ)) (s : ℕ) → s < length tables → IsIndexed ships tables
    → IsIndexed (ships ++ (s, length (get_or tables s [])) ∷ []) (set tables s (get_or tables s [] ++ (length ships + 1) ∷ []))
indexed_ship ships tables s inside is t k =
    elim (cases_eq t s) [
      | inl e ↦ elim (cases_eq k place) [
        | inl f ↦ subst (λ (j : ℕ). number_in after j k ≡ number_of grown j k) (sym e) (subst (λ (j : ℕ). number_in after s j ≡ number_of grown s j) (sym f) here)
        | inr ne ↦ apart t k (λ p q. ne q)
      ]
      | inr ne ↦ apart t k (λ p q. ne p)
    ]
  where
    place : ℕ
    place = length (get_or tables s [])

    after : List (List ℕ)
    after = set tables s (get_or tables s [] ++ (length ships + 1) ∷ [])

    grown : List (ℕ × ℕ)
    grown = ships ++ (s, place) ∷ []

    none : number_of ships s place ≡ 0
    none = sym (is s place) ∙ get_or_past (get_or tables s []) place 0 (omega arith)

    here : number_in after s place ≡ number_of grown s place
    here = in_new tables s inside (length ships + 1) ∙ sym (number_next ships s place none)

    apart : (t k : ℕ) → ((t ≡ s) → (k ≡ place) → ⊥) → number_in after t k ≡ number_of grown t k
    apart t k ne =
        in_old tables s inside (length ships + 1) t k ne ∙ is t k
        ∙ sym (number_kept ships (s, place) t k (not_ship t k s place (λ p q. ne (sym p) (sym q))))

-- ---- how many places there are
pub counts_more : (tables : List (List ℕ)) (s m : ℕ) → map length (set tables s (get_or tables s [] ++ m ∷ [])) ≡ set (map length tables) s (get_or (map length tables) s 0 + 1)
counts_more [] s m = refl
counts_more (t ∷ tables) zero m = ap (λ (n : ℕ). n ∷ map length tables) (length_push t m)
counts_more (t ∷ tables) (suc s) m = ap (λ (ns : List ℕ). length t ∷ ns) (counts_more tables s m)

pub count_is : (tables : List (List ℕ)) (s : ℕ) → get_or (map length tables) s 0 ≡ length (get_or tables s [])
count_is [] s = refl
count_is (t ∷ tables) zero = refl
count_is (t ∷ tables) (suc s) = count_is tables s

pub rows_set : {A B : Type 0} (f : A → B) (xs : List A) (i : ℕ) (x : A) → map f (set xs i x) ≡ set (map f xs) i (f x)
rows_set f [] i x = refl
rows_set f (y ∷ xs) zero x = refl
rows_set f (y ∷ xs) (suc i) x = ap (λ ys. f y ∷ ys) (rows_set f xs i x)

-- ---- as the program holds them
pub row : (numbers : List (Vec ℕ)) (s : ℕ) (d : Vec ℕ) → s < length numbers → get_or (numbers_of numbers) s [] ≡ (get_or numbers s d).items
row [] s d h = absurd (omega arith)
row (w ∷ numbers) zero d h = refl
row (w ∷ numbers) (suc s) d h = row numbers s d (omega arith)

pub rows_counted : (numbers : List (Vec ℕ)) → length (numbers_of numbers) ≡ length numbers
rows_counted numbers = length-map numbers (λ (x : Vec ℕ). x.items)

-- a row more, where w takes the place of the numbers of the site s
module _ (numbers : List (Vec ℕ)) (s : ℕ) (d w : Vec ℕ) (inside : s < length numbers) where
  abbrev v : Vec ℕ
  v = get_or numbers s d

  row_is : get_or (numbers_of numbers) s [] ≡ v.items
  row_is = row numbers s d inside

  rows_kept : w.items ≡ v.items → numbers_of (set numbers s w) ≡ numbers_of numbers
  rows_kept same =
      rows_set (λ (x : Vec ℕ). x.items) numbers s w ∙ ap (set (numbers_of numbers) s) (same ∙ sym row_is)
      ∙ set-get_or (numbers_of numbers) s []

  rows_more : (m : ℕ) → w.items ≡ v.items ++ m ∷ [] → numbers_of (set numbers s w) ≡ set (numbers_of numbers) s (get_or (numbers_of numbers) s [] ++ m ∷ [])
  rows_more m more = rows_set (λ (x : Vec ℕ). x.items) numbers s w ∙ ap (set (numbers_of numbers) s) (more ∙ ap (λ (ns : List ℕ). ns ++ m ∷ []) (sym row_is))

  rows_inside : s < length (numbers_of numbers)
  rows_inside = let e = rows_counted numbers in omega arith

  pub index_is : get_or (placed_in (numbers_of numbers)) s 0 ≡ length v.items
  index_is = count_is (numbers_of numbers) s ∙ ap length row_is

  pub placed_more : (m : ℕ) → w.items ≡ v.items ++ m ∷ [] → placed_in (numbers_of (set numbers s w)) ≡ with_next (placed_in (numbers_of numbers)) s
  placed_more m more = ap placed_in (rows_more m more) ∙ counts_more (numbers_of numbers) s m

  module _ (ships after : List (ℕ × ℕ)) (old : IsIndexed ships (numbers_of numbers)) where
    pub indexed_still : after ≡ ships → w.items ≡ v.items → IsIndexed after (numbers_of (set numbers s w))
    indexed_still e same = subst (λ (ns : List (List ℕ)). IsIndexed after ns) (sym (rows_kept same)) (subst (λ (xs : List (ℕ × ℕ)). IsIndexed xs (numbers_of numbers)) (sym e) old)

    pub indexed_more : after ≡ ships → w.items ≡ v.items ++ 0 ∷ [] → IsIndexed after (numbers_of (set numbers s w))
    indexed_more e more =
        subst (λ (ns : List (List ℕ)). IsIndexed after ns) (sym (rows_more 0 more))
        (subst (λ (xs : List (ℕ × ℕ)). IsIndexed xs (set (numbers_of numbers) s (get_or (numbers_of numbers) s [] ++ 0 ∷ []))) (sym e) (indexed_other ships (numbers_of numbers) s rows_inside old))

    pub indexed_shipped : (index number : ℕ) → index ≡ length v.items → number ≡ length ships + 1 → after ≡ ships ++ (s, index) ∷ [] → w.items ≡ v.items ++ number ∷ [] → IsIndexed after (numbers_of (set numbers s w))
    indexed_shipped index number at next e more =
        let place : index ≡ length (get_or (numbers_of numbers) s []) = at ∙ ap length (sym row_is) in
        let list : after ≡ ships ++ (s, length (get_or (numbers_of numbers) s [])) ∷ [] = e ∙ ap (λ (i : ℕ). ships ++ (s, i) ∷ []) place in
        subst (λ (ns : List (List ℕ)). IsIndexed after ns) (sym (rows_more (length ships + 1) (more ∙ ap (λ (m : ℕ). v.items ++ m ∷ []) next)))
        (subst (λ (xs : List (ℕ × ℕ)). IsIndexed xs (set (numbers_of numbers) s (get_or (numbers_of numbers) s [] ++ (length ships + 1) ∷ []))) (sym list) (indexed_ship ships (numbers_of numbers) s rows_inside old))

replicate_more : {A : Type 0} (n : ℕ) (x : A) → replicate n x ++ x ∷ [] ≡ replicate (suc n) x
replicate_more zero x = refl
replicate_more (suc n) x = ap (λ xs. x ∷ xs) (replicate_more n x)

rows_push : (numbers : List (Vec ℕ)) (v : Vec ℕ) → numbers_of (numbers ++ v ∷ []) ≡ numbers_of numbers ++ v.items ∷ []
rows_push [] v = refl
rows_push (w ∷ numbers) v = ap (λ (ns : List (List ℕ)). w.items ∷ ns) (rows_push numbers v)

-- one site more
pub rows_started : (n : ℕ) (numbers all : List (Vec ℕ)) (v : Vec ℕ) → numbers_of numbers ≡ replicate n [] → v.items ≡ [] → all ≡ numbers ++ v ∷ [] → numbers_of all ≡ replicate (n + 1) []
rows_started n numbers all v old none e =
    let count : n + 1 ≡ suc n = omega arith in
    ap numbers_of e ∙ rows_push numbers v ∙ (λ i. old i ++ none i ∷ []) ∙ replicate_more n [] ∙ ap (λ (k : ℕ). replicate k []) (sym count)

pub nothing_placed : (n : ℕ) → ◌≡◌ {A = List ℕ} (placed_in (replicate n [])) (replicate n 0)
nothing_placed zero = refl
nothing_placed (suc n) = ap (λ (ns : List ℕ). 0 ∷ ns) (nothing_placed n)

-- how many of each site, one site more
module _ (next placed : List ℕ) (k : ℕ) (inside : k < length next) where
  pub next_before : ((s : ℕ) → s < k → get_or next s 0 ≡ get_or placed s 0) → (s : ℕ) → s < k + 1 → get_or (set next k (get_or placed k 0)) s 0 ≡ get_or placed s 0
  next_before old s l = elim (cases_eq s k) [
    | inl e ↦ subst (λ (j : ℕ). get_or (set next k (get_or placed k 0)) j 0 ≡ get_or placed j 0) (sym e) (get_or-set_same next k (get_or placed k 0) 0 inside)
    | inr ne ↦ get_or-set_other next k s (get_or placed k 0) 0 ne ∙ old s (omega arith)
  ]

  pub next_after : ((s : ℕ) → k ≤ s → get_or next s 0 ≡ 0) → (s : ℕ) → k + 1 ≤ s → get_or (set next k (get_or placed k 0)) s 0 ≡ 0
  next_after old s l = get_or-set_other next k s (get_or placed k 0) 0 (λ e. omega arith) ∙ old s (omega arith)
