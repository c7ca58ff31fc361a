-- The stamps that a version covers, one after another.
use Rattle.std.specs.Prelude.{flat_map, map}
use Rattle.std.specs.Cmp.{nat_cmp_is}
use Rattle.std.specs.List.{AllByRecursion, range_with_len}
use Rattle.std.specs.List.Sorted.{IsStrictlySortedBy}
use Rattle.std.specs.Ordering.{nat_cmp, ordering_then, eq_by_cmp}
use Rattle.std.proofs.Common.{◌≡◌, ℕ, zero, suc, ◌+◌, ◌≤◌, ◌<◌, List, [], ◌∷◌, ◌++◌, true, Less, Equal, refl, sym, ap, subst, ◌∙◌, inl, inr, arith}
use Rattle.std.proofs.lemmas.List.Kept.{IsStrictlySortedBy-filter}
use Rattle.std.proofs.lemmas.Bool.{cases_eq}
use Rattle.fed_stamp.specs.Stamp.{StampValue}
use Rattle.fed_stamp.specs.Version.{covers, greatest}
use Rattle.fed_stamp.proofs.VersionLaws.{covered_counter_le_greatest}
use Rattle.fed_lattice.specs.ExactLaws.{exact_stamp}
use Rattle.fed_lattice.proofs.FilterLaws.{filter-Has}
use Rattle.fed_lattice.specs.Latest.{stamp_cmp}
use Rattle.fed_lattice.specs.LatestLaws.{stamp_total}
use Rattle.fed_lattice.specs.Sets.{Has}
use Rattle.fed_lattice.specs.SetLaws.{Has-left, Has-right, Has-cases, any_same}
use Rattle.fed_lattice.specs.KeySetLaws.{same_sets}
use Rattle.fed_model.specs.Identifiers.{covered_stamps, stamps_of}

-- ---- lists that ascend
from_members : {A : Type 0} (P : A → Type 0) (xs : List A) → ((x : A) → Has xs x → P x) → AllByRecursion P xs
from_members P [] f = tt
from_members P (x ∷ xs) f = (f x (inl refl), from_members P xs (λ y h. f y (inr h)))

each_member : {A : Type 0} (P : A → Type 0) (xs : List A) → AllByRecursion P xs → (x : A) → Has xs x → P x
each_member P [] a x h = absurd h
each_member P (y ∷ xs) a x (inl e) = subst P e a.0
each_member P (y ∷ xs) a x (inr h) = each_member P xs a.1 x h

ascends-append : (xs ys : List StampValue) → IsStrictlySortedBy stamp_cmp xs → IsStrictlySortedBy stamp_cmp ys
    → ((x y : StampValue) → Has xs x → Has ys y → stamp_cmp x y ≡ Less) → IsStrictlySortedBy stamp_cmp (xs ++ ys)
unfolding IsStrictlySortedBy
ascends-append [] ys s t below = t
ascends-append (x ∷ xs) ys s t below = (
  from_members (λ y. stamp_cmp x y ≡ Less) (xs ++ ys) (λ y h. elim (Has-cases xs ys y h) [
    | inl a ↦ each_member (λ z. stamp_cmp x z ≡ Less) xs s.0 y a
    | inr b ↦ below x y (inl refl) b
  ]),
  ascends-append xs ys s.1 t (λ a b h k. below a b (inr h) k),
)

-- two lists of stamps that ascend are the same where they have the same members
pub same_stamps : (xs ys : List StampValue) → IsStrictlySortedBy stamp_cmp xs → IsStrictlySortedBy stamp_cmp ys
    → ((x : StampValue) → Has xs x → Has ys x) → ((x : StampValue) → Has ys x → Has xs x) → xs ≡ ys
same_stamps xs ys s t there back =
    same_sets stamp_cmp stamp_total exact_stamp xs ys s t
    (λ q. any_same (eq_by_cmp stamp_cmp q) (eq_by_cmp stamp_cmp q) xs ys (λ x. refl) (back, there))

-- ---- the stamps of one counter
less_counter : (s t : StampValue) → s.counter < t.counter → stamp_cmp s t ≡ Less
less_counter s t h = ap (λ o. ordering_then o (nat_cmp s.site t.site)) (sym (nat_cmp_is s.counter t.counter Less h))

less_site : (s t : StampValue) → s.counter ≡ t.counter → s.site < t.site → stamp_cmp s t ≡ Less
less_site s t e h =
    ap (λ o. ordering_then o (nat_cmp s.site t.site)) (sym (nat_cmp_is s.counter t.counter Equal e)) ∙ sym (nat_cmp_is s.site t.site Less h)

abbrev row : ℕ → ℕ → ℕ → List StampValue
row counter n a = map (λ site. let s : StampValue = record { counter = counter; site = site } in s) (range_with_len a n)

in_row : (counter n a : ℕ) (s : StampValue) → Has (row counter n a) s → (s.counter ≡ counter) × (a ≤ s.site)
in_row counter zero a s h = absurd h
in_row counter (suc n) a s (inl e) = (ap (λ (t : StampValue). t.counter) (sym e), (let k : a ≡ s.site = ap (λ (t : StampValue). t.site) e in omega arith))
in_row counter (suc n) a s (inr h) = let r = in_row counter n (a + 1) s h in (r.0, (let k : a + 1 ≤ s.site = r.1 in omega arith))

row_has : (counter n a site : ℕ) → a ≤ site → site < a + n → Has (row counter n a) (record { counter = counter; site = site })
row_has counter zero a site low high = absurd (omega arith)
row_has counter (suc n) a site low high = elim (cases_eq a site) [
  | inl e ↦ inl (λ i. record { counter = counter; site = e i })
  | inr apart ↦ inr (row_has counter n (a + 1) site (omega arith) (omega arith))
]

row_ascends : (counter n a : ℕ) → IsStrictlySortedBy stamp_cmp (row counter n a)
unfolding IsStrictlySortedBy
row_ascends counter zero a = tt
row_ascends counter (suc n) a = (
  from_members (λ y. stamp_cmp (record { counter = counter; site = a }) y ≡ Less) (row counter n (a + 1)) (λ y h.
      let r = in_row counter n (a + 1) y h in
      let above : a < y.site = (let k : a + 1 ≤ y.site = r.1 in omega arith) in
      less_site (record { counter = counter; site = a }) y (sym r.0) above),
  row_ascends counter n (a + 1),
)

-- ---- counter by counter
abbrev table : ℕ → ℕ → List StampValue
table m a = flat_map stamps_of (range_with_len a m)

in_table : (m a : ℕ) (s : StampValue) → Has (table m a) s → a ≤ s.counter
in_table zero a s h = absurd h
in_table (suc m) a s h = elim (Has-cases (stamps_of a) (table m (a + 1)) s h) [
  | inl k ↦ (let e : s.counter ≡ a = (in_row a 16 0 s k).0 in omega arith)
  | inr k ↦ (let b : a + 1 ≤ s.counter = in_table m (a + 1) s k in omega arith)
]

table_has : (m a : ℕ) (s : StampValue) → a ≤ s.counter → s.counter < a + m → s.site < 16 → Has (table m a) s
table_has zero a s low high within = absurd (omega arith)
table_has (suc m) a s low high within = elim (cases_eq s.counter a) [
  | inl e ↦ Has-left (stamps_of a) (table m (a + 1)) s
      (subst (Has (stamps_of a)) (λ i. record { counter = sym e i; site = s.site }) (row_has a 16 0 s.site (omega arith) (omega arith)))
  | inr apart ↦ Has-right (stamps_of a) (table m (a + 1)) s (table_has m (a + 1) s (omega arith) (omega arith) within)
]

table_ascends : (m a : ℕ) → IsStrictlySortedBy stamp_cmp (table m a)
unfolding IsStrictlySortedBy
table_ascends zero a = tt
table_ascends (suc m) a = ascends-append (stamps_of a) (table m (a + 1)) (row_ascends a 16 0) (table_ascends m (a + 1))
    (λ x y h k. less_counter x y (let e : x.counter ≡ a = (in_row a 16 0 x h).0 in let b : a + 1 ≤ y.counter = in_table m (a + 1) y k in omega arith))

pub covered_ascend : (v : List ℕ) → IsStrictlySortedBy stamp_cmp (covered_stamps v)
covered_ascend v = IsStrictlySortedBy-filter stamp_cmp (covers v) (table (suc (greatest v)) 0) (table_ascends (suc (greatest v)) 0)

pub covered_has : (v : List ℕ) (s : StampValue) → s.site < 16 → covers v s ≡ true → Has (covered_stamps v) s
covered_has v s placed c =
    let top : s.counter ≤ greatest v = covered_counter_le_greatest v s c in
    filter-Has (covers v) (table (suc (greatest v)) 0) s (table_has (suc (greatest v)) 0 s (omega arith) (omega arith) placed) c
