-- Objects are made of their members.
use Rattle.std.proofs.Common.{◌≡◌, ℕ, Bool, true, List, [], ◌∷◌, ◌++◌, map, Option, Some, Ok, refl, sym, ap, subst, ◌∙◌}
use Rattle.std.specs.Prelude.{◌&&◌, not}
use Rattle.std.specs.List.{list_all}
use Rattle.std.specs.declared.cmp.Ordering.{Ordering}
use Rattle.std.specs.declared.cmp.Ordering.TheVariants.{Less, Equal, Greater}
use Rattle.std.specs.Ordering.{nat_cmp, is_eq, match_ordering}
use Rattle.std.specs.Cmp.Lexicographic.{slice_cmp}
use Rattle.std.specs.Cmp.Lexicographic.{nat_list_cmp_total}
use Rattle.std.proofs.lemmas.Cmp.{tied_itself}
use Rattle.std.proofs.lemmas.Bool.{and_parts}
use Rattle.std.proofs.lemmas.Slice.Eq.{bytes_eq-Decides, slice_eq-Decides}
use Rattle.serde_json.specs.Data.{Data, null, boolean, number, string, array, object, Members, no_members, member}
use Rattle.serde_json.specs.Find.{get, get_member}
use Rattle.fed_lattice.specs.Results.{mapped}
use Rattle.fed_lattice.proofs.ResultLaws.{bind_ok, mapped_ok}
use Rattle.fed_json.specs.Reading.{Reading, both, or_shape}
use Rattle.fed_json.specs.Objects.{Named, members_from, object_value, names_of, has_names, member_of}
use Rattle.fed_json.proofs.Forms.{HasMembers, IsForm, IsPartForm}
use Rattle.fed_json.proofs.Steps.{both_ok, or_shape_ok}

-- ---- parts of objects

module _ {A : Type 0} (name : List ℕ) (f : Data → Reading A) (v : A → Data) (P : A → Type 0) where
  pub member_part : IsForm f v P → IsPartForm (member_of name f) (λ x. (name, v x) ∷ []) P
  member_part F = record {
    takes = λ d x e.
        let m = bind_ok (or_shape (get name d)) f x e in
        let t = F.takes m.0 x m.2 in
        ((or_shape_ok (get name d) m.0 m.1 ∙ ap (λ (d : Data). Some d) t.0, tt), t.1);
    again = λ d x h i. rw h.0 (F.again x i);
  }

has_first : (ms ns : Named) (d : Data) → HasMembers (ms ++ ns) d → HasMembers ms d × HasMembers ns d
has_first [] ns d h = (tt, h)
has_first (m ∷ ms) ns d h =
    let r = has_first ms ns d h.1 in
    ((h.0, r.0), r.1)

has_joined : (ms ns : Named) (d : Data) → HasMembers ms d → HasMembers ns d → HasMembers (ms ++ ns) d
has_joined [] ns d h i = i
has_joined (m ∷ ms) ns d h i = (h.0, has_joined ms ns d h.1 i)

module _ {A B : Type 0} (f : Data → Reading A) (g : Data → Reading B) (m : A → Named) (n : B → Named) (P : A → Type 0) (Q : B → Type 0) where
  pub both_part : IsPartForm f m P → IsPartForm g n Q → IsPartForm (λ d. both (f d) (g d)) (λ p. m p.0 ++ n p.1) (λ p. P p.0 × Q p.1)
  both_part F G = record {
    takes = λ d p e.
        let r = both_ok (f d) (g d) p e in
        let x = F.takes d p.0 r.0 in
        let y = G.takes d p.1 r.1 in
        (has_joined (m p.0) (n p.1) d x.0 y.0, (x.1, y.1));
    again = λ d p h i.
        let r = has_first (m p.0) (n p.1) d h in
        rw (F.again d p.0 r.0 i.0, G.again d p.1 r.1 i.1) refl;
  }

pub mapped_part : {A B : Type 0} (f : Data → Reading A) (m : A → Named) (P : A → Type 0) (to : A → B) (n : B → Named) (Q : B → Type 0) → IsPartForm f m P
    → ((x : A) → P x → (m x ≡ n (to x)) × Q (to x)) → ((y : B) → Q y → (x : A) × P x × (to x ≡ y)) → IsPartForm (λ d. mapped to (f d)) n Q
mapped_part {A} {B} f m P to n Q F there back = record {
  takes = λ d y e.
      let x = mapped_ok (f d) to y e in
      let t = F.takes d x.0 x.1 in
      let r = there x.0 t.1 in
      subst (λ (y : B). HasMembers (n y) d × Q y) x.2 (subst (λ (ms : Named). HasMembers ms d) r.0 t.0, r.1);
  again = λ d y h i.
      let x = back y i in
      let same : n y ≡ m x.0 = sym ((there x.0 x.1).0 ∙ ap n x.2) in
      rw (F.again d x.0 (subst (λ (ms : Named). HasMembers ms d) same h) x.1) (ap (λ (y : B). Ok y) x.2);
}

-- ---- whole objects

-- no name stands twice
abbrev pub are_distinct : List (List ℕ) → Bool
are_distinct [] = true
are_distinct (k ∷ ks) = list_all (λ l. not (is_eq (slice_cmp nat_cmp l k))) ks && are_distinct ks

abbrev pub names_in : Named → List (List ℕ)
names_in ms = map (λ m. m.0) ms

same_text : (xs : List ℕ) → slice_cmp nat_cmp xs xs ≡ Equal
same_text xs = tied_itself nat_list_cmp_total xs

-- a member of another name is passed over
pub other : (o : Ordering) (a b : Option Data) → not (is_eq o) ≡ true → match_ordering o a b a ≡ a
other Less a b e = refl
other Equal a b e = absurd cc
other Greater a b e = refl

skips : (k : List ℕ) (d : Data) (rest : Members) (ms : Named) → list_all (λ l. not (is_eq (slice_cmp nat_cmp l k))) (names_in ms) ≡ true
    → HasMembers ms (object (member k d rest)) → HasMembers ms (object rest)
skips k d rest [] e h = tt
skips k d rest (m ∷ ms) e h =
    let t = and_parts _ _ e in
    (sym (other (slice_cmp nat_cmp m.0 k) (get_member m.0 rest) (Some d) t.0) ∙ h.0, skips k d rest ms t.1 h.1)

first_value : (k : List ℕ) (d x : Data) (rest : Members) → get_member k (member k d rest) ≡ Some x → d ≡ x
first_value k d x rest e =
    let here : get_member k (member k d rest) ≡ Some d = rw same_text refl in
    cc

with_first : (k : List ℕ) (d : Data) (m : List ℕ × Data) (rest more : Members) → k ≡ m.0 → d ≡ m.1 → rest ≡ more → member k d rest ≡ member m.0 m.1 more
with_first k d m rest more p q r = rw (p, q, r) refl

members_are : (xs : Members) (ms : Named) → names_of xs ≡ names_in ms → are_distinct (names_in ms) ≡ true → HasMembers ms (object xs) → xs ≡ members_from ms
members_are no_members [] e apart h = refl
members_are no_members (m ∷ ms) e apart h = absurd cc
members_are (member k d xs) [] e apart h = absurd cc
members_are (member k d xs) (m ∷ ms) e apart h =
    let t = and_parts _ _ apart in
    let same : k ≡ m.0 = cc in
    let rest : names_of xs ≡ names_in ms = cc in
    let found : get_member k (member k d xs) ≡ Some m.1 = subst (λ (l : List ℕ). get_member l (member k d xs) ≡ Some m.1) (sym same) h.0 in
    let others = subst (λ (l : List ℕ). list_all (λ n. not (is_eq (slice_cmp nat_cmp n l))) (names_in ms) ≡ true) (sym same) t.0 in
    with_first k d m xs (members_from ms) same (first_value k d m.1 xs found) (members_are xs ms rest t.1 (skips k d xs ms others h.1))

-- an object with exactly the names of these members, and with these members, is made of them
pub object_is : (d : Data) (ms : Named) → are_distinct (names_in ms) ≡ true → has_names (names_in ms) d ≡ true → HasMembers ms d → d ≡ object_value ms
object_is (object xs) ms apart named h =
    ap object (members_are xs ms ((slice_eq-Decides bytes_eq-Decides (names_of xs) (names_in ms) _ refl).0 named) apart h)
object_is null ms apart named h = absurd cc
object_is (boolean b) ms apart named h = absurd cc
object_is (number n) ms apart named h = absurd cc
object_is (string s) ms apart named h = absurd cc
object_is (array ds) ms apart named h = absurd cc

skips_back : (k : List ℕ) (d : Data) (rest : Members) (ms : Named) → list_all (λ l. not (is_eq (slice_cmp nat_cmp l k))) (names_in ms) ≡ true
    → HasMembers ms (object rest) → HasMembers ms (object (member k d rest))
skips_back k d rest [] e h = tt
skips_back k d rest (m ∷ ms) e h =
    let t = and_parts _ _ e in
    (other (slice_cmp nat_cmp m.0 k) (get_member m.0 rest) (Some d) t.0 ∙ h.0, skips_back k d rest ms t.1 h.1)

-- it has them
pub object_has : (ms : Named) → are_distinct (names_in ms) ≡ true → HasMembers ms (object_value ms)
object_has [] apart = tt
object_has (m ∷ ms) apart =
    let t = and_parts _ _ apart in
    let here : get_member m.0 (member m.0 m.1 (members_from ms)) ≡ Some m.1 = rw same_text refl in
    (here, skips_back m.0 m.1 (members_from ms) ms t.0 (object_has ms t.1))

names_of-members_from : (ms : Named) → names_of (members_from ms) ≡ names_in ms
names_of-members_from [] = refl
names_of-members_from (m ∷ ms) = ap (λ (ns : List (List ℕ)). m.0 ∷ ns) (names_of-members_from ms)

-- and exactly their names
pub object_named : (ms : Named) → has_names (names_in ms) (object_value ms) ≡ true
object_named ms = rw (names_of-members_from ms) ((slice_eq-Decides bytes_eq-Decides (names_in ms) (names_in ms) _ refl).1 refl)
