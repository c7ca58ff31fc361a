-- A value of a table that is written in place.
use Rattle.std.specs.Ordering.{is_eq, match_ordering}
use Rattle.std.specs.BTreeMap.{insert_entry, is_at}
use Rattle.std.specs.Map.{keys_of, lookup, set_value}
use Rattle.std.specs.List.Sorted.{IsStrictlySortedBy}
use Rattle.std.specs.Cmp.{IsTotalOrder}
use Rattle.std.proofs.Common.{◌≡◌, List, [], ◌∷◌, cond, Option, Some, unwrap_or, IfSome, Result, Ok, Err, OnOk, OnErr, Ordering, Less, Equal, Greater, refl, sym, ap, subst, ◌∙◌}
use Rattle.std.proofs.lemmas.Map.Steps.{set_value_same}
use Rattle.std.proofs.lemmas.Map.Keys.{sorted_tail}
use Rattle.std.proofs.lemmas.Map.Views.{IfSome-lookup_from_All}
use Rattle.fed_stamp.specs.Stamp.{StampValue}
use Rattle.fed_lattice.specs.Table.{IsTable, value_at, applied_table}
use Rattle.fed_lattice.specs.TableEntryLaws.{not_none, below_head}
use Rattle.fed_lattice.specs.TableJoinLaws.{well_formed_insert}

-- ---- a value that is written in place
pub on_ok_then : {A E : Type 0} {P Q : Type 0} (r : Result A E) → (P → Q) → OnOk r P → OnOk r Q
on_ok_then (Ok a) f p = f p
on_ok_then (Err e) f p = p

pub on_err_then : {A E : Type 0} {P Q : Type 0} (r : Result A E) → (P → Q) → OnErr r P → OnErr r Q
on_err_then (Ok a) f p = p
on_err_then (Err e) f p = f p

pub on_err_from : {A E : Type 0} {P : Type 0} (r : Result A E) → P → OnErr r P
on_err_from (Ok a) p = tt
on_err_from (Err e) p = p

pub in_either : {A E : Type 0} {P Q G : Type 0} (r : Result A E) → OnOk r P → OnErr r Q → (P → G) → (Q → G) → G
in_either (Ok a) p q f g = f p
in_either (Err e) p q f g = g q

module _ {K X : Type 0} (R : K → K → Ordering) (o : IsTotalOrder R) where
  pub set_value-insert : (es : List (K × X)) (k : K) (v w : X) → IsStrictlySortedBy R (keys_of es) → Some v ≡ lookup (is_at (R k)) es → set_value (is_at (R k)) es w ≡ insert_entry R es k w
  set_value-insert [] k v w s h = absurd (not_none v (sym h))
  set_value-insert (e ∷ es) k v w s h = by_order (R k e.0) refl (λ i. set_value-insert es k v w (sorted_tail R e.0 (keys_of es) s) i) where
    by_order : (r : Ordering) → R k e.0 ≡ r → (Some v ≡ lookup (is_at (R k)) es → set_value (is_at (R k)) es w ≡ insert_entry R es k w) → cond (is_eq (R k e.0)) ((e.0, w) ∷ es) (e ∷ set_value (is_at (R k)) es w) ≡ match_ordering (R k e.0) ((k, w) ∷ e ∷ es) ((e.0, w) ∷ es) (e ∷ insert_entry R es k w)
    by_order Less i rest = absurd (not_none v (sym (h ∙ below_head R o k e es s i)))
    by_order Equal i rest = rw i refl
    by_order Greater i rest = rw i (ap (λ l. e ∷ l) (rest (rw i at h)))

  module _ (es self fs : List (K × X)) (k : K) (v w : X) (same : es ≡ self) (h : Some v ≡ lookup (is_at (R k)) es) (e : fs ≡ set_value (is_at (R k)) es w) where
    pub inserted_present : (x : X) → IsStrictlySortedBy R (keys_of es) → w ≡ x → fs ≡ insert_entry R self k x
    inserted_present x sorted i = e ∙ set_value-insert es k v w sorted h ∙ ap (insert_entry R es k) i ∙ ap (λ l. insert_entry R l k x) same

    pub applied_present : {C : Type 0} (bottom : X) (applied : X → StampValue → C → X) (s : StampValue) (d : C) → IsStrictlySortedBy R (keys_of es) → w ≡ applied v s d → fs ≡ applied_table R bottom applied self s (k, d)
    applied_present {C} bottom applied s d sorted i =
        inserted_present _ sorted (i ∙ ap (λ x. applied (unwrap_or x bottom) s d) h)
        ∙ ap (λ l. insert_entry R self k (applied (unwrap_or (lookup (is_at (R k)) l) bottom) s d)) same

    pub joined_present : (bottom : X) (f : X → X) → IsStrictlySortedBy R (keys_of es) → w ≡ f v → fs ≡ insert_entry R self k (f (value_at R bottom self k))
    joined_present bottom f sorted i =
        inserted_present _ sorted (i ∙ ap (λ x. f (unwrap_or x bottom)) h)
        ∙ ap (λ l. insert_entry R self k (f (unwrap_or (lookup (is_at (R k)) l) bottom))) same

    pub unchanged_present : w ≡ v → fs ≡ self
    unchanged_present i = e ∙ set_value_same (is_at (R k)) es w (sym h ∙ ap Some (sym i)) ∙ same

    pub well_formed_present : (well_formed : X → Type 0) → IsTable R well_formed es → well_formed w → IsTable R well_formed fs
    well_formed_present well_formed t i = subst (IsTable R well_formed) (sym (e ∙ set_value-insert es k v w t.0 h)) (well_formed_insert R o well_formed es k w t i)

  pub value_well_formed_present : (well_formed : X → Type 0) (es : List (K × X)) (k : K) (v : X) → IsTable R well_formed es → Some v ≡ lookup (is_at (R k)) es → well_formed v
  value_well_formed_present well_formed es k v t h = subst (λ (a : Option X). IfSome a well_formed) (sym h) (IfSome-lookup_from_All well_formed (is_at (R k)) es t.1)
