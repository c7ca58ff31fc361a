-- Tables of which some keys are dropped join by the laws of tables.
use Rattle.std.specs.Prelude.{filter}
use Rattle.std.specs.BTreeMap.{is_at}
use Rattle.std.specs.Map.{keys_of, lookup}
use Rattle.std.specs.List.Sorted.{IsStrictlySortedBy}
use Rattle.std.specs.Cmp.{IsTotalOrder}
use Rattle.std.proofs.Common.{◌≡◌, ℕ, List, [], ◌∷◌, Bool, true, false, not, cond, ◌||◌, Option, None, Ordering, refl, sym, ap, subst, ◌∙◌}
use Rattle.std.proofs.lemmas.List.Kept.{IsStrictlySortedBy-filter}
use Rattle.std.proofs.lemmas.Map.Entries.{lookup-filter-keys}
use Rattle.std.proofs.lemmas.Map.Lookups.{CmpEqualImpliesEq}
use Rattle.std.proofs.lemmas.Map.Views.{tells_apart}
use Rattle.fed_stamp.specs.Version.{joined as joined_versions}
use Rattle.fed_lattice.specs.FlagLaws.{or_assoc, or_comm, or_itself}
use Rattle.fed_lattice.specs.Laws.{IsAssociative, IsCommutative, IsIdempotent, BottomsJoin}
use Rattle.fed_lattice.specs.Table.{IsTable, joined_tables}
use Rattle.fed_lattice.specs.TableEntryLaws.{same_tables}
use Rattle.fed_lattice.specs.TableJoinLaws.{joined_options, lookup-joined_tables, sorted_joined_tables, joined_tables_assoc, joined_tables_comm, joined_tables_itself}
use Rattle.fed_ranges.specs.Dropped.{dropped, either, joined_dropping}

module _ {K X : Type 0} (R : K → K → Ordering) (o : IsTotalOrder R) (exact : CmpEqualImpliesEq R) where
  abbrev at : List (K × X) → K → Option X
  at es q = lookup (is_at (R q)) es

  -- what a key has once some are dropped
  pub lookup-dropped : (gone : K → Bool) (es : List (K × X)) (q : K) → at (dropped gone es) q ≡ cond (not (gone q)) (at es q) None
  lookup-dropped gone es q = lookup-filter-keys (is_at (R q)) (λ k. not (gone k)) (not (gone q)) (λ k t. ap (λ x. not (gone x)) (sym (tells_apart exact q k t))) es

  keys_dropped : (gone : K → Bool) (es : List (K × X)) → keys_of (dropped gone es) ≡ filter (λ k. not (gone k)) (keys_of es)
  keys_dropped gone [] = refl
  keys_dropped gone (e ∷ es) = go (λ rest. rest) (not (gone e.0)) (keys_dropped gone es)
    where
      go : (List K → List K) → (b : Bool) → keys_of (dropped gone es) ≡ filter (λ k. not (gone k)) (keys_of es)
          → keys_of (cond b (e ∷ dropped gone es) (dropped gone es)) ≡ cond b (e.0 ∷ filter (λ k. not (gone k)) (keys_of es)) (filter (λ k. not (gone k)) (keys_of es))
      go f true same = ap (λ ks. e.0 ∷ ks) same
      go f false same = same

  pub sorted_dropped : (gone : K → Bool) (es : List (K × X)) → IsStrictlySortedBy R (keys_of es) → IsStrictlySortedBy R (keys_of (dropped gone es))
  sorted_dropped gone es s = subst (IsStrictlySortedBy R) (sym (keys_dropped gone es)) (IsStrictlySortedBy-filter R (λ k. not (gone k)) (keys_of es) s)

  -- dropping more keys
  same_dropped : (g h : K → Bool) (es : List (K × X)) → ((k : K) → g k ≡ h k) → dropped g es ≡ dropped h es
  same_dropped g h es same = (λ i. filter (λ e. not (same e.0 i)) es)

  module _ (bottom : X) (joined : X → List ℕ → X → List ℕ → X) where
    abbrev tables : List (K × X) → List ℕ → List (K × X) → List ℕ → List (K × X)
    tables = joined_tables R bottom joined

    -- what is dropped in the end may be dropped before
    dropped_before : (g all : K → Bool) (x y : List (K × X)) (v w : List ℕ) → ((k : K) → all k ≡ false → g k ≡ false) → dropped all (tables (dropped g x) v y w) ≡ dropped all (tables x v y w)
    dropped_before g all x y v w less = same_tables R o exact _ _
        (sorted_dropped all (tables (dropped g x) v y w) (sorted_joined_tables R o exact bottom joined (dropped g x) y v w))
        (sorted_dropped all (tables x v y w) (sorted_joined_tables R o exact bottom joined x y v w))
        (λ q. lookup-dropped all (tables (dropped g x) v y w) q ∙ go q (all q) refl ∙ sym (lookup-dropped all (tables x v y w) q))
      where
        kept : (q : K) → g q ≡ false → at (dropped g x) q ≡ at x q
        kept q e = lookup-dropped g x q ∙ ap (λ b. cond (not b) (at x q) None) e

        go : (q : K) (b : Bool) → all q ≡ b → cond (not b) (at (tables (dropped g x) v y w) q) None ≡ cond (not b) (at (tables x v y w) q) None
        go q true e = refl
        go q false e =
            lookup-joined_tables R o exact bottom joined q (dropped g x) y v w
            ∙ ap (λ a. joined_options bottom joined v w a (at y q)) (kept q (less q e))
            ∙ sym (lookup-joined_tables R o exact bottom joined q x y v w)

    dropped_before_right : (g all : K → Bool) (x y : List (K × X)) (v w : List ℕ) → ((k : K) → all k ≡ false → g k ≡ false) → dropped all (tables x v (dropped g y) w) ≡ dropped all (tables x v y w)
    dropped_before_right g all x y v w less = same_tables R o exact _ _
        (sorted_dropped all (tables x v (dropped g y) w) (sorted_joined_tables R o exact bottom joined x (dropped g y) v w))
        (sorted_dropped all (tables x v y w) (sorted_joined_tables R o exact bottom joined x y v w))
        (λ q. lookup-dropped all (tables x v (dropped g y) w) q ∙ go q (all q) refl ∙ sym (lookup-dropped all (tables x v y w) q))
      where
        kept : (q : K) → g q ≡ false → at (dropped g y) q ≡ at y q
        kept q e = lookup-dropped g y q ∙ ap (λ b. cond (not b) (at y q) None) e

        go : (q : K) (b : Bool) → all q ≡ b → cond (not b) (at (tables x v (dropped g y) w) q) None ≡ cond (not b) (at (tables x v y w) q) None
        go q true e = refl
        go q false e =
            lookup-joined_tables R o exact bottom joined q x (dropped g y) v w
            ∙ ap (λ a. joined_options bottom joined v w (at x q) a) (kept q (less q e))
            ∙ sym (lookup-joined_tables R o exact bottom joined q x y v w)

    left_false : (a b c : Bool) → ((a || b) || c) ≡ false → (a || b) ≡ false
    left_false false b c e = go b c e
      where
        go : (b c : Bool) → (b || c) ≡ false → b ≡ false
        go true c e = cc
        go false c e = refl
    left_false true b c e = cc

    right_false : (a b c : Bool) → (a || (b || c)) ≡ false → (b || c) ≡ false
    right_false true b c e = cc
    right_false false b c e = e

    module _ (well_formed : X → Type 0) (well_formed_bottom : well_formed bottom) where
      pub dropping_assoc : BottomsJoin bottom joined → IsAssociative well_formed joined → (g h k : K → Bool) (x y z : List (K × X)) (u v w : List ℕ) → IsTable R well_formed x → IsTable R well_formed y → IsTable R well_formed z
          → joined_dropping R bottom joined (either g h) (joined_dropping R bottom joined g x u h y v) (joined_versions u v) k z w
          ≡ joined_dropping R bottom joined g x u (either h k) (joined_dropping R bottom joined h y v k z w) (joined_versions v w)
      dropping_assoc bottoms assoc g h k x y z u v w p q r =
          dropped_before (either g h) (either (either g h) k) (tables x u y v) z (joined_versions u v) w (λ n e. left_false (g n) (h n) (k n) e)
          ∙ same_dropped (either (either g h) k) (either g (either h k)) (tables (tables x u y v) (joined_versions u v) z w) (λ n. or_assoc (g n) (h n) (k n))
          ∙ ap (dropped (either g (either h k))) (joined_tables_assoc R o exact bottom joined well_formed well_formed_bottom bottoms assoc x y z u v w p q r)
          ∙ sym (dropped_before_right (either h k) (either g (either h k)) x (tables y v z w) u (joined_versions v w) (λ n e. right_false (g n) (h n) (k n) e))

      pub dropping_comm : IsCommutative well_formed joined → (g h : K → Bool) (x y : List (K × X)) (v w : List ℕ) → IsTable R well_formed x → IsTable R well_formed y
          → joined_dropping R bottom joined g x v h y w ≡ joined_dropping R bottom joined h y w g x v
      dropping_comm comm g h x y v w p q =
          same_dropped (either g h) (either h g) (tables x v y w) (λ n. or_comm (g n) (h n))
          ∙ ap (dropped (either h g)) (joined_tables_comm R o exact bottom joined well_formed well_formed_bottom comm x y v w p q)

      pub dropping_itself : IsIdempotent well_formed joined → (g : K → Bool) (x : List (K × X)) (v : List ℕ) → IsTable R well_formed x → dropped g x ≡ x → joined_dropping R bottom joined g x v g x v ≡ x
      dropping_itself itself g x v p none =
          same_dropped (either g g) g (tables x v x v) (λ n. or_itself (g n))
          ∙ ap (dropped g) (joined_tables_itself R o exact bottom joined well_formed well_formed_bottom itself x v p)
          ∙ none
