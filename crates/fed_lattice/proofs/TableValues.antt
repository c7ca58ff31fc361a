-- What tables have at a key after a change and joined, and what holds at each key of them.
use Rattle.std.specs.Ordering.{is_eq}
use Rattle.std.specs.BTreeMap.{insert_entry, is_at}
use Rattle.std.specs.Map.{keys_of, values_of, lookup}
use Rattle.std.specs.List.Sorted.{IsStrictlySortedBy}
use Rattle.std.specs.Cmp.{IsTotalOrder, eq_by_cmp_equiv}
use Rattle.std.proofs.Common.{◌≡◌, ℕ, List, All, Bool, true, false, cond, ◌||◌, Option, Some, None, is_some, unwrap_or, IfSome, Ordering, refl, sym, ap, subst, ◌∙◌}
use Rattle.std.proofs.lemmas.Map.Lookups.{CmpEqualImpliesEq}
use Rattle.std.proofs.lemmas.Map.Keys.{IsDistinct-from_sorted}
use Rattle.std.proofs.lemmas.Map.Views.{All-values_from_lookup, tells_apart}
use Rattle.fed_lattice.specs.Laws.{BottomsJoin}
use Rattle.fed_lattice.specs.Table.{IsAtEach, value_at, joined_tables}
use Rattle.fed_lattice.specs.TableEntryLaws.{lookup-insert_entry}
use Rattle.fed_lattice.specs.TableJoinLaws.{joined_options, lookup-joined_tables, value_joined}

-- where a value is written or not
module _ {X : Type 0} where
  pub unwrap_cond : (b : Bool) (w d : X) (a : Option X) → unwrap_or (cond b (Some w) a) d ≡ cond b w (unwrap_or a d)
  unwrap_cond true w d a = refl
  unwrap_cond false w d a = refl

  pub at_written : (P : X → Type 0) (b : Bool) (w : X) (a : Option X) → (b ≡ true → P w) → IfSome a P → IfSome (cond b (Some w) a) P
  at_written P true w a f p = f refl
  at_written P false w a f p = p

module _ {K X : Type 0} (R : K → K → Ordering) (o : IsTotalOrder R) (exact : CmpEqualImpliesEq R) where
  pub value_at-insert_entry : (bottom : X) (q k : K) (w : X) (es : List (K × X)) → value_at R bottom (insert_entry R es k w) q ≡ cond (is_eq (R q k)) w (value_at R bottom es q)
  value_at-insert_entry bottom q k w es = ap (λ a. unwrap_or a bottom) (lookup-insert_entry R o exact q k w es) ∙ unwrap_cond (is_eq (R q k)) w bottom (lookup (is_at (R q)) es)

  pub value_at-joined_tables : (bottom : X) (joined : X → List ℕ → X → List ℕ → X) → BottomsJoin bottom joined → (q : K) (xs ys : List (K × X)) (v w : List ℕ)
      → value_at R bottom (joined_tables R bottom joined xs v ys w) q ≡ joined (value_at R bottom xs q) v (value_at R bottom ys q) w
  value_at-joined_tables bottom joined n q xs ys v w =
      ap (λ a. unwrap_or a bottom) (lookup-joined_tables R o exact bottom joined q xs ys v w)
      ∙ value_joined bottom joined n v w (lookup (is_at (R q)) xs) (lookup (is_at (R q)) ys)

  -- where a value is written
  pub each_insert_entry : (P : K → X → Type 0) (es : List (K × X)) (k : K) (w : X) → IsAtEach R P es → P k w → IsAtEach R P (insert_entry R es k w)
  each_insert_entry P es k w p n q =
      subst (λ a. IfSome a (P q)) (sym (lookup-insert_entry R o exact q k w es))
      (at_written (P q) (is_eq (R q k)) w (lookup (is_at (R q)) es) (λ e. subst (λ x. P x w) (sym (tells_apart exact q k e)) n) (p q))

  -- of a join: what follows at a key that either table has
  at_joined : (bottom : X) (joined : X → List ℕ → X → List ℕ → X) (P : X → Type 0) (v w : List ℕ) (a b : Option X)
      → ((is_some a || is_some b) ≡ true → P (joined (unwrap_or a bottom) v (unwrap_or b bottom) w)) → IfSome (joined_options bottom joined v w a b) P
  at_joined bottom joined P v w None None f = tt
  at_joined bottom joined P v w None (Some y) f = f refl
  at_joined bottom joined P v w (Some x) b f = f refl

  pub each_joined_tables : (bottom : X) (joined : X → List ℕ → X → List ℕ → X) (P : K → X → Type 0) (xs ys : List (K × X)) (v w : List ℕ)
      → ((k : K) → (is_some (lookup (is_at (R k)) xs) || is_some (lookup (is_at (R k)) ys)) ≡ true → P k (joined (value_at R bottom xs k) v (value_at R bottom ys k) w))
      → IsAtEach R P (joined_tables R bottom joined xs v ys w)
  each_joined_tables bottom joined P xs ys v w f k =
      subst (λ a. IfSome a (P k)) (sym (lookup-joined_tables R o exact bottom joined k xs ys v w))
      (at_joined bottom joined (P k) v w (lookup (is_at (R k)) xs) (lookup (is_at (R k)) ys) (f k))

  -- what holds at each key holds of each value
  pub values_each : (P : X → Type 0) (es : List (K × X)) → IsStrictlySortedBy R (keys_of es) → IsAtEach R (λ k. P) es → All P (values_of es)
  values_each P es s p = All-values_from_lookup (eq_by_cmp_equiv o) P es (IsDistinct-from_sorted R _ s) p
