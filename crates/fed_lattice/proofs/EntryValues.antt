-- What a table has at a key after the entries of another are joined into it, and what holds at each key.
use Rattle.std.specs.BTreeMap.{is_at}
use Rattle.std.specs.Map.{keys_of, lookup}
use Rattle.std.specs.Cmp.{IsTotalOrder}
use Rattle.std.proofs.Common.{◌≡◌, ℕ, List, true, cond, Some, is_some, unwrap_or, IfSome, Ordering, sym, ap, subst, ◌∙◌}
use Rattle.std.proofs.lemmas.Map.Lookups.{CmpEqualImpliesEq}
use Rattle.fed_lattice.specs.Table.{IsAtEach, value_at}
use Rattle.fed_lattice.specs.JoinedEntries.{joined_entries}
use Rattle.fed_lattice.specs.TableEntryLaws.{any_lookup, lookup-filled}
use Rattle.fed_lattice.proofs.TableValues.{at_written, unwrap_cond}

module _ {K X : Type 0} (R : K → K → Ordering) (o : IsTotalOrder R) (exact : CmpEqualImpliesEq R) (bottom : X) (joined : X → List ℕ → X → List ℕ → X) (xs ys : List (K × X)) (v w : List ℕ) where
  abbrev join_at : K → X
  join_at k = joined (value_at R bottom xs k) v (value_at R bottom ys k) w

  pub lookup-joined_entries : (q : K) → lookup (is_at (R q)) (joined_entries R bottom joined xs v ys w) ≡ cond (is_some (lookup (is_at (R q)) ys)) (Some (join_at q)) (lookup (is_at (R q)) xs)
  lookup-joined_entries q = lookup-filled R o exact q join_at xs (keys_of ys) ∙ ap (λ b. cond b (Some (join_at q)) (lookup (is_at (R q)) xs)) (any_lookup R o q ys)

  pub value_at-joined_entries : (q : K) → value_at R bottom (joined_entries R bottom joined xs v ys w) q ≡ cond (is_some (lookup (is_at (R q)) ys)) (join_at q) (value_at R bottom xs q)
  value_at-joined_entries q = ap (λ a. unwrap_or a bottom) (lookup-joined_entries q) ∙ unwrap_cond (is_some (lookup (is_at (R q)) ys)) (join_at q) bottom (lookup (is_at (R q)) xs)

  -- what holds of the joins, and of what was there
  pub each_joined_entries : (P : K → X → Type 0) → ((k : K) → is_some (lookup (is_at (R k)) ys) ≡ true → P k (join_at k)) → IsAtEach R P xs → IsAtEach R P (joined_entries R bottom joined xs v ys w)
  each_joined_entries P f p k = subst (λ a. IfSome a (P k)) (sym (lookup-joined_entries k)) (at_written (P k) (is_some (lookup (is_at (R k)) ys)) (join_at k) (lookup (is_at (R k)) xs) (f k) (p k))
