-- How loops build tables.
use Rattle.std.specs.List.{AllByRecursion, list_any}
use Rattle.std.specs.Ordering.{is_eq, match_ordering, eq_by_cmp, ordering_reverse}
use Rattle.std.specs.BTreeMap.{insert_entry, is_at}
use Rattle.std.specs.Map.{keys_of, lookup}
use Rattle.std.specs.List.Sorted.{IsStrictlySortedBy}
use Rattle.std.specs.Cmp.{IsTotalOrder}
use Rattle.std.proofs.Common.{◌≡◌, List, [], ◌∷◌, ◌++◌, Bool, true, false, cond, Option, Some, None, is_some, IfSome, Ordering, Less, Greater, refl, sym, ap, subst, ◌∙◌, append_assoc}
use Rattle.std.proofs.lemmas.Map.Lookups.{CmpEqualImpliesEq}
use Rattle.std.proofs.lemmas.Map.Views.{tells_apart}
use Rattle.fed_lattice.specs.Table.{filled, IsAtEach}
use Rattle.fed_lattice.specs.TableEntryLaws.{sorted_insert, sorted_filled, lookup-insert_entry, lookup-filled, same_tables}
use Rattle.fed_lattice.proofs.TableValues.{at_written}

-- ---- how the methods build tables
module _ {K X : Type 0} (R : K → K → Ordering) where
  -- a key above all others goes to the end
  pub insert_last : IsTotalOrder R → (es : List (K × X)) (k : K) (v : X) (rest : List (K × X)) → IsStrictlySortedBy R (keys_of (es ++ (k, v) ∷ rest)) → (w : X) → insert_entry R es k w ≡ es ++ (k, w) ∷ []
  unfolding IsStrictlySortedBy
  insert_last o [] k v rest s w = refl
  insert_last o (e ∷ es) k v rest s w =
      let g : R k e.0 ≡ Greater = o.antisymm k e.0 ∙ ap ordering_reverse (below_last e es s.0) in
      subst (λ (r : Ordering). match_ordering r ((k, w) ∷ e ∷ es) ((e.0, w) ∷ es) (e ∷ insert_entry R es k w) ≡ e ∷ (es ++ (k, w) ∷ [])) (sym g)
      (ap (λ l. e ∷ l) (insert_last o es k v rest s.1 w)) where
        below_last : (e : K × X) (fs : List (K × X)) → AllByRecursion (λ y. R e.0 y ≡ Less) (keys_of (fs ++ (k, v) ∷ rest)) → R e.0 k ≡ Less
        below_last e [] a = a.0
        below_last e (f ∷ fs) a = below_last e fs a.1

  pub filled-append : (f : K → X) (es : List (K × X)) (ks ls : List K) → filled R f es (ks ++ ls) ≡ filled R f (filled R f es ks) ls
  filled-append f es [] ls = refl
  filled-append f es (k ∷ ks) ls = filled-append f (insert_entry R es k (f k)) ks ls

module _ {K X : Type 0} (R : K → K → Ordering) (o : IsTotalOrder R) (exact : CmpEqualImpliesEq R) where
  -- a value written back changes nothing
  pub insert_present : (es : List (K × X)) (k : K) (w : X) → IsStrictlySortedBy R (keys_of es) → lookup (is_at (R k)) es ≡ Some w → insert_entry R es k w ≡ es
  insert_present es k w s h = same_tables R o exact (insert_entry R es k w) es (sorted_insert R o es k w s) s
      (λ q. lookup-insert_entry R o exact q k w es
      ∙ same_at (is_eq (R q k)) (lookup (is_at (R q)) es) w (λ e. subst (λ (x : K). lookup (is_at (R x)) es ≡ Some w) (sym (tells_apart exact q k e)) h)) where
        same_at : (b : Bool) (a : Option X) (w : X) → (b ≡ true → a ≡ Some w) → cond b (Some w) a ≡ a
        same_at true a w f = sym (f refl)
        same_at false a w f = refl

  -- the values of a table that is filled by f alone are f's
  pub values_filled : (f : K → X) (ks : List K) → IsAtEach R (λ k x. x ≡ f k) (filled R f [] ks)
  values_filled f ks q =
      subst (λ (a : Option X). IfSome a (λ x. x ≡ f q)) (sym (lookup-filled R o exact q f [] ks))
      (at_written (λ x. x ≡ f q) (list_any (eq_by_cmp R q) ks) (f q) None (λ e. refl) tt)

  pub values_insert : (f : K → X) (es : List (K × X)) (k : K) → IsAtEach R (λ k x. x ≡ f k) es → IsAtEach R (λ k x. x ≡ f k) (insert_entry R es k (f k))
  values_insert f es k h q =
      subst (λ (a : Option X). IfSome a (λ x. x ≡ f q)) (sym (lookup-insert_entry R o exact q k (f k) es))
      (at_written (λ x. x ≡ f q) (is_eq (R q k)) (f k) (lookup (is_at (R q)) es) (λ e. ap f (sym (tells_apart exact q k e))) (h q))

  pub value_there : (x : X) (a : Option X) → IfSome a (λ y. y ≡ x) → is_some a ≡ true → a ≡ Some x
  value_there x None h i = cc
  value_there x (Some y) h i = ap Some h

-- one turn of a loop that copies
pub copied_more : {K X : Type 0} (R : K → K → Ordering) → IsTotalOrder R → (es it rest all new : List (K × X)) (k : K) (v w : X) → es ++ it ≡ all → it ≡ (k, v) ∷ rest → IsStrictlySortedBy R (keys_of all) → w ≡ v → new ≡ insert_entry R es k w → new ++ rest ≡ all
copied_more {K} {X} R o es it rest all new k v w whole first s same e =
    let t : es ++ (k, v) ∷ rest ≡ all = ap (λ l. es ++ l) (sym first) ∙ whole in
    let l : insert_entry R es k w ≡ es ++ (k, w) ∷ [] = insert_last R o es k v rest (subst (λ (m : List (K × X)). IsStrictlySortedBy R (keys_of m)) (sym t) s) w in
    ap (λ m. m ++ rest) (e ∙ l ∙ ap (λ (x : X). es ++ (k, x) ∷ []) same) ∙ append_assoc es ((k, v) ∷ []) rest ∙ t

-- the loops that join: `it` is what is left of the keys
module _ {K X : Type 0} (R : K → K → Ordering) (f : K → X) where
  pub filled_end : (es : List (K × X)) (it : List K) (all : List (K × X)) → filled R f es it ≡ all → it ≡ [] → es ≡ all
  filled_end es it all e n = subst (λ (l : List K). filled R f es l ≡ all) n e

  pub filled_more : (es : List (K × X)) (it rest : List K) (k : K) (w : X) (new all : List (K × X)) → filled R f es it ≡ all → it ≡ k ∷ rest → w ≡ f k → new ≡ insert_entry R es k w → filled R f new rest ≡ all
  filled_more es it rest k w new all e n same h =
      let t : filled R f (insert_entry R es k (f k)) rest ≡ all = subst (λ (l : List K). filled R f es l ≡ all) n e in
      subst (λ (l : List (K × X)). filled R f l rest ≡ all) (sym (h ∙ ap (insert_entry R es k) same)) t

  pub filled_skip : IsTotalOrder R → CmpEqualImpliesEq R → (es : List (K × X)) (it rest : List K) (k : K) (all : List (K × X)) → filled R f es it ≡ all → it ≡ k ∷ rest → IsStrictlySortedBy R (keys_of es) → lookup (is_at (R k)) es ≡ Some (f k) → filled R f es rest ≡ all
  filled_skip o exact es it rest k all e n s h =
      let t : filled R f (insert_entry R es k (f k)) rest ≡ all = subst (λ (l : List K). filled R f es l ≡ all) n e in
      subst (λ (l : List (K × X)). filled R f l rest ≡ all) (insert_present R o exact es k (f k) s h) t

-- such a loop that leaves out the keys that are there, where `all` is the whole
module _ {K X : Type 0} (R : K → K → Ordering) (o : IsTotalOrder R) (exact : CmpEqualImpliesEq R) (f : K → X) (all : List (K × X)) where
  -- what is left to fill in, that the keys ascend, and that the values that are there are f's
  pub record IsFilling (es : List (K × X)) (it : List K) : Type 0 where
    pub left : filled R f es it ≡ all
    pub sorted : IsStrictlySortedBy R (keys_of es)
    pub values : IsAtEach R (λ k x. x ≡ f k) es

  pub filling_more : (es : List (K × X)) (it rest : List K) (k : K) (w : X) (new : List (K × X)) → IsFilling es it → it ≡ k ∷ rest → w ≡ f k → new ≡ insert_entry R es k w → IsFilling new rest
  filling_more es it rest k w new p n same e =
      let h : new ≡ insert_entry R es k (f k) = e ∙ ap (insert_entry R es k) same in
      record {
        left = filled_more R f es it rest k w new all p.left n same e;
        sorted = subst (λ (l : List (K × X)). IsStrictlySortedBy R (keys_of l)) (sym h) (sorted_insert R o es k (f k) p.sorted);
        values = subst (IsAtEach R (λ k x. x ≡ f k)) (sym h) (values_insert R o exact f es k p.values);
      }

  pub filling_skip : (es : List (K × X)) (it rest : List K) (k : K) → IsFilling es it → it ≡ k ∷ rest → is_some (lookup (is_at (R k)) es) ≡ true → IsFilling es rest
  filling_skip es it rest k p n i = record {
    left = filled_skip R f o exact es it rest k all p.left n p.sorted (value_there R o exact (f k) (lookup (is_at (R k)) es) (p.values k) i);
    sorted = p.sorted;
    values = p.values;
  }

-- two such loops, one after the other, that begin with no entries
module _ {K X : Type 0} (R : K → K → Ordering) (o : IsTotalOrder R) (exact : CmpEqualImpliesEq R) (f : K → X) (none es : List (K × X)) (ks : List K) (empty : none ≡ []) (first : es ≡ filled R f none ks) where
  pub first_filled : es ≡ filled R f [] ks
  first_filled = first ∙ ap (λ l. filled R f l ks) empty

  pub first_sorted : IsStrictlySortedBy R (keys_of es)
  unfolding IsStrictlySortedBy
  first_sorted = subst (λ (l : List (K × X)). IsStrictlySortedBy R (keys_of l)) (sym first_filled) (sorted_filled R o f [] ks tt)

  pub first_values : IsAtEach R (λ k x. x ≡ f k) es
  first_values = subst (IsAtEach R (λ k x. x ≡ f k)) (sym first_filled) (values_filled R o exact f ks)

  pub both_filled : (new : List (K × X)) (ls : List K) → new ≡ filled R f es ls → new ≡ filled R f [] (ks ++ ls)
  both_filled new ls e = e ∙ ap (λ l. filled R f l ls) first_filled ∙ sym (filled-append R f [] ks ls)
