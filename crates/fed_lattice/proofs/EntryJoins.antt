-- The loop that joins the entries of one table into another, and how its steps are undone.
use Rattle.std.specs.List.{AllByRecursion, list_any}
use Rattle.std.specs.Ordering.{is_eq}
use Rattle.std.specs.BTreeMap.{insert_entry, is_at}
use Rattle.std.specs.Map.{keys_of, values_of, lookup}
use Rattle.std.specs.List.Sorted.{IsStrictlySortedBy}
use Rattle.std.specs.Cmp.{IsTotalOrder, eq_by_cmp_equiv}
use Rattle.std.proofs.Common.{◌≡◌, ℕ, zero, suc, ◌<◌, get_or, arith, append-nil, IfSome, List, [], ◌∷◌, ◌++◌, All, Bool, true, false, cond, not, ◌||◌, Option, Some, None, is_some, unwrap_or, Ordering, refl, sym, ap, ap₂, subst, ◌∙◌, append_assoc}
use Rattle.std.proofs.lemmas.Cmp.{tied_itself}
use Rattle.std.proofs.lemmas.List.Elements.{All-append, All-head, All-tail}
use Rattle.std.proofs.lemmas.List.Folds.{list_any-append}
use Rattle.std.proofs.lemmas.Map.{lookup-none}
use Rattle.std.proofs.lemmas.Map.Entries.{none_past_head}
use Rattle.std.proofs.lemmas.Map.Keys.{IsDistinct-from_sorted}
use Rattle.std.proofs.lemmas.Map.Lookups.{CmpEqualImpliesEq}
use Rattle.std.proofs.lemmas.Map.Views.{tells_apart, IfSome-lookup_from_All}
use Rattle.fed_lattice.specs.Table.{IsTable, value_at, filled}
use Rattle.fed_lattice.specs.JoinedEntries.{missing_from}
use Rattle.fed_lattice.specs.FormerValues.{AreFormer, IsKept, put_back}
use Rattle.fed_lattice.specs.TableEntryLaws.{same_tables, sorted_filled, any_lookup, lookup-filled, lookup-insert_entry}
use Rattle.fed_lattice.specs.TableJoinLaws.{well_formed_insert}
use Rattle.fed_lattice.proofs.TableLoops.{filled_more}
use Rattle.fed_lattice.proofs.EntryLoops.{found_each, lookup-without, sorted_without}

-- the first of the two that is there
abbrev pub either : {X : Type 0} → Option X → Option X → Option X
either None e = e
either (Some x) e = Some x

-- ---- one key, where the entries have e at it, the former values m, and b tells whether the key was added
module _ {X : Type 0} where
  back_added : (b t : Bool) (m e r : Option X) (w : X) → cond b None (either m e) ≡ r → (t ≡ true → r ≡ None) → cond (b || (t || false)) None (either m (cond t (Some w) e)) ≡ r
  back_added true true m e r w p f = p
  back_added true false m e r w p f = p
  back_added false true m e r w p f = sym (f refl)
  back_added false false m e r w p f = p

  back_former : (b t : Bool) (m e r : Option X) (w x : X) → cond b None (either m e) ≡ r → (t ≡ true → r ≡ Some x) → cond b None (either (either m (cond t (Some x) None)) (cond t (Some w) e)) ≡ r
  back_former true t m e r w x p f = p
  back_former false true None e r w x p f = sym (f refl)
  back_former false true (Some y) e r w x p f = p
  back_former false false None e r w x p f = p
  back_former false false (Some y) e r w x p f = p

  there_added : (t : Bool) (w : X) (e : Option X) → is_some e ≡ true → is_some (cond t (Some w) e) ≡ true
  there_added true w e h = refl
  there_added false w e h = h

  there_former : (t : Bool) (m e : Option X) (w x : X) → (is_some m ≡ true → is_some e ≡ true) → is_some (either m (cond t (Some x) None)) ≡ true → is_some (cond t (Some w) e) ≡ true
  there_former true m e w x f h = refl
  there_former false None e w x f h = f h
  there_former false (Some y) e w x f h = f h

  back_bits : (bottom : X) (b : Bool) (m e : Option X) → cond (not b) (cond (is_some m) (Some (unwrap_or m bottom)) e) None ≡ cond b None (either m e)
  back_bits bottom true m e = refl
  back_bits bottom false None e = refl
  back_bits bottom false (Some y) e = refl

module _ {K X : Type 0} where
  lookup-pushed : (test : K → Bool) (es : List (K × X)) (k : K) (x : X) → lookup test (es ++ (k, x) ∷ []) ≡ either (lookup test es) (cond (test k) (Some x) None)
  lookup-pushed test [] k x = refl
  lookup-pushed test (e ∷ es) k x = go (test e.0) (lookup-pushed test es k x) where
    go : (b : Bool) → lookup test (es ++ (k, x) ∷ []) ≡ either (lookup test es) (cond (test k) (Some x) None)
        → cond b (Some e.1) (lookup test (es ++ (k, x) ∷ [])) ≡ either (cond b (Some e.1) (lookup test es)) (cond (test k) (Some x) None)
    go true h = refl
    go false h = h

  keys-pushed : (es : List (K × X)) (k : K) (x y : X) (rest : List (K × X)) → keys_of ((es ++ (k, x) ∷ []) ++ rest) ≡ keys_of (es ++ (k, y) ∷ rest)
  keys-pushed [] k x y rest = refl
  keys-pushed (e ∷ es) k x y rest = ap (λ ks. e.0 ∷ ks) (keys-pushed es k x y rest)

  values-pushed : (well_formed : X → Type 0) (es : List (K × X)) (k : K) (x : X) → All well_formed (values_of es) → well_formed x → All well_formed (values_of (es ++ (k, x) ∷ []))
  values-pushed well_formed es k x a p = subst (All well_formed) (sym (same es)) (All-append well_formed (values_of es) (x ∷ []) a one) where
    one : (i : ℕ) (d : X) → i < 1 → well_formed (get_or (x ∷ []) i d)
    one zero d l = p
    one (suc i) d l = absurd (omega (arith, l))

    same : (fs : List (K × X)) → values_of (fs ++ (k, x) ∷ []) ≡ values_of fs ++ x ∷ []
    same [] = refl
    same (f ∷ fs) = ap (λ vs. f.1 ∷ vs) (same fs)

-- ---- parts of entries whose keys ascend
module _ {K X : Type 0} (R : K → K → Ordering) where
  all_first : (P : K → Type 0) (es fs : List (K × X)) → AllByRecursion P (keys_of (es ++ fs)) → AllByRecursion P (keys_of es)
  all_first P [] fs a = tt
  all_first P (e ∷ es) fs a = (a.0, all_first P es fs a.1)

  sorted_first : (es fs : List (K × X)) → IsStrictlySortedBy R (keys_of (es ++ fs)) → IsStrictlySortedBy R (keys_of es)
  unfolding IsStrictlySortedBy
  sorted_first [] fs s = tt
  sorted_first (e ∷ es) fs s = (all_first (λ y. R e.0 y ≡ Ordering.Less) es fs s.0, sorted_first es fs s.1)

  sorted_last : (es fs : List (K × X)) → IsStrictlySortedBy R (keys_of (es ++ fs)) → IsStrictlySortedBy R (keys_of fs)
  unfolding IsStrictlySortedBy
  sorted_last [] fs s = s
  sorted_last (e ∷ es) fs s = sorted_last es fs s.1

  all_others : (P : K → Type 0) (es : List (K × X)) (f : K × X) (fs : List (K × X)) → AllByRecursion P (keys_of (es ++ f ∷ fs)) → AllByRecursion P (keys_of (es ++ fs))
  all_others P [] f fs a = a.1
  all_others P (e ∷ es) f fs a = (a.0, all_others P es f fs a.1)

  sorted_others : (es : List (K × X)) (f : K × X) (fs : List (K × X)) → IsStrictlySortedBy R (keys_of (es ++ f ∷ fs)) → IsStrictlySortedBy R (keys_of (es ++ fs))
  unfolding IsStrictlySortedBy
  sorted_others [] f fs s = s.1
  sorted_others (e ∷ es) f fs s = (all_others (λ y. R e.0 y ≡ Ordering.Less) es f fs s.0, sorted_others es f fs s.1)

module _ {K X : Type 0} (R : K → K → Ordering) (o : IsTotalOrder R) (exact : CmpEqualImpliesEq R) (well_formed : X → Type 0) where
  abbrev at : List (K × X) → K → Option X
  at es q = lookup (is_at (R q)) es

  missing_none : (es : List (K × X)) (k : K) (ks : List K) → at es k ≡ None → missing_from R es (k ∷ ks) ≡ k ∷ missing_from R es ks
  missing_none es k ks h = ap (λ a. cond (not (is_some a)) (k ∷ missing_from R es ks) (missing_from R es ks)) h

  missing_some : (es : List (K × X)) (k : K) (ks : List K) (x : X) → at es k ≡ Some x → missing_from R es (k ∷ ks) ≡ missing_from R es ks
  missing_some es k ks x h = ap (λ a. cond (not (is_some a)) (k ∷ missing_from R es ks) (missing_from R es ks)) h

  -- what the loop has still to do, that the keys ahead have what they had, and that what is kept undoes what is done
  pub record IsJoining (f : K → X) (other old es it : List (K × X)) (added : List K) (former : List (K × X)) : Type 0 where
    pub table : IsTable R well_formed es
    pub left : filled R f es (keys_of it) ≡ filled R f old (keys_of other)
    pub missing : added ++ missing_from R old (keys_of it) ≡ missing_from R old (keys_of other)
    pub found : All (λ e. at other e.0 ≡ Some e.1) it
    pub ahead : (q : K) → list_any (is_at (R q)) (keys_of it) ≡ true → at es q ≡ at old q
    pub back : (q : K) → cond (list_any (is_at (R q)) added) None (either (at former q) (at es q)) ≡ at old q
    pub sorted : IsStrictlySortedBy R (keys_of (former ++ it))
    pub there : (q : K) → is_some (at former q) ≡ true → is_some (at es q) ≡ true
    pub fine : All well_formed (values_of former)

  pub joining_start : (f : K → X) (other old es it : List (K × X)) (added : List K) (former : List (K × X)) → IsTable R well_formed old → IsStrictlySortedBy R (keys_of other) → es ≡ old → it ≡ other → added ≡ [] → former ≡ [] → IsJoining f other old es it added former
  joining_start f other old es it added former t s i j k l =
      subst (λ (x : List (K × X)). IsJoining f other old x it added former) (sym i)
      (subst (λ (x : List (K × X)). IsJoining f other old old x added former) (sym j)
      (subst (λ (x : List K). IsJoining f other old old other x former) (sym k)
      (subst (λ (x : List (K × X)). IsJoining f other old old other [] x) (sym l) (record {
        table = t;
        left = refl;
        missing = refl;
        found = found_each R o exact other s;
        ahead = λ q h. refl;
        back = λ q. refl;
        sorted = s;
        there = λ q h. (let u : false ≡ true = h in cc);
        fine = λ i d l. absurd (omega (arith, l));
      }))))

  module _ (f : K → X) (other old es it rest : List (K × X)) (added : List K) (former : List (K × X)) (k : K) (y : X) (p : IsJoining f other old es it added former) (first : it ≡ (k, y) ∷ rest) where
    sorted_here : IsStrictlySortedBy R (keys_of (former ++ (k, y) ∷ rest))
    sorted_here = subst (λ (l : List (K × X)). IsStrictlySortedBy R (keys_of (former ++ l))) first p.sorted

    found_here : All (λ e. at other e.0 ≡ Some e.1) ((k, y) ∷ rest)
    found_here = subst (All (λ e. at other e.0 ≡ Some e.1)) first p.found

    or_true : (a b : Bool) → a ≡ true → (a || b) ≡ true
    or_true true b h = refl
    or_true false b h = absurd (let u : false ≡ true = h in cc)

    -- nothing was written at the key yet
    pub untouched : at es k ≡ at old k
    untouched = p.ahead k (ap (λ (l : List (K × X)). list_any (is_at (R k)) (keys_of l)) first ∙ or_true (is_eq (R k k)) (list_any (is_at (R k)) (keys_of rest)) (ap is_eq (tied_itself o k)))

    -- what the other table has at the key
    pub theirs : (bottom : X) → value_at R bottom other k ≡ y
    theirs bottom = ap (λ a. unwrap_or a bottom) (All-head (λ (e : K × X). at other e.0 ≡ Some e.1) (k, y) rest found_here)

    not_ahead : (q : K) → is_eq (R q k) ≡ true → at rest q ≡ None
    not_ahead q t = lookup-none (is_at (R q)) rest (none_past_head (eq_by_cmp_equiv o) q (k, y) rest (IsDistinct-from_sorted R _ (sorted_last R former ((k, y) ∷ rest) sorted_here)) t)

    module _ (new : List (K × X)) (w : X) (same : w ≡ f k) (e : new ≡ insert_entry R es k w) (g : (q : K) → well_formed (f q)) where
      here : (q : K) → at new q ≡ cond (is_eq (R q k)) (Some w) (at es q)
      here q = ap (λ l. at l q) e ∙ lookup-insert_entry R o exact q k w es

      table_here : IsTable R well_formed new
      table_here = subst (IsTable R well_formed) (sym e) (well_formed_insert R o well_formed es k w p.table (subst well_formed (sym same) (g k)))

      other_key : (t : Bool) (q : K) → is_eq (R q k) ≡ t → list_any (is_at (R q)) (keys_of rest) ≡ true → cond t (Some w) (at es q) ≡ at old q
      other_key true q i h = absurd (let u : false ≡ true = sym (ap is_some (not_ahead q i)) ∙ sym (any_lookup R o q rest) ∙ h in cc)
      other_key false q i h = p.ahead q (ap (λ (l : List (K × X)). list_any (is_at (R q)) (keys_of l)) first ∙ ap (λ b. b || list_any (is_at (R q)) (keys_of rest)) i ∙ h)

      still_ahead : (q : K) → list_any (is_at (R q)) (keys_of rest) ≡ true → at new q ≡ at old q
      still_ahead q h = here q ∙ other_key (is_eq (R q k)) q refl h

      at_key : (q : K) (a : Option X) → at es k ≡ a → is_eq (R q k) ≡ true → at old q ≡ a
      at_key q a h t = ap (at old) (tells_apart exact q k t) ∙ sym untouched ∙ h

      -- one turn of the loop
      pub joining_more : (a : Option X) (added_now : List K) (former_now : List (K × X)) → at es k ≡ a → IsKept a k added former added_now former_now → IsJoining f other old new rest added_now former_now
      joining_more None added_now former_now h kept = record {
        table = table_here;
        left = filled_more R f es (keys_of it) (keys_of rest) k w new (filled R f old (keys_of other)) p.left (ap keys_of first) same e;
        missing = ap (λ l. l ++ missing_from R old (keys_of rest)) kept.0
            ∙ append_assoc added (k ∷ []) (missing_from R old (keys_of rest))
            ∙ ap (λ l. added ++ l) (sym (missing_none old k (keys_of rest) (sym untouched ∙ h)))
            ∙ ap (λ (l : List (K × X)). added ++ missing_from R old (keys_of l)) (sym first)
            ∙ p.missing;
        found = All-tail (λ (e : K × X). at other e.0 ≡ Some e.1) (k, y) rest found_here;
        ahead = still_ahead;
        back = λ q. ap₂ (λ (l : List K) (m : List (K × X)). cond (list_any (is_at (R q)) l) None (either (at m q) (at new q))) kept.0 kept.1
            ∙ ap₂ (λ (b : Bool) (x : Option X). cond b None (either (at former q) x)) (list_any-append (is_at (R q)) added (k ∷ [])) (here q)
            ∙ back_added (list_any (is_at (R q)) added) (is_eq (R q k)) (at former q) (at es q) (at old q) w (p.back q) (at_key q None h);
        sorted = subst (λ (l : List (K × X)). IsStrictlySortedBy R (keys_of (l ++ rest))) (sym kept.1) (sorted_others R former (k, y) rest sorted_here);
        there = λ q i. ap is_some (here q) ∙ there_added (is_eq (R q k)) w (at es q) (p.there q (ap (λ (l : List (K × X)). is_some (at l q)) (sym kept.1) ∙ i));
        fine = subst (λ (l : List (K × X)). All well_formed (values_of l)) (sym kept.1) p.fine;
      }
      joining_more (Some x) added_now former_now h kept = record {
        table = table_here;
        left = filled_more R f es (keys_of it) (keys_of rest) k w new (filled R f old (keys_of other)) p.left (ap keys_of first) same e;
        missing = ap (λ l. l ++ missing_from R old (keys_of rest)) kept.0
            ∙ ap (λ l. added ++ l) (sym (missing_some old k (keys_of rest) x (sym untouched ∙ h)))
            ∙ ap (λ (l : List (K × X)). added ++ missing_from R old (keys_of l)) (sym first)
            ∙ p.missing;
        found = All-tail (λ (e : K × X). at other e.0 ≡ Some e.1) (k, y) rest found_here;
        ahead = still_ahead;
        back = λ q. ap₂ (λ (l : List K) (m : List (K × X)). cond (list_any (is_at (R q)) l) None (either (at m q) (at new q))) kept.0 kept.1
            ∙ ap₂ (λ (m : Option X) (a : Option X). cond (list_any (is_at (R q)) added) None (either m a)) (lookup-pushed (is_at (R q)) former k x) (here q)
            ∙ back_former (list_any (is_at (R q)) added) (is_eq (R q k)) (at former q) (at es q) (at old q) w x (p.back q) (at_key q (Some x) h);
        sorted = subst (λ (l : List (K × X)). IsStrictlySortedBy R (keys_of (l ++ rest))) (sym kept.1) (subst (IsStrictlySortedBy R) (sym (keys-pushed former k x y rest)) sorted_here);
        there = λ q i. ap is_some (here q) ∙ there_former (is_eq (R q k)) (at former q) (at es q) w x (p.there q)
            (ap is_some (sym (lookup-pushed (is_at (R q)) former k x)) ∙ ap (λ (l : List (K × X)). is_some (at l q)) (sym kept.1) ∙ i);
        fine = subst (λ (l : List (K × X)). All well_formed (values_of l)) (sym kept.1) (values-pushed well_formed former k x p.fine (subst (λ (a : Option X). IfSome a well_formed) h (IfSome-lookup_from_All well_formed (is_at (R k)) es p.table.1)));
      }

  module _ (f : K → X) (other old es it : List (K × X)) (added : List K) (former : List (K × X)) (p : IsJoining f other old es it added former) where
    -- what is kept may be put back, and undoes what is done
    pub joining_former : AreFormer R well_formed es former
    joining_former = record { table = (sorted_first R former it p.sorted, p.fine); there = p.there }

    pub joining_back : (bottom : X) → IsStrictlySortedBy R (keys_of old) → put_back R bottom es former added ≡ old
    joining_back bottom t =
        let written : List (K × X) = filled R (value_at R bottom former) es (keys_of former) in
        same_tables R o exact _ old (sorted_without R o exact written added (sorted_filled R o (value_at R bottom former) es (keys_of former) p.table.0)) t
        (λ q. lookup-without R o exact q written added
        ∙ ap (λ a. cond (not (list_any (is_at (R q)) added)) a None) (lookup-filled R o exact q (value_at R bottom former) es (keys_of former)
        ∙ ap (λ b. cond b (Some (value_at R bottom former q)) (at es q)) (any_lookup R o q former))
        ∙ back_bits bottom (list_any (is_at (R q)) added) (at former q) (at es q)
        ∙ p.back q)

    -- the end of the loop
    module _ (end : it ≡ []) where
      pub joining_filled : es ≡ filled R f old (keys_of other)
      joining_filled = ap (λ (l : List (K × X)). filled R f es (keys_of l)) (sym end) ∙ p.left

      pub joining_missing : added ≡ missing_from R old (keys_of other)
      joining_missing = sym (append-nil added) ∙ ap (λ (l : List (K × X)). added ++ missing_from R old (keys_of l)) (sym end) ∙ p.missing
