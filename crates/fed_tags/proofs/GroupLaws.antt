-- Pairs by element: that they ascend, which pairs there are, and what a change of one element's stamps does to them.
use Rattle.std.specs.List.{list_any, AllByRecursion}
use Rattle.std.specs.List.Sorted.{IsStrictlySortedBy}
use Rattle.std.specs.Ordering.{is_eq, eq_by_cmp, ordering_then, match_ordering}
use Rattle.std.specs.BTreeMap.{insert_entry, is_at}
use Rattle.std.specs.BTreeSet.{insert_key}
use Rattle.std.specs.Map.{keys_of, values_of, lookup, remove_entry, set_value}
use Rattle.std.specs.Cmp.{IsTotalOrder, IsEquivalence, eq_by_cmp_equiv, tied_then}
use Rattle.std.proofs.Common.{◌≡◌, ◌≢◌, ◌↔◌, List, [], ◌∷◌, ◌++◌, Bool, true, false, cond, ◌||◌, ◌&&◌, not, Option, Some, None, is_some, IfSome, unwrap_or, filter, map, length, append-nil, arith, All, Ordering, Less, Equal, Greater, refl, sym, ap, ap₂, subst, ◌∙◌}
use Rattle.std.proofs.lemmas.Cmp.{tied_itself}
use Rattle.std.proofs.lemmas.List.Elements.{All-head, All-tail, filter-append}
use Rattle.std.proofs.lemmas.List.{map-append}
use Rattle.std.proofs.lemmas.List.Folds.{list_any-append}
use Rattle.std.proofs.lemmas.Map.{lookup-none, lookup-remove_entry}
use Rattle.std.proofs.lemmas.Map.Entries.{none_past_head}
use Rattle.std.proofs.lemmas.Map.Keys.{IsDistinct-from_sorted, sorted_tail}
use Rattle.std.proofs.lemmas.Map.Lookups.{CmpEqualImpliesEq}
use Rattle.std.proofs.lemmas.Map.Views.{tells_apart, IfSome-lookup_from_All, All-map-remove_entry}
use Rattle.std.proofs.lemmas.List.Kept.{IsStrictlySortedBy-filter}
use Rattle.std.proofs.Math.Bool.{and-false, and-true, or-false, and-or_distrib_left}
use Rattle.std.proofs.Permutation.{every_append}
use Rattle.fed_lattice.specs.Sets.{Has}
use Rattle.fed_lattice.specs.SetLaws.{found, any_from}
use Rattle.fed_lattice.specs.TableJoinLaws.{well_formed_insert}
use Rattle.fed_lattice.proofs.TableWrites.{set_value-insert, unchanged_present, value_well_formed_present}
use Rattle.fed_stamp.specs.Stamp.{StampValue}
use Rattle.fed_lattice.specs.Latest.{stamp_cmp}
use Rattle.fed_lattice.specs.LatestLaws.{stamp_total}
use Rattle.fed_lattice.specs.ExactLaws.{exact_stamp}
use Rattle.fed_lattice.specs.Table.{IsTable, value_at}
use Rattle.fed_lattice.specs.TableEntryLaws.{lookup-insert_entry}
use Rattle.fed_lattice.specs.KeySetLaws.{same_sets, sorted_insert_key, has_insert_key}
use Rattle.fed_tags.specs.Tags.{pair_cmp, has, without, tags_of, IsElement}
use Rattle.fed_tags.specs.TagLaws.{pair_total, exact_pair, any_filtered, has_without, sorted_without, member, has_member}
use Rattle.fed_tags.specs.Groups.{tagged, pairs, IsGroup}

-- whether an element's stamps, if it is there, have the stamp
abbrev pub holds : Option (List StampValue) → StampValue → Bool
holds None s = false
holds (Some ss) s = list_any (eq_by_cmp stamp_cmp s) ss

-- ---- that pairs ascend
module _ {T : Type 0} (cmp : T → T → Ordering) (o : IsTotalOrder cmp) where
  all_tagged : (k t : T) (ss : List StampValue) → cmp k t ≡ Less → AllByRecursion (λ (q : T × StampValue). cmp k q.0 ≡ Less) (tagged t ss)
  all_tagged k t [] e = tt
  all_tagged k t (s ∷ ss) e = (e, all_tagged k t ss e)

  all_pairs : (k : T) (es : List (T × List StampValue)) → AllByRecursion (λ y. cmp k y ≡ Less) (keys_of es) → AllByRecursion (λ (q : T × StampValue). cmp k q.0 ≡ Less) (pairs es)
  all_pairs k [] a = tt
  all_pairs k (e ∷ es) a = every_append (λ (q : T × StampValue). cmp k q.0 ≡ Less) (tagged e.0 e.1) (pairs es) (all_tagged k e.0 e.1 a.0) (all_pairs k es a.1)

  below_rest : (k : T) (s : StampValue) (rest : List (T × StampValue)) → AllByRecursion (λ (q : T × StampValue). cmp k q.0 ≡ Less) rest → AllByRecursion (λ q. pair_cmp cmp (k, s) q ≡ Less) rest
  below_rest k s [] a = tt
  below_rest k s (q ∷ rest) a = (ap (λ r. ordering_then r (stamp_cmp s q.1)) a.0, below_rest k s rest a.1)

  below_group : (k : T) (s : StampValue) (ss : List StampValue) (rest : List (T × StampValue)) → AllByRecursion (λ y. stamp_cmp s y ≡ Less) ss → AllByRecursion (λ (q : T × StampValue). cmp k q.0 ≡ Less) rest → AllByRecursion (λ q. pair_cmp cmp (k, s) q ≡ Less) (tagged k ss ++ rest)
  below_group k s [] rest b a = below_rest k s rest a
  below_group k s (u ∷ ss) rest b a = (ap (λ r. ordering_then r (stamp_cmp s u)) (tied_itself o k) ∙ b.0, below_group k s ss rest b.1 a)

  sorted_group : (k : T) (ss : List StampValue) (rest : List (T × StampValue)) → IsStrictlySortedBy stamp_cmp ss → AllByRecursion (λ (q : T × StampValue). cmp k q.0 ≡ Less) rest → IsStrictlySortedBy (pair_cmp cmp) rest → IsStrictlySortedBy (pair_cmp cmp) (tagged k ss ++ rest)
  unfolding IsStrictlySortedBy
  sorted_group k [] rest s a r = r
  sorted_group k (u ∷ ss) rest s a r = (below_group k u ss rest s.0 a, sorted_group k ss rest s.1 a r)

  sorted_pairs_from : (es : List (T × List StampValue)) → IsStrictlySortedBy cmp (keys_of es) → All IsGroup (values_of es) → IsStrictlySortedBy (pair_cmp cmp) (pairs es)
  unfolding IsStrictlySortedBy
  sorted_pairs_from [] s g = tt
  sorted_pairs_from (e ∷ es) s g =
      let head : IsGroup e.1 = All-head IsGroup e.1 (values_of es) g in
      sorted_group e.0 e.1 (pairs es) head.0 (all_pairs e.0 es s.0) (sorted_pairs_from es s.1 (All-tail IsGroup e.1 (values_of es) g))

  pub sorted_pairs : (es : List (T × List StampValue)) → IsTable cmp IsGroup es → IsStrictlySortedBy (pair_cmp cmp) (pairs es)
  sorted_pairs es g = sorted_pairs_from es g.0 g.1

  pub sorted_view : (es : List (T × List StampValue)) (self : List (T × StampValue)) → pairs es ≡ self → IsTable cmp IsGroup es → IsStrictlySortedBy (pair_cmp cmp) self
  sorted_view es self v g = subst (IsStrictlySortedBy (pair_cmp cmp)) v (sorted_pairs es g)

  -- ---- which pairs there are
  has_tagged : (k : T) (ss : List StampValue) (q : T × StampValue) → has (pair_cmp cmp) (tagged k ss) q ≡ (is_eq (cmp q.0 k) && list_any (eq_by_cmp stamp_cmp q.1) ss)
  has_tagged k [] q = sym (and-false (is_eq (cmp q.0 k)))
  has_tagged k (s ∷ ss) q =
      ap₂ (λ a b. a || b) (sym (tied_then (cmp q.0 k) (stamp_cmp q.1 s))) (has_tagged k ss q)
      ∙ sym (and-or_distrib_left (is_eq (cmp q.0 k)) (is_eq (stamp_cmp q.1 s)) (list_any (eq_by_cmp stamp_cmp q.1) ss))

  has_step : (b : Bool) (ss : List StampValue) (r : Option (List StampValue)) (s : StampValue) → (b ≡ true → r ≡ None) → ((b && list_any (eq_by_cmp stamp_cmp s) ss) || holds r s) ≡ holds (cond b (Some ss) r) s
  has_step true ss r s n = ap (λ x. list_any (eq_by_cmp stamp_cmp s) ss || holds x s) (n refl) ∙ or-false (list_any (eq_by_cmp stamp_cmp s) ss)
  has_step false ss r s n = refl

  none_later : (t : T) (e : T × List StampValue) (es : List (T × List StampValue)) → IsStrictlySortedBy cmp (keys_of (e ∷ es)) → is_eq (cmp t e.0) ≡ true → lookup (is_at (cmp t)) es ≡ None
  none_later t e es s h = lookup-none (is_at (cmp t)) es (none_past_head (eq_by_cmp_equiv o) t e es (IsDistinct-from_sorted cmp (keys_of (e ∷ es)) s) h)

  pub has_pairs : (q : T × StampValue) (es : List (T × List StampValue)) → IsStrictlySortedBy cmp (keys_of es) → has (pair_cmp cmp) (pairs es) q ≡ holds (lookup (is_at (cmp q.0)) es) q.1
  has_pairs q [] s = refl
  has_pairs q (e ∷ es) s =
      list_any-append (eq_by_cmp (pair_cmp cmp) q) (tagged e.0 e.1) (pairs es)
      ∙ ap₂ (λ a b. a || b) (has_tagged e.0 e.1 q) (has_pairs q es (sorted_tail cmp e.0 (keys_of es) s))
      ∙ has_step (is_eq (cmp q.0 e.0)) e.1 (lookup (is_at (cmp q.0)) es) q.1 (none_later q.0 e es s)

  tagged_at : (b : Bool) (t k : T) (ss : List StampValue) → is_eq (cmp t k) ≡ b → filter (λ (p : T × StampValue). is_eq (cmp t p.0)) (tagged k ss) ≡ cond b (tagged k ss) []
  tagged_at true t k [] e = refl
  tagged_at false t k [] e = refl
  tagged_at true t k (s ∷ ss) e = rw e (ap (λ (l : List (T × StampValue)). (k, s) ∷ l) (tagged_at true t k ss e))
  tagged_at false t k (s ∷ ss) e = rw e (tagged_at false t k ss e)

  stamps_tagged : (k : T) (ss : List StampValue) → map (λ (p : T × StampValue). p.1) (tagged k ss) ≡ ss
  stamps_tagged k [] = refl
  stamps_tagged k (s ∷ ss) = ap (λ l. s ∷ l) (stamps_tagged k ss)

  tags_step : (b : Bool) (k : T) (ss : List StampValue) (rest : List (T × StampValue)) (r : Option (List StampValue)) → map (λ (p : T × StampValue). p.1) rest ≡ unwrap_or r [] → (b ≡ true → r ≡ None)
      → map (λ (p : T × StampValue). p.1) (cond b (tagged k ss) [] ++ rest) ≡ unwrap_or (cond b (Some ss) r) []
  tags_step true k ss rest r e n =
      map-append (λ (p : T × StampValue). p.1) (tagged k ss) rest
      ∙ ap₂ (λ a b. a ++ b) (stamps_tagged k ss) (e ∙ ap (λ x. unwrap_or x []) (n refl))
      ∙ append-nil ss
  tags_step false k ss rest r e n = e

  -- what is read of the stamps of an element
  pub tags_pairs : (es : List (T × List StampValue)) (t : T) → IsStrictlySortedBy cmp (keys_of es) → tags_of cmp (pairs es) t ≡ unwrap_or (lookup (is_at (cmp t)) es) []
  tags_pairs [] t s = refl
  tags_pairs (e ∷ es) t s =
      ap (λ (l : List (T × StampValue)). map (λ (p : T × StampValue). p.1) l)
      (filter-append (λ (p : T × StampValue). is_eq (cmp t p.0)) (tagged e.0 e.1) (pairs es)
      ∙ ap (λ (l : List (T × StampValue)). l ++ filter (λ (p : T × StampValue). is_eq (cmp t p.0)) (pairs es)) (tagged_at (is_eq (cmp t e.0)) t e.0 e.1 refl))
      ∙ tags_step (is_eq (cmp t e.0)) e.0 e.1 (filter (λ (p : T × StampValue). is_eq (cmp t p.0)) (pairs es)) (lookup (is_at (cmp t)) es) (tags_pairs es t (sorted_tail cmp e.0 (keys_of es) s)) (none_later t e es s)

  -- the stamps of the element that a pair has
  same_value : CmpEqualImpliesEq cmp → (q t : T) (es : List (T × List StampValue)) → is_eq (cmp q t) ≡ true → lookup (is_at (cmp q)) es ≡ lookup (is_at (cmp t)) es
  same_value exact q t es e = ap (λ (x : T). lookup (is_at (cmp x)) es) (tells_apart exact q t e)

  -- ---- changes of one element's stamps
  module _ (exact : CmpEqualImpliesEq cmp) where
    add_bits : (b : Bool) (s u : StampValue) (r v : Option (List StampValue)) → (b ≡ true → r ≡ v) → holds (cond b (Some (insert_key stamp_cmp (unwrap_or v []) u)) r) s ≡ ((b && is_eq (stamp_cmp s u)) || holds r s)
    add_bits true s u r None e = ap (λ x. is_eq (stamp_cmp s u) || holds x s) (sym (e refl))
    add_bits true s u r (Some ss) e = has_insert_key stamp_cmp stamp_total exact_stamp s u ss ∙ ap (λ x. is_eq (stamp_cmp s u) || holds x s) (sym (e refl))
    add_bits false s u r v e = refl

    -- a stamp inserted among an element's
    pub inserted_pairs : (es : List (T × List StampValue)) (t : T) (u : StampValue) → IsTable cmp IsGroup es → IsTable cmp IsGroup (insert_entry cmp es t (insert_key stamp_cmp (value_at cmp [] es t) u))
        → pairs (insert_entry cmp es t (insert_key stamp_cmp (value_at cmp [] es t) u)) ≡ insert_key (pair_cmp cmp) (pairs es) (t, u)
    inserted_pairs es t u g h =
        let R = pair_cmp cmp in
        let ss = insert_key stamp_cmp (value_at cmp [] es t) u in
        same_sets R (pair_total cmp o) (exact_pair cmp exact) _ _ (sorted_pairs (insert_entry cmp es t ss) h) (sorted_insert_key R (pair_total cmp o) (pairs es) (t, u) (sorted_pairs es g)) (λ q.
        has_pairs q (insert_entry cmp es t ss) h.0
        ∙ ap (λ r. holds r q.1) (lookup-insert_entry cmp o exact q.0 t ss es)
        ∙ add_bits (is_eq (cmp q.0 t)) q.1 u (lookup (is_at (cmp q.0)) es) (lookup (is_at (cmp t)) es) (same_value exact q.0 t es)
        ∙ ap₂ (λ a b. a || b) (tied_then (cmp q.0 t) (stamp_cmp q.1 u)) (sym (has_pairs q es g.0))
        ∙ sym (has_insert_key R (pair_total cmp o) (exact_pair cmp exact) q (t, u) (pairs es)))

    -- the stamps other than u
    abbrev pub others : StampValue → List StampValue → List StampValue
    others u ss = filter (λ (tag : StampValue). not (is_eq (stamp_cmp tag u))) ss

    any_others : (s u : StampValue) (ss : List StampValue) → list_any (eq_by_cmp stamp_cmp s) (others u ss) ≡ (list_any (eq_by_cmp stamp_cmp s) ss && not (is_eq (stamp_cmp s u)))
    any_others s u ss = any_filtered stamp_cmp exact_stamp (λ (tag : StampValue). not (is_eq (stamp_cmp tag u))) s ss

    drop_bits : (b : Bool) (s u : StampValue) (ss : List StampValue) (r : Option (List StampValue)) → (b ≡ true → r ≡ Some ss) → holds (cond b (Some (others u ss)) r) s ≡ (holds r s && not ((b && is_eq (stamp_cmp s u)) || false))
    drop_bits true s u ss r e = any_others s u ss ∙ ap₂ (λ (x : Option (List StampValue)) c. holds x s && not c) (sym (e refl)) (sym (or-false (is_eq (stamp_cmp s u))))
    drop_bits false s u ss r e = sym (and-true (holds r s))

    -- a stamp taken from an element's, where others are left
    pub dropped_pairs : (es : List (T × List StampValue)) (t : T) (u : StampValue) (ss : List StampValue) → IsTable cmp IsGroup es → lookup (is_at (cmp t)) es ≡ Some ss → IsTable cmp IsGroup (insert_entry cmp es t (others u ss))
        → pairs (insert_entry cmp es t (others u ss)) ≡ without (pair_cmp cmp) (pairs es) ((t, u) ∷ [])
    dropped_pairs es t u ss g e h =
        let R = pair_cmp cmp in
        same_sets R (pair_total cmp o) (exact_pair cmp exact) _ _ (sorted_pairs (insert_entry cmp es t (others u ss)) h) (sorted_without R (pair_total cmp o) (exact_pair cmp exact) (pairs es) ((t, u) ∷ []) (sorted_pairs es g)) (λ q.
        has_pairs q (insert_entry cmp es t (others u ss)) h.0
        ∙ ap (λ r. holds r q.1) (lookup-insert_entry cmp o exact q.0 t (others u ss) es)
        ∙ drop_bits (is_eq (cmp q.0 t)) q.1 u ss (lookup (is_at (cmp q.0)) es) (λ b. same_value exact q.0 t es b ∙ e)
        ∙ ap₂ (λ a b. a && not (b || false)) (sym (has_pairs q es g.0)) (tied_then (cmp q.0 t) (stamp_cmp q.1 u))
        ∙ sym (has_without R (pair_total cmp o) (exact_pair cmp exact) q (pairs es) ((t, u) ∷ [])))

    -- the last stamp of an element, whose group goes
    pub dropped_group : (es fs : List (T × List StampValue)) (t : T) (u : StampValue) (ss : List StampValue) → IsTable cmp IsGroup es → lookup (is_at (cmp t)) es ≡ Some ss → others u ss ≡ [] → fs ≡ remove_entry (is_at (cmp t)) es → IsTable cmp IsGroup fs
        → pairs fs ≡ without (pair_cmp cmp) (pairs es) ((t, u) ∷ [])
    dropped_group es fs t u ss g e n f h =
        let R = pair_cmp cmp in
        let laws : IsEquivalence (eq_by_cmp cmp) = eq_by_cmp_equiv o in
        same_sets R (pair_total cmp o) (exact_pair cmp exact) _ _ (sorted_pairs fs h) (sorted_without R (pair_total cmp o) (exact_pair cmp exact) (pairs es) ((t, u) ∷ []) (sorted_pairs es g)) (λ q.
        has_pairs q fs h.0
        ∙ ap (λ (l : List (T × List StampValue)). holds (lookup (is_at (cmp q.0)) l) q.1) f
        ∙ ap (λ r. holds r q.1) (lookup-remove_entry laws (is_at (cmp t)) (λ x y i. laws.congr t x y i) q.0 es (IsDistinct-from_sorted cmp (keys_of es) g.0))
        ∙ none_is_nil (is_eq (cmp t q.0)) (lookup (is_at (cmp q.0)) es) q.1
        ∙ ap₂ (λ (b : Bool) (l : List StampValue). holds (cond b (Some l) (lookup (is_at (cmp q.0)) es)) q.1) (laws.symm t q.0) (sym n)
        ∙ drop_bits (is_eq (cmp q.0 t)) q.1 u ss (lookup (is_at (cmp q.0)) es) (λ b. same_value exact q.0 t es b ∙ e)
        ∙ ap₂ (λ a b. a && not (b || false)) (sym (has_pairs q es g.0)) (tied_then (cmp q.0 t) (stamp_cmp q.1 u))
        ∙ sym (has_without R (pair_total cmp o) (exact_pair cmp exact) q (pairs es) ((t, u) ∷ []))) where
          none_is_nil : (b : Bool) (r : Option (List StampValue)) (s : StampValue) → holds (cond b None r) s ≡ holds (cond b (Some []) r) s
          none_is_nil true r s = refl
          none_is_nil false r s = refl

    -- a group that is written and then removed
    pub remove_set : (es : List (T × List StampValue)) (test : T → Bool) (w : List StampValue) → remove_entry test (set_value test es w) ≡ remove_entry test es
    remove_set [] test w = refl
    remove_set (e ∷ es) test w = by_test (test e.0) refl (remove_set es test w) where
      by_test : (b : Bool) → test e.0 ≡ b → remove_entry test (set_value test es w) ≡ remove_entry test es → remove_entry test (cond (test e.0) ((e.0, w) ∷ es) (e ∷ set_value test es w)) ≡ cond (test e.0) es (e ∷ remove_entry test es)
      by_test true i k = rw i (rw i refl)
      by_test false i k = rw i (rw i (ap (λ l. e ∷ l) k))

    -- ---- what the entries are after a change
    IsGroup-insert_key : (ss : List StampValue) (u : StampValue) → IsStrictlySortedBy stamp_cmp ss → IsGroup (insert_key stamp_cmp ss u)
    IsGroup-insert_key ss u s = (sorted_insert_key stamp_cmp stamp_total ss u s, not_nil ss) where
      not_one : (r : Ordering) (a b : StampValue) (xs ys zs : List StampValue) → match_ordering r (a ∷ xs) (b ∷ ys) (b ∷ zs) ≢ []
      not_one Less a b xs ys zs = λ e. cc
      not_one Equal a b xs ys zs = λ e. cc
      not_one Greater a b xs ys zs = λ e. cc

      not_nil : (xs : List StampValue) → insert_key stamp_cmp xs u ≢ []
      not_nil [] = λ e. cc
      not_nil (x ∷ xs) = not_one (stamp_cmp u x) u x (x ∷ xs) xs (insert_key stamp_cmp xs u)

    sorted_value : (r : Option (List StampValue)) → IfSome r IsGroup → IsStrictlySortedBy stamp_cmp (unwrap_or r [])
    unfolding IsStrictlySortedBy
    sorted_value None i = tt
    sorted_value (Some ss) i = i.0

    pub inserted_table : (es fs : List (T × List StampValue)) (t : T) (u : StampValue) → IsTable cmp IsGroup es → fs ≡ insert_entry cmp es t (insert_key stamp_cmp (value_at cmp [] es t) u) → IsTable cmp IsGroup fs
    inserted_table es fs t u g e = subst (IsTable cmp IsGroup) (sym e)
        (well_formed_insert cmp o IsGroup es t _ g (IsGroup-insert_key _ u (sorted_value (lookup (is_at (cmp t)) es) (IfSome-lookup_from_All IsGroup (is_at (cmp t)) es g.1))))

    pub inserted_view : (es fs : List (T × List StampValue)) (self : List (T × StampValue)) (t : T) (u : StampValue) → pairs es ≡ self → IsTable cmp IsGroup es → fs ≡ insert_entry cmp es t (insert_key stamp_cmp (value_at cmp [] es t) u) → pairs fs ≡ insert_key (pair_cmp cmp) self (t, u)
    inserted_view es fs self t u v g e =
        ap (λ l. pairs l) e ∙ inserted_pairs es t u g (inserted_table es _ t u g refl) ∙ ap (λ l. insert_key (pair_cmp cmp) l (t, u)) v

    pub present_entries : (es fs : List (T × List StampValue)) (t : T) (ss w : List StampValue) (u : StampValue) → IsTable cmp IsGroup es → Some ss ≡ lookup (is_at (cmp t)) es → fs ≡ set_value (is_at (cmp t)) es w → w ≡ insert_key stamp_cmp ss u
        → fs ≡ insert_entry cmp es t (insert_key stamp_cmp (value_at cmp [] es t) u)
    present_entries es fs t ss w u g h e i =
        e ∙ set_value-insert cmp o es t ss w g.0 h ∙ ap (insert_entry cmp es t) (i ∙ ap (λ (x : Option (List StampValue)). insert_key stamp_cmp (unwrap_or x []) u) h)

    pub absent_entries : (es m fs : List (T × List StampValue)) (t : T) (w : List StampValue) (u : StampValue) → m ≡ es → None ≡ lookup (is_at (cmp t)) es → fs ≡ insert_entry cmp m t w → w ≡ u ∷ []
        → fs ≡ insert_entry cmp es t (insert_key stamp_cmp (value_at cmp [] es t) u)
    absent_entries es m fs t w u same h e i =
        e ∙ ap₂ (λ l (x : List StampValue). insert_entry cmp l t x) same (i ∙ ap (λ (x : Option (List StampValue)). insert_key stamp_cmp (unwrap_or x []) u) h)

    pub same_entries : (es fs : List (T × List StampValue)) (t : T) (ss w : List StampValue) → Some ss ≡ lookup (is_at (cmp t)) es → fs ≡ set_value (is_at (cmp t)) es w → w ≡ ss → fs ≡ es
    same_entries es fs t ss w h e i = unchanged_present cmp o es es fs t ss w refl h e i

    -- a pair that is not there
    absent_pair : (es : List (T × List StampValue)) (t : T) (u : StampValue) → IsTable cmp IsGroup es → None ≡ lookup (is_at (cmp t)) es → pairs es ≡ without (pair_cmp cmp) (pairs es) ((t, u) ∷ [])
    absent_pair es t u g h =
        let R = pair_cmp cmp in
        same_sets R (pair_total cmp o) (exact_pair cmp exact) _ _ (sorted_pairs es g) (sorted_without R (pair_total cmp o) (exact_pair cmp exact) (pairs es) ((t, u) ∷ []) (sorted_pairs es g)) (λ q.
        sym (has_without R (pair_total cmp o) (exact_pair cmp exact) q (pairs es) ((t, u) ∷ [])
        ∙ not_there (has R (pairs es) q) (is_eq (R q (t, u))) (λ i. ap (has R (pairs es)) (tells_apart (exact_pair cmp exact) q (t, u) i) ∙ has_pairs (t, u) es g.0 ∙ ap (λ r. holds r u) (sym h)))) where
          not_there : (a b : Bool) → (b ≡ true → a ≡ false) → (a && not (b || false)) ≡ a
          not_there true true f = sym (f refl)
          not_there true false f = refl
          not_there false b f = refl

    pub absent_view : (es fs : List (T × List StampValue)) (self : List (T × StampValue)) (t : T) (u : StampValue) → pairs es ≡ self → IsTable cmp IsGroup es → None ≡ lookup (is_at (cmp t)) es → fs ≡ es → pairs fs ≡ without (pair_cmp cmp) self ((t, u) ∷ [])
    absent_view es fs self t u v g h e = ap (λ l. pairs l) e ∙ absent_pair es t u g h ∙ ap (λ l. without (pair_cmp cmp) l ((t, u) ∷ [])) v

    -- others are left of the element's stamps
    IsGroup-others : (ss : List StampValue) (u : StampValue) → IsGroup ss → others u ss ≢ [] → IsGroup (others u ss)
    IsGroup-others ss u g n = (IsStrictlySortedBy-filter stamp_cmp (λ (tag : StampValue). not (is_eq (stamp_cmp tag u))) ss g.0, n)

    pub less_entries : (es fs : List (T × List StampValue)) (t : T) (ss w : List StampValue) (u : StampValue) → IsTable cmp IsGroup es → Some ss ≡ lookup (is_at (cmp t)) es → fs ≡ set_value (is_at (cmp t)) es w → w ≡ others u ss → fs ≡ insert_entry cmp es t (others u ss)
    less_entries es fs t ss w u g h e i = e ∙ set_value-insert cmp o es t ss w g.0 h ∙ ap (insert_entry cmp es t) i

    less_table : (es : List (T × List StampValue)) (t : T) (ss : List StampValue) (u : StampValue) → IsTable cmp IsGroup es → Some ss ≡ lookup (is_at (cmp t)) es → others u ss ≢ [] → IsTable cmp IsGroup (insert_entry cmp es t (others u ss))
    less_table es t ss u g h n = well_formed_insert cmp o IsGroup es t (others u ss) g (IsGroup-others ss u (value_well_formed_present cmp o IsGroup es t ss g h) n)

    pub removed_table : (es fs : List (T × List StampValue)) (t : T) (ss w : List StampValue) (u : StampValue) → IsTable cmp IsGroup es → Some ss ≡ lookup (is_at (cmp t)) es → fs ≡ set_value (is_at (cmp t)) es w → w ≡ others u ss → w ≢ [] → IsTable cmp IsGroup fs
    removed_table es fs t ss w u g h e i n = subst (IsTable cmp IsGroup) (sym (less_entries es fs t ss w u g h e i)) (less_table es t ss u g h (subst (λ (l : List StampValue). l ≢ []) i n))

    pub removed_view : (es fs : List (T × List StampValue)) (self : List (T × StampValue)) (t : T) (ss w : List StampValue) (u : StampValue) → pairs es ≡ self → IsTable cmp IsGroup es → Some ss ≡ lookup (is_at (cmp t)) es → fs ≡ set_value (is_at (cmp t)) es w → w ≡ others u ss → w ≢ []
        → pairs fs ≡ without (pair_cmp cmp) self ((t, u) ∷ [])
    removed_view es fs self t ss w u v g h e i n =
        ap (λ l. pairs l) (less_entries es fs t ss w u g h e i)
        ∙ dropped_pairs es t u ss g (sym h) (less_table es t ss u g h (subst (λ (l : List StampValue). l ≢ []) i n))
        ∙ ap (λ l. without (pair_cmp cmp) l ((t, u) ∷ [])) v

    -- none is left of the element's stamps
    gone_entries : (es m fs : List (T × List StampValue)) (t : T) (w : List StampValue) → m ≡ set_value (is_at (cmp t)) es w → fs ≡ remove_entry (is_at (cmp t)) m → fs ≡ remove_entry (is_at (cmp t)) es
    gone_entries es m fs t w e f = f ∙ ap (remove_entry (is_at (cmp t))) e ∙ remove_set es (is_at (cmp t)) w

    pub gone_table : (es m fs : List (T × List StampValue)) (t : T) (w : List StampValue) → IsTable cmp IsGroup es → m ≡ set_value (is_at (cmp t)) es w → fs ≡ remove_entry (is_at (cmp t)) m → IsStrictlySortedBy cmp (keys_of fs) → IsTable cmp IsGroup fs
    gone_table es m fs t w g e f s = (s, subst (λ (l : List (T × List StampValue)). All IsGroup (values_of l)) (sym (gone_entries es m fs t w e f)) (All-map-remove_entry (is_at (cmp t)) (λ (x : T × List StampValue). x.1) IsGroup es g.1))

    pub gone_view : (es m fs : List (T × List StampValue)) (self : List (T × StampValue)) (t : T) (ss w : List StampValue) (u : StampValue) → pairs es ≡ self → IsTable cmp IsGroup es → Some ss ≡ lookup (is_at (cmp t)) es → m ≡ set_value (is_at (cmp t)) es w → w ≡ others u ss → w ≡ []
        → fs ≡ remove_entry (is_at (cmp t)) m → IsStrictlySortedBy cmp (keys_of fs) → pairs fs ≡ without (pair_cmp cmp) self ((t, u) ∷ [])
    gone_view es m fs self t ss w u v g h e i n f s =
        dropped_group es fs t u ss g (sym h) (sym i ∙ n) (gone_entries es m fs t w e f) (gone_table es m fs t w g e f s)
        ∙ ap (λ l. without (pair_cmp cmp) l ((t, u) ∷ [])) v

    -- ---- what readers find
    pub contains_pair : (es : List (T × List StampValue)) (self : List (T × StampValue)) (q : T × StampValue) (r : Bool) → pairs es ≡ self → IsTable cmp IsGroup es → r ≡ holds (lookup (is_at (cmp q.0)) es) q.1 → (r ≡ true) ↔ Has self q
    contains_pair es self q r v g e =
        let R = pair_cmp cmp in
        let k : has R self q ≡ r = ap (λ l. has R l q) (sym v) ∙ has_pairs q es g.0 ∙ sym e in
        (λ i. member R (pair_total cmp o) (exact_pair cmp exact) q self (k ∙ i), λ i. sym k ∙ has_member R (pair_total cmp o) (exact_pair cmp exact) q self i)

    some_holds : (r : Option (List StampValue)) → IfSome r IsGroup → is_some r ≡ true → (s : StampValue) × (holds r s ≡ true)
    some_holds None i e = cc
    some_holds (Some []) i e = absurd (i.1 refl)
    some_holds (Some (s ∷ ss)) i e = (s, ap (λ x. is_eq x || list_any (eq_by_cmp stamp_cmp s) ss) (tied_itself stamp_total s))

    holds_some : (r : Option (List StampValue)) (s : StampValue) → holds r s ≡ true → is_some r ≡ true
    holds_some None s e = cc
    holds_some (Some ss) s e = refl

    pub has_element : (es : List (T × List StampValue)) (self : List (T × StampValue)) (t : T) (r : Bool) → pairs es ≡ self → IsTable cmp IsGroup es → r ≡ is_some (lookup (is_at (cmp t)) es) → (r ≡ true) ↔ IsElement self t
    has_element es self t r v g e = (
      λ i.
          let f = some_holds (lookup (is_at (cmp t)) es) (IfSome-lookup_from_All IsGroup (is_at (cmp t)) es g.1) (sym e ∙ i) in
          (f.0, (contains_pair es self (t, f.0) _ v g refl).0 f.1),
      λ i. e ∙ holds_some (lookup (is_at (cmp t)) es) i.0 ((contains_pair es self (t, i.0) _ v g refl).1 i.1),
    )

    -- the elements, as the keys of the entries
    pub has_key : (es : List (T × List StampValue)) (self : List (T × StampValue)) (ks : List T) (t : T) → pairs es ≡ self → IsTable cmp IsGroup es → is_some (lookup (is_at (cmp t)) es) ≡ list_any (eq_by_cmp cmp t) ks → Has ks t ↔ IsElement self t
    has_key es self ks t v g e = (
      λ i. (has_element es self t _ v g refl).0 (e ∙ any_from (eq_by_cmp cmp t) ks t i (ap is_eq (tied_itself o t))),
      λ i.
          let f = found (eq_by_cmp cmp t) ks (sym e ∙ (has_element es self t _ v g refl).1 i) in
          subst (Has ks) (sym (tells_apart exact t f.0 f.2)) f.1,
    )

module _ {T : Type 0} (cmp : T → T → Ordering) where
  first_pair : (e : T × List StampValue) (es : List (T × List StampValue)) → IsGroup e.1 → pairs (e ∷ es) ≢ []
  first_pair (t, []) es g = absurd (g.1 refl)
  first_pair (t, (s ∷ ss)) es g = λ e. cc

  -- no pair is there exactly where no element is
  pub empty_pairs : (es : List (T × List StampValue)) (self : List (T × StampValue)) (r : Bool) → pairs es ≡ self → IsTable cmp IsGroup es → ((r ≡ true) ↔ (length es ≡ 0)) → (r ≡ true) ↔ (self ≡ [])
  empty_pairs [] self r v g e = (λ _. sym v, λ _. e.1 refl)
  empty_pairs (x ∷ es) self r v g e = (λ i. absurd (omega (arith, e.0 i)), λ i. absurd (first_pair x es (All-head IsGroup x.1 (values_of es) g.1) (v ∙ i)))

module _ {T : Type 0} where
  pub groups_rest : (es fs : List (T × List StampValue)) (e : T × List StampValue) → es ≡ e ∷ fs → All IsGroup (values_of es) → All IsGroup (values_of fs)
  groups_rest es fs e h g = All-tail IsGroup e.1 (values_of fs) (subst (λ (l : List (T × List StampValue)). All IsGroup (values_of l)) h g)
