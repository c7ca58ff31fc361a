-- What is retired once a range is added and once two tables of retirements join, and that what is known of them is kept.
use Rattle.std.specs.Prelude.{◌&&◌, map}
use Rattle.std.specs.List.{range_with_len}
use Rattle.std.specs.BTreeMap.{is_at}
use Rattle.std.specs.Map.{lookup}
use Rattle.std.specs.Ordering.{nat_cmp, is_eq}
use Rattle.std.specs.Cmp.{nat_cmp_total}
use Rattle.std.proofs.Common.{◌≡◌, ◌≢◌, ℕ, ◌≤◌, ◌<◌, List, [], ◌∷◌, length, Bool, true, false, ◌||◌, cond, max, set, slice_index, get_or-set_same, length-set, Option, Some, None, is_some, IfSome, unwrap_or, refl, sym, ap, subst, ◌∙◌, inl, inr, arith}
use Rattle.std.proofs.lemmas.Bool.{both_ways, cases_Bool, cases_eq, eq-eqb, ne_eqb, leb-true, le-leb, or_right}
use Rattle.std.proofs.lemmas.Cmp.{tied_itself}
use Rattle.std.proofs.lemmas.List.{ext_get_or, get_or-set_other}
use Rattle.std.proofs.lemmas.List.FromFn.{get_or-map-range_with_len, length-map-range_with_len}
use Rattle.std.proofs.lemmas.Map.Lookups.{exact_unsigned}
use Rattle.std.proofs.lemmas.Option.{IfSome_then}
use Rattle.std.proofs.lemmas.Map.Views.{tells_apart}
use Rattle.std.proofs.Math.Bool.{or_comm, or-false}
use Rattle.fed_stamp.specs.Stamp.{StampValue}
use Rattle.fed_stamp.specs.Version.{counter_of, covers, joined, raised, is_below}
use Rattle.fed_stamp.proofs.VersionLaws.{counter_of_joined, each_from_below, below_joined_left}
use Rattle.fed_lattice.specs.Table.{IsAtEach, joined_tables, applied_table}
use Rattle.fed_lattice.specs.JoinedEntries.{joined_entries}
use Rattle.fed_lattice.proofs.TableValues.{value_at-insert_entry, value_at-joined_tables, each_insert_entry, each_joined_tables}
use Rattle.fed_lattice.proofs.EntryValues.{value_at-joined_entries, each_joined_entries}
use Rattle.fed_model.specs.Body.{Body.Retire}
use Rattle.fed_model.specs.Retired.{retires, is_within}
use Rattle.fed_theory.proofs.VersionGrowth.{below_raised}
use Rattle.fed_ranges.specs.declared.ranges.Range.{Range}
use Rattle.fed_ranges.specs.Ranges.{is_in, has, AreApart, added}
use Rattle.fed_ranges.specs.Ranges.{joined as joined_ranges}
use Rattle.fed_ranges.specs.RangeLaws.{added_apart, added_has, joined_has}
use Rattle.fed_ranges.specs.Retirements.{RetirementsValue, no_retirements, applied_retirements, joined_retirements, EndBefore}
use Rattle.fed_ranges.specs.Retired.{RetiredValue, retired_at, has_retired, latest_retires}
use Rattle.fed_board.specs.Board.{AreKnownRetirements}
use Rattle.fed_board.proofs.RangeSteps.{from_zero, joined_from, with_range_is, ends_later, ends_added, ends_joined, has_before, some_added, some_joined, some_joined_right}

-- the tables that come about
abbrev pub tables_joined : RetiredValue → RetiredValue → List ℕ → List ℕ → RetiredValue
tables_joined r s v w = joined_tables nat_cmp no_retirements joined_retirements r v s w

abbrev pub entries_joined : RetiredValue → RetiredValue → List ℕ → List ℕ → RetiredValue
entries_joined r s v w = joined_entries nat_cmp no_retirements joined_retirements r v s w

abbrev pub range_added : RetiredValue → StampValue → Range → RetiredValue
range_added r at range = applied_table nat_cmp no_retirements applied_retirements r at (at.site, range)

-- each site's ranges stay apart, from 1 on
abbrev pub AreAllApart : RetiredValue → Type 0
AreAllApart r = (site : ℕ) → AreApart 1 (retired_at r site).ranges

pub all_apart : (v : List ℕ) (r : RetiredValue) → IsAtEach nat_cmp (AreKnownRetirements v) r → AreAllApart r
all_apart v r k site = go (lookup (is_at (nat_cmp site)) r) (k site)
  where
    go : (a : Option RetirementsValue) → IfSome a (AreKnownRetirements v site) → AreApart 1 (unwrap_or a no_retirements).ranges
    go None p = tt
    go (Some x) p = p.apart

-- ---- what each site has
joined_with_none : (a : Option RetirementsValue) (x : RetirementsValue) (v w : List ℕ) → cond (is_some a) (joined_retirements x v (unwrap_or a no_retirements) w) x ≡ joined_retirements x v (unwrap_or a no_retirements) w
joined_with_none None x v w = let e : x.latest ≡ max x.latest 0 = omega arith in λ i. record { latest = e i; ranges = x.ranges }
joined_with_none (Some y) x v w = refl

module _ (r s : RetiredValue) (v w : List ℕ) where
  pub at_tables : (site : ℕ) → retired_at (tables_joined r s v w) site ≡ joined_retirements (retired_at r site) v (retired_at s site) w
  at_tables site = value_at-joined_tables nat_cmp nat_cmp_total exact_unsigned no_retirements joined_retirements (λ v w. refl) site r s v w

  pub at_entries : (site : ℕ) → retired_at (entries_joined r s v w) site ≡ joined_retirements (retired_at r site) v (retired_at s site) w
  at_entries site =
      value_at-joined_entries nat_cmp nat_cmp_total exact_unsigned no_retirements joined_retirements r s v w site
      ∙ joined_with_none (lookup (is_at (nat_cmp site)) s) (retired_at r site) v w

-- ---- two tables joined, where each site has what it has in both
abbrev pub AreJoined : RetiredValue → RetiredValue → List ℕ → List ℕ → RetiredValue → Type 0
AreJoined r s v w t = (site : ℕ) → retired_at t site ≡ joined_retirements (retired_at r site) v (retired_at s site) w

joined_maps : (f g : ℕ → ℕ) (xs : List ℕ) → joined (map f xs) (map g xs) ≡ map (λ k. max (f k) (g k)) xs
unfolding joined
joined_maps f g [] = refl
joined_maps f g (x ∷ xs) = ap (λ l. max (f x) (g x) ∷ l) (joined_maps f g xs)

module _ (r s : RetiredValue) (v w : List ℕ) (t : RetiredValue) (at : AreJoined r s v w t) where
  pub has_joined : AreAllApart r → AreAllApart s → (id : StampValue) → has_retired t id ≡ (has_retired r id || has_retired s id)
  has_joined p q id =
      ap (λ (x : RetirementsValue). has x.ranges id.counter) (at id.site)
      ∙ joined_has (retired_at r id.site).ranges (retired_at s id.site).ranges 0 id.counter (from_zero (retired_at r id.site).ranges (p id.site)) (from_zero (retired_at s id.site).ranges (q id.site))

  pub apart_joined : AreAllApart r → AreAllApart s → AreAllApart t
  apart_joined p q site =
      subst (λ (x : RetirementsValue). AreApart 1 x.ranges) (sym (at site))
      (joined_from (retired_at r site).ranges (retired_at s site).ranges 1 1 (p site) (q site) (omega arith))

  pub latest_joined : latest_retires t ≡ joined (latest_retires r) (latest_retires s)
  unfolding latest_retires
  latest_joined =
      (λ i. map (λ site. (at site i).latest) (range_with_len 0 16))
      ∙ sym (joined_maps (λ site. (retired_at r site).latest) (λ site. (retired_at s site).latest) (range_with_len 0 16))

-- ---- one range more
raised_map : (f g : ℕ → ℕ) (n i c : ℕ) → i < n → ((j : ℕ) → j ≢ i → g j ≡ f j) → g i ≡ max (f i) c
    → map g (range_with_len 0 n) ≡ set (map f (range_with_len 0 n)) i (max (slice_index (map f (range_with_len 0 n)) i) c)
raised_map f g n i c small others own =
    let xs : List ℕ = map f (range_with_len 0 n) in
    let ys : List ℕ = map g (range_with_len 0 n) in
    let m : ℕ = max (slice_index xs i) c in
    let a : length xs ≡ n = length-map-range_with_len f 0 n in
    let b : length ys ≡ n = length-map-range_with_len g 0 n in
    let d : length (set xs i m) ≡ n = length-set xs i m ∙ a in
    let here : slice_index xs i ≡ f i = get_or-map-range_with_len f 0 n i i 0 small (omega arith) in
    ext_get_or 0 ys (set xs i m) (b ∙ sym d) (λ j k.
    let less : j < n = omega arith in
    get_or-map-range_with_len g 0 n j j 0 less (omega arith)
    ∙ elim (cases_eq j i) [
      | inl e ↦ ap g e ∙ own ∙ ap (λ x. max x c) (sym here) ∙ sym (get_or-set_same xs i m 0 (omega arith)) ∙ ap (λ x. slice_index (set xs i m) x) (sym e)
      | inr other ↦ others j other ∙ sym (get_or-set_other xs i j m 0 other ∙ get_or-map-range_with_len f 0 n j j 0 less (omega arith))
    ])

module _ (r : RetiredValue) (at : StampValue) (range : Range) where
  at_added : (site : ℕ) → retired_at (range_added r at range) site ≡ cond (is_eq (nat_cmp site at.site)) (applied_retirements (retired_at r at.site) at range) (retired_at r site)
  at_added site = value_at-insert_entry nat_cmp nat_cmp_total exact_unsigned no_retirements site at.site (applied_retirements (retired_at r at.site) at range) r

  at_own : retired_at (range_added r at range) at.site ≡ applied_retirements (retired_at r at.site) at range
  at_own = at_added at.site ∙ ap (λ o. cond (is_eq o) (applied_retirements (retired_at r at.site) at range) (retired_at r at.site)) (tied_itself nat_cmp_total at.site)

  at_other : (site : ℕ) → site ≢ at.site → retired_at (range_added r at range) site ≡ retired_at r site
  at_other site other = at_added site ∙ go (is_eq (nat_cmp site at.site)) refl
    where
      go : (b : Bool) → is_eq (nat_cmp site at.site) ≡ b → cond b (applied_retirements (retired_at r at.site) at range) (retired_at r site) ≡ retired_at r site
      go true e = absurd (other (tells_apart exact_unsigned site at.site e))
      go false e = refl

  pub latest_added : at.site < 16 → latest_retires (range_added r at range) ≡ raised (latest_retires r) at
  unfolding latest_retires
  latest_added small =
      raised_map (λ site. (retired_at r site).latest) (λ site. (retired_at (range_added r at range) site).latest) 16 at.site at.counter small
      (λ j other. ap (λ (x : RetirementsValue). x.latest) (at_other j other)) (ap (λ (x : RetirementsValue). x.latest) at_own)

  pub has_added : range.first ≤ range.last → AreAllApart r → (id : StampValue) → has_retired (range_added r at range) id ≡ (has_retired r id || retires id (at, Retire range.first range.last))
  has_added some p id = elim (cases_eq id.site at.site) [
    | inl e ↦ (
        let rs : List Range = (retired_at r at.site).ranges in
        let before : has_retired r id ≡ has rs id.counter = ap (λ n. has (retired_at r n).ranges id.counter) e in
        ap (λ n. has (retired_at (range_added r at range) n).ranges id.counter) e
        ∙ ap (λ (x : RetirementsValue). has x.ranges id.counter) at_own
        ∙ ap (λ l. has l id.counter) (with_range_is range rs some)
        ∙ added_has 1 range rs id.counter some (p at.site)
        ∙ or_comm (is_in range id.counter) (has rs id.counter)
        ∙ ap (λ b. b || is_in range id.counter) (sym before)
        ∙ ap (λ b. has_retired r id || (b && is_within range.first range.last id.counter)) (sym (eq-eqb at.site id.site (sym e))))
    | inr other ↦ (
        ap (λ (x : RetirementsValue). has x.ranges id.counter) (at_other id.site other)
        ∙ sym (or-false (has_retired r id))
        ∙ ap (λ b. has_retired r id || (b && is_within range.first range.last id.counter)) (sym (ne_eqb at.site id.site (λ e. other (sym e)))))
  ]

-- ---- what is known of retirements is kept
pub later_retirements : (v w : List ℕ) (site : ℕ) (x : RetirementsValue) → is_below v w ≡ true → AreKnownRetirements v site x → AreKnownRetirements w site x
later_retirements v w site x below k = record {
  placed = k.placed;
  covered = let a : counter_of v site ≤ counter_of w site = each_from_below v w below site in let b = k.covered in omega arith;
  apart = k.apart;
  before = k.before;
  some = k.some;
}

both_known : (v w : List ℕ) (site : ℕ) (x y : RetirementsValue) → site < 16 → x.latest ≤ counter_of v site → y.latest ≤ counter_of w site → AreApart 1 x.ranges → AreApart 1 y.ranges
    → EndBefore x.latest x.ranges → EndBefore y.latest y.ranges → joined_ranges x.ranges y.ranges ≢ [] → AreKnownRetirements (joined v w) site (joined_retirements x v y w)
both_known v w site x y small left right apart others ends end some = record {
  placed = small;
  covered = let e : counter_of (joined v w) site ≡ max (counter_of v site) (counter_of w site) = counter_of_joined v w site in omega arith;
  apart = joined_from x.ranges y.ranges 1 1 apart others (omega arith);
  before = ends_joined x.ranges y.ranges (max x.latest y.latest) (ends_later x.ranges x.latest (max x.latest y.latest) (omega arith) ends) (ends_later y.ranges y.latest (max x.latest y.latest) (omega arith) end);
  some = some;
}

pub joined_known_retirements : (v w : List ℕ) (site : ℕ) (x y : Option RetirementsValue) → IfSome x (AreKnownRetirements v site) → IfSome y (AreKnownRetirements w site) → (is_some x || is_some y) ≡ true
    → AreKnownRetirements (joined v w) site (joined_retirements (unwrap_or x no_retirements) v (unwrap_or y no_retirements) w)
joined_known_retirements v w site None None p q e = cc
joined_known_retirements v w site None (Some y) p q e =
    both_known v w site no_retirements y q.placed (omega arith) q.covered tt q.apart tt q.before (some_joined_right [] y.ranges q.some)
joined_known_retirements v w site (Some x) None p q e =
    both_known v w site x no_retirements p.placed p.covered (omega arith) p.apart tt p.before tt p.some
joined_known_retirements v w site (Some x) (Some y) p q e =
    both_known v w site x y p.placed p.covered q.covered p.apart q.apart p.before q.before (some_joined x.ranges y.ranges p.some)

module _ (v w : List ℕ) (r s : RetiredValue) (p : IsAtEach nat_cmp (AreKnownRetirements v) r) (q : IsAtEach nat_cmp (AreKnownRetirements w) s) where
  pub known_tables : IsAtEach nat_cmp (AreKnownRetirements (joined v w)) (tables_joined r s v w)
  known_tables = each_joined_tables nat_cmp nat_cmp_total exact_unsigned no_retirements joined_retirements (AreKnownRetirements (joined v w)) r s v w
      (λ k. joined_known_retirements v w k (lookup (is_at (nat_cmp k)) r) (lookup (is_at (nat_cmp k)) s) (p k) (q k))

  pub known_entries : IsAtEach nat_cmp (AreKnownRetirements (joined v w)) (entries_joined r s v w)
  known_entries = each_joined_entries nat_cmp nat_cmp_total exact_unsigned no_retirements joined_retirements r s v w (AreKnownRetirements (joined v w))
      (λ k e. joined_known_retirements v w k (lookup (is_at (nat_cmp k)) r) (lookup (is_at (nat_cmp k)) s) (p k) (q k) (or_right _ _ e))
      (λ k. IfSome_then _ (p k) (λ x. later_retirements v (joined v w) k x (below_joined_left v w)))

module _ (v : List ℕ) (at : StampValue) (range : Range) (small : at.site < 16) (seen : covers (raised v at) at ≡ true) (low : 1 ≤ range.first) (some : range.first ≤ range.last) (given : range.last < at.counter) where
  added_from : (x : RetirementsValue) → x.latest ≤ counter_of v at.site → AreApart 1 x.ranges → EndBefore x.latest x.ranges → AreKnownRetirements (raised v at) at.site (applied_retirements x at range)
  added_from x was apart ends =
      let rs : List Range = x.ranges in
      let most : ℕ = max x.latest at.counter in
      let own : at.counter ≤ counter_of (raised v at) at.site = leb-true at.counter (counter_of (raised v at) at.site) seen in
      let more : counter_of v at.site ≤ counter_of (raised v at) at.site = each_from_below v (raised v at) (below_raised v at) at.site in
      let is : (applied_retirements x at range).ranges ≡ added range rs = with_range_is range rs some in record {
        placed = small;
        covered = omega arith;
        apart = subst (AreApart 1) (sym is) (added_apart 1 range rs low some apart);
        before = subst (EndBefore most) (sym is) (ends_added range rs most (omega arith) (ends_later rs x.latest most (omega arith) ends));
        some = subst (λ l. l ≢ []) (sym is) (some_added range rs);
      }

  added_known : (a : Option RetirementsValue) → IfSome a (AreKnownRetirements v at.site) → AreKnownRetirements (raised v at) at.site (applied_retirements (unwrap_or a no_retirements) at range)
  added_known None k = added_from no_retirements (omega arith) tt tt
  added_known (Some x) k = added_from x k.covered k.apart k.before

  pub known_added : (r : RetiredValue) → IsAtEach nat_cmp (AreKnownRetirements v) r → IsAtEach nat_cmp (AreKnownRetirements (raised v at)) (range_added r at range)
  known_added r k = each_insert_entry nat_cmp nat_cmp_total exact_unsigned (AreKnownRetirements (raised v at)) r at.site (applied_retirements (retired_at r at.site) at range)
      (λ n. IfSome_then _ (k n) (λ x. later_retirements v (raised v at) n x (below_raised v at))) (added_known (lookup (is_at (nat_cmp at.site)) r) (k at.site))

-- ---- a stamp that is not covered is not retired
pub fresh_kept : (v : List ℕ) (r : RetiredValue) → IsAtEach nat_cmp (AreKnownRetirements v) r → (at : StampValue) → covers v at ≡ false → has_retired r at ≡ false
fresh_kept v r k at fresh = elim (cases_Bool (has_retired r at)) [
  | inr f ↦ f
  | inl t ↦ absurd (both_ways (covers v at) fresh (covered (lookup (is_at (nat_cmp at.site)) r) (k at.site) t))
]
  where
    covered : (a : Option RetirementsValue) → IfSome a (AreKnownRetirements v at.site) → has (unwrap_or a no_retirements).ranges at.counter ≡ true → covers v at ≡ true
    covered None h t = cc
    covered (Some x) h t =
        let less : at.counter < x.latest = has_before x.ranges at.counter x.latest t h.before in
        let most = h.covered in
        le-leb at.counter (counter_of v at.site) (omega arith)
