-- What a board tells of what is retired is within limits, where the board stands for a set within limits.
use Rattle.std.specs.Prelude.{count_by, IfSome}
use Rattle.std.specs.BTreeMap.{is_at}
use Rattle.std.specs.Cmp.{IsTotalOrder, nat_cmp_total, ranked}
use Rattle.std.specs.List.{AllByRecursion, list_all, range_with_len}
use Rattle.std.specs.List.Sorted.{IsStrictlySortedBy}
use Rattle.std.specs.Map.{keys_of, lookup}
use Rattle.std.specs.Ordering.{nat_cmp}
use Rattle.std.specs.declared.cmp.Ordering.TheVariants.{Less}
use Rattle.std.proofs.Common.{◌≡◌, ◌≢◌, ◌==◌, ◌≤◌, ◌<◌, ◌&&◌, ℕ, suc, length, List, [], ◌∷◌, ◌++◌, Bool, true, false, not, leb, Ordering, Option, Some, None, unwrap_or, refl, sym, ap, ap₂, subst, ◌∙◌, arith, append_assoc}
use Rattle.std.proofs.lemmas.Bool.{and_parts, and_from, eqb-true, le-leb, lt-ltb}
use Rattle.std.proofs.lemmas.Cmp.{eq_by_cmp_equiv}
use Rattle.std.proofs.lemmas.List.Elements.{All-weaker, All-contains_itself, recursion_from_All}
use Rattle.std.proofs.lemmas.List.{map-append}
use Rattle.std.proofs.lemmas.Map.Keys.{IsDistinct-from_sorted}
use Rattle.std.proofs.lemmas.Map.Views.{lookup-from_Contains}
use Rattle.fed_stamp.specs.Stamp.{StampValue}
use Rattle.fed_stamp.specs.Version.{counter_of, greatest, IsVersion}
use Rattle.fed_stamp.specs.declared.stamps.TheConstants.{MAX_COUNTER}
use Rattle.fed_stamp.proofs.VersionLaws.{greatest_bound, covered_counter_le_greatest}
use Rattle.fed_lattice.specs.History.{History}
use Rattle.fed_lattice.specs.Latest.{stamp_cmp}
use Rattle.fed_lattice.specs.LatestLaws.{stamp_total}
use Rattle.fed_lattice.specs.VersionOf.{version_of}
use Rattle.fed_ranges.specs.declared.ranges.Range.{Range}
use Rattle.fed_ranges.specs.Ranges.{has, AreApart, EndBy, starts_after}
use Rattle.fed_ranges.specs.Retired.{RetiredValue, has_retired}
use Rattle.fed_ranges.specs.Retirements.{RetirementsValue, no_retirements, EndBefore}
use Rattle.fed_ranges.proofs.RangeCounts.{counted_ranges, end_same}
use Rattle.fed_model.specs.declared.capacities.TheConstants.{MAX_RANGES}
use Rattle.fed_model.specs.Body.{Body}
use Rattle.fed_model.specs.Limits.{IsWithinLimits}
use Rattle.fed_model.specs.Origin.{ranges_of}
use Rattle.fed_model.specs.Retired.{is_retired, starts}
use Rattle.fed_model.specs.View.{View, view}
use Rattle.fed_theory.specs.Cut.{cut, is_changed_site}
use Rattle.fed_board.specs.Board.{BoardValue, IsBoard, AreKnownRetirements, board_reads}
use Rattle.fed_parts_json.specs.Retirements.{RetiredSite, AreRetirements}
use Rattle.fed_wire.specs.Packet.{last_of, is_above, keeps, site_stands, AllStand}

-- ---- entries

each_by : {K X : Type 0} (cmp : K → K → Ordering) → IsTotalOrder cmp → (es : List (K × X)) → IsStrictlySortedBy cmp (keys_of es) → AllByRecursion (λ (e : K × X). lookup (is_at (cmp e.0)) es ≡ Some e.1) es
each_by {K} {X} cmp total es s = recursion_from_All _ es (All-weaker _ (λ (e : K × X). lookup (is_at (cmp e.0)) es ≡ Some e.1)
    (λ e h. lookup-from_Contains (eq_by_cmp_equiv total) e.0 e.1 es (IsDistinct-from_sorted cmp (keys_of es) s) h) es (All-contains_itself es))

pub each_entry : {X : Type 0} (es : List (StampValue × X)) → IsStrictlySortedBy stamp_cmp (keys_of es) → AllByRecursion (λ (e : StampValue × X). lookup (is_at (stamp_cmp e.0)) es ≡ Some e.1) es
each_entry es s = each_by stamp_cmp stamp_total es s

pub weaker : {X : Type 0} (P Q : X → Type 0) (xs : List X) → ((x : X) → P x → Q x) → AllByRecursion P xs → AllByRecursion Q xs
weaker P Q [] f h = tt
weaker P Q (x ∷ xs) f h = (f x h.0, weaker P Q xs f h.1)

pub known_at : {X : Type 0} (P : X → Type 0) (a : Option X) (x : X) → a ≡ Some x → IfSome a P → P x
known_at P (Some y) x same h = let e : y ≡ x = cc in subst P e h
known_at P None x same h = cc

-- ---- sites that ascend may stand one after another

above_last : (ks : List ℕ) (site : ℕ) (rest : List ℕ) → IsStrictlySortedBy nat_cmp (ks ++ site ∷ rest) → is_above (last_of ks) site ≡ true
unfolding IsStrictlySortedBy
above_last [] site rest s = refl
above_last (k ∷ []) site rest s = lt-ltb k site (ranked k site Less (sym s.0.0))
above_last (k ∷ l ∷ ks) site rest s = above_last (l ∷ ks) site rest s.1

sites_stand : (fits : RetiredSite → Bool) (stands : List RetiredSite → RetiredSite → Bool)
    → ((before : RetiredValue) (r : RetiredSite) → is_above (last_of (keys_of before)) r.0 ≡ true → fits r ≡ true → stands before r ≡ true)
    → (before rs : RetiredValue) → IsStrictlySortedBy nat_cmp (keys_of (before ++ rs)) → AllByRecursion (λ r. fits r ≡ true) rs → AllStand stands before rs
sites_stand fits stands both before [] s h = tt
sites_stand fits stands both before (r ∷ rs) s h =
    let split : keys_of (before ++ r ∷ rs) ≡ keys_of before ++ r.0 ∷ keys_of rs = map-append _ before (r ∷ rs) in
    let more : before ++ r ∷ rs ≡ (before ++ r ∷ []) ++ rs = sym (append_assoc before (r ∷ []) rs) in (
      both before r (above_last (keys_of before) r.0 (keys_of rs) (subst (IsStrictlySortedBy nat_cmp) split s)) h.0,
      sites_stand fits stands both (before ++ r ∷ []) rs (subst (λ (l : RetiredValue). IsStrictlySortedBy nat_cmp (keys_of l)) more s) h.1,
    )

-- ---- ranges

-- in the first range is a number
some_number : (rs : List Range) → rs ≢ [] → AreApart 1 rs → (n : ℕ) × (has rs n ≡ true)
some_number [] some apart = absurd (some refl)
some_number (r ∷ rs) some apart =
    let a : leb r.first r.first ≡ true = le-leb r.first r.first (omega arith) in
    let b : leb r.first r.last ≡ true = le-leb r.first r.last apart.1 in
    (r.first, rw (a, b) refl)

end_later : (latest most : ℕ) (rs : List Range) → latest ≤ most → EndBefore latest rs → EndBy (suc most) rs
end_later latest most [] less h = tt
end_later latest most (r ∷ rs) less h = ((let l : r.last < latest = h.0 in omega arith), end_later latest most rs less h.1)

one_at_least : {A : Type 0} (xs : List A) → xs ≢ [] → 1 ≤ length xs
one_at_least [] some = absurd (some refl)
one_at_least (x ∷ xs) some = omega arith

some_before : (latest : ℕ) (rs : List Range) → rs ≢ [] → EndBefore latest rs → 1 ≤ latest
some_before latest [] some h = absurd (some refl)
some_before latest (r ∷ rs) some h = let l : r.last < latest = h.0 in omega arith

small_counter : (v : List ℕ) (site : ℕ) → IsVersion v → counter_of v site ≤ MAX_COUNTER
small_counter v site h =
    let n = counter_of v site in
    let less : n ≤ greatest v = covered_counter_le_greatest v (record { counter = n; site = site }) (le-leb n n (omega arith)) in
    let small : greatest v ≤ MAX_COUNTER = greatest_bound v MAX_COUNTER h.1 in
    omega arith

-- ---- what a cut tells of what is retired
cut_retired : (v : View) (need : List ℕ) (id : StampValue) → (cut v need).retired id ≡ (is_changed_site need v.retirements id.site && v.retired id)
unfolding cut
cut_retired v need id = refl

module _ (ops : History Body) (within : IsWithinLimits ops) (need : List ℕ) (b : BoardValue) (told : board_reads b ≡ cut (view ops) need) (reached : b.version ≡ version_of ops)
    (board : IsBoard b) (version : IsVersion b.version) where
  abbrev Found : RetiredSite → Type 0
  Found r = lookup (is_at (nat_cmp r.0)) b.retired ≡ Some r.1

  known : (r : RetiredSite) → Found r → AreKnownRetirements b.version r.0 r.1
  known r f = known_at (AreKnownRetirements b.version r.0) _ r.1 f (board.retired r.0)

  abbrev at : ℕ → ℕ → StampValue
  at site n = record { counter = n; site = site }

  reads : (r : RetiredSite) → Found r → (n : ℕ) → has_retired b.retired (at r.0 n) ≡ has r.1.ranges n
  reads r f n = ap (λ (o : Option RetirementsValue). has (unwrap_or o no_retirements).ranges n) f

  told_at : (id : StampValue) → has_retired b.retired id ≡ (is_changed_site need (view ops).retirements id.site && is_retired ops id)
  told_at id = ap (λ (v : View). v.retired id) told ∙ cut_retired (view ops) need id

  changed : (r : RetiredSite) → Found r → is_changed_site need (view ops).retirements r.0 ≡ true
  changed r f =
      let k = known r f in
      let n = some_number r.1.ranges k.some k.apart in
      (and_parts (is_changed_site need (view ops).retirements r.0) _ (sym (told_at (at r.0 n.0)) ∙ reads r f n.0 ∙ n.1)).0

  -- so all its ranges are told
  same : (r : RetiredSite) → Found r → (n : ℕ) → is_retired ops (at r.0 n) ≡ has r.1.ranges n
  same r f n = sym (ap (λ c. c && is_retired ops (at r.0 n)) (changed r f)) ∙ sym (told_at (at r.0 n)) ∙ reads r f n

  same_starts : (r : RetiredSite) → Found r → (n : ℕ) → starts (is_retired ops) (at r.0 n) ≡ starts_after r.1.ranges n
  same_starts r f n = ap₂ (λ x y. not x && y) (same r f n) (same r f (suc n))

  few : (r : RetiredSite) → Found r → length r.1.ranges ≤ MAX_RANGES
  few r f =
      let k = known r f in
      let most : ℕ = suc (counter_of b.version r.0) in
      let ends : EndBy most r.1.ranges = end_later r.1.latest (counter_of b.version r.0) r.1.ranges k.covered k.before in
      let counted : count_by (starts_after r.1.ranges) (range_with_len 0 most) ≡ length r.1.ranges = counted_ranges r.1.ranges most 0 k.apart (end_same r.1.ranges most _ (omega arith) ends) in
      let all : count_by (λ n. starts (is_retired ops) (at r.0 n)) (range_with_len 0 most) ≡ count_by (starts_after r.1.ranges) (range_with_len 0 most) = λ i. count_by (λ n. same_starts r f n i) (range_with_len 0 most) in
      let those : ranges_of (view ops) r.0 ≡ count_by (λ n. starts (is_retired ops) (at r.0 n)) (range_with_len 0 most) = ap (λ v. count_by (λ n. starts (is_retired ops) (at r.0 n)) (range_with_len 0 (suc (counter_of v r.0)))) (sym reached) in
      let limit : ranges_of (view ops) r.0 ≤ MAX_RANGES = within.ranges r.0 in
      subst (λ n. n ≤ MAX_RANGES) (those ∙ all ∙ counted) limit

  ranged : (r : RetiredSite) → Found r → AreRetirements r
  ranged r f =
      let k = known r f in
      let placed : r.0 < 16 = k.placed in
      let covered : r.1.latest ≤ counter_of b.version r.0 = k.covered in
      let small = small_counter b.version r.0 version in
      record {
        site = (omega arith, omega arith);
        counter = (some_before r.1.latest r.1.ranges k.some k.before, omega arith);
        least = one_at_least r.1.ranges k.some;
        most = few r f;
        apart = k.apart;
        before = k.before;
      }

  -- it has retired none of the others
  keeps_one : (r : RetiredSite) → Found r → (id : StampValue) → has_retired b.retired id ≡ false → keeps r id ≡ true
  keeps_one r f id h = go (id.site == r.0) refl
    where
      go : (c : Bool) → (id.site == r.0) ≡ c → not (c && has r.1.ranges id.counter) ≡ true
      go false e = refl
      go true e =
          let there : has_retired b.retired id ≡ has_retired b.retired (at r.0 id.counter) = ap (λ s. has_retired b.retired (at s id.counter)) (eqb-true id.site r.0 e) in
          let none : has r.1.ranges id.counter ≡ false = sym (reads r f id.counter) ∙ sym there ∙ h in
          ap not none

  keeps_all : {X : Type 0} (r : RetiredSite) → Found r → (es : List (StampValue × X)) → AllByRecursion (λ e. has_retired b.retired e.0 ≡ false) es → list_all (keeps r) (keys_of es) ≡ true
  keeps_all r f [] h = refl
  keeps_all r f (e ∷ es) h = and_from _ _ (keeps_one r f e.0 h.0) (keeps_all r f es h.1)

  module _ (sites : IsStrictlySortedBy nat_cmp (keys_of b.retired)) (jobs : IsStrictlySortedBy stamp_cmp (keys_of b.jobs)) (reservations : IsStrictlySortedBy stamp_cmp (keys_of b.reservations)) where
    found : AllByRecursion Found b.retired
    found = each_by nat_cmp nat_cmp_total b.retired sites

    pub retired_ranged : AllByRecursion AreRetirements b.retired
    retired_ranged = weaker Found AreRetirements b.retired ranged found

    kept : {X : Type 0} (es : List (StampValue × X)) → IsStrictlySortedBy stamp_cmp (keys_of es) → ((id : StampValue) → IfSome (lookup (is_at (stamp_cmp id)) es) (λ x. has_retired b.retired id ≡ false))
        → AllByRecursion (λ (e : StampValue × X). has_retired b.retired e.0 ≡ false) es
    kept {X} es s h = weaker (λ (e : StampValue × X). lookup (is_at (stamp_cmp e.0)) es ≡ Some e.1) (λ e. has_retired b.retired e.0 ≡ false) es
        (λ e f. known_at (λ (x : X). has_retired b.retired e.0 ≡ false) _ e.1 f (h e.0)) (each_entry es s)

    abbrev fits : RetiredSite → Bool
    fits r = leb r.1.latest (counter_of b.version r.0) && (list_all (keeps r) (keys_of b.jobs) && list_all (keeps r) (keys_of b.reservations))

    fit : (r : RetiredSite) → Found r → fits r ≡ true
    fit r f = and_from _ _ (le-leb r.1.latest (counter_of b.version r.0) (known r f).covered)
        (and_from _ _ (keeps_all r f b.jobs (kept b.jobs jobs board.kept_jobs)) (keeps_all r f b.reservations (kept b.reservations reservations board.kept_reservations)))

    pub retired_stand : AllStand (site_stands b.version (keys_of b.jobs) (keys_of b.reservations)) [] b.retired
    retired_stand = sites_stand fits (site_stands b.version (keys_of b.jobs) (keys_of b.reservations)) (λ before r s t. and_from _ _ s t) [] b.retired sites
        (weaker Found (λ r. fits r ≡ true) b.retired fit found)
