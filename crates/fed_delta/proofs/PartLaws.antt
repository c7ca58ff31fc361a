-- Records that a board may have.
use Rattle.std.specs.BTreeMap.{is_at}
use Rattle.std.specs.Cmp.{IsTotalOrder, eq_by_cmp_equiv, nat_cmp_total}
use Rattle.std.specs.List.{AllByRecursion}
use Rattle.std.specs.List.Sorted.{IsStrictlySortedBy}
use Rattle.std.specs.Map.{keys_of, lookup}
use Rattle.std.specs.Ordering.{nat_cmp}
use Rattle.std.specs.Prelude.{slice_get}
use Rattle.std.proofs.Common.{◌≡◌, ◌<◌, ◌↔◌, ℕ, suc, List, [], ◌∷◌, Bool, true, false, cond, Option, Ordering, Some, None, IfSome, refl, sym, subst}
use Rattle.std.proofs.lemmas.Map.Entries.{lookup_from_place}
use Rattle.std.proofs.lemmas.Map.Lookups.{CmpEqualImpliesEq, exact_unsigned}
use Rattle.std.proofs.lemmas.Map.Keys.{IsDistinct-from_sorted}
use Rattle.std.proofs.lemmas.Map.Views.{tells_apart}
use Rattle.fed_stamp.specs.Stamp.{StampValue}
use Rattle.fed_stamp.specs.Version.{IsVersion, covers, is_below}
use Rattle.fed_lattice.specs.Table.{IsAtEach}
use Rattle.fed_tags.specs.Tags.{has, pair_cmp}
use Rattle.fed_tags.specs.TagLaws.{exact_pair, member, pair_total}
use Rattle.fed_model.specs.Hold.{kind_cmp}
use Rattle.fed_model.specs.HoldLaws.{exact_kind, kind_total}
use Rattle.fed_record.specs.Record.{AreCovered}
use Rattle.fed_record.specs.JobRecord.{JobRecordValue, job_reads}
use Rattle.fed_model.specs.Letter.{is_submitted}
use Rattle.fed_board.specs.Board.{IsKnownJob}
use Rattle.fed_record.specs.CoveredJob.{AreCoveredPairs, covers_stamps}

-- ---- what holds of each entry
module _ {K X : Type 0} (P : K → X → Type 0) where
  abbrev pub AreAll : List (K × X) → Type 0
  AreAll es = AllByRecursion (λ (e : K × X). P e.0 e.1) es

  from_places : (es : List (K × X)) → ((i : ℕ) (e : K × X) → slice_get es i ≡ Some e → P e.0 e.1) → AreAll es
  from_places [] f = tt
  from_places (e ∷ es) f = (f 0 e refl, from_places es (λ i x at. f (suc i) x at))

  known_at : (k : K) (a : Option X) (x : X) → a ≡ Some x → IfSome a (P k) → P k x
  known_at k (Some y) x same h = let e : y ≡ x = cc in subst (P k) e h
  known_at k None x same h = cc

  -- at each key, in a table
  module _ (cmp : K → K → Ordering) (o : IsTotalOrder cmp) (exact : CmpEqualImpliesEq cmp) where
    pub at_each : (es : List (K × X)) → AreAll es → IsAtEach cmp P es
    at_each [] h k = tt
    at_each (e ∷ es) h k = go (is_at (cmp k) e.0) refl (at_each es h.1 k)
      where
        go : (b : Bool) → is_at (cmp k) e.0 ≡ b → IfSome (lookup (is_at (cmp k)) es) (P k) → IfSome (cond b (Some e.1) (lookup (is_at (cmp k)) es)) (P k)
        go true s rest = subst (λ (k : K). P k e.1) (sym (tells_apart exact k e.0 s)) h.0
        go false s rest = rest

    pub each_at : (es : List (K × X)) → IsStrictlySortedBy cmp (keys_of es) → IsAtEach cmp P es → AreAll es
    each_at es ascending h = from_places es
        (λ i e at. known_at e.0 (lookup (is_at (cmp e.0)) es) e.1
        (lookup_from_place (eq_by_cmp_equiv o) es i e.0 e.1 (IsDistinct-from_sorted cmp (keys_of es) ascending) at) (h e.0))

  -- ---- a loop over the entries: those that are left are known exactly where all are
  abbrev pub IsLeft : List (K × X) → List (K × X) → Type 0
  IsLeft all it = AreAll it ↔ AreAll all

  pub left_more : (all it rest : List (K × X)) (k : K) (x : X) → IsLeft all it → it ≡ (k, x) ∷ rest → P k x → IsLeft all rest
  left_more all it rest k x before first known =
      let now : IsLeft all ((k, x) ∷ rest) = subst (IsLeft all) first before in
      (λ h. now.0 (known, h), λ h. (now.1 h).1)

  pub left_not : (all it rest : List (K × X)) (k : K) (x : X) → IsLeft all it → it ≡ (k, x) ∷ rest → AreAll all → P k x
  left_not all it rest k x before first h = let now : IsLeft all ((k, x) ∷ rest) = subst (IsLeft all) first before in (now.1 h).0

  pub left_none : (all it : List (K × X)) → IsLeft all it → it ≡ [] → AreAll all
  left_none all it before none = (subst (IsLeft all) none before).0 tt

-- ---- a job
live_pairs : {E : Type 0} (cmp : E → E → Ordering) → IsTotalOrder cmp → CmpEqualImpliesEq cmp → (v : List ℕ) (ps : List (E × StampValue)) → AreCovered v ps
    → AreCoveredPairs v (λ element tag. has (pair_cmp cmp) ps (element, tag))
live_pairs cmp o exact v ps covered element tag live = (covered (element, tag) (member (pair_cmp cmp) (pair_total cmp o) (exact_pair cmp exact) (element, tag) ps live)).1

pub known_job : (version t : List ℕ) (id : StampValue) (r : JobRecordValue) → t ≡ r.touched → id.site < 16 → covers version id ≡ true → is_below t version ≡ true
    → is_submitted (job_reads r) ≡ true → IsVersion t → AreCovered r.touched r.holds → AreCovered r.touched r.sites → covers_stamps (job_reads r) ≡ true → IsKnownJob version id r
known_job version t id r same placed named below submitted lawful holds sites stamps = record {
  placed = placed;
  named = named;
  submitted = submitted;
  touched = subst (λ v. is_below v version ≡ true) same below;
  stamps = record {
    counters = (subst IsVersion same lawful).0;
    stamps = stamps;
    sites = live_pairs nat_cmp nat_cmp_total exact_unsigned r.touched r.sites sites;
    holds = live_pairs kind_cmp kind_total exact_kind r.touched r.holds holds;
  };
}
