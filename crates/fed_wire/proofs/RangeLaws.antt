-- What is read of operations whose values are in range is in range.
use Rattle.std.specs.Prelude.{IfSome, is_some, nat_lt}
use Rattle.std.specs.List.{AllByRecursion, list_any}
use Rattle.std.specs.List.Sorted.{IsStrictlySortedBy}
use Rattle.std.specs.Cmp.{IsTotalOrder}
use Rattle.std.proofs.Common.{◌≡◌, ◌≤◌, ◌<◌, ℕ, suc, List, [], ◌∷◌, Bool, true, false, ◌&&◌, Option, Some, None, Ordering, refl, sym, ap, subst, ◌∙◌, arith, inl, inr}
use Rattle.std.proofs.lemmas.Bool.{and_parts, ltb-true}
use Rattle.std.proofs.lemmas.Map.Lookups.{CmpEqualImpliesEq}
use Rattle.fed_stamp.specs.Stamp.{StampValue, same_stamp}
use Rattle.fed_stamp.specs.Version.{counter_of}
use Rattle.fed_stamp.specs.declared.rosters.TheConstants.{MAX_NODES}
use Rattle.fed_stamp.specs.declared.stamps.TheConstants.{MAX_COUNTER}
use Rattle.fed_lattice.specs.Sets.{Has}
use Rattle.fed_lattice.specs.SetLaws.{found}
use Rattle.fed_lattice.specs.History.{History}
use Rattle.fed_lattice.specs.VersionOf.{version_of}
use Rattle.fed_lattice.proofs.FilterLaws.{Has-filter, filter-Has}
use Rattle.fed_lattice.proofs.VersionOfLaws.{length-version_of, version_of-most}
use Rattle.fed_tags.specs.Tags.{pair_cmp, has}
use Rattle.fed_tags.specs.TagLaws.{pair_total, exact_pair, has_member}
use Rattle.fed_model.specs.declared.grants.GrantStage.{GrantStage}
use Rattle.fed_model.specs.declared.limits.TheConstants.{MAX_LIMIT}
use Rattle.fed_model.specs.declared.beginnings.Beginning.{Beginning}
use Rattle.fed_model.specs.declared.beginnings.Ending.{Ending}
use Rattle.fed_model.specs.Body.{Body, Body.Submit, Body.OfJob, Body.Reserve, JobBody.Set, JobBody.Grant, JobBody.HandBack, JobBody.Begin, JobBody.Finish, is_of_job, of_job}
use Rattle.fed_model.specs.Field.{owner_in, name_in, priority_in, nodes_in, limit_in, account_in, begin_in, finish_in, window_in, field}
use Rattle.fed_model.specs.Grant.{grant_in, grant_stage}
use Rattle.fed_model.specs.Pairs.{adds_pair, adds_site, is_live, is_site_named}
use Rattle.fed_theory.proofs.FoundLaws.{field_found, grant_found, said_found}
use Rattle.fed_lattice.specs.ExactLaws.{same_stamp_itself, same_stamp_is}
use Rattle.fed_model.specs.Lawful.{IsLawful}
use Rattle.fed_model.specs.Ranges.{IsFrom, IsName, IsPriority, IsAccount, IsSite, IsStamp, IsBeginning, IsEnding, IsInRange, IsWindow}
use Rattle.fed_job_json.specs.declared.formats.Format.TheVariants.{Two}
use Rattle.fed_job_json.specs.Fields.{IsField}
use Rattle.fed_job_json.specs.Grants.{IsStage, IsGrant}
use Rattle.fed_job_json.specs.Pairs.{ArePairs}
use Rattle.fed_job_json.specs.Progress.{IsBegun, IsProgress}
use Rattle.fed_job_json.specs.Stamps.{IsVersion}
use Rattle.fed_job_json.proofs.PairLaws.{ascending_where_sorted}
use Rattle.fed_model.specs.Limits.{IsWithinLimits}

-- ---- what an operation says

pub owner_ranged : (body : Body) → IsInRange body → IfSome (owner_in body) IsName
owner_ranged (Submit owner values held) r = r.0
owner_ranged _ r = tt

pub name_ranged : (body : Body) → IsInRange body → IfSome (name_in body) IsName
name_ranged (Submit owner values held) r = r.1.name
name_ranged (OfJob job (Set changes removed)) r = r.name
name_ranged _ r = tt

pub priority_ranged : (body : Body) → IsInRange body → IfSome (priority_in body) IsPriority
priority_ranged (Submit owner values held) r = r.1.priority
priority_ranged (OfJob job (Set changes removed)) r = r.priority
priority_ranged _ r = tt

pub nodes_ranged : (body : Body) → IsInRange body → IfSome (nodes_in body) (IsFrom 1 MAX_NODES)
nodes_ranged (Submit owner values held) r = r.1.nodes
nodes_ranged (OfJob job (Set changes removed)) r = r.nodes
nodes_ranged _ r = tt

pub limit_ranged : (body : Body) → IsInRange body → IfSome (limit_in body) (IsFrom 1 MAX_LIMIT)
limit_ranged (Submit owner values held) r = r.1.limit
limit_ranged (OfJob job (Set changes removed)) r = r.limit
limit_ranged _ r = tt

pub account_ranged : (body : Body) → IsInRange body → IfSome (account_in body) IsAccount
account_ranged (Submit owner values held) r = r.1.account
account_ranged (OfJob job (Set changes removed)) r = r.account
account_ranged _ r = tt

begin_ranged : (body : Body) → IsInRange body → IfSome (begin_in body) IsBeginning
begin_ranged (OfJob job (Begin beginning)) r = r
begin_ranged _ r = tt

finish_ranged : (body : Body) → IsInRange body → IfSome (finish_in body) IsEnding
finish_ranged (OfJob job (Finish ending)) r = r
finish_ranged _ r = tt

pub window_ranged : (body : Body) → IsInRange body → IfSome (window_in body) (λ w. IfSome w IsWindow)
window_ranged (Reserve window) r = r
window_ranged _ r = tt

grant_ranged : (t : StampValue) (body : Body) → IsStamp t → IsInRange body → IfSome (grant_in (t, body)) (IsStage Two)
grant_ranged t (OfJob job (Grant to term)) s r = (r.1, s, r.0)
grant_ranged t (OfJob job (HandBack term)) s r = (r, s)
grant_ranged t _ s r = tt

one_of_16 : (site : ℕ) (b : Bool) → (nat_lt site 16 && b) ≡ true → IsSite site
one_of_16 site b e = let small : site < 16 = ltb-true site 16 (and_parts (nat_lt site 16) b e).0 in (omega arith, omega arith)

named_site : (sites : Option (List Bool)) (site : ℕ) → is_site_named sites site ≡ true → IsSite site
named_site None site e = cc
named_site (Some sites) site e = one_of_16 site _ e

-- a site that an operation adds is one of the 16
pub added_site : (body : Body) (site : ℕ) → adds_site body site ≡ true → IsSite site
added_site (Submit owner values held) site e = one_of_16 site _ e
added_site (OfJob job (Set changes removed)) site e = named_site changes.sites site e
added_site _ site e = cc

-- ---- what is read of the operations of one job or of one reservation
module _ (ops all : History Body) (within : IsWithinLimits all) (part_of : (e : StampValue × Body) → Has ops e → Has all e) where
  pub field_ranged : {T : Type 0} (says : Body → Option T) (P : T → Type 0) → ((body : Body) → IsInRange body → IfSome (says body) P)
      → (c : StampValue × T) → field says ops ≡ Some c → IsStamp c.0 × P c.1
  field_ranged says P law c e =
      let f = field_found says ops c e in
      let h = part_of (c.0, f.0) f.1 in
      (within.stamps (c.0, f.0) h, subst (λ o. IfSome o P) f.2 (law f.0 (within.values (c.0, f.0) h)))

  pub set_field : {T : Type 0} (says : Body → Option T) (P : T → Type 0) → ((body : Body) → IsInRange body → IfSome (says body) P)
      → (o : Option (StampValue × T)) → field says ops ≡ o → is_some o ≡ true → IsField P o
  set_field says P law None e s = cc
  set_field says P law (Some c) e s = field_ranged says P law c e

  pub grant_is : (o : Option GrantStage) → grant_stage ops ≡ o → IsGrant Two o
  grant_is None e = tt
  grant_is (Some g) e =
      let f = grant_found ops g e in
      let h = part_of f.0 f.1 in
      subst (λ o. IfSome o (IsStage Two)) f.2 (grant_ranged f.0.0 f.0.1 (within.stamps f.0 h) (within.values f.0 h))

  pub version_is : IsVersion (version_of ops)
  version_is = (length-version_of ops, counters (version_of ops) (λ i. version_of-most ops i MAX_COUNTER (λ e h at. (within.stamps e (part_of e h)).0.1))) where
    counters : (v : List ℕ) → ((i : ℕ) → counter_of v i ≤ MAX_COUNTER) → AllByRecursion (IsFrom 0 MAX_COUNTER) v
    counters [] f = tt
    counters (c ∷ v) f = ((omega arith, f 0), counters v (λ i. f (suc i)))

  module _ {E : Type 0} (adds : Body → E → Bool) (removes : Body → E → StampValue → Bool) (InRange : E → Type 0) (law : (body : Body) (element : E) → adds body element ≡ true → InRange element) where
    live_ranged : (element : E) (tag : StampValue) → is_live adds removes ops element tag ≡ true → InRange element × IsStamp tag
    live_ranged element tag e =
        let f = found (adds_pair adds removes element tag) ops (and_parts (list_any (adds_pair adds removes element tag) ops) _ e).0 in
        let p = and_parts (same_stamp f.0.0 tag) (adds f.0.1 element) f.2 in
        (law f.0.1 element p.1, subst IsStamp (same_stamp_is f.0.0 tag p.0) (within.stamps f.0 (part_of f.0 f.1)))

    -- the pairs of a record that reads as the operations do
    pub pairs_are : (cmp : E → E → Ordering) → IsTotalOrder cmp → CmpEqualImpliesEq cmp → (ps : List (E × StampValue)) → IsStrictlySortedBy (pair_cmp cmp) ps
        → ((element : E) (tag : StampValue) → has (pair_cmp cmp) ps (element, tag) ≡ is_live adds removes ops element tag) → ArePairs InRange cmp ps
    pairs_are cmp o exact ps sorted reads = (each ps (λ p h. h), ascending_where_sorted (pair_cmp cmp) ps sorted) where
      each : (qs : List (E × StampValue)) → ((p : E × StampValue) → Has qs p → Has ps p) → AllByRecursion (λ p. InRange p.0 × IsStamp p.1) qs
      each [] f = tt
      each (q ∷ qs) f = (
        live_ranged q.0 q.1 (sym (reads q.0 q.1) ∙ has_member (pair_cmp cmp) (pair_total cmp o) (exact_pair cmp exact) q ps (f q (inl refl))),
        each qs (λ p h. f p (inr h)),
      )

-- ---- the Begin and the Finish of a job
module _ (all : History Body) (lawful : IsLawful all) (within : IsWithinLimits all) (job : StampValue) where
  abbrev mine : History Body
  mine = of_job job all

  pub of_all : (e : StampValue × Body) → Has mine e → Has all e
  of_all e h = (Has-filter (is_of_job job) all e h).0

  begun_is : (b : StampValue × Beginning) → field begin_in mine ≡ Some b → IsBegun b
  begun_is b p = let r = field_ranged mine all within of_all begin_in IsBeginning begin_ranged b p in (r.0, r.1.0, r.1.1, r.1.2, r.1.3)

  finish_body : (body : Body) (ending : Ending) → finish_in body ≡ Some ending → (id : StampValue) × (body ≡ OfJob id (Finish ending))
  finish_body (OfJob id (Finish other)) ending e = let s : other ≡ ending = cc in (id, ap (λ x. OfJob id (Finish x)) s)
  finish_body _ ending e = cc

  -- a job is finished only where it is begun
  pub progress_is : (b : Option (StampValue × Beginning)) (f : Option (StampValue × Ending)) → field begin_in mine ≡ b → field finish_in mine ≡ f → IsProgress (b, f)
  progress_is None None p q = tt
  progress_is None (Some f) p q =
      let s = field_found finish_in mine f q in
      let id = finish_body s.0 f.1 s.2 in
      let h = Has-filter (is_of_job job) all (f.0, s.0) s.1 in
      let same : id.0 ≡ job = same_stamp_is id.0 job (subst (λ (body : Body). is_of_job job (f.0, body) ≡ true) id.1 h.1) in
      let g = (lawful.grounded (f.0, OfJob id.0 (Finish f.1)) (subst (λ (body : Body). Has all (f.0, body)) id.1 h.0)).1 in
      let begun : Has mine (g.0, OfJob id.0 (Begin g.1)) = filter-Has (is_of_job job) all (g.0, OfJob id.0 (Begin g.1)) g.2 (subst (λ (j : StampValue). same_stamp id.0 j ≡ true) same (same_stamp_itself id.0)) in
      absurd (let e : false ≡ true = sym (ap is_some p) ∙ said_found begin_in g.1 mine g.0 (OfJob id.0 (Begin g.1)) begun refl in cc)
  progress_is (Some b) None p q = begun_is b p
  progress_is (Some b) (Some f) p q = (begun_is b p, let r = field_ranged mine all within of_all finish_in IsEnding finish_ranged f q in (r.0, r.1.0, r.1.1))
