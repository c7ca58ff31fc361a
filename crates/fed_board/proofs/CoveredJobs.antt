-- Every stamp that is read of a job stays covered after a change and in a join.
use Rattle.std.specs.Option.{option_cmp}
use Rattle.std.specs.Ordering.{ord_max, is_lt}
use Rattle.std.proofs.Common.{◌≡◌, ℕ, ◌<◌, max, List, length, length-set, Bool, true, false, cond, Option, Some, None, Ordering, refl, subst, ◌∙◌, inl, inr, arith}
use Rattle.std.proofs.lemmas.Bool.{and_parts, and_from}
use Rattle.fed_stamp.specs.Stamp.{StampValue, same_stamp}
use Rattle.fed_stamp.specs.Version.{covers, joined, raised}
use Rattle.fed_stamp.proofs.VersionLaws.{covers_more, below_joined_left, below_joined_right, length-joined}
use Rattle.fed_lattice.specs.Register.{stamped_cmp, joined_registers}
use Rattle.fed_lattice.specs.Stamped.{with_stamp}
use Rattle.fed_model.specs.Body.{Body, Body.OfJob, JobBody.Grant, JobBody.HandBack}
use Rattle.fed_record.proofs.CoveredLaws.{either_side, old_or_new}
use Rattle.fed_model.specs.Field.{begin_in, finish_in}
use Rattle.fed_model.specs.Grant.{grant_cmp, grant_in, stamp_of}
use Rattle.fed_record.specs.JobRecord.{job_reads}
use Rattle.fed_theory.specs.JobSteps.{add_to_job, join_jobs, add_live, set_register, raise_stage, fields_in, stages_in, changed_stages, joined_stages}
use Rattle.fed_theory.proofs.FieldTests.{fields_changed, fields_joined}
use Rattle.fed_model.specs.JobView.{JobStages, JobView}
use Rattle.fed_model.specs.declared.grants.GrantStage.{GrantStage}
use Rattle.fed_lattice.specs.Both.{applied_option}
use Rattle.fed_model.specs.Pairs.{adds_site, removes_site, adds_hold, removes_hold, adds_pair}
use Rattle.fed_lattice.specs.Stays.{stays}
use Rattle.fed_theory.specs.ValueOrders.{beginning_cmp, ending_cmp}
use Rattle.fed_lattice.specs.ExactLaws.{same_stamp_is}
use Rattle.fed_board.specs.Board.{no_operation}
use Rattle.fed_record.specs.CoveredJob.{covers_at, covers_register, covers_fields, covers_stages, AreCoveredPairs, IsCoveredJob}
use Rattle.fed_theory.proofs.VersionGrowth.{covers_raised, own_raised}

module _ {T : Type 0} (stamp : T → StampValue) (v : List ℕ) where
  one_of_two : (b : Bool) (p q : T) → covers v (stamp p) ≡ true → covers v (stamp q) ≡ true → covers_at stamp v (cond b (Some p) (Some q)) ≡ true
  one_of_two true p q i j = i
  one_of_two false p q i j = j

  -- the greater of two values has the stamp of one of them
  greater_covered : (cmp : T → T → Ordering) (x y : Option T) → covers_at stamp v x ≡ true → covers_at stamp v y ≡ true → covers_at stamp v (ord_max (option_cmp cmp) x y) ≡ true
  greater_covered cmp None None i j = refl
  greater_covered cmp None (Some q) i j = j
  greater_covered cmp (Some p) None i j = i
  greater_covered cmp (Some p) (Some q) i j = one_of_two (is_lt (option_cmp cmp (Some q) (Some p))) p q i j

  pub later_covered : (w : List ℕ) → ((s : StampValue) → covers v s ≡ true → covers w s ≡ true) → (x : Option T) → covers_at stamp v x ≡ true → covers_at stamp w x ≡ true
  later_covered w more None i = refl
  later_covered w more (Some p) i = more (stamp p) i

pub later_register : {T : Type 0} (v w : List ℕ) → ((s : StampValue) → covers v s ≡ true → covers w s ≡ true) → (x : Option (StampValue × T)) → covers_register v x ≡ true → covers_register w x ≡ true
later_register {T} v w more x i = later_covered (λ (p : StampValue × T). p.0) v w more x i

pub register_covered : {T : Type 0} (v : List ℕ) (cmp : T → T → Ordering) (x y : Option (StampValue × T)) → covers_register v x ≡ true → covers_register v y ≡ true → covers_register v (joined_registers cmp x y) ≡ true
register_covered {T} v cmp x y i j = greater_covered (λ (p : StampValue × T). p.0) v (stamped_cmp cmp) x y i j

stages_parts : (v : List ℕ) (s : JobStages) → covers_stages v s ≡ true → (covers_at stamp_of v s.grant ≡ true) × (covers_register v s.begun ≡ true) × (covers_register v s.finished ≡ true)
stages_parts v s e =
    let grant = and_parts (covers_at stamp_of v s.grant) _ e in
    let others = and_parts (covers_register v s.begun) (covers_register v s.finished) grant.1 in
    (grant.0, others.0, others.1)

stages_from : (v : List ℕ) (s : JobStages) → covers_at stamp_of v s.grant ≡ true → covers_register v s.begun ≡ true → covers_register v s.finished ≡ true → covers_stages v s ≡ true
stages_from v s grant begun finished = and_from _ _ grant (and_from _ _ begun finished)

-- ---- an operation
module _ (t : StampValue) (v : List ℕ) (own : covers v t ≡ true) where
  pub own_register : {T : Type 0} (o : Option T) → covers_register v (with_stamp t o) ≡ true
  own_register None = refl
  own_register (Some x) = own

  own_grant : (b : Body) → covers_at stamp_of v (grant_in (t, b)) ≡ true
  own_grant (OfJob job (Grant site term)) = own
  own_grant (OfJob job (HandBack term)) = own
  own_grant _ = refl

  own_pair : {E : Type 0} (adds : Body → E → Bool) (removes : Body → E → StampValue → Bool) (b : Body) (element : E) (tag : StampValue) → adds_pair adds removes element tag (t, b) ≡ true → covers v tag ≡ true
  own_pair adds removes b element tag e = subst (λ s. covers v s ≡ true) (same_stamp_is t tag (and_parts (same_stamp t tag) (adds b element) e).0) own

module _ (t : StampValue) (b : Body) (j : JobView) (small : t.site < 16) (k : IsCoveredJob j) where
  own : covers (raised j.touched t) t ≡ true
  own = own_raised j.touched t (let n = k.counters in omega arith)

  more : (s : StampValue) → covers j.touched s ≡ true → covers (raised j.touched t) s ≡ true
  more s = covers_raised j.touched t s

  set_covered : {T : Type 0} (cmp : T → T → Ordering) (x : Option (StampValue × T)) (o : Option T) → covers_register j.touched x ≡ true
      → covers_register (raised j.touched t) (applied_option (set_register cmp) x t o) ≡ true
  set_covered cmp x None i = later_register j.touched (raised j.touched t) more x i
  set_covered cmp x (Some c) i = register_covered (raised j.touched t) cmp x (Some (t, c)) (later_register j.touched (raised j.touched t) more x i) own

  raised_covered : (x o : Option GrantStage) → covers_at stamp_of j.touched x ≡ true → covers_at stamp_of (raised j.touched t) o ≡ true
      → covers_at stamp_of (raised j.touched t) (applied_option (raise_stage grant_cmp) x t o) ≡ true
  raised_covered x None i k = later_covered stamp_of j.touched (raised j.touched t) more x i
  raised_covered x (Some g) i k = greater_covered stamp_of (raised j.touched t) grant_cmp x (Some g) (later_covered stamp_of j.touched (raised j.touched t) more x i) k

  added_pairs : {E : Type 0} (adds : Body → E → Bool) (removes : Body → E → StampValue → Bool) (is_live : E → StampValue → Bool) → AreCoveredPairs j.touched is_live
      → AreCoveredPairs (raised j.touched t) (λ element tag. add_live (is_live element tag) (adds_pair adds removes element tag (t, b)) (removes b element tag))
  added_pairs adds removes is_live p element tag e = elim (old_or_new (is_live element tag) (adds_pair adds removes element tag (t, b)) (removes b element tag) e) [
    | inl old ↦ more tag (p element tag old)
    | inr new ↦ own_pair t (raised j.touched t) own adds removes b element tag new
  ]

  pub covered_added : IsCoveredJob (add_to_job t b j)
  unfolding add_to_job
  covered_added =
      let stamps = and_parts (covers_fields j.touched j.fields) (covers_stages j.touched j.stages) k.stamps in
      let s = stages_parts j.touched j.stages stamps.1 in
      record {
        counters = length-set j.touched t.site _ ∙ k.counters;
        stamps = and_from _ _
            (fields_changed (λ _. covers_register j.touched) (λ _. covers_register (raised j.touched t)) t (λ _ cmp x o i. set_covered cmp x o i) j.fields (fields_in b) stamps.0)
            (stages_from (raised j.touched t) (changed_stages j.stages t (stages_in (t, b)))
            (raised_covered j.stages.grant (grant_in (t, b)) s.0 (own_grant t (raised j.touched t) own b))
            (set_covered beginning_cmp j.stages.begun (begin_in b) s.1) (set_covered ending_cmp j.stages.finished (finish_in b) s.2));
        sites = added_pairs adds_site removes_site j.sites k.sites;
        holds = added_pairs adds_hold removes_hold j.holds k.holds;
      }

-- ---- two jobs joined
module _ (v w : List ℕ) (x y : JobView) (i : IsCoveredJob x) (k : IsCoveredJob y) where
  left : (s : StampValue) → covers x.touched s ≡ true → covers (joined x.touched y.touched) s ≡ true
  left s = covers_more x.touched (joined x.touched y.touched) s (below_joined_left x.touched y.touched)

  right : (s : StampValue) → covers y.touched s ≡ true → covers (joined x.touched y.touched) s ≡ true
  right s = covers_more y.touched (joined x.touched y.touched) s (below_joined_right x.touched y.touched)

  both_registers : {T : Type 0} (cmp : T → T → Ordering) (p q : Option (StampValue × T)) → covers_register x.touched p ≡ true → covers_register y.touched q ≡ true
      → covers_register (joined x.touched y.touched) (joined_registers cmp p q) ≡ true
  both_registers cmp p q a b = register_covered (joined x.touched y.touched) cmp p q
      (later_register x.touched (joined x.touched y.touched) left p a) (later_register y.touched (joined x.touched y.touched) right q b)

  both_pairs : {E : Type 0} (here there : E → StampValue → Bool) → AreCoveredPairs x.touched here → AreCoveredPairs y.touched there
      → AreCoveredPairs (joined x.touched y.touched) (λ element tag. stays (here element tag) (covers v tag) (there element tag) (covers w tag))
  both_pairs here there p q element tag e = elim (either_side (here element tag) (covers v tag) (there element tag) (covers w tag) e) [
    | inl l ↦ left tag (p element tag l)
    | inr r ↦ right tag (q element tag r)
  ]

  pub covered_joined : IsCoveredJob (join_jobs v x w y)
  unfolding join_jobs
  covered_joined =
      let here = and_parts (covers_fields x.touched x.fields) (covers_stages x.touched x.stages) i.stamps in
      let there = and_parts (covers_fields y.touched y.fields) (covers_stages y.touched y.stages) k.stamps in
      let s = stages_parts x.touched x.stages here.1 in
      let t = stages_parts y.touched y.stages there.1 in
      record {
        counters = let n = i.counters in let m = k.counters in let l : length (joined x.touched y.touched) ≡ max (length x.touched) (length y.touched) = length-joined x.touched y.touched in omega arith;
        stamps = and_from _ _
            (fields_joined (λ _. covers_register x.touched) (λ _. covers_register y.touched) (λ _. covers_register (joined x.touched y.touched)) (λ _ cmp p q a b. both_registers cmp p q a b) x.fields y.fields here.0 there.0)
            (stages_from (joined x.touched y.touched) (joined_stages x.stages y.stages)
            (greater_covered stamp_of (joined x.touched y.touched) grant_cmp x.stages.grant y.stages.grant
            (later_covered stamp_of x.touched (joined x.touched y.touched) left x.stages.grant s.0) (later_covered stamp_of y.touched (joined x.touched y.touched) right y.stages.grant t.0))
            (both_registers beginning_cmp x.stages.begun y.stages.begun s.1 t.1) (both_registers ending_cmp x.stages.finished y.stages.finished s.2 t.2));
        sites = both_pairs x.sites y.sites i.sites k.sites;
        holds = both_pairs x.holds y.holds i.holds k.holds;
      }

-- a job without operations has no stamp
pub covered_nothing : IsCoveredJob (job_reads no_operation)
covered_nothing = record { counters = refl; stamps = refl; sites = λ site tag e. cc; holds = λ kind tag e. cc }
