-- What is read of a job: of the union of two sets of its operations, of one operation more, and of sets with
-- the same members.
use Rattle.std.proofs.Common.{◌≡◌, ℕ, List, [], ◌∷◌, ◌++◌, ◌∙◌}
use Rattle.fed_stamp.specs.Stamp.{StampValue}
use Rattle.fed_lattice.specs.Sets.{IsSameSet}
use Rattle.fed_lattice.specs.SetLaws.{same_union_comm}
use Rattle.fed_lattice.proofs.UnionLaws.{one_each_same}
use Rattle.fed_lattice.specs.History.{History, IsFresh, OneEach, Agree}
use Rattle.fed_lattice.proofs.VersionOfLaws.{version_of-append, version_of-push, version_of-same}
use Rattle.fed_model.specs.Body.{Body}
use Rattle.fed_model.specs.Field.{owner_in, name_in, priority_in, nodes_in, limit_in, account_in, begin_in, finish_in}
use Rattle.fed_model.specs.Pairs.{adds_site, removes_site, adds_hold, removes_hold}
use Rattle.fed_theory.specs.JobHistory.{IsJobHistory}
use Rattle.fed_model.specs.JobView.{job_view}
use Rattle.fed_theory.specs.JobSteps.{add_to_job, join_jobs}
use Rattle.fed_theory.specs.ValueOrders.{name_cmp, account_cmp, beginning_cmp, ending_cmp}
use Rattle.fed_theory.specs.ValueOrderLaws.{name_total, priority_total, number_total, account_total, beginning_total, ending_total}
use Rattle.std.specs.Ordering.{nat_cmp, int_cmp}
use Rattle.fed_theory.proofs.FieldLaws.{field_union, field_set, field_same, grant_union, grant_push, grant_same, deleted_union, deleted_push, deleted_same}
use Rattle.fed_theory.proofs.PairLaws.{live_union, live_push, live_same}

-- where two sets agree and each removes what it added, their union is read by joining what is read of each
pub job_union : (v w : List ℕ) (g h : History Body) → Agree v g w h → IsJobHistory g → IsJobHistory h → job_view (g ++ h) ≡ join_jobs v (job_view g) w (job_view h)
unfolding join_jobs
job_union v w g h agree here there =
    let one = agree.one_each in
    let owner = field_union name_cmp name_total owner_in g h one in
    let name = field_union name_cmp name_total name_in g h one in
    let priority = field_union int_cmp priority_total priority_in g h one in
    let nodes = field_union nat_cmp number_total nodes_in g h one in
    let limit = field_union nat_cmp number_total limit_in g h one in
    let account = field_union account_cmp account_total account_in g h one in
    let deleted = deleted_union g h in
    let grant = grant_union g h in
    let begun = field_union beginning_cmp beginning_total begin_in g h one in
    let finished = field_union ending_cmp ending_total finish_in g h one in
    let touched = version_of-append g h in
    (λ i. record {
      fields = record { owner = owner i; name = name i; priority = priority i; nodes = nodes i; limit = limit i; account = account i };
      sites = λ site tag. live_union adds_site removes_site site tag v w g h agree here.sites there.sites i;
      holds = λ kind tag. live_union adds_hold removes_hold kind tag v w g h agree here.holds there.holds i;
      stages = record { deleted = deleted i; grant = grant i; begun = begun i; finished = finished i };
      touched = touched i;
    })

-- one operation more, of a stamp that is not there yet
pub job_push : (h : History Body) (e : StampValue × Body) → OneEach (h ++ e ∷ []) → IsFresh e.0 h → IsJobHistory h → job_view (h ++ e ∷ []) ≡ add_to_job e.0 e.1 (job_view h)
unfolding add_to_job
job_push h e one fresh rests =
    let owner = field_set name_cmp name_total owner_in h e one in
    let name = field_set name_cmp name_total name_in h e one in
    let priority = field_set int_cmp priority_total priority_in h e one in
    let nodes = field_set nat_cmp number_total nodes_in h e one in
    let limit = field_set nat_cmp number_total limit_in h e one in
    let account = field_set account_cmp account_total account_in h e one in
    let deleted = deleted_push h e in
    let grant = grant_push h e in
    let begun = field_set beginning_cmp beginning_total begin_in h e one in
    let finished = field_set ending_cmp ending_total finish_in h e one in
    let touched = version_of-push h e in
    (λ i. record {
      fields = record { owner = owner i; name = name i; priority = priority i; nodes = nodes i; limit = limit i; account = account i };
      sites = λ site tag. live_push adds_site removes_site site tag h e fresh rests.sites i;
      holds = λ kind tag. live_push adds_hold removes_hold kind tag h e fresh rests.holds i;
      stages = record { deleted = deleted i; grant = grant i; begun = begun i; finished = finished i };
      touched = touched i;
    })

-- what is read depends on the members alone
pub job_same : (g h : History Body) → IsSameSet g h → OneEach g → job_view g ≡ job_view h
job_same g h same one =
    let owner = field_same owner_in g h same one in
    let name = field_same name_in g h same one in
    let priority = field_same priority_in g h same one in
    let nodes = field_same nodes_in g h same one in
    let limit = field_same limit_in g h same one in
    let account = field_same account_in g h same one in
    let deleted = deleted_same g h same in
    let grant = grant_same g h same in
    let begun = field_same begin_in g h same one in
    let finished = field_same finish_in g h same one in
    let touched = version_of-same g h same in
    (λ i. record {
      fields = record { owner = owner i; name = name i; priority = priority i; nodes = nodes i; limit = limit i; account = account i };
      sites = λ site tag. live_same adds_site removes_site site tag g h same i;
      holds = λ kind tag. live_same adds_hold removes_hold kind tag g h same i;
      stages = record { deleted = deleted i; grant = grant i; begun = begun i; finished = finished i };
      touched = touched i;
    })

-- one operation more, written in front
pub job_more : (h : History Body) (e : StampValue × Body) → OneEach (e ∷ h) → IsFresh e.0 h → IsJobHistory h → job_view (e ∷ h) ≡ add_to_job e.0 e.1 (job_view h)
job_more h e one fresh rests =
    let turned : IsSameSet (e ∷ h) (h ++ e ∷ []) = same_union_comm (e ∷ []) h in
    job_same (e ∷ h) (h ++ e ∷ []) turned one ∙ job_push h e (one_each_same (e ∷ h) (h ++ e ∷ []) turned one) fresh rests
