-- Worked scenes, each computed by the definitions.
use Rattle.std.proofs.Common.{◌≡◌, ℕ, List, [], ◌∷◌, ◌++◌, Bool, true, false, refl}
use Rattle.std.specs.Prelude.{pos, Some, None, replicate}
use Rattle.fed_stamp.specs.Stamp.{StampValue}
use Rattle.fed_stamp.specs.Version.{joined}
use Rattle.fed_lattice.specs.History.{History}
use Rattle.fed_model.specs.declared.grants.GrantStage.TheVariants.{Open, Returned}
use Rattle.fed_model.specs.declared.holds.HoldKind.TheVariants.{User}
use Rattle.fed_model.specs.declared.letters.Letter.TheVariants.{Exiting, Running, Held, Granted, Queued}
use Rattle.fed_model.specs.declared.values.Changes.{Changes}
use Rattle.fed_model.specs.declared.values.JobValues.{JobValues}
use Rattle.fed_model.specs.declared.windows.Window.{Window}
use Rattle.fed_model.specs.Body.{Body, Body.Submit, Body.OfJob, Body.Reserve, Body.Cancel, Body.Retire, JobBody.Set, JobBody.Hold, JobBody.Release, JobBody.Delete, JobBody.Grant, JobBody.HandBack, JobBody.Begin, JobBody.Finish}
use Rattle.fed_record.specs.Operation.{has_site_pair, has_hold_pair}
use Rattle.fed_theory.specs.JobSteps.{add_to_job, join_jobs}
use Rattle.fed_model.specs.JobView.{unknown}
use Rattle.fed_model.specs.Letter.{any_below, has_site, is_submitted, letter}
use Rattle.fed_model.specs.Identifiers.{jobs_in, reservations_in}
use Rattle.fed_model.specs.View.{view}
use Rattle.fed_theory.specs.ViewSteps.{add_to_view, join_views}
use Rattle.fed_theory.proofs.Scenes.{at, both_sites, second_site, job}

abbrev pub ann : List ℕ
ann = 97 ∷ 110 ∷ 110 ∷ []

abbrev pub values : JobValues
values = record { name = 74 ∷ []; priority = pos 0; nodes = 1; limit = 3600; account = None; sites = both_sites }

abbrev nothing : Changes
nothing = record { name = None; priority = None; nodes = None; limit = None; account = None; sites = None }

abbrev pub submit : Bool → Body
submit held = Submit ann values held

-- ---- two sites submit a job each and exchange
abbrev pub here : History Body
here = (job, submit false) ∷ []

abbrev pub there : History Body
there = (at 1 1, submit false) ∷ []

exchanged_version : (view (here ++ there)).version ≡ 1 ∷ 1 ∷ replicate 14 0
exchanged_version = refl

exchanged_first : letter ((view (here ++ there)).job job) ≡ Some Queued
unfolding any_below
exchanged_first = refl

exchanged_second : letter ((join_views (view here) (view there)).job (at 1 1)) ≡ Some Queued
unfolding any_below joined join_jobs join_views
exchanged_second = refl

not_exchanged : is_submitted ((view here).job (at 1 1)) ≡ false
not_exchanged = refl

-- ---- two priorities set at one counter: that of the greater site stays
abbrev prioritised : ℕ → ℕ → StampValue × Body
prioritised site priority = (at 2 site, OfJob job (Set (record nothing { priority = Some (pos priority) }) (has_site_pair [])))

second_wins : ((view (here ++ prioritised 1 7 ∷ prioritised 0 9 ∷ [])).job job).fields.priority ≡ Some (at 2 1, pos 7)
second_wins = refl

second_wins_joined : ((join_views (view (here ++ prioritised 1 7 ∷ [])) (view (here ++ prioritised 0 9 ∷ []))).job job).fields.priority ≡ Some (at 2 1, pos 7)
unfolding joined join_jobs join_views
second_wins_joined = refl

-- ---- holds
abbrev held : History Body
held = (job, submit true) ∷ []

-- the user hold of the Submit is released at site 1
abbrev release : StampValue × Body
release = (at 2 1, OfJob job (Release (has_hold_pair ((User, job) ∷ []))))

-- a user hold is added at site 0 at the same time
abbrev hold_again : StampValue × Body
hold_again = (at 2 0, OfJob job (Hold (record { 0 = 1 })))

held_once : letter ((view held).job job) ≡ Some Held
unfolding any_below
held_once = refl

released : letter ((view (held ++ release ∷ [])).job job) ≡ Some Queued
unfolding any_below
released = refl

-- a hold that a release did not see stays
unseen_hold_stays : letter ((join_views (view (held ++ release ∷ [])) (view (held ++ hold_again ∷ []))).job job) ≡ Some Held
unfolding any_below joined join_jobs join_views
unseen_hold_stays = refl

-- a late set that still has the hold brings it back to none that removed it
late_hold_goes : letter ((join_views (view held) (view (held ++ release ∷ []))).job job) ≡ Some Queued
unfolding any_below joined join_jobs join_views
late_hold_goes = refl

-- ---- eligible sites: the pairs seen are removed, and the sites named are added
abbrev moved : StampValue × Body
moved = (at 2 0, OfJob job (Set (record nothing { sites = Some second_site }) (has_site_pair ((0, job) ∷ (1, job) ∷ []))))

moved_from_first : has_site ((view (here ++ moved ∷ [])).job job) 0 ≡ false
unfolding any_below
moved_from_first = refl

moved_to_second : has_site ((view (here ++ moved ∷ [])).job job) 1 ≡ true
unfolding any_below
moved_to_second = refl

-- ---- grants
abbrev pub granted : History Body
granted = here ++ (at 2 0, OfJob job (Grant 1 1)) ∷ []

abbrev pub returned : History Body
returned = granted ++ (at 3 1, OfJob job (HandBack 1)) ∷ []

abbrev pub granted_anew : History Body
granted_anew = returned ++ (at 4 0, OfJob job (Grant 0 2)) ∷ []

granted_letter : letter ((view granted).job job) ≡ Some Granted
unfolding any_below
granted_letter = refl

granted_stage : ((view granted).job job).stages.grant ≡ Some (Open 1 (at 2 0) 1)
granted_stage = refl

returned_stage : ((view returned).job job).stages.grant ≡ Some (Returned 1 (at 3 1))
returned_stage = refl

returned_letter : letter ((view returned).job job) ≡ Some Queued
unfolding any_below
returned_letter = refl

-- a set that has only the grant doesn't undo the return
returned_stays : ((join_views (view granted) (view returned)).job job).stages.grant ≡ Some (Returned 1 (at 3 1))
unfolding joined join_jobs join_views
returned_stays = refl

-- a new term is above a return
anew_stage : ((join_views (view returned) (view granted_anew)).job job).stages.grant ≡ Some (Open 2 (at 4 0) 0)
unfolding joined join_jobs join_views
anew_stage = refl

-- ---- progress
abbrev pub begun : History Body
begun = granted ++ (at 3 1, OfJob job (Begin (record { moment = 5; nodes = 1; end = 3605 }))) ∷ []

abbrev deletion : StampValue × Body
deletion = (at 3 0, OfJob job Delete)

begun_letter : letter ((view begun).job job) ≡ Some Running
unfolding any_below
begun_letter = refl

-- begun at one site and deleted at another
begun_and_deleted : letter ((join_views (view begun) (view (granted ++ deletion ∷ []))).job job) ≡ Some Exiting
unfolding any_below joined join_jobs join_views
begun_and_deleted = refl

deleted_alone : letter ((view (granted ++ deletion ∷ [])).job job) ≡ None
unfolding any_below
deleted_alone = refl

finished : letter ((view (begun ++ (at 4 1, OfJob job (Finish (record { moment = 50; status = 0 }))) ∷ [])).job job) ≡ None
unfolding any_below
finished = refl

-- ---- one operation more
added_touched : ((add_to_view (view here) (prioritised 1 7)).job job).touched ≡ 1 ∷ 2 ∷ replicate 14 0
unfolding add_to_job add_to_view
added_touched = refl

-- ---- reservations
abbrev window : Window
window = record { site = 0; start = 10; end = 20; nodes = 4 }

abbrev reserved : History Body
reserved = (at 1 0, Reserve window) ∷ []

reserved_window : (view reserved).reservation (at 1 0) ≡ Some (at 1 0, Some window)
reserved_window = refl

cancelled_window : (view (reserved ++ (at 2 1, Cancel (at 1 0)) ∷ [])).reservation (at 1 0) ≡ Some (at 2 1, None)
cancelled_window = refl

-- ---- a job and a reservation of one site, of which it retires both
abbrev named : History Body
named = here ++ (at 2 0, Reserve window) ∷ []

abbrev retired : History Body
retired = named ++ (at 3 0, Retire 1 2) ∷ []

retired_job : (view retired).job job ≡ unknown
retired_job = refl

retired_reservation : (view retired).reservation (at 2 0) ≡ None
retired_reservation = refl

-- a set that has not heard of it brings neither back
retired_job_stays : (join_views (view named) (view retired)).job job ≡ unknown
unfolding joined join_views
retired_job_stays = refl

retired_reservation_stays : (join_views (view named) (view retired)).reservation (at 2 0) ≡ None
unfolding joined join_views
retired_reservation_stays = refl

-- a range is of the site that retires it
other_site_stays : letter ((view (there ++ (at 3 0, Retire 1 2) ∷ [])).job (at 1 1)) ≡ Some Queued
unfolding any_below
other_site_stays = refl

-- ---- identifiers in the order of their stamps
exchanged_jobs : jobs_in (view (there ++ here)) ≡ at 1 0 ∷ at 1 1 ∷ []
exchanged_jobs = refl

reserved_ids : reservations_in (view (reserved ++ (at 2 1, Cancel (at 1 0)) ∷ [])) ≡ at 1 0 ∷ []
reserved_ids = refl
