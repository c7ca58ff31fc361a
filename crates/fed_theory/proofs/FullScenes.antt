-- Worked answers at the ends of the ranges, each computed by the definitions.
use Rattle.std.proofs.Common.{◌≡◌, ℕ, [], ◌∷◌, ◌++◌, true, false, refl}
use Rattle.std.specs.Prelude.{pos, ◌==◌, Some, None, replicate, if◌then◌else◌}
use Rattle.fed_lattice.specs.History.{History}
use Rattle.fed_model.specs.declared.askers.Role.TheVariants as Role
use Rattle.fed_model.specs.declared.askers.Who.{Who}
use Rattle.fed_model.specs.declared.commands.Command.{Command}
use Rattle.fed_model.specs.declared.refusals.Refusal.{Refusal}
use Rattle.fed_model.specs.declared.replies.Reply.{Reply}
use Rattle.fed_model.specs.declared.values.JobValues.{JobValues}
use Rattle.fed_model.specs.declared.windows.Window.{Window}
use Rattle.fed_model.specs.Body.{Body, Body.Submit, Body.OfJob, JobBody.Grant, JobBody.HandBack, JobBody}
use Rattle.fed_model.specs.JobView.{job_view}
use Rattle.fed_model.specs.Letter.{any_below}
use Rattle.fed_model.specs.View.{View, view}
use Rattle.fed_model.specs.Answer.{Answer.Refuses, Answer.Replies, answer, answer_to}
use Rattle.fed_model.specs.Packet.{missing}
use Rattle.fed_theory.proofs.Scenes.{at, job}

abbrev ann : Who
ann = record { user = 97 ∷ 110 ∷ 110 ∷ []; role = Role.Operator }

abbrev values : JobValues
values = record { name = 74 ∷ []; priority = pos 0; nodes = 1; limit = 3600; account = None; sites = true ∷ replicate 15 false }

abbrev submitted : History Body
submitted = (job, Submit (97 ∷ 110 ∷ 110 ∷ []) values false) ∷ []

-- ---- the greatest counter has been seen, of another site
abbrev full : View
full = record (view submitted) { version = 1 ∷ 1_000_000_000 ∷ replicate 14 0 }

no_submit : answer_to full 0 ann (Command.Submit values false) ≡ Refuses Refusal.ClockFull
unfolding answer_to any_below
no_submit = refl

no_grant : answer_to full 0 ann (Command.Grant job 0) ≡ Refuses Refusal.ClockFull
unfolding answer_to any_below
no_grant = refl

-- an earlier refusal is answered first
taken_elsewhere : answer_to full 1 ann (Command.Grant job 0) ≡ Refuses Refusal.NotOrigin
unfolding answer_to any_below
taken_elsewhere = refl

-- what adds nothing is done
nothing_to_release : answer_to full 0 ann (Command.Release job (record { 0 = 3 })) ≡ Replies Reply.Done None
unfolding answer_to any_below
nothing_to_release = refl

-- one counter is left
last_stamp : answer_to (record full { version = 1 ∷ 999_999_999 ∷ replicate 14 0 }) 0 ann (Command.Delete job) ≡ Replies Reply.Done (Some (at 1_000_000_000 0, Body.OfJob job JobBody.Delete))
unfolding answer_to any_below
last_stamp = refl

-- ---- the last term was handed back
abbrev last_term : ℕ → History Body
last_term term = submitted ++ (at 2 0, OfJob job (Grant 0 term)) ∷ (at 3 0, OfJob job (HandBack term)) ∷ []

no_term : answer (last_term 1_000_000_000) 0 ann (Command.Grant job 0) ≡ Refuses Refusal.ClockFull
unfolding answer_to any_below
no_term = refl

one_term : answer (last_term 999_999_999) 0 ann (Command.Grant job 0) ≡ Replies Reply.Granted (Some (at 4 0, OfJob job (Grant 0 1_000_000_000)))
unfolding answer_to any_below
one_term = refl

-- ---- a site that is full: each of its stamps names a job
abbrev full_site : ℕ → View
full_site n = record {
  version = n ∷ replicate 15 0;
  retirements = replicate 16 0;
  retired = λ id. false;
  job = λ id. if id.counter == 0 then job_view [] else (view submitted).job job;
  reservation = λ id. None;
}

no_room : answer_to (full_site 10_000) 0 ann (Command.Submit values false) ≡ Refuses Refusal.SiteFull
unfolding answer_to any_below
no_room = refl

last_room : answer_to (full_site 9_999) 0 ann (Command.Submit values false) ≡ Replies (Reply.Submitted (at 10_000 0)) (Some (at 10_000 0, Submit (97 ∷ 110 ∷ 110 ∷ []) values false))
unfolding answer_to any_below
last_room = refl

-- so it is with reservations, the cancelled ones counted
abbrev reserved_site : ℕ → View
reserved_site n = record {
  version = n ∷ replicate 15 0;
  retirements = replicate 16 0;
  retired = λ id. false;
  job = λ id. job_view [];
  reservation = λ id. if id.counter == 0 then None else Some (id, None);
}

no_reservation : answer_to (reserved_site 1_000) 0 ann (Command.Reserve (record { site = 0; start = 60; end = 61; nodes = 1 })) ≡ Refuses Refusal.SiteFull
unfolding answer_to any_below
no_reservation = refl

-- ---- windows
abbrev window : ℕ → ℕ → Window
window end nodes = record { site = 0; start = 60; end = end; nodes = nodes }

empty_window : answer [] 0 ann (Command.Reserve (window 60 1)) ≡ Refuses Refusal.BadWindow
unfolding answer_to
empty_window = refl

late_window : answer [] 0 ann (Command.Reserve (window 1_000_000_000_001 1)) ≡ Refuses Refusal.BadWindow
unfolding answer_to
late_window = refl

idle_window : answer [] 0 ann (Command.Reserve (window 61 0)) ≡ Refuses Refusal.BadWindow
unfolding answer_to
idle_window = refl

wide_window : answer [] 0 ann (Command.Reserve (window 61 1_000_001)) ≡ Refuses Refusal.BadWindow
unfolding answer_to
wide_window = refl

widest_window : answer [] 0 ann (Command.Reserve (window 1_000_000_000_000 1_000_000)) ≡ Replies (Reply.Reserved job) (Some (job, Body.Reserve (window 1_000_000_000_000 1_000_000)))
unfolding answer_to
widest_window = refl

-- ---- the least site of which something is missing
two_missing : missing (1 ∷ 5 ∷ 3 ∷ replicate 13 0) (1 ∷ 4 ∷ 2 ∷ replicate 13 9) ≡ Some 1
two_missing = refl

none_missing : missing (1 ∷ 4 ∷ replicate 14 0) (1 ∷ 4 ∷ replicate 14 9) ≡ None
none_missing = refl
