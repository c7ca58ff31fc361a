-- Worked runs, each computed by the definitions: jobs are retired.
use Rattle.std.proofs.Common.{◌≡◌, List, [], ◌∷◌, refl}
use Rattle.std.specs.Prelude.{ℕ}
use Rattle.fed_stamp.specs.Version.{is_below, joined}
use Rattle.fed_model.specs.declared.commands.Command.{Command}
use Rattle.fed_model.specs.declared.refusals.Refusal.{Refusal}
use Rattle.fed_model.specs.declared.replies.Reply.{Reply}
use Rattle.fed_model.specs.JobView.{unknown}
use Rattle.fed_model.specs.Letter.{any_below}
use Rattle.fed_model.specs.Identifiers.{jobs_in}
use Rattle.fed_model.specs.Origin.{jobs_of, ranges_of}
use Rattle.fed_model.specs.View.{view}
use Rattle.fed_model.specs.Answer.{answer_to}
use Rattle.fed_model.specs.declared.events.Event.{Event}
use Rattle.fed_model.specs.declared.events.Event.TheVariants.{Ship, Take}
use Rattle.fed_model.specs.declared.outcomes.Outcome.{Outcome}
use Rattle.fed_model.specs.Run.{run, outcomes}
use Rattle.fed_theory.proofs.Scenes.{by_ann, submit, at, job, refused, done, taken, known}

abbrev retire : ℕ → ℕ → ℕ → Event
retire here first last = by_ann here (Command.Retire first last)

-- ---- what a site that has not heard of the Retire does stays unread, and no late packet brings the job back
abbrev late : List Event
late =
    submit 0
    ∷ retire 0 1 1
    ∷ Ship 0 1
    ∷ Take 1 1
    ∷ by_ann 0 (Command.Delete job)
    ∷ retire 0 0 1
    ∷ retire 0 1 3
    ∷ retire 0 1 1
    ∷ by_ann 1 (Command.Delete job)
    ∷ Ship 1 0
    ∷ Take 0 2
    ∷ by_ann 0 (Command.Delete job)
    ∷ Ship 0 1
    ∷ Take 1 3
    ∷ Take 1 1
    ∷ by_ann 1 (Command.Delete job)
    ∷ submit 0
    ∷ []

late_outcomes : outcomes 2 late ≡
    (Outcome.Replied (Reply.Submitted job)
    ∷ refused Refusal.NotSettled
    ∷ Outcome.Packet 1
    ∷ taken
    ∷ done
    ∷ refused Refusal.NotSettled
    ∷ refused Refusal.NotSettled
    ∷ done
    ∷ done
    ∷ Outcome.Packet 2
    ∷ taken
    ∷ refused Refusal.UnknownJob
    ∷ Outcome.Packet 3
    ∷ taken
    ∷ known
    ∷ refused Refusal.UnknownJob
    ∷ Outcome.Replied (Reply.Submitted (at 4 0))
    ∷ [])
unfolding answer_to any_below is_below joined
late_outcomes = refl

late_job : (view ((run 2 late).site 1).set).job job ≡ unknown
unfolding answer_to any_below is_below joined
late_job = refl

late_counts : jobs_of (view ((run 2 late).site 0).set) 0 ≡ 1
unfolding answer_to any_below is_below joined
late_counts = refl

late_ranges : ranges_of (view ((run 2 late).site 1).set) 0 ≡ 1
unfolding answer_to any_below is_below joined
late_ranges = refl

-- ---- a job that is deleted while another site has its grant is retired once that site has declined it
abbrev deleted : List Event
deleted =
    submit 0
    ∷ by_ann 0 (Command.Grant job 1)
    ∷ by_ann 0 (Command.Delete job)
    ∷ retire 0 1 3
    ∷ Ship 0 1
    ∷ Take 1 1
    ∷ by_ann 1 (Command.Begin job 0)
    ∷ by_ann 1 (Command.HandBack job)
    ∷ by_ann 1 (Command.Decline job)
    ∷ Ship 1 0
    ∷ Take 0 2
    ∷ retire 0 1 3
    ∷ []

deleted_outcomes : outcomes 2 deleted ≡
    (Outcome.Replied (Reply.Submitted job)
    ∷ Outcome.Replied Reply.Granted
    ∷ done
    ∷ refused Refusal.NotSettled
    ∷ Outcome.Packet 1
    ∷ taken
    ∷ refused Refusal.Gone
    ∷ refused Refusal.Gone
    ∷ done
    ∷ Outcome.Packet 2
    ∷ taken
    ∷ done
    ∷ [])
unfolding answer_to any_below is_below joined
deleted_outcomes = refl

deleted_jobs : jobs_in (view ((run 2 deleted).site 0).set) ≡ []
unfolding answer_to any_below is_below joined
deleted_jobs = refl
