-- Worked runs, each computed by the definitions: what may be retired, and what is then.
use Rattle.std.proofs.Common.{◌≡◌, ℕ, List, [], ◌∷◌, true, refl}
use Rattle.std.specs.Prelude.{None}
use Rattle.fed_stamp.specs.Version.{is_below, joined}
use Rattle.fed_model.specs.declared.askers.Role.{Role}
use Rattle.fed_model.specs.declared.commands.Command.{Command}
use Rattle.fed_model.specs.declared.refusals.Refusal.{Refusal}
use Rattle.fed_model.specs.declared.replies.Reply.{Reply}
use Rattle.fed_model.specs.declared.windows.Window.{Window}
use Rattle.fed_model.specs.JobView.{unknown}
use Rattle.fed_model.specs.Letter.{any_below, is_submitted}
use Rattle.fed_model.specs.Origin.{ranges_of}
use Rattle.fed_model.specs.View.{view}
use Rattle.fed_model.specs.Answer.{answer_to}
use Rattle.fed_model.specs.declared.events.Event.{Event}
use Rattle.fed_model.specs.declared.events.Event.TheVariants.{Ship, Take}
use Rattle.fed_model.specs.declared.outcomes.Outcome.{Outcome}
use Rattle.fed_model.specs.Run.{run, outcomes}
use Rattle.fed_theory.proofs.Scenes.{by_ann, submit, at, job, refused, done, taken}
use Rattle.fed_theory.proofs.CommandScenes.{by}

abbrev retire : ℕ → ℕ → ℕ → Event
retire here first last = by_ann here (Command.Retire first last)

-- ---- a job that runs stays, also once it is deleted, until it is finished
abbrev running : List Event
running =
    submit 0
    ∷ by_ann 0 (Command.Grant job 0)
    ∷ by_ann 0 (Command.Begin job 7)
    ∷ retire 0 1 1
    ∷ by_ann 0 (Command.Delete job)
    ∷ retire 0 1 1
    ∷ by_ann 0 (Command.Finish job 9 0)
    ∷ retire 0 1 1
    ∷ []

running_outcomes : outcomes 1 running ≡
    (Outcome.Replied (Reply.Submitted job)
    ∷ Outcome.Replied Reply.Granted
    ∷ done
    ∷ refused Refusal.NotSettled
    ∷ done
    ∷ refused Refusal.NotSettled
    ∷ done
    ∷ done
    ∷ [])
unfolding answer_to any_below is_below joined
running_outcomes = refl

-- ---- one that is finished and was not deleted goes
abbrev finished : List Event
finished =
    submit 0
    ∷ by_ann 0 (Command.Grant job 0)
    ∷ by_ann 0 (Command.Begin job 7)
    ∷ by_ann 0 (Command.Finish job 9 0)
    ∷ retire 0 1 1
    ∷ []

finished_outcomes : outcomes 1 finished ≡
    (Outcome.Replied (Reply.Submitted job) ∷ Outcome.Replied Reply.Granted ∷ done ∷ done ∷ done ∷ [])
unfolding answer_to any_below is_below joined
finished_outcomes = refl

-- ---- ranges: none is empty, begins at 0 or ends beyond the site's counter, and both ends are in it
abbrev ends : List Event
ends =
    submit 0
    ∷ submit 0
    ∷ submit 0
    ∷ by_ann 0 (Command.Delete (at 1 0))
    ∷ by_ann 0 (Command.Delete (at 3 0))
    ∷ retire 0 2 1
    ∷ retire 0 0 1
    ∷ retire 0 1 2
    ∷ retire 0 2 3
    ∷ retire 0 4 6
    ∷ retire 0 1 1
    ∷ retire 0 3 3
    ∷ []

ends_outcomes : outcomes 1 ends ≡
    (Outcome.Replied (Reply.Submitted job)
    ∷ Outcome.Replied (Reply.Submitted (at 2 0))
    ∷ Outcome.Replied (Reply.Submitted (at 3 0))
    ∷ done
    ∷ done
    ∷ refused Refusal.NotSettled
    ∷ refused Refusal.NotSettled
    ∷ refused Refusal.NotSettled
    ∷ refused Refusal.NotSettled
    ∷ refused Refusal.NotSettled
    ∷ done
    ∷ done
    ∷ [])
unfolding answer_to any_below is_below joined
ends_outcomes = refl

first_is_retired : (view ((run 1 ends).site 0).set).job job ≡ unknown
unfolding answer_to any_below is_below joined
first_is_retired = refl

second_stays : is_submitted ((view ((run 1 ends).site 0).set).job (at 2 0)) ≡ true
unfolding answer_to any_below is_below joined
second_stays = refl

two_ranges : ranges_of (view ((run 1 ends).site 0).set) 0 ≡ 2
unfolding answer_to any_below is_below joined
two_ranges = refl

-- ---- of another site's jobs with these counters nothing is retired
abbrev others : List Event
others =
    submit 0 ∷ submit 1 ∷ Ship 1 0 ∷ Take 0 1 ∷ by_ann 0 (Command.Delete job) ∷ retire 0 1 1 ∷ []

others_outcomes : outcomes 2 others ≡
    (Outcome.Replied (Reply.Submitted job) ∷ Outcome.Replied (Reply.Submitted (at 1 1)) ∷ Outcome.Packet 1 ∷ taken ∷ done ∷ done ∷ [])
unfolding answer_to any_below is_below joined
others_outcomes = refl

other_stays : is_submitted ((view ((run 2 others).site 0).set).job (at 1 1)) ≡ true
unfolding answer_to any_below is_below joined
other_stays = refl

-- ---- a reservation stays until it is cancelled, and then reads as none
abbrev window : Window
window = record { site = 0; start = 50; end = 60; nodes = 8 }

abbrev reserved : List Event
reserved =
    by [] Role.Operator (Command.Reserve window)
    ∷ retire 0 1 1
    ∷ by [] Role.Operator (Command.Cancel (at 1 0))
    ∷ retire 0 1 1
    ∷ []

reserved_outcomes : outcomes 1 reserved ≡
    (Outcome.Replied (Reply.Reserved (at 1 0)) ∷ refused Refusal.NotSettled ∷ done ∷ done ∷ [])
unfolding answer_to any_below is_below joined
reserved_outcomes = refl

reservation_is_retired : (view ((run 1 reserved).site 0).set).reservation (at 1 0) ≡ None
unfolding answer_to any_below is_below joined
reservation_is_retired = refl
