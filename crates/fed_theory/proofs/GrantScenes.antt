-- Worked runs, each computed by the definitions: who may begin a job, and how a grant is handed back.
use Rattle.std.proofs.Common.{◌≡◌, ℕ, List, [], ◌∷◌, false, refl}
use Rattle.std.specs.Prelude.{Some, None}
use Rattle.fed_stamp.specs.Stamp.{StampValue}
use Rattle.fed_stamp.specs.Version.{is_below, joined}
use Rattle.fed_model.specs.declared.commands.Command.{Command}
use Rattle.fed_model.specs.declared.letters.Letter.TheVariants.{Granted, Queued}
use Rattle.fed_model.specs.declared.refusals.Refusal.{Refusal}
use Rattle.fed_model.specs.declared.replies.Reply.{Reply}
use Rattle.fed_model.specs.Letter.{any_below, holder_in, letter}
use Rattle.fed_model.specs.View.{view}
use Rattle.fed_model.specs.Answer.{answer_to}
use Rattle.fed_model.specs.declared.events.Event.{Event}
use Rattle.fed_model.specs.declared.events.Event.TheVariants.{Ship, Take}
use Rattle.fed_model.specs.declared.outcomes.Outcome.{Outcome}
use Rattle.fed_model.specs.Run.{run, run_from, outcomes, outcomes_from}
use Rattle.fed_theory.proofs.Scenes.{at, values, second_site, by_ann, submit, prioritized, job, refused, done, taken, known}

-- ---- the desk: one site is granted the job, and it alone begins and finishes it, once
abbrev grant : StampValue → ℕ → ℕ → Event
grant named here asker = by_ann here (Command.Grant named asker)

abbrev begins : ℕ → Event
begins here = by_ann here (Command.Begin job 0)

abbrev finishes : ℕ → Event
finishes moment = by_ann 1 (Command.Finish job moment 0)

abbrev desk : List Event
desk =
    submit 0
    ∷ Ship 0 1
    ∷ Take 1 1
    ∷ grant job 0 1
    ∷ grant job 0 0
    ∷ grant job 0 1
    ∷ grant job 1 1
    ∷ by_ann 0 (Command.Alter job prioritized)
    ∷ begins 0
    ∷ begins 1
    ∷ Ship 0 1
    ∷ Take 1 2
    ∷ finishes 0
    ∷ begins 1
    ∷ begins 1
    ∷ finishes 50
    ∷ finishes 50
    ∷ by_ann 0 (Command.Submit (values second_site) false)
    ∷ grant (at 3 0) 0 0
    ∷ []

desk_outcomes : outcomes 2 desk ≡
    (Outcome.Replied (Reply.Submitted job)
    ∷ Outcome.Packet 1
    ∷ taken
    ∷ Outcome.Replied Reply.Granted
    ∷ refused (Refusal.TakenBy 1)
    ∷ Outcome.Replied Reply.Yours
    ∷ refused Refusal.NotOrigin
    ∷ refused Refusal.Granted
    ∷ refused Refusal.NotGranted
    ∷ refused Refusal.NotGranted
    ∷ Outcome.Packet 2
    ∷ taken
    ∷ refused Refusal.NotBegun
    ∷ done
    ∷ refused Refusal.Begun
    ∷ done
    ∷ refused Refusal.Gone
    ∷ Outcome.Replied (Reply.Submitted (at 3 0))
    ∷ refused Refusal.NotEligible
    ∷ [])
unfolding answer_to any_below is_below joined
desk_outcomes = refl

-- the finished job has no letter
desk_letter : letter ((view ((run 2 desk).site 1).set).job job) ≡ None
unfolding answer_to any_below is_below joined
desk_letter = refl

-- ---- a grant is handed back, and the job is granted anew once the origin has heard so
abbrev handback : ℕ → Event
handback here = by_ann here (Command.HandBack job)

abbrev returned : List Event
returned = submit 0 ∷ grant job 0 1 ∷ Ship 0 1 ∷ Take 1 1 ∷ handback 0 ∷ handback 1 ∷ begins 1 ∷ []

returned_outcomes : outcomes 2 returned ≡
    (Outcome.Replied (Reply.Submitted job)
    ∷ Outcome.Replied Reply.Granted
    ∷ Outcome.Packet 1
    ∷ taken
    ∷ refused Refusal.NotGranted
    ∷ done
    ∷ refused Refusal.NotGranted
    ∷ [])
unfolding answer_to any_below is_below joined
returned_outcomes = refl

returned_letter : letter ((view ((run 2 returned).site 1).set).job job) ≡ Some Queued
unfolding answer_to any_below is_below joined
returned_letter = refl

abbrev anew : List Event
anew =
    grant job 0 0
    ∷ Ship 1 0
    ∷ Take 0 2
    ∷ grant job 0 0
    ∷ Ship 0 1
    ∷ Take 1 3
    ∷ handback 1
    ∷ begins 0
    ∷ handback 0
    ∷ Take 1 1
    ∷ []

anew_outcomes : outcomes_from 2 (run 2 returned) anew ≡
    (refused (Refusal.TakenBy 1)
    ∷ Outcome.Packet 2
    ∷ taken
    ∷ Outcome.Replied Reply.Granted
    ∷ Outcome.Packet 3
    ∷ taken
    ∷ refused Refusal.NotGranted
    ∷ done
    ∷ refused Refusal.Begun
    ∷ known
    ∷ [])
unfolding answer_to any_below is_below joined
anew_outcomes = refl

anew_letter : letter ((view ((run_from 2 (run 2 returned) anew).site 1).set).job job) ≡ Some Granted
unfolding answer_to any_below is_below joined
anew_letter = refl

anew_holder : holder_in ((view ((run_from 2 (run 2 returned) anew).site 1).set).job job).stages.grant ≡ Some 0
unfolding answer_to any_below is_below joined
anew_holder = refl
