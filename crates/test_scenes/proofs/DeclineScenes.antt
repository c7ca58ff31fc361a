-- Worked runs, each computed by the definitions: a grant is declined.
use Rattle.std.proofs.Common.{◌≡◌, List, [], ◌∷◌, refl}
use Rattle.fed_stamp.specs.Version.{is_below, joined}
use Rattle.fed_model.specs.declared.commands.Command.{Command}
use Rattle.fed_model.specs.declared.refusals.Refusal.{Refusal}
use Rattle.fed_model.specs.declared.replies.Reply.{Reply}
use Rattle.fed_model.specs.Letter.{any_below}
use Rattle.fed_model.specs.Answer.{answer_to}
use Rattle.fed_model.specs.declared.events.Event.{Event}
use Rattle.fed_model.specs.declared.outcomes.Outcome.{Outcome}
use Rattle.fed_model.specs.Run.{outcomes}
use Rattle.fed_theory.proofs.Scenes.{by_ann, submit, at, job, refused, done}

-- ---- each refusal where it comes first: of a job that nobody knows, that isn't granted here, that has begun, that is finished
abbrev declined : List Event
declined =
    submit 0
    ∷ by_ann 0 (Command.Decline (at 9 0))
    ∷ by_ann 0 (Command.Decline job)
    ∷ by_ann 0 (Command.Grant job 0)
    ∷ by_ann 0 (Command.Decline job)
    ∷ by_ann 0 (Command.Grant job 0)
    ∷ by_ann 0 (Command.Begin job 7)
    ∷ by_ann 0 (Command.Decline job)
    ∷ by_ann 0 (Command.Finish job 9 0)
    ∷ by_ann 0 (Command.Decline job)
    ∷ []

declined_outcomes : outcomes 1 declined ≡
    (Outcome.Replied (Reply.Submitted job)
    ∷ refused Refusal.UnknownJob
    ∷ refused Refusal.NotGranted
    ∷ Outcome.Replied Reply.Granted
    ∷ done
    ∷ Outcome.Replied Reply.Granted
    ∷ done
    ∷ refused Refusal.Begun
    ∷ done
    ∷ refused Refusal.Gone
    ∷ [])
unfolding answer_to any_below is_below joined
declined_outcomes = refl
