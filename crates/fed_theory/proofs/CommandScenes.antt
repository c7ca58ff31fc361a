-- Worked runs, each computed by the definitions: roles, holds, deletion, reservations.
use Rattle.std.proofs.Common.{◌≡◌, ℕ, List, [], ◌∷◌, true, refl}
use Rattle.std.specs.Prelude.{Some, None, replicate}
use Rattle.fed_stamp.specs.Version.{is_below, joined}
use Rattle.fed_model.specs.declared.askers.Role.{Role}
use Rattle.fed_model.specs.declared.commands.Command.{Command}
use Rattle.fed_model.specs.declared.holds.HoldKinds.{HoldKinds}
use Rattle.fed_model.specs.declared.letters.Letter.TheVariants.{Exiting, Held, Queued}
use Rattle.fed_model.specs.declared.refusals.Refusal.{Refusal}
use Rattle.fed_model.specs.declared.replies.Reply.{Reply}
use Rattle.fed_model.specs.declared.values.Changes.{Changes}
use Rattle.fed_model.specs.declared.windows.Window.{Window}
use Rattle.fed_model.specs.Letter.{any_below, letter}
use Rattle.fed_model.specs.View.{view}
use Rattle.fed_model.specs.Answer.{answer_to}
use Rattle.fed_model.specs.declared.events.Event.{Event}
use Rattle.fed_model.specs.declared.events.Event.TheVariants.{Do, Ship, Take}
use Rattle.fed_model.specs.declared.outcomes.Outcome.{Outcome}
use Rattle.fed_model.specs.Run.{run, run_from, outcomes, outcomes_from}
use Rattle.fed_theory.proofs.Scenes.{at, values, both_sites, second_site, by_ann, submit, prioritized, job, refused, done, taken, known}

abbrev pub by : List ℕ → Role → Command → Event
by user role command = Do 0 (record { user = user; role = role }) command

abbrev bob : List ℕ
bob = 98 ∷ 111 ∷ 98 ∷ []

-- sets of kinds of holds, by their bits
abbrev pub kinds : ℕ → HoldKinds
kinds bits = record { 0 = bits }

-- ---- roles: a user hold is ann's, an operator hold an operator's, a system hold an administrator's
abbrev roles : List Event
roles =
    submit 0
    ∷ by bob Role.User (Command.Hold job (kinds 4))
    ∷ by (97 ∷ 110 ∷ 110 ∷ []) Role.User (Command.Hold job (kinds 4))
    ∷ by bob Role.Operator (Command.Hold job (kinds 4))
    ∷ by bob Role.Administrator (Command.Hold job (kinds 4))
    ∷ by bob Role.Operator (Command.Hold job (kinds 3))
    ∷ by_ann 0 (Command.Grant job 0)
    ∷ by_ann 0 (Command.Release job (kinds 1))
    ∷ by_ann 0 (Command.Release job (kinds 2))
    ∷ by bob Role.Administrator (Command.Release job (kinds 6))
    ∷ by_ann 0 (Command.Release job (kinds 1))
    ∷ by_ann 0 (Command.Hold (at 9 0) (kinds 1))
    ∷ by bob Role.User (Command.Alter job prioritized)
    ∷ by bob Role.User (Command.Delete job)
    ∷ []

roles_outcomes : outcomes 1 roles ≡
    (Outcome.Replied (Reply.Submitted job)
    ∷ refused Refusal.NotPermitted
    ∷ refused Refusal.NotPermitted
    ∷ refused Refusal.NotPermitted
    ∷ done
    ∷ done
    ∷ refused Refusal.Held
    ∷ done
    ∷ refused Refusal.NotPermitted
    ∷ done
    ∷ done
    ∷ refused Refusal.UnknownJob
    ∷ refused Refusal.NotPermitted
    ∷ refused Refusal.NotPermitted
    ∷ [])
unfolding answer_to any_below is_below joined
roles_outcomes = refl

roles_letter : letter ((view ((run 1 roles).site 0).set).job job) ≡ Some Queued
unfolding answer_to any_below is_below joined
roles_letter = refl

-- the last Release found no live pair, and added nothing
roles_version : (view ((run 1 roles).site 0).set).version ≡ 5 ∷ replicate 15 0
unfolding answer_to any_below is_below joined
roles_version = refl

-- ---- a hold that a release did not see stays, and a late packet brings back none that was released
abbrev holds : List Event
holds =
    by_ann 0 (Command.Submit (values both_sites) true)
    ∷ Ship 0 1
    ∷ Take 1 1
    ∷ by_ann 0 (Command.Hold job (kinds 1))
    ∷ by_ann 1 (Command.Release job (kinds 1))
    ∷ Ship 0 1
    ∷ Ship 1 0
    ∷ Take 1 2
    ∷ Take 0 3
    ∷ []

unseen_letter : letter ((view ((run 2 holds).site 1).set).job job) ≡ Some Held
unfolding answer_to any_below is_below joined
unseen_letter = refl

abbrev later : List Event
later = by_ann 0 (Command.Release job (kinds 1)) ∷ Ship 0 1 ∷ Take 1 4 ∷ Take 1 4 ∷ Take 1 2 ∷ []

later_outcomes : outcomes_from 2 (run 2 holds) later ≡ (done ∷ Outcome.Packet 4 ∷ taken ∷ known ∷ known ∷ [])
unfolding answer_to any_below is_below joined
later_outcomes = refl

later_letter : letter ((view ((run_from 2 (run 2 holds) later).site 1).set).job job) ≡ Some Queued
unfolding answer_to any_below is_below joined
later_letter = refl

-- ---- a job that is deleted at one site and begun at another
abbrev begun_and_deleted : List Event
begun_and_deleted =
    submit 0
    ∷ by_ann 0 (Command.Grant job 0)
    ∷ Ship 0 1
    ∷ Take 1 1
    ∷ by_ann 0 (Command.Begin job 10)
    ∷ by_ann 1 (Command.Delete job)
    ∷ by_ann 1 (Command.Delete job)
    ∷ Ship 0 1
    ∷ Ship 1 0
    ∷ Take 1 2
    ∷ Take 0 3
    ∷ []

exiting : letter ((view ((run 2 begun_and_deleted).site 1).set).job job) ≡ Some Exiting
unfolding answer_to any_below is_below joined
exiting = refl

exiting_outcomes : outcomes_from 2 (run 2 begun_and_deleted) (by_ann 0 (Command.Delete job) ∷ by_ann 0 (Command.Finish job 20 0) ∷ by_ann 0 (Command.Delete job) ∷ []) ≡
    (done ∷ done ∷ refused Refusal.Gone ∷ [])
unfolding answer_to any_below is_below joined
exiting_outcomes = refl

-- ---- roles: holds of several kinds, each released by who may
abbrev ann_name : List ℕ
ann_name = 97 ∷ 110 ∷ 110 ∷ []

abbrev several : List Event
several =
    submit 0
    ∷ by bob Role.User (Command.Hold job (kinds 4))
    ∷ by bob Role.Administrator (Command.Hold job (kinds 4))
    ∷ by bob Role.Operator (Command.Hold job (kinds 3))
    ∷ by_ann 0 (Command.Grant job 0)
    ∷ by_ann 0 (Command.Release job (kinds 1))
    ∷ by ann_name Role.User (Command.Release job (kinds 2))
    ∷ by bob Role.Administrator (Command.Release job (kinds 6))
    ∷ by_ann 0 (Command.Release job (kinds 1))
    ∷ by_ann 0 (Command.Hold (at 9 0) (kinds 1))
    ∷ []

several_outcomes : outcomes 1 several ≡
    (Outcome.Replied (Reply.Submitted job)
    ∷ refused Refusal.NotPermitted
    ∷ done
    ∷ done
    ∷ refused Refusal.Held
    ∷ done
    ∷ refused Refusal.NotPermitted
    ∷ done
    ∷ done
    ∷ refused Refusal.UnknownJob
    ∷ [])
unfolding answer_to any_below is_below joined
several_outcomes = refl

several_letter : letter ((view ((run 1 several).site 0).set).job job) ≡ Some Queued
unfolding answer_to any_below is_below joined
several_letter = refl

-- ---- eligible sites: an alteration takes the place of the sites seen
abbrev moved : Changes
moved = record prioritized { sites = Some second_site }

moved_outcomes : outcomes 2 (submit 0 ∷ by_ann 0 (Command.Alter job moved) ∷ by_ann 0 (Command.Grant job 0) ∷ by_ann 0 (Command.Grant job 1) ∷ []) ≡
    (Outcome.Replied (Reply.Submitted job) ∷ done ∷ refused Refusal.NotEligible ∷ Outcome.Replied Reply.Granted ∷ [])
unfolding answer_to any_below is_below joined
moved_outcomes = refl

-- ---- reservations
abbrev window : ℕ → Window
window start = record { site = 0; start = start; end = 60; nodes = 8 }

abbrev reservations : List Event
reservations =
    by bob Role.Operator (Command.Reserve (window 50))
    ∷ submit 0
    ∷ by bob Role.Operator (Command.Cancel (at 1 0))
    ∷ by bob Role.Operator (Command.Cancel (at 1 0))
    ∷ by bob Role.Operator (Command.Cancel (at 2 0))
    ∷ by_ann 0 (Command.Reserve (window 50))
    ∷ by bob Role.Operator (Command.Reserve (window 60))
    ∷ by_ann 0 (Command.Delete (at 1 0))
    ∷ []

reservations_outcomes : outcomes 1 reservations ≡
    (Outcome.Replied (Reply.Reserved (at 1 0))
    ∷ Outcome.Replied (Reply.Submitted (at 2 0))
    ∷ done
    ∷ refused Refusal.UnknownReservation
    ∷ refused Refusal.UnknownReservation
    ∷ refused Refusal.NotPermitted
    ∷ refused Refusal.BadWindow
    ∷ refused Refusal.UnknownJob
    ∷ [])
unfolding answer_to any_below is_below joined
reservations_outcomes = refl

-- the window stands from the Reserve on, and is cancelled by the site's third operation
reserved_window : (view ((run 1 (by bob Role.Operator (Command.Reserve (window 50)) ∷ [])).site 0).set).reservation (at 1 0) ≡ Some (at 1 0, Some (window 50))
unfolding answer_to any_below is_below joined
reserved_window = refl

cancelled_window : (view ((run 1 reservations).site 0).set).reservation (at 1 0) ≡ Some (at 3 0, None)
unfolding answer_to any_below is_below joined
cancelled_window = refl
