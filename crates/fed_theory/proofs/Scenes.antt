-- Worked runs, each computed by the definitions: two sites exchange what they have.
use Rattle.std.proofs.Common.{◌≡◌, ℕ, List, [], ◌∷◌, Bool, true, false, refl}
use Rattle.std.specs.Prelude.{pos, Some, None, replicate}
use Rattle.fed_stamp.specs.Stamp.{StampValue}
use Rattle.fed_stamp.specs.Version.{is_below, joined}
use Rattle.fed_model.specs.declared.askers.Role.TheVariants as Role
use Rattle.fed_model.specs.declared.askers.Who.{Who}
use Rattle.fed_model.specs.declared.commands.Command.{Command}
use Rattle.fed_model.specs.declared.letters.Letter.TheVariants.{Queued}
use Rattle.fed_model.specs.declared.refusals.Refusal.{Refusal}
use Rattle.fed_model.specs.declared.replies.Reply.{Reply}
use Rattle.fed_model.specs.declared.values.Changes.{Changes}
use Rattle.fed_model.specs.declared.values.JobValues.{JobValues}
use Rattle.fed_model.specs.Letter.{any_below, letter}
use Rattle.fed_model.specs.View.{view}
use Rattle.fed_model.specs.Answer.{answer_to}
use Rattle.fed_model.specs.declared.events.Event.{Event}
use Rattle.fed_model.specs.declared.events.Event.TheVariants.{Do, Ship, Take}
use Rattle.fed_model.specs.declared.outcomes.Outcome.{Outcome}
use Rattle.fed_model.specs.Run.{run, outcomes}

abbrev pub at : ℕ → ℕ → StampValue
at counter site = record { counter = counter; site = site }

abbrev pub ann : Who
ann = record { user = 97 ∷ 110 ∷ 110 ∷ []; role = Role.User }

abbrev pub values : List Bool → JobValues
values sites = record { name = 74 ∷ []; priority = pos 0; nodes = 1; limit = 3600; account = None; sites = sites }

-- sites 0 and 1
abbrev pub both_sites : List Bool
both_sites = true ∷ true ∷ replicate 14 false

-- site 1
abbrev pub second_site : List Bool
second_site = false ∷ true ∷ replicate 14 false

abbrev pub by_ann : ℕ → Command → Event
by_ann site command = Do site ann command

abbrev pub submit : ℕ → Event
submit site = by_ann site (Command.Submit (values both_sites) false)

abbrev pub prioritized : Changes
prioritized = record { name = None; priority = Some (pos 3); nodes = None; limit = None; account = None; sites = None }

abbrev pub job : StampValue
job = at 1 0

abbrev pub refused : Refusal → Outcome
refused refusal = Outcome.Refused refusal

abbrev pub done : Outcome
done = Outcome.Replied Reply.Done

abbrev pub taken : Outcome
taken = Outcome.Taken (record { grew = true })

abbrev pub known : Outcome
known = Outcome.Taken (record { grew = false })

-- ---- two sites submit a job each, at one counter, and exchange
abbrev exchange : List Event
exchange = submit 0 ∷ submit 1 ∷ Ship 0 1 ∷ Ship 1 0 ∷ Take 1 1 ∷ Take 0 2 ∷ []

exchange_outcomes : outcomes 2 exchange ≡
    (Outcome.Replied (Reply.Submitted job)
    ∷ Outcome.Replied (Reply.Submitted (at 1 1))
    ∷ Outcome.Packet 1
    ∷ Outcome.Packet 2
    ∷ taken
    ∷ taken
    ∷ [])
unfolding answer_to any_below is_below joined
exchange_outcomes = refl

exchange_versions : (view ((run 2 exchange).site 0).set).version ≡ (view ((run 2 exchange).site 1).set).version
unfolding answer_to any_below is_below joined
exchange_versions = refl

exchange_letter : letter ((view ((run 2 exchange).site 0).set).job (at 1 1)) ≡ Some Queued
unfolding answer_to any_below is_below joined
exchange_letter = refl
