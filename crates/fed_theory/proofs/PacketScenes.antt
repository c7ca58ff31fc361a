-- Worked runs, each computed by the definitions: packets that are late, repeated, made for another site or not there.
use Rattle.std.proofs.Common.{◌≡◌, ℕ, List, [], ◌∷◌, ◌++◌, refl}
use Rattle.std.specs.Prelude.{pos, Some, None}
use Rattle.fed_stamp.specs.Version.{is_below, joined}
use Rattle.fed_model.specs.declared.commands.Command.{Command}
use Rattle.fed_model.specs.declared.letters.Letter.TheVariants.{Queued}
use Rattle.fed_model.specs.declared.replies.Reply.{Reply}
use Rattle.fed_model.specs.declared.values.Changes.{Changes}
use Rattle.fed_model.specs.Letter.{any_below, letter}
use Rattle.fed_model.specs.View.{view}
use Rattle.fed_model.specs.Answer.{answer_to}
use Rattle.fed_model.specs.declared.events.Event.{Event}
use Rattle.fed_model.specs.declared.events.Event.TheVariants.{Ship, Take}
use Rattle.fed_model.specs.declared.outcomes.Outcome.{Outcome}
use Rattle.fed_model.specs.Run.{run, outcomes}
use Rattle.fed_theory.proofs.CommandScenes.{kinds}
use Rattle.fed_theory.proofs.Scenes.{at, by_ann, submit, job, done, taken, known}

-- ---- two alterations at one counter: the greater site's value stays
abbrev priority : ℕ → Changes
priority n = record { name = None; priority = Some (pos n); nodes = None; limit = None; account = None; sites = None }

abbrev altered_twice : List Event
altered_twice =
    submit 0
    ∷ submit 1
    ∷ Ship 0 1
    ∷ Ship 1 0
    ∷ Take 1 1
    ∷ Take 0 2
    ∷ by_ann 0 (Command.Alter job (priority 5))
    ∷ by_ann 1 (Command.Alter job (priority 7))
    ∷ Ship 0 1
    ∷ Ship 1 0
    ∷ Take 1 3
    ∷ Take 0 4
    ∷ []

altered_at_first : ((view ((run 2 altered_twice).site 0).set).job job).fields.priority ≡ Some (at 2 1, pos 7)
unfolding answer_to any_below is_below joined
altered_at_first = refl

altered_at_second : ((view ((run 2 altered_twice).site 1).set).job job).fields.priority ≡ Some (at 2 1, pos 7)
unfolding answer_to any_below is_below joined
altered_at_second = refl

-- ---- a late packet that still has a hold brings it back nowhere
abbrev late_hold : List Event
late_hold =
    submit 0
    ∷ by_ann 0 (Command.Hold job (kinds 1))
    ∷ Ship 0 2
    ∷ Ship 0 1
    ∷ Take 1 2
    ∷ by_ann 1 (Command.Release job (kinds 1))
    ∷ Ship 1 2
    ∷ Take 2 3
    ∷ Take 2 1
    ∷ []

late_hold_outcomes : outcomes 3 late_hold ≡
    (Outcome.Replied (Reply.Submitted job)
    ∷ done
    ∷ Outcome.Packet 1
    ∷ Outcome.Packet 2
    ∷ taken
    ∷ done
    ∷ Outcome.Packet 3
    ∷ taken
    ∷ known
    ∷ [])
unfolding answer_to any_below is_below joined
late_hold_outcomes = refl

late_hold_letter : letter ((view ((run 3 late_hold).site 2).set).job job) ≡ Some Queued
unfolding answer_to any_below is_below joined
late_hold_letter = refl

-- ---- a packet that was made for another site, which had heard more
abbrev for_another : List Event
for_another =
    submit 0
    ∷ Ship 0 1
    ∷ Take 1 1
    ∷ Ship 1 0
    ∷ Take 0 2
    ∷ submit 0
    ∷ Ship 0 1
    ∷ Take 2 3
    ∷ []

for_another_outcomes : outcomes 3 for_another ≡
    (Outcome.Replied (Reply.Submitted job)
    ∷ Outcome.Packet 1
    ∷ taken
    ∷ Outcome.Packet 2
    ∷ known
    ∷ Outcome.Replied (Reply.Submitted (at 2 0))
    ∷ Outcome.Packet 3
    ∷ Outcome.Gap 0
    ∷ [])
unfolding answer_to any_below is_below joined
for_another_outcomes = refl

nothing_of_the_gap : ((run 3 for_another).site 2).set ≡ []
unfolding answer_to any_below is_below joined
nothing_of_the_gap = refl

-- a packet made for the site brings both jobs, and the other one then nothing more
abbrev for_itself : List Event
for_itself = for_another ++ Ship 0 2 ∷ Take 2 4 ∷ Take 2 3 ∷ []

for_itself_outcomes : outcomes 3 for_itself ≡ outcomes 3 for_another ++ Outcome.Packet 4 ∷ taken ∷ known ∷ []
unfolding answer_to any_below is_below joined
for_itself_outcomes = refl

for_itself_versions : (view ((run 3 for_itself).site 0).set).version ≡ (view ((run 3 for_itself).site 2).set).version
unfolding answer_to any_below is_below joined
for_itself_versions = refl

for_itself_letter : letter ((view ((run 3 for_itself).site 2).set).job (at 2 0)) ≡ Some Queued
unfolding answer_to any_below is_below joined
for_itself_letter = refl

-- ---- packets and sites that are not there
abbrev not_there : List Event
not_there = Take 0 1 ∷ submit 2 ∷ Ship 0 5 ∷ Take 9 7 ∷ submit 0 ∷ Ship 0 1 ∷ Take 1 1 ∷ Take 1 1 ∷ []

not_there_outcomes : outcomes 2 not_there ≡
    (Outcome.NoPacket
    ∷ Outcome.NoSite
    ∷ Outcome.NoSite
    ∷ Outcome.NoSite
    ∷ Outcome.Replied (Reply.Submitted job)
    ∷ Outcome.Packet 1
    ∷ taken
    ∷ known
    ∷ [])
unfolding answer_to any_below is_below joined
not_there_outcomes = refl

not_there_versions : (view ((run 2 not_there).site 0).set).version ≡ (view ((run 2 not_there).site 1).set).version
unfolding answer_to any_below is_below joined
not_there_versions = refl
