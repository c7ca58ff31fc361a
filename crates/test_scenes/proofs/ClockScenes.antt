-- A worked answer where no counter is left, computed by the definitions.
use Rattle.std.proofs.Common.{◌≡◌, [], ◌∷◌, refl}
use Rattle.fed_model.specs.declared.commands.Command.{Command}
use Rattle.fed_model.specs.declared.refusals.Refusal.{Refusal}
use Rattle.fed_model.specs.Letter.{any_below}
use Rattle.fed_model.specs.View.{View, view}
use Rattle.fed_model.specs.Answer.{Answer.Refuses, answer_to}
use Rattle.fed_theory.proofs.Scenes.{ann}

-- the greatest counter has been seen, of another site
abbrev full : View
full = record (view []) { version = 1 ∷ 1_000_000_000 ∷ [] }

-- that is answered before that a range begins at 0
full_clock : answer_to full 0 ann (Command.Retire 0 0) ≡ Refuses Refusal.ClockFull
unfolding answer_to any_below
full_clock = refl

-- with one counter left it is the range
full_range : answer_to (record full { version = 1 ∷ 999_999_999 ∷ [] }) 0 ann (Command.Retire 0 0) ≡ Refuses Refusal.NotSettled
unfolding answer_to any_below
full_range = refl
