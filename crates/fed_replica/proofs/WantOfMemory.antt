-- No refusal of the table is want of memory.
use Rattle.std.specs.Prelude.{not, ◌&&◌, Option, Some, None, Result, Ok, Err, if◌then◌else◌}
use Rattle.std.proofs.Common.{◌≡◌, ℕ, ◌==◌, Bool, true, false, List, [], ◌∷◌, refl, sym, ap, ◌∙◌}
use Rattle.std.proofs.lemmas.Bool.{and_parts}
use Rattle.fed_stamp.specs.declared.versions.ClockFull.{ClockFull}
use Rattle.fed_stamp.specs.Stamp.{StampValue}
use Rattle.fed_stamp.specs.Version.{next_stamp}
use Rattle.fed_model.specs.declared.askers.Who.{Who}
use Rattle.fed_model.specs.declared.commands.Command.{Command}
use Rattle.fed_model.specs.declared.refusals.Refusal.{Refusal}
use Rattle.fed_model.specs.Answer.{Answer.Refuses, answer_to, answer_unless, effect, replies}
use Rattle.fed_model.specs.Body.{Body}
use Rattle.fed_model.specs.Desk.{Case, first_of}
use Rattle.fed_model.specs.Refusal.{number_of}
use Rattle.fed_model.specs.Refusals.{refusals}
use Rattle.fed_model.specs.View.{View}

abbrev never_wants : List Case → Bool
never_wants [] = true
never_wants (c ∷ cases) = not (number_of c.1 == 16) && never_wants cases

first_other : (cases : List Case) → never_wants cases ≡ true → first_of cases ≡ Some Refusal.NoMemory → ⊥
first_other [] h e = cc
first_other (c ∷ cases) h e = pick c.0 c.1 (first_of cases) (and_parts _ (never_wants cases) h).0 (first_other cases (and_parts _ (never_wants cases) h).1) e
  where
    pick : (b : Bool) (x : Refusal) (rest : Option Refusal) → not (number_of x == 16) ≡ true → (rest ≡ Some Refusal.NoMemory → ⊥) → (if b then Some x else rest) ≡ Some Refusal.NoMemory → ⊥
    pick true x rest h g e =
        let same : x ≡ Refusal.NoMemory = cc in
        let full : false ≡ true = sym (ap (λ (r : Refusal). not (number_of r == 16)) same) ∙ h in cc
    pick false x rest h g e = g e

table : (v : View) (here : ℕ) (who : Who) (command : Command) → never_wants (refusals v here who command) ≡ true
table v here who (Command.Submit values held) = refl
table v here who _ = refl

-- so no answer is
pub never_memory : (v : View) (here : ℕ) (who : Who) (command : Command) → answer_to v here who command ≡ Refuses Refusal.NoMemory → ⊥
unfolding answer_to
never_memory v here who command e = go (first_of (refusals v here who command)) refl (next_stamp v.version here) (effect v who command) e
  where
    go : (r : Option Refusal) → first_of (refusals v here who command) ≡ r → (n : Result StampValue ClockFull) (o : Option Body) → answer_unless r (replies n command o) ≡ Refuses Refusal.NoMemory → ⊥
    go (Some r) is n o f =
        let same : r ≡ Refusal.NoMemory = cc in
        first_other (refusals v here who command) (table v here who command) (is ∙ ap (λ (x : Refusal). Some x) same)
    go None is n None f = cc
    go None is (Err full) (Some body) f = cc
    go None is (Ok t) (Some body) f = cc
