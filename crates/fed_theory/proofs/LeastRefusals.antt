-- Of the refusals that apply the one with the least number is answered.
use Rattle.std.specs.Prelude.{if◌then◌else◌, Option, Some, None}
use Rattle.std.proofs.Common.{◌≡◌, ℕ, ◌≤◌, List, [], ◌∷◌, Bool, true, false, refl, sym, ap, subst, ◌∙◌, inl, inr, arith}
use Rattle.std.proofs.lemmas.Bool.{both_ways}
use Rattle.fed_stamp.specs.Version.{next_stamp}
use Rattle.fed_lattice.specs.Sets.{Has}
use Rattle.fed_model.specs.declared.askers.Who.{Who}
use Rattle.fed_model.specs.declared.commands.Command.{Command}
use Rattle.fed_model.specs.declared.refusals.Refusal.{Refusal}
use Rattle.fed_model.specs.Refusal.{number_of}
use Rattle.fed_model.specs.View.{View}
use Rattle.fed_model.specs.Answer.{Answer, Answer.Refuses, effect, replies, answer_unless, answer_to}
use Rattle.fed_model.specs.Desk.{Case, first_of}
use Rattle.fed_model.specs.Refusals.{refusals}
use Rattle.fed_theory.proofs.Allowed.{AreClear, clear}

-- the numbers don't fall from n on
abbrev Ascends : ℕ → List Case → Type 0
Ascends n [] = Unit {0}
Ascends n (c ∷ cases) = (n ≤ number_of c.1) × Ascends (number_of c.1) cases

from_start : (n : ℕ) (cases : List Case) (c : Case) → Ascends n cases → Has cases c → n ≤ number_of c.1
from_start n [] c a h = absurd h
from_start n (d ∷ cases) c a (inl e) = subst (λ (x : Case). n ≤ number_of x.1) e a.0
from_start n (d ∷ cases) c a (inr h) = let rest = from_start (number_of d.1) cases c a.1 h in let first = a.0 in omega arith

least : (n : ℕ) (cases : List Case) (r : Refusal) (c : Case) → Ascends n cases → first_of cases ≡ Some r → Has cases c → c.0 ≡ true → number_of r ≤ number_of c.1
least n [] r c a e h t = absurd h
least n (d ∷ cases) r c a e h t = go d.0 refl e h (λ f k. least (number_of d.1) cases r c a.1 f k t)
  where
    go : (b : Bool) → d.0 ≡ b → (if b then Some d.1 else first_of cases) ≡ Some r → Has (d ∷ cases) c → (first_of cases ≡ Some r → Has cases c → number_of r ≤ number_of c.1) → number_of r ≤ number_of c.1
    go true is f (inl same) later = let p : d.1 ≡ r = cc in let q : number_of r ≡ number_of c.1 = ap number_of (sym p) ∙ ap (λ (x : Case). number_of x.1) same in omega arith
    go true is f (inr k) later = let p : d.1 ≡ r = cc in let q : number_of d.1 ≡ number_of r = ap number_of p in let above = from_start (number_of d.1) cases c a.1 k in omega arith
    go false is f (inl same) later = absurd (both_ways d.0 is (ap (λ (x : Case). x.0) same ∙ t))
    go false is f (inr k) later = later f k

none_applies : (cases : List Case) (c : Case) → AreClear cases → Has cases c → c.0 ≡ true → ⊥
none_applies [] c a h t = h
none_applies (d ∷ cases) c a (inl same) t = both_ways d.0 a.0 (ap (λ (x : Case). x.0) same ∙ t)
none_applies (d ∷ cases) c a (inr k) t = none_applies cases c a.1 k t

-- each table is in the order of its numbers
table_ascends : (v : View) (here : ℕ) (who : Who) (command : Command) → Ascends 1 (refusals v here who command)
table_ascends v here who (Command.Submit values held) = (omega arith, tt)
table_ascends v here who (Command.Alter job changes) = (omega arith, (omega arith, (omega arith, (omega arith, tt))))
table_ascends v here who (Command.Hold job kinds) = (omega arith, (omega arith, (omega arith, (omega arith, tt))))
table_ascends v here who (Command.Release job kinds) = (omega arith, (omega arith, (omega arith, tt)))
table_ascends v here who (Command.Delete job) = (omega arith, (omega arith, (omega arith, tt)))
table_ascends v here who (Command.Grant job asker) = (omega arith, (omega arith, (omega arith, (omega arith, (omega arith, (omega arith, (omega arith, tt)))))))
table_ascends v here who (Command.HandBack job) = (omega arith, (omega arith, (omega arith, (omega arith, tt))))
table_ascends v here who (Command.Decline job) = (omega arith, (omega arith, (omega arith, (omega arith, tt))))
table_ascends v here who (Command.Begin job moment) = (omega arith, (omega arith, (omega arith, (omega arith, (omega arith, tt)))))
table_ascends v here who (Command.Finish job moment status) = (omega arith, (omega arith, (omega arith, (omega arith, tt))))
table_ascends v here who (Command.Reserve window) = (omega arith, (omega arith, (omega arith, tt)))
table_ascends v here who (Command.Cancel id) = (omega arith, (omega arith, tt))
table_ascends v here who (Command.Retire first last) = (omega arith, (omega arith, (omega arith, tt)))

pub least_answered : (v : View) (here : ℕ) (who : Who) (command : Command) (refusal : Refusal) (c : Case) → answer_to v here who command ≡ Refuses refusal → Has (refusals v here who command) c → c.0 ≡ true → number_of refusal ≤ number_of c.1
unfolding answer_to
least_answered v here who command refusal c e h t =
    go (first_of (refusals v here who command)) refl (replies (next_stamp v.version here) command (effect v who command)) e
  where
    go : (r : Option Refusal) → first_of (refusals v here who command) ≡ r → (said : Answer) → answer_unless r said ≡ Refuses refusal → number_of refusal ≤ number_of c.1
    go (Some r) is said f =
        let p : r ≡ refusal = cc in
        let low = least 1 (refusals v here who command) r c (table_ascends v here who command) is h t in
        subst (λ x. number_of x ≤ number_of c.1) p low
    go None is said f = absurd (none_applies (refusals v here who command) c (clear (refusals v here who command) is) h t)

-- a case that applies is refused
pub applies_refused : (v : View) (here : ℕ) (who : Who) (command : Command) (c : Case) → Has (refusals v here who command) c → c.0 ≡ true → (refusal : Refusal) × (answer_to v here who command ≡ Refuses refusal)
unfolding answer_to
applies_refused v here who command c h t = go (first_of (refusals v here who command)) refl
  where
    go : (r : Option Refusal) → first_of (refusals v here who command) ≡ r → (refusal : Refusal) × (answer_unless r (replies (next_stamp v.version here) command (effect v who command)) ≡ Refuses refusal)
    go (Some r) is = (r, refl)
    go None is = absurd (none_applies (refusals v here who command) c (clear (refusals v here who command) is) h t)
