-- What is answered to a Grant, by what the desk decides.
use Rattle.std.specs.Prelude.{Bool, true, false, not, ◌&&◌, nat_le, nat_eq, is_some, if◌then◌else◌, Option, Some, None, Ok, Err}
use Rattle.std.specs.Option.{option_eq}
use Rattle.std.proofs.Common.{◌≡◌, ℕ, ◌+◌, List, [], ◌∷◌, ◌++◌, refl, sym, ap, ◌∙◌, arith}
use Rattle.std.proofs.lemmas.Bool.Decides.{nat_tests}
use Rattle.fed_stamp.specs.Stamp.{StampValue}
use Rattle.fed_stamp.specs.Version.{next_stamp}
use Rattle.fed_model.specs.declared.askers.Who.{Who}
use Rattle.fed_model.specs.declared.commands.Command.{Command}
use Rattle.fed_model.specs.declared.grants.GrantStage.{GrantStage}
use Rattle.fed_model.specs.declared.grants.GrantStage.TheVariants.{Open, Returned}
use Rattle.fed_model.specs.declared.refusals.Refusal.{Refusal}
use Rattle.fed_model.specs.declared.replies.Reply.{Reply}
use Rattle.fed_model.specs.declared.terms.TheConstants.{MAX_TERM}
use Rattle.fed_model.specs.Body.{Body, JobBody}
use Rattle.fed_model.specs.Letter.{holder_in, is_granted_to}
use Rattle.fed_model.specs.View.{View}
use Rattle.fed_model.specs.declared.decisions.Decision.{Decision}
use Rattle.fed_model.specs.Desk.{Case, decision, decision_unless, first_of, grant_refusals}
use Rattle.fed_model.specs.Answer.{Answer.Refuses, Answer.Replies, answer_to, effect, term_in}
use Rattle.fed_model.specs.Refusals.{is_last_term, refusals}
use Rattle.fed_theory.proofs.Allowed.{clear}
use Rattle.fed_replica.proofs.StepLaws.{refused, nothing_added, full, added}

-- ---- a table with one more row
first_before : (cases more : List Case) (refusal : Refusal) → first_of cases ≡ Some refusal → first_of (cases ++ more) ≡ Some refusal
first_before [] more refusal e = cc
first_before (c ∷ cases) more refusal e = go c.0 e (first_before cases more refusal)
  where
    go : (b : Bool) → (if b then Some c.1 else first_of cases) ≡ Some refusal → (first_of cases ≡ Some refusal → first_of (cases ++ more) ≡ Some refusal) → (if b then Some c.1 else first_of (cases ++ more)) ≡ Some refusal
    go true f rest = f
    go false f rest = rest f

last_applies : (cases : List Case) (last : Case) → first_of cases ≡ None → first_of (cases ++ last ∷ []) ≡ (if last.0 then Some last.1 else None)
last_applies [] last e = refl
last_applies (c ∷ cases) last e = go c.0 e (last_applies cases last)
  where
    go : (b : Bool) → (if b then Some c.1 else first_of cases) ≡ None → (first_of cases ≡ None → first_of (cases ++ last ∷ []) ≡ (if last.0 then Some last.1 else None)) → (if b then Some c.1 else first_of (cases ++ last ∷ [])) ≡ (if last.0 then Some last.1 else None)
    go true f rest = cc
    go false f rest = rest f

-- ---- what a decision comes of
refused_by : (first : Option Refusal) (yours : Bool) (refusal : Refusal) → decision_unless first yours ≡ Decision.Refused refusal → first ≡ Some refusal
refused_by (Some other) yours refusal e = cc
refused_by None true refusal e = cc
refused_by None false refusal e = cc

yours_by : (first : Option Refusal) (yours : Bool) → decision_unless first yours ≡ Decision.Yours → (first ≡ None) × (yours ≡ true)
yours_by (Some other) yours e = cc
yours_by None true e = (refl, refl)
yours_by None false e = cc

granted_by : (first : Option Refusal) (yours : Bool) → decision_unless first yours ≡ Decision.Grant → (first ≡ None) × (yours ≡ false)
granted_by (Some other) yours e = cc
granted_by None true e = cc
granted_by None false e = (refl, refl)

-- ---- the last term
open_not_last : (g : Option GrantStage) (site : ℕ) → option_eq nat_eq (holder_in g) (Some site) ≡ true → is_last_term g ≡ false
open_not_last None site e = refl
open_not_last (Some (Open term s holder)) site e = refl
open_not_last (Some (Returned term s)) site e = cc

free_last : (g : Option GrantStage) (site : ℕ) → (is_some (holder_in g) && not (option_eq nat_eq (holder_in g) (Some site))) ≡ false → option_eq nat_eq (holder_in g) (Some site) ≡ false → is_last_term g ≡ nat_le MAX_TERM (term_in g)
free_last None site e f = refl
free_last (Some (Open term s holder)) site e f = let h = rw f at e in cc
free_last (Some (Returned term s)) site e f = refl

-- the term that is made of a number, if it is one
abbrev new_term : ℕ → Option ℕ
new_term n = if nat_le 1 n && nat_le n MAX_TERM then Some n else None

no_term : (n : ℕ) → new_term (n + 1) ≡ None → nat_le MAX_TERM n ≡ true
no_term n e = grind (arith, nat_tests)

is_term : (n term : ℕ) → new_term (n + 1) ≡ Some term → (nat_le MAX_TERM n ≡ false) × (n + 1 ≡ term)
is_term n term e = (grind (arith, nat_tests), grind (arith, nat_tests))

module _ (v : View) (here : ℕ) (who : Who) (job : StampValue) (asker : ℕ) where
  abbrev last : Case
  last = (is_last_term (v.job job).stages.grant, Refusal.ClockFull)

  pub grant_refused : (refusal : Refusal) → decision v here job asker ≡ Decision.Refused refusal → Refuses refusal ≡ answer_to v here who (Command.Grant job asker)
  grant_refused refusal d = refused v here who (Command.Grant job asker) refusal (first_before (grant_refusals v here job asker) (last ∷ []) refusal (refused_by _ _ refusal d))

  pub grant_yours : decision v here job asker ≡ Decision.Yours → Replies Reply.Yours None ≡ answer_to v here who (Command.Grant job asker)
  grant_yours d =
      let p = yours_by (first_of (grant_refusals v here job asker)) (is_granted_to (v.job job) asker) d in
      nothing_added v here who (Command.Grant job asker)
      (last_applies (grant_refusals v here job asker) last p.0 ∙ ap (λ b. if b then Some Refusal.ClockFull else None) (open_not_last (v.job job).stages.grant asker p.1))
      (ap (λ b. if b then None else Some (Body.OfJob job (JobBody.Grant asker (term_in (v.job job).stages.grant + 1)))) p.1)

  module _ (d : decision v here job asker ≡ Decision.Grant) (n : ℕ) (is : n ≡ term_in (v.job job).stages.grant) where
    parts : (first_of (grant_refusals v here job asker) ≡ None) × (is_granted_to (v.job job) asker ≡ false)
    parts = granted_by (first_of (grant_refusals v here job asker)) (is_granted_to (v.job job) asker) d

    table : first_of (refusals v here who (Command.Grant job asker)) ≡ (if nat_le MAX_TERM n then Some Refusal.ClockFull else None)
    table =
        last_applies (grant_refusals v here job asker) last parts.0
        ∙ ap (λ b. if b then Some Refusal.ClockFull else None)
        (free_last (v.job job).stages.grant asker (clear (grant_refusals v here job asker) parts.0).1.1.1.1.1.0 parts.1 ∙ ap (nat_le MAX_TERM) (sym is))

    grants : (term : ℕ) → n + 1 ≡ term → effect v who (Command.Grant job asker) ≡ Some (Body.OfJob job (JobBody.Grant asker term))
    grants term e =
        ap (λ b. if b then None else Some (Body.OfJob job (JobBody.Grant asker (term_in (v.job job).stages.grant + 1)))) parts.1
        ∙ ap (λ (k : ℕ). Some (Body.OfJob job (JobBody.Grant asker (k + 1)))) (sym is) ∙ ap (λ (k : ℕ). Some (Body.OfJob job (JobBody.Grant asker k))) e

    pub grant_last : None ≡ new_term (n + 1) → Refuses Refusal.ClockFull ≡ answer_to v here who (Command.Grant job asker)
    grant_last e = refused v here who (Command.Grant job asker) Refusal.ClockFull (table ∙ ap (λ b. if b then Some Refusal.ClockFull else None) (no_term n (sym e)))

    module _ (term : ℕ) (e : Some term ≡ new_term (n + 1)) where
      spared : first_of (refusals v here who (Command.Grant job asker)) ≡ None
      spared = table ∙ ap (λ b. if b then Some Refusal.ClockFull else None) (is_term n term (sym e)).0

      pub grant_full : next_stamp v.version here ≡ Err (record {}) → Refuses Refusal.ClockFull ≡ answer_to v here who (Command.Grant job asker)
      grant_full f = full v here who (Command.Grant job asker) spared (Body.OfJob job (JobBody.Grant asker term)) (grants term (is_term n term (sym e)).1) f

      pub grant_added : (at : StampValue) → next_stamp v.version here ≡ Ok at → Replies Reply.Granted (Some (at, Body.OfJob job (JobBody.Grant asker term))) ≡ answer_to v here who (Command.Grant job asker)
      grant_added at f = added v here who (Command.Grant job asker) spared at (Body.OfJob job (JobBody.Grant asker term)) (grants term (is_term n term (sym e)).1) f
