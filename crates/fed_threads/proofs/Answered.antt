-- The entries of a settled order have the outcomes of the run.
use Rattle.std.proofs.Common.{◌≡◌, ℕ, List, [], ◌∷◌, ◌++◌, length, get_or, Option, Some, None, refl, sym, subst, ◌∙◌, append_assoc, append-nil}
use Rattle.fed_model.specs.declared.events.Event.{Event}
use Rattle.fed_model.specs.Run.{World, step, run, outcomes_from, outcomes}
use Rattle.fed_theory.proofs.Runs.{run-push}
use Rattle.fed_threads.specs.declared.journal.Claim.{Claim}
use Rattle.fed_threads.specs.declared.journal.Entry.{Entry}
use Rattle.fed_threads.specs.Claims.{HasOutcome}
use Rattle.fed_threads.specs.Placing.{entry_at, none_placed, with_next}
use Rattle.fed_threads.specs.Settle.{AnswersAre, HasItsOutcomes, IsSettled}
use Rattle.fed_threads.specs.Settled.{Point, starts, event_of, shown, AgreesIf, AllAgree, after_next, point_after, with_entry, with_entry_if}

module _ (journals : List (List Entry)) where
  abbrev n : ℕ
  n = length journals

  -- what a list of sites adds to the events is answered so
  abbrev IsAnswered : Point → List ℕ → Type 0
  IsAnswered p sites = (rest : List Event) × ((point_after journals p sites).events ≡ p.events ++ rest) × AnswersAre journals p.placed sites (outcomes_from n (run n p.events) rest)

  one_answered : (p : Point) (s : ℕ) (sites : List ℕ) (o : Option Entry) → o ≡ entry_at journals s (get_or p.placed s 0) → AgreesIf n p s o
      → ((e : Entry) → o ≡ Some e → IsAnswered (with_entry p s e) sites) → (rest : List Event) × ((point_after journals (with_entry_if p s o) sites).events ≡ p.events ++ rest)
      × AnswersAre journals p.placed (s ∷ sites) (outcomes_from n (run n p.events) rest)
  one_answered p s sites None at agrees later = absurd agrees
  one_answered p s sites (Some e) at agrees later =
      let event : Event = event_of p.ships e.asked in
      let more = later e refl in
      let here : HasOutcome (entry_at journals s (get_or p.placed s 0)) (shown (get_or p.placed s 0) (step n (run n p.events) event).outcome) =
      subst (λ (x : Option Entry). HasOutcome x (shown (get_or p.placed s 0) (step n (run n p.events) event).outcome)) at agrees.outcome in (
        event ∷ more.0,
        more.1 ∙ append_assoc p.events (event ∷ []) more.0,
        (here, subst (λ (w : World). AnswersAre journals (with_next p.placed s) sites (outcomes_from n w more.0)) (run-push n p.events event) more.2),
      )

  all_answered : (p : Point) (sites : List ℕ) → AllAgree journals p sites → IsAnswered p sites
  all_answered p [] all = ([], sym (append-nil p.events), tt)
  all_answered p (s ∷ sites) all =
      let rest = all_answered (after_next journals p s) sites all.1 in
      one_answered p s sites (entry_at journals s (get_or p.placed s 0)) refl all.0
      (λ e is. subst (λ (o : Option Entry). IsAnswered (with_entry_if p s o) sites) is rest)

pub settled_answers : (journals : List (List Entry)) (seats : List (List Claim)) (events : List Event) → IsSettled journals seats events → HasItsOutcomes journals seats events
settled_answers journals seats events settled =
    let answered = all_answered journals (starts journals) settled.sites settled.agree in
    let same : answered.0 ≡ events = sym answered.1 ∙ sym settled.events_are in
    (settled.sites, settled.placing, subst (λ (es : List Event). AnswersAre journals (none_placed journals) settled.sites (outcomes (length journals) es)) same answered.2)
