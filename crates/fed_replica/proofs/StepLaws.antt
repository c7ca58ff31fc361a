-- Steps and answers, by the parts of the answer that they come of.
use Rattle.std.specs.Prelude.{Option, Some, None, Result, Ok, Err}
use Rattle.std.specs.Result.{IsErr, IsErrAnd}
use Rattle.std.proofs.Common.{◌≡◌, ℕ, true, refl, sym, subst, ap, ◌∙◌}
use Rattle.fed_stamp.specs.declared.versions.ClockFull.{ClockFull}
use Rattle.fed_stamp.specs.Stamp.{StampValue}
use Rattle.fed_stamp.specs.Version.{next_stamp}
use Rattle.fed_model.specs.declared.askers.Who.{Who}
use Rattle.fed_model.specs.declared.commands.Command.{Command}
use Rattle.fed_record.specs.declared.operations.Operation.{Operation}
use Rattle.fed_model.specs.declared.refusals.Refusal.{Refusal}
use Rattle.fed_model.specs.declared.replies.Reply.{Reply}
use Rattle.fed_model.specs.Body.{Body}
use Rattle.fed_record.specs.Operation.{body_of}
use Rattle.fed_model.specs.View.{View}
use Rattle.fed_model.specs.Desk.{first_of}
use Rattle.fed_replica.specs.declared.steps.Step.{Step}
use Rattle.fed_model.specs.Answer.{Answer, Answer.Refuses, Answer.Replies, answer_to, answer_unless, effect, replies, reply_with, reply_without}
use Rattle.fed_model.specs.Refusals.{refusals}
use Rattle.fed_replica.specs.Outcome.{adds}
use Rattle.fed_replica.specs.Step.{IsStep, answer_by}

-- ---- a step that says its answer is one of it
itself : (command : Command) (next : Result Step Refusal) → IsStep (answer_by next) command next
itself command (Err refusal) = refl
itself command (Ok (Step.Nothing reply)) = refl
itself command (Ok (Step.Adds at operation reply)) = (refl, refl, refl)

pub step_by : (a : Answer) (command : Command) (next : Result Step Refusal) → answer_by next ≡ a → IsStep a command next
step_by a command next e = subst (λ b. IsStep b command next) e (itself command next)

-- ---- the answer
module _ (v : View) (here : ℕ) (who : Who) (command : Command) where
  answered : (r : Option Refusal) (n : Result StampValue ClockFull) (o : Option Body) → first_of (refusals v here who command) ≡ r → next_stamp v.version here ≡ n → effect v who command ≡ o
      → answer_unless r (replies n command o) ≡ answer_to v here who command
  unfolding answer_to
  answered r n o e f g = sym (λ i. answer_unless (e i) (replies (f i) command (g i)))

  pub refused : (refusal : Refusal) → first_of (refusals v here who command) ≡ Some refusal → Refuses refusal ≡ answer_to v here who command
  refused refusal e = answered (Some refusal) _ _ e refl refl

  module _ (spared : first_of (refusals v here who command) ≡ None) where
    pub nothing_added : effect v who command ≡ None → Replies (reply_without command) None ≡ answer_to v here who command
    nothing_added e = answered None _ None spared refl e

    pub full : (body : Body) → effect v who command ≡ Some body → next_stamp v.version here ≡ Err (record {}) → Refuses Refusal.ClockFull ≡ answer_to v here who command
    full body e f = answered None (Err (record {})) (Some body) spared f e

    pub added : (t : StampValue) (body : Body) → effect v who command ≡ Some body → next_stamp v.version here ≡ Ok t → Replies (reply_with t command) (Some (t, body)) ≡ answer_to v here who command
    added t body e f = answered None (Ok t) (Some body) spared f e

  -- what an answer that adds an operation comes of
  pub sources : (reply : Reply) (new : StampValue × Body) → answer_to v here who command ≡ Replies reply (Some new)
      → (first_of (refusals v here who command) ≡ None) × (effect v who command ≡ Some new.1) × (next_stamp v.version here ≡ Ok new.0)
  unfolding answer_to
  sources reply new e = go (first_of (refusals v here who command)) refl (next_stamp v.version here) refl (effect v who command) refl e
    where
      go : (r : Option Refusal) → first_of (refusals v here who command) ≡ r → (n : Result StampValue ClockFull) → next_stamp v.version here ≡ n → (o : Option Body) → effect v who command ≡ o
          → answer_unless r (replies n command o) ≡ Replies reply (Some new) → (first_of (refusals v here who command) ≡ None) × (effect v who command ≡ Some new.1) × (next_stamp v.version here ≡ Ok new.0)
      go (Some r) is n at o it f = cc
      go None is n at None it f = cc
      go None is (Err full) at (Some b) it f = cc
      go None is (Ok t) at (Some b) it f =
          let p : ◌≡◌ {A = StampValue × Body} (t, b) new = cc in
          (is, it ∙ ap (λ (x : StampValue × Body). Some x.1) p, at ∙ ap (λ (x : StampValue × Body). Ok x.0) p)

-- ---- a step that adds is the answer that does
pub step_answer : (a : Answer) (command : Command) (t : StampValue) (operation : Operation) (reply : Reply) → IsStep a command (Ok (Step.Adds t operation reply)) → a ≡ Replies reply (Some (t, body_of operation))
step_answer (Refuses refusal) command t operation reply h = cc
step_answer (Replies said None) command t operation reply h = cc
step_answer (Replies said (Some new)) command t operation reply h = sym (λ i. Replies (h.0 i) (Some (h.1 i, h.2 i)))

-- memory is wanted where an operation is added
pub wants_memory : (a : Answer) (command : Command) (refusal : Refusal) → IsStep a command (Err refusal) → refusal ≡ Refusal.NoMemory → (a ≡ Refuses Refusal.NoMemory → ⊥) → adds a ≡ true
wants_memory (Refuses due) command refusal h full never =
    let same : refusal ≡ due = cc in absurd (never (ap Refuses (sym same ∙ full)))
wants_memory (Replies said None) command refusal h full never = cc
wants_memory (Replies said (Some new)) command refusal h full never = refl

-- an error that was converted is the one that is said
pub said_refused : (r : Result Step Refusal) (e : Refusal) → IsErr r × IsErrAnd r (λ x. x ≡ e) → answer_by r ≡ Refuses e
said_refused (Ok x) e h = absurd h.1
said_refused (Err x) e h = ap Refuses h.1
