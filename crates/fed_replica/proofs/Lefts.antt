-- What was heard by what is read of a replica, and what `act` says of an answer.
use Rattle.std.specs.Prelude.{Some, None, Result, Ok, Err, OnErr, nat_lt, replicate}
use Rattle.std.specs.Result.{IsErr, IsErrAnd}
use Rattle.std.proofs.Common.{◌≡◌, ℕ, ◌<◌, Bool, true, false, refl, sym, ap, subst}
use Rattle.std.proofs.lemmas.Bool.{cond-true, lt-ltb}
use Rattle.fed_model.specs.declared.refusals.Refusal.{Refusal}
use Rattle.fed_model.specs.declared.replies.Reply.{Reply}
use Rattle.fed_model.specs.Answer.{Answer, Answer.Refuses, Answer.Replies}
use Rattle.fed_model.specs.View.{View}
use Rattle.fed_replica.specs.Outcome.{adds, said_by}
use Rattle.fed_replica.specs.Replica.{ReplicaValue, IsDone, heard_from}
use Rattle.fed_replica.specs.State.{State, after_answer, state_of}

-- ---- what was heard from one of the 16 sites
pub heard_in : (r : ReplicaValue) (from : ℕ) → from < 16 → heard_from r from ≡ (state_of r).heard from
heard_in r from small = sym (cond-true (nat_lt from 16) (heard_from r from) (replicate 16 0) (lt-ltb from 16 small))

-- ---- what `act` says of an answer
pub done_as : (a : Answer) (s : State) (said : Result Reply Refusal) (left : State) → said ≡ said_by a → left ≡ after_answer s a → IsDone a s.view said left.view
done_as (Refuses refusal) s said left e f = (e, ap (λ (t : State). t.view) f)
done_as (Replies reply None) s said left e f = (e, ap (λ (t : State). t.view) f)
done_as (Replies reply (Some op)) s said left e f = subst (λ r. IsDone (Replies reply (Some op)) s.view r left.view) (sym e) (refl, ap (λ (t : State). t.view) f)

pub done_memory : (a : Answer) (before after : View) (said : Result Reply Refusal) → IsErr said × IsErrAnd said (λ e. e ≡ Refusal.NoMemory) → adds a ≡ true → after ≡ before → IsDone a before said after
done_memory a before after (Ok reply) h e f = absurd h.1
done_memory (Refuses due) before after (Err refusal) h e f = cc
done_memory (Replies reply None) before after (Err refusal) h e f = cc
done_memory (Replies reply (Some op)) before after (Err refusal) h e f = (h.1, f)

-- a refusal adds nothing
pub unchanged_where_refused : (a : Answer) (said : Result Reply Refusal) (added : Bool) (P : Type 0) → said ≡ said_by a → added ≡ adds a → (added ≡ false → P) → OnErr said P
unchanged_where_refused (Refuses due) said added P e f g = subst (λ r. OnErr r P) (sym e) (g f)
unchanged_where_refused (Replies reply new) said added P e f g = subst (λ r. OnErr r P) (sym e) tt
