-- What is answered to a command, as the outcome of an event.
use Rattle.std.specs.Prelude.{Result, Ok, Err}
use Rattle.fed_model.specs.declared.outcomes.Outcome.{Outcome}
use Rattle.fed_model.specs.declared.refusals.Refusal.{Refusal}
use Rattle.fed_model.specs.declared.replies.Reply.{Reply}
use Rattle.fed_model.specs.Answer.{Answer, Answer.Refuses, Answer.Replies}

abbrev pub outcome_of_answer : Answer → Outcome
outcome_of_answer (Refuses refusal) = Outcome.Refused refusal
outcome_of_answer (Replies reply new) = Outcome.Replied reply

-- what `Replica::act` says
abbrev pub outcome_of : Result Reply Refusal → Outcome
outcome_of (Ok reply) = Outcome.Replied reply
outcome_of (Err refusal) = Outcome.Refused refusal
