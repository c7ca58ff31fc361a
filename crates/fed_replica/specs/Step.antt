-- What a site does next by its answer.
use Rattle.std.specs.Prelude.{◌≡◌, Some, None, Result, Ok, Err, MatchResult}
use Rattle.fed_stamp.specs.Stamp.{StampValue}
use Rattle.fed_model.specs.declared.commands.Command.{Command}
use Rattle.fed_model.specs.declared.refusals.Refusal.{Refusal}
use Rattle.fed_model.specs.declared.replies.Reply.{Reply}
use Rattle.fed_model.specs.Body.{Body}
use Rattle.fed_record.specs.Operation.{body_of}
use Rattle.fed_replica.specs.declared.steps.Step.{Step}
use Rattle.fed_model.specs.Answer.{Answer, Answer.Refuses, Answer.Replies}
use Rattle.fed_replica.specs.Growth.{HasList}

-- the answer that a step or a refusal comes of
abbrev pub answer_by : Result Step Refusal → Answer
answer_by (Err refusal) = Refuses refusal
answer_by (Ok (Step.Nothing reply)) = Replies reply None
answer_by (Ok (Step.Adds at operation reply)) = Replies reply (Some (at, body_of operation))

-- the step adds the operation with its stamp, and replies this
abbrev pub IsAddition : Step → Reply → StampValue × Body → Type 0
IsAddition (Step.Nothing said) reply new = ⊥
IsAddition (Step.Adds at operation said) reply new = (said ≡ reply) × (at ≡ new.0) × (body_of operation ≡ new.1)

-- what is done next where a command has this answer: what the answer says; or memory is refused, where the operation
-- that is added has a list
abbrev pub IsStep : Answer → Command → Result Step Refusal → Type 0
IsStep (Refuses refusal) command next = next ≡ Err refusal
IsStep (Replies reply None) command next = next ≡ Ok (Step.Nothing reply)
IsStep (Replies reply (Some new)) command next = MatchResult next
    (λ step. IsAddition step reply new) (λ e. (e ≡ Refusal.NoMemory) × HasList command)
