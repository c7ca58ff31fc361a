-- What is answered to commands and to packets.
use Rattle.std.specs.Prelude.{ℕ, Bool, true, false, not, Option, Some, None, Result, Ok, Err}
use Rattle.fed_stamp.specs.Version.{is_below}
use Rattle.fed_delta.specs.Packet.{PacketValue}
use Rattle.fed_model.specs.declared.outcomes.Outcome.{Outcome}
use Rattle.fed_model.specs.declared.refusals.Refusal.{Refusal}
use Rattle.fed_model.specs.declared.replies.Reply.{Reply}
use Rattle.fed_model.specs.Answer.{Answer, Answer.Refuses, Answer.Replies}
use Rattle.fed_replica.specs.declared.answers.Received.{Received}
use Rattle.fed_replica.specs.State.{State}

-- what is said
abbrev pub said_by : Answer → Result Reply Refusal
said_by (Refuses refusal) = Err refusal
said_by (Replies reply new) = Ok reply

-- an operation is added
abbrev pub adds : Answer → Bool
adds (Refuses refusal) = false
adds (Replies reply None) = false
adds (Replies reply (Some new)) = true

-- what is answered to a packet, as the outcome of an event, where the replica lacks something or nothing of what it needs
abbrev pub outcome_of_packet_unless : Option ℕ → State → PacketValue → Outcome
outcome_of_packet_unless (Some lacks) s p = Outcome.Gap lacks
outcome_of_packet_unless None s p =
    Outcome.Taken (record { grew = not (is_below p.delta.changes.version s.view.version) })

-- what `Replica::receive` says
abbrev pub outcome_of_received : Received → Outcome
outcome_of_received (Received.Taken taken) = Outcome.Taken taken
outcome_of_received (Received.Gap lacks) = Outcome.Gap lacks
