-- A site's journal, run again from the site's empty replica.
use Rattle.std.specs.Prelude.{◌≡◌, ℕ, ◌+◌, List, [], ◌∷◌, ◌++◌, length, Option, Some, None}
use Rattle.fed_delta.specs.Packet.{PacketValue}
use Rattle.fed_model.specs.Answer.{answer_to}
use Rattle.fed_replica.specs.Replica.{ReplicaValue}
use Rattle.fed_replica.specs.State.{State, IsState, empty_at, after_answer, lacking, after_packet_unless}
use Rattle.fed_model.specs.declared.outcomes.Outcome.{Outcome}
use Rattle.fed_model.specs.Outcome.{outcome_of_answer}
use Rattle.fed_replica.specs.Outcome.{outcome_of_packet_unless}
use Rattle.fed_threads.specs.declared.journal.Asked.{Asked}
use Rattle.fed_threads.specs.declared.journal.Asked.TheVariants.{Do, Ship, Take}
use Rattle.fed_threads.specs.declared.journal.Entry.{Entry}

-- what an entry leaves of a replica; a take is of the packet that the entry holds
abbrev pub after_event : State → Asked → Option PacketValue → State
after_event s (Do site who command) packet = after_answer s (answer_to s.view s.site who command)
after_event s (Ship site to) packet = s
after_event s (Take site sender place) None = s
after_event s (Take site sender place) (Some p) = after_packet_unless (lacking s p) s p

-- what the replica answers, where the entry stands at this place of its journal
abbrev pub outcome_at : State → ℕ → Asked → Option PacketValue → Outcome
outcome_at s place (Do site who command) packet = outcome_of_answer (answer_to s.view s.site who command)
outcome_at s place (Ship site to) packet = Outcome.Packet place
outcome_at s place (Take site sender at) None = Outcome.NoPacket
outcome_at s place (Take site sender at) (Some p) = outcome_of_packet_unless (lacking s p) s p

-- the replica after these entries
abbrev pub replay_from : State → List Entry → State
replay_from s [] = s
replay_from s (e ∷ es) = replay_from (after_event s e.asked e.packet) es

-- each entry, the first of which stands at this place, has the outcome that the replay gives there
abbrev pub OutcomesHold : State → ℕ → List Entry → Type 0
OutcomesHold s place [] = Unit {0}
OutcomesHold s place (e ∷ es) =
    (e.outcome ≡ outcome_at s place e.asked e.packet) × OutcomesHold (after_event s e.asked e.packet) (place + 1) es

-- the replay of the journal is the replica, and each entry's outcome is what the replay gives there
pub record IsReplayed (replica : ReplicaValue) (entries : List Entry) : Type 0 where
  pub state : IsState replica (replay_from (empty_at replica.site) entries)
  pub outcomes : OutcomesHold (empty_at replica.site) 0 entries

-- what a lock keeps: whose journal it is, and its entries
pub record Kept : Type 0 where
  pub site : ℕ
  pub entries : List Entry

abbrev pub replay : Kept → State
replay k = replay_from (empty_at k.site) k.entries

-- one entry was added, with the outcome that the replay gives there
pub record Appends (old new : Kept) (asked : Asked) (packet : Option PacketValue) (outcome : Outcome) : Type 0 where
  pub site : new.site ≡ old.site
  pub entries : new.entries ≡ old.entries ++ record { asked = asked; packet = packet; outcome = outcome } ∷ []
  pub answer : outcome ≡ outcome_at (replay old) (length old.entries) asked packet
  pub state : replay new ≡ after_event (replay old) asked packet
