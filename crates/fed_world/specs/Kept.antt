-- What the code keeps of a run: replicas that stand for the sites, and the texts of the packets made.
use Rattle.std.specs.Prelude.{◌≡◌, ℕ, ◌<◌, ◌≤◌, List, [], ◌∷◌, length, slice_index_or, Some}
use Rattle.fed_stamp.specs.declared.sites.TheConstants.{SITES}
use Rattle.fed_board.specs.Board.{board_reads}
use Rattle.fed_model.specs.View.{view}
use Rattle.fed_theory.specs.Cut.{cut}
use Rattle.serde_json.specs.Written.{compact_text}
use Rattle.fed_job_json.specs.declared.formats.Format.TheVariants.{Two}
use Rattle.fed_wire.specs.Packet.{IsPacket, packet_value}
use Rattle.fed_delta.specs.Packet.{PacketValue}
use Rattle.fed_wire.specs.Reading.{text_value}
use Rattle.fed_model.specs.Packet.{Site, Packet}
use Rattle.fed_replica.specs.Replica.{ReplicaValue, heard_from}
use Rattle.fed_model.specs.declared.events.Event.{Event}
use Rattle.fed_model.specs.RangedEvents.{AreRanged}
use Rattle.fed_model.specs.Run.{World, run}

-- what a caller sees of a world: how many sites it has, and the events that were run
pub record WorldValue : Type 0 where
  pub sites : ℕ
  pub events : List Event

-- the board of the i-th site's replica stands for the site's set, and the replica heard what the site heard
pub record IsReplica (i : ℕ) (s : Site) (r : ReplicaValue) : Type 0 where
  pub site : r.site ≡ i
  pub board : board_reads r.board ≡ view s.set
  pub heard : (from : ℕ) → from < SITES → heard_from r from ≡ s.heard from

-- each of the n sites has its replica
pub record AreReplicas (n : ℕ) (w : World) (replicas : List ReplicaValue) : Type 0 where
  pub count : length replicas ≡ n
  pub each : (i : ℕ) (r : ReplicaValue) → i < n → IsReplica i (w.site i) (slice_index_or replicas i r)

-- what is sent of a packet is cut from what it gives
pub record IsSentOf (p : Packet) (sent : PacketValue) : Type 0 where
  pub small : p.sender < SITES
  pub sender : sent.sender ≡ p.sender
  pub need : sent.delta.need ≡ p.need
  pub cut : board_reads sent.delta.changes ≡ cut (view p.gives) p.need

-- the text, of format 3 if something is retired in it and else of format 2, of a packet within limits that is sent of it;
-- the text is read as its value again
pub record IsTextOf (p : Packet) (bytes : List ℕ) : Type 0 where
  pub sent : PacketValue
  pub stands : IsSentOf p sent
  pub limits : IsPacket Two sent
  pub written : bytes ≡ compact_text (packet_value Two sent)
  pub again : text_value bytes ≡ Some (packet_value Two sent)

abbrev pub AreTexts : List Packet → List (List ℕ) → Type 0
AreTexts [] [] = Unit {0}
AreTexts (p ∷ packets) (text ∷ texts) = IsTextOf p text × AreTexts packets texts
AreTexts _ _ = ⊥

-- the values of the events are in range, and the replicas and the texts are those of a run of them
pub record IsKept (n : ℕ) (events : List Event) (all : List ReplicaValue) (sent : List (List ℕ)) : Type 0 where
  pub few : n ≤ SITES
  pub ranged : AreRanged events
  pub replicas : AreReplicas n (run n events) all
  pub texts : AreTexts (run n events).packets sent
