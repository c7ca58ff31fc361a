-- What is read of a replica, and what answers to commands and packets leave of it.
use Rattle.std.specs.Prelude.{◌≡◌, ℕ, ◌<◌, nat_lt, replicate, List, [], Option, Some, None, if◌then◌else◌}
use Rattle.fed_stamp.specs.declared.sites.TheConstants.{SITES}
use Rattle.fed_stamp.specs.Indexes.{put}
use Rattle.fed_stamp.specs.Version.{joined, met}
use Rattle.fed_board.specs.Board.{board_reads}
use Rattle.fed_model.specs.View.{View, view}
use Rattle.fed_theory.specs.ViewSteps.{add_to_view, join_records}
use Rattle.fed_theory.specs.Cut.{cut}
use Rattle.fed_delta.specs.Packet.{PacketValue}
use Rattle.fed_model.specs.Answer.{Answer, Answer.Refuses, Answer.Replies}
use Rattle.fed_model.specs.Packet.{missing}
use Rattle.fed_replica.specs.Replica.{ReplicaValue, heard_from}

-- its site, its board, and of each site the version that was heard from it
pub record State : Type 0 where
  pub site : ℕ
  pub view : View
  pub heard : ℕ → List ℕ

-- a replica reads as the state
pub record IsState (r : ReplicaValue) (s : State) : Type 0 where
  pub site : r.site ≡ s.site
  pub board : board_reads r.board ≡ s.view
  pub heard : (from : ℕ) → from < SITES → heard_from r from ≡ s.heard from

-- what is read of a replica; beyond the 16 sites nothing was heard
abbrev pub state_of : ReplicaValue → State
state_of r = record {
  site = r.site;
  view = board_reads r.board;
  heard = λ from. if nat_lt from SITES then heard_from r from else replicate SITES 0;
}

-- a site's empty replica
abbrev pub empty_at : ℕ → State
empty_at site = record { site = site; view = view []; heard = λ from. replicate SITES 0 }

-- what an answer to a command leaves
abbrev pub after_answer : State → Answer → State
after_answer s (Refuses refusal) = s
after_answer s (Replies reply None) = s
after_answer s (Replies reply (Some new)) = record { site = s.site; view = add_to_view s.view new; heard = s.heard }

-- the least site of which the packet needs more than the replica has
abbrev pub lacking : State → PacketValue → Option ℕ
lacking s p = missing p.delta.need s.view.version

-- what a packet leaves, where the replica lacks something or nothing of what the packet needs
abbrev pub after_packet_unless : Option ℕ → State → PacketValue → State
after_packet_unless (Some lacks) s p = s
after_packet_unless None s p = record {
  site = s.site;
  view = join_records s.view (board_reads p.delta.changes);
  heard = put s.heard p.sender (joined (s.heard p.sender) p.delta.changes.version);
}

-- the packet is what the replica tells of what it hasn't heard from a site
pub record IsMadeFor (s : State) (to : ℕ) (p : PacketValue) : Type 0 where
  pub sender : p.sender ≡ s.site
  pub need : p.delta.need ≡ met (s.heard to) s.view.version
  pub reached : p.delta.changes.version ≡ s.view.version
  pub cut_is : board_reads p.delta.changes ≡ cut s.view p.delta.need

-- the packet of another site that tells nothing but that it has seen what was heard from it
abbrev pub hearing : State → ℕ → PacketValue
hearing s from = record {
  sender = from;
  delta = record { need = s.heard from; changes = record { version = s.heard from; retired = []; jobs = []; reservations = [] } };
}
