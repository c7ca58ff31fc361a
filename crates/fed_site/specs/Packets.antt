-- What a site answers to the text of a packet, before it looks whether it lacks something, and the text of its own.
use Rattle.std.specs.Prelude.{◌≡◌, ℕ, Bool, ◌||◌, nat_le, nat_lt, List, ◌++◌, drop, length, codes, Some}
use Rattle.std.specs.Fmt.{decimal}
use Rattle.std.specs.List.{list_any}
use Rattle.serde_json.specs.Written.{compact_text}
use Rattle.fed_stamp.specs.Version.{counter_of, met}
use Rattle.fed_lattice.specs.History.{History}
use Rattle.fed_lattice.specs.VersionOf.{version_of}
use Rattle.fed_model.specs.Body.{Body}
use Rattle.fed_board.specs.Board.{board_reads}
use Rattle.fed_model.specs.Lawful.{IsLawful}
use Rattle.fed_model.specs.View.{view}
use Rattle.fed_theory.specs.Cut.{cut}
use Rattle.fed_job_json.specs.declared.formats.Format.TheVariants.{Two}
use Rattle.fed_wire.specs.declared.faults.Part.{Part}
use Rattle.fed_wire.specs.declared.faults.Part.TheVariants.{Whole, Sender, Need, Reached, Jobs, Reservations, Retired}
use Rattle.fed_wire.specs.declared.faults.Place.{Place}
use Rattle.fed_wire.specs.declared.faults.WireFault.{WireFault}
use Rattle.fed_wire.specs.declared.faults.WireFault.TheVariants.{NotJson, Version, Shape, Range, NoMemory}
use Rattle.fed_model.specs.Limits.{IsWithinLimits}
use Rattle.fed_wire.specs.Packet.{IsPacket, packet_value}
use Rattle.fed_delta.specs.Packet.{PacketValue}
use Rattle.fed_wire.specs.Reading.{text_value}
use Rattle.fed_replica.specs.State.{State, IsMadeFor}

abbrev pub part_text : Part → List ℕ
part_text Whole = codes "whole"
part_text Sender = codes "sender"
part_text Need = codes "need"
part_text Reached = codes "reached"
part_text Jobs = codes "jobs"
part_text Reservations = codes "reservations"
part_text Retired = codes "retired"

abbrev pub place_text : Place → List ℕ
place_text place = part_text place.part ++ codes " " ++ decimal place.index

-- no text is refused for want of memory
abbrev pub unread_text : WireFault → List ℕ
unread_text NotJson = codes "unread 1"
unread_text (Version n) = codes "unread 2 " ++ decimal n
unread_text (Shape place) = codes "unread " ++ decimal 3 ++ codes " " ++ place_text place
unread_text (Range place) = codes "unread " ++ decimal 4 ++ codes " " ++ place_text place
unread_text NoMemory = codes "unread 5"

-- the sender, or a site of which something is told, is none of the roster's
abbrev pub is_foreign : List (List ℕ × ℕ) → PacketValue → Bool
is_foreign roster p = nat_le (length roster) p.sender
    || list_any (λ counter. nat_lt 0 counter) (drop (length roster) p.delta.changes.version)

-- the packet has seen more of the site's own operations than the site has made
abbrev pub is_forgotten : State → PacketValue → Bool
is_forgotten s p = nat_lt (counter_of s.view.version s.site) (counter_of p.delta.changes.version s.site)

-- a packet is within limits where it tells of a lawful set that is, as each packet does that is told of a board
abbrev pub IsWithinLimitsOfSets : PacketValue → Type 0
IsWithinLimitsOfSets p = (ops : History Body) (seen : List ℕ) → IsLawful ops → IsWithinLimits ops →
    p.delta.need ≡ met seen (version_of ops) → board_reads p.delta.changes ≡ cut (view ops) p.delta.need → IsPacket Two p

-- the text of the packet that a site makes for another: format 2, and read as the packet's value again
pub record IsPacketText (s : State) (to : ℕ) (bytes : List ℕ) : Type 0 where
  pub packet : PacketValue
  pub made : IsMadeFor s to packet
  pub limits : IsWithinLimitsOfSets packet
  pub written : bytes ≡ compact_text (packet_value Two packet)
  pub again : text_value bytes ≡ Some (packet_value Two packet)
