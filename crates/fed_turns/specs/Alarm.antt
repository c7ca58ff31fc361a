-- Texts that a site takes as a packet of its federation.
use Rattle.std.specs.Prelude.{◌≡◌, ℕ, true, false, List, codes, None, Some, Ok}
use Rattle.fed_delta.specs.Packet.{PacketValue}
use Rattle.fed_wire.specs.Reading.{packet_in}
use Rattle.fed_replica.specs.State.{State}
use Rattle.fed_qstat.specs.Outcome.{answer_line}
use Rattle.fed_site.specs.Handed.{complaint_of_name, named_in, packet_of, text_of_complaint}
use Rattle.fed_site.specs.Packets.{is_foreign, is_forgotten}
use Rattle.fed_site.specs.Says.{after_receipt, said_of, site_says, undone}
use Rattle.fed_site.specs.declared.complaints.Complaint.{Complaint}

-- The text of the line is read, and the site has forgotten nothing that its packet tells. So the site says what it says to
-- the packet, that it is taken, was known, or needs more; where the packet tells of a site that the roster hasn't, it is
-- `foreign`, and changes nothing. But where the line names another site than the packet's sender, or none of the roster, it
-- is told so, and changes nothing.
pub record RaisesNoAlarm (roster : List (List ℕ × ℕ)) (s : State) (line text : List ℕ) : Type 0 where
  pub packet : PacketValue
  pub read : packet_in (packet_of text) ≡ Ok packet
  pub remembered : is_forgotten s packet ≡ false
  pub said : complaint_of_name roster (named_in text) (Ok packet) ≡ None → is_foreign roster packet ≡ false →
      site_says roster s line ≡ said_of (after_receipt roster s packet)
  pub named : (complaint : Complaint) → complaint_of_name roster (named_in text) (Ok packet) ≡ Some complaint →
      site_says roster s line ≡ said_of (undone s (answer_line (text_of_complaint roster complaint)) complaint)
  pub foreign : complaint_of_name roster (named_in text) (Ok packet) ≡ None → is_foreign roster packet ≡ true →
      site_says roster s line ≡ said_of (undone s (answer_line (codes "foreign")) Complaint.Foreign)
