-- Texts that are handed in by a site: `take from NAME TEXT`.
use Rattle.std.specs.Prelude.{ℕ, ◌+◌, Bool, nat_eq, ◌==◌, List, [], ◌++◌, drop, take, position, codes, Option, Some, None, Result, Ok, Err, if◌then◌else◌}
use Rattle.std.specs.List.{starts_with}
use Rattle.fed_wire.specs.declared.faults.WireFault.{WireFault}
use Rattle.fed_delta.specs.Packet.{PacketValue}
use Rattle.fed_words.specs.Site.{site_named}
use Rattle.fed_script.specs.Forms.{◌>>=◌, one_word}
use Rattle.fed_script.specs.Line.{words_in}
use Rattle.fed_qstat.specs.Identifier.{text_of_site}
use Rattle.fed_site.specs.declared.complaints.Complaint.{Complaint}

abbrev pub is_blank : ℕ → Bool
is_blank byte = byte == 32

abbrev pub names_site : List ℕ → Bool
names_site text = starts_with nat_eq text (codes "from ")

-- a name, and what stands behind the first blank
abbrev pub cut_at : Option ℕ → List ℕ → List ℕ × List ℕ
cut_at None bytes = (bytes, [])
cut_at (Some blank) bytes = (take blank bytes, drop (blank + 1) bytes)

abbrev pub cut_behind : List ℕ → List ℕ × List ℕ
cut_behind bytes = cut_at (position is_blank bytes) bytes

-- the name of the site that hands the text in, where it is told
abbrev pub named_in : List ℕ → Option (List ℕ)
named_in text = if names_site text then Some (cut_behind (drop 5 text)).0 else None

-- the packet's own text
abbrev pub packet_of : List ℕ → List ℕ
packet_of text = if names_site text then (cut_behind (drop 5 text)).1 else text

module _ (roster : List (List ℕ × ℕ)) where
  -- the site of this name
  abbrev pub site_of : List ℕ → Option ℕ
  site_of name = words_in name >>= one_word >>= site_named roster

  -- why a text is not taken that this site hands in: the roster hasn't the site, or the packet's sender is another
  abbrev pub complaint_by : Option ℕ → Result PacketValue WireFault → Option Complaint
  complaint_by None reading = Some Complaint.Foreign
  complaint_by (Some site) (Ok p) = if p.sender == site then None else Some (Complaint.NotFrom site)
  complaint_by (Some site) (Err fault) = None

  abbrev pub complaint_of_name : Option (List ℕ) → Result PacketValue WireFault → Option Complaint
  complaint_of_name None reading = None
  complaint_of_name (Some name) reading = complaint_by (site_of name) reading

  -- what such a complaint is answered by
  abbrev pub text_of_complaint : Complaint → List ℕ
  text_of_complaint (Complaint.NotFrom site) = codes "not from " ++ text_of_site roster site
  text_of_complaint _ = codes "foreign"
