-- No text that was shipped tells that a site forgot, or is a stranger's where the site knows all sites.
use Rattle.std.specs.Prelude.{suc, Option, Some, None, Ok, Result}
use Rattle.std.specs.Option.{option_map_or}
use Rattle.std.specs.List.{position_or_len}
use Rattle.std.proofs.Common.{◌≡◌, ◌≤◌, ℕ, List, false, length, refl, sym, subst, ap, ◌∙◌}
use Rattle.std.proofs.lemmas.Bool.{cond-true}
use Rattle.fed_lattice.specs.Sets.{Has}
use Rattle.fed_wire.specs.declared.faults.WireFault.{WireFault}
use Rattle.fed_delta.specs.Packet.{PacketValue}
use Rattle.fed_wire.specs.Reading.{packet_in}
use Rattle.fed_replica.specs.State.{State}
use Rattle.fed_model.specs.Run.{World, run_from, start}
use Rattle.fed_theory.proofs.Runs.{packet_Has}
use Rattle.fed_script.specs.Line.{words_in}
use Rattle.fed_site.specs.Line.{packet_text}
use Rattle.fed_site.specs.OwnLine.{carries, says, own_words}
use Rattle.fed_site.specs.Handed.{complaint_of_name, named_in, packet_of}
use Rattle.fed_site.specs.Packets.{is_foreign}
use Rattle.fed_site.specs.declared.complaints.Complaint.{Complaint}
use Rattle.fed_site.specs.Says.{after_handing, after_own, after_reading, after_text, said_of, site_says}
use Rattle.fed_turns.specs.Alarm.{RaisesNoAlarm}
use Rattle.fed_turns.specs.Turn.{Course, MayTurns, Turn, WasShipped, after_turns, beginning}
use Rattle.fed_turns.specs.Run.{StandsFor, events_from, is_read_in, state_at}
use Rattle.fed_turns.proofs.Packets.{IsFound, found, placed, shipped_read}
use Rattle.fed_turns.proofs.Reached.{Reached, run_reached, start_reached}
use Rattle.fed_turns.proofs.Takes.{is_known, is_remembered, reads_receipt}
use Rattle.fed_turns.proofs.Turns.{ArePlayed, turns_played}

-- what is read is taken by what is told of its name
named_so : (roster : List (List ℕ × ℕ)) (text : List ℕ) (s : State) (p : PacketValue) → packet_in (packet_of text) ≡ Ok p → (complaint : Option Complaint) → complaint_of_name roster (named_in text) (Ok p) ≡ complaint
    → said_of (after_text roster s text) ≡ said_of (after_handing roster s complaint (Ok p))
named_so roster text s p read complaint is =
    ap (λ o. said_of (after_handing roster s (complaint_of_name roster (named_in text) o) o)) read ∙ ap (λ c. said_of (after_handing roster s c (Ok p))) is

pub start_stands : (rosters : ℕ → List (List ℕ × ℕ)) → StandsFor (beginning rosters) start
start_stands rosters = record { sites = λ i. refl; shipped = tt }

some_packet : (p q : PacketValue) (r : Result PacketValue WireFault) → r ≡ Ok p → r ≡ Ok q → p ≡ q
some_packet p q r e f = let same : ◌≡◌ {A = Result PacketValue WireFault} (Ok p) (Ok q) = sym e ∙ f in cc

module _ (whole : List (List ℕ × ℕ)) (few : length whole ≤ 16) (rosters : ℕ → List (List ℕ × ℕ)) (turns : List Turn) (may : MayTurns whole (beginning rosters) turns)
    (text : List ℕ) (was : WasShipped (after_turns (beginning rosters) turns).shipped text) where
  abbrev n : ℕ
  n = length whole

  abbrev c : Course
  c = after_turns (beginning rosters) turns

  abbrev w : World
  w = run_from n start (events_from (beginning rosters) turns)

  played : ArePlayed whole few (beginning rosters) start turns
  played = turns_played whole few turns (beginning rosters) start (start_stands rosters) (start_reached n) may

  reached : Reached n w
  reached = run_reached n (events_from (beginning rosters) turns) start played.ranged (start_reached n)

  it : IsFound w.packets text (position_or_len (is_read_in text) c.shipped)
  it = found text w.packets c.shipped played.stands.shipped (placed text w.packets c.shipped was.0 played.stands.shipped was.1 was.2)

  posted : Has w.packets it.packet
  posted = packet_Has w (suc (position_or_len (is_read_in text) c.shipped)) it.packet it.is

  reads : packet_in (packet_of text) ≡ Ok it.of.sent
  reads = it.reads ∙ shipped_read it.packet it.shipped it.of

  pub all_known : (i : ℕ) (packet : PacketValue) → packet_in (packet_of text) ≡ Ok packet → n ≤ length (c.roster i) → is_foreign (c.roster i) packet ≡ false
  all_known i packet e all =
      subst (λ (p : PacketValue). is_foreign (c.roster i) p ≡ false) (some_packet it.of.sent packet (packet_in (packet_of text)) reads e)
      (is_known n few w reached i it.packet posted it.shipped it.of (c.roster i) all)

  pub no_alarm : (i : ℕ) (line : List ℕ) → packet_text line ≡ Some text → RaisesNoAlarm (c.roster i) (c.site i) line text
  no_alarm i line is =
      let roster = c.roster i in
      let told : (s : State) → site_says roster s line ≡ said_of (after_text roster s text) =
      λ s. ap (λ o. after_own roster s (option_map_or carries o (option_map_or (own_words roster s.site) (words_in line) (says None)))) is in
      let here : State = state_at i (w.site i) in
      subst (λ (s : State). RaisesNoAlarm roster s line text) (sym (played.stands.sites i)) (record {
        packet = it.of.sent;
        read = reads;
        remembered = is_remembered n few w reached i it.packet posted it.shipped it.of;
        said = λ none known. told here ∙ named_so roster text here it.of.sent reads None none
            ∙ ap (λ o. said_of (after_reading roster here o)) (sym (shipped_read it.packet it.shipped it.of))
            ∙ ap said_of (reads_receipt n few w reached i it.packet posted it.shipped it.of roster known);
        named = λ complaint is. told here ∙ named_so roster text here it.of.sent reads (Some complaint) is;
        foreign = λ none far. told here ∙ named_so roster text here it.of.sent reads None none ∙ ap said_of (cond-true (is_foreign roster it.of.sent) _ _ far);
      })
