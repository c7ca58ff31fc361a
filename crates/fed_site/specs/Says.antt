-- What a site says to a line, what it holds then, whether the line is to be kept, and why it isn't done as it asks.
use Rattle.std.specs.Prelude.{◌≡◌, ℕ, ◌+◌, Bool, false, ◌||◌, not, List, [], ◌∷◌, ◌++◌, codes, Option, Some, None, is_none, Result, Ok, Err, if◌then◌else◌}
use Rattle.std.specs.Option.{option_map, option_or}
use Rattle.fed_model.specs.declared.askers.Who.{Who}
use Rattle.fed_model.specs.declared.commands.Command.{Command}
use Rattle.fed_wire.specs.declared.faults.WireFault.{WireFault}
use Rattle.fed_delta.specs.Packet.{PacketValue}
use Rattle.fed_wire.specs.Reading.{packet_in}
use Rattle.fed_model.specs.Answer.{Answer, Answer.Refuses, Answer.Replies, answer_to}
use Rattle.fed_replica.specs.State.{State, after_answer, after_packet_unless, lacking}
use Rattle.fed_model.specs.Outcome.{outcome_of_answer}
use Rattle.fed_replica.specs.Outcome.{adds, outcome_of_packet_unless}
use Rattle.fed_script.specs.Line.{Line, skips, acts, lists, misuses, ships, plans}
use Rattle.fed_qstat.specs.Outcome.{answer_line, line_of_usage, text_of_outcome}
use Rattle.fed_machine.specs.Planned.{plan_if_any, plan_or_none}
use Rattle.fed_qstat.specs.Listed.{listed}
use Rattle.fed_site.specs.LookText.{text_of_look}
use Rattle.fed_site.specs.declared.answers.Begun.{Begun}
use Rattle.fed_site.specs.declared.complaints.Complaint.{Complaint}
use Rattle.fed_site.specs.OwnLine.{OwnLine, tells, carries, asks, says, own_line_of}
use Rattle.fed_site.specs.Handed.{complaint_of_name, named_in, packet_of, text_of_complaint}
use Rattle.fed_site.specs.Packets.{is_foreign, is_forgotten, unread_text, IsPacketText}
use Rattle.fed_site.specs.Rosters.{are_same, next_roster}

-- a text, or that of the packet for a site
pub data Reply : Type 0 where
  Text : (text : List ℕ) → Reply
  PacketFor : (to : ℕ) → Reply

-- the bytes are what is replied; one site has one packet for another
abbrev pub IsReply : State → Reply → List ℕ → Type 0
IsReply s (Text text) bytes = bytes ≡ text
IsReply s (PacketFor to) bytes = (packet : List ℕ) × IsPacketText s to packet × (bytes ≡ answer_line packet)

-- what is left, what is replied, whether the line changed what the site holds, so that it is to be kept, why it isn't
-- done as it asks, if so, and the job that it began, if it did
pub record Said : Type 0 where
  pub after : State
  pub reply : Reply
  pub kept : Bool
  pub complaint : Option Complaint
  pub begun : Option Begun

-- what was done, and the text that says so
pub record Done : Type 0 where
  pub after : State
  pub text : List ℕ
  pub kept : Bool
  pub complaint : Option Complaint
  pub begun : Option Begun

abbrev pub said_of : Done → Said
said_of d = record { after = d.after; reply = Text d.text; kept = d.kept; complaint = d.complaint; begun = d.begun }

-- nothing changes
abbrev pub only : State → List ℕ → Done
only s text = record { after = s; text = text; kept = false; complaint = None; begun = None }

-- nor is it done as asked
abbrev pub undone : State → List ℕ → Complaint → Done
undone s text complaint = record { after = s; text = text; kept = false; complaint = Some complaint; begun = None }

-- ---- commands
-- why the command with this index in the line, which somebody asks for, is not done
abbrev pub refused_at : Who → ℕ → Command → Answer → Option Complaint
refused_at who index command (Refuses refusal) =
    Some (Complaint.Refused (record { index = index; who = who; command = command; refusal = refusal }))
refused_at who index command (Replies reply new) = None

-- the job that a command begins, if it is done
abbrev pub job_begun_by : Command → Option Begun
job_begun_by (Command.Begin job moment) = Some (record { job = job; moment = moment })
job_begun_by _ = None

-- what is done next stands behind what was done first
abbrev pub followed : (State → Done) → Done → Done
followed next first = record {
  after = (next first.after).after;
  text = first.text ++ (next first.after).text;
  kept = first.kept || (next first.after).kept;
  complaint = option_or first.complaint (next first.after).complaint;
  begun = option_or first.begun (next first.after).begun;
}

-- ---- plans
abbrev pub after_plan : State → Option (List ℕ) → Done
after_plan s (Some text) = only s text
after_plan s None = undone s (plan_or_none None) Complaint.NoPlan

module _ (roster : List (List ℕ × ℕ)) where
  abbrev pub does : State → Who → ℕ → Command → Answer → Done
  does s who index command answer = record {
    after = after_answer s answer;
    text = answer_line (text_of_outcome roster (outcome_of_answer answer));
    kept = adds answer;
    complaint = refused_at who index command answer;
    begun = if adds answer then job_begun_by command else None;
  }

  -- the command with this index in the line
  abbrev pub after_command : State → Who → ℕ → Command → Done
  after_command s who index command = does s who index command (answer_to s.view s.site who command)

  -- the commands from this index in the line on
  abbrev pub after_commands : State → Who → ℕ → List Command → Done
  after_commands s who index [] = only s []
  after_commands s who index (command ∷ commands) =
      followed (λ next. after_commands next who (index + 1) commands) (after_command s who index command)

  -- ---- packets
  abbrev pub after_receipt : State → PacketValue → Done
  after_receipt s p = record {
    after = after_packet_unless (lacking s p) s p;
    text = answer_line (text_of_outcome roster (outcome_of_packet_unless (lacking s p) s p));
    kept = is_none (lacking s p);
    complaint = option_map Complaint.Gap (lacking s p);
    begun = None;
  }

  abbrev pub after_packet : State → PacketValue → Done
  after_packet s p = if is_foreign roster p then undone s (answer_line (codes "foreign")) Complaint.Foreign
      else (if is_forgotten s p then undone s (answer_line (codes "forgotten")) Complaint.Forgotten
      else after_receipt s p)

  abbrev pub after_reading : State → Result PacketValue WireFault → Done
  after_reading s (Ok p) = after_packet s p
  after_reading s (Err fault) = undone s (answer_line (unread_text fault)) (Complaint.Unread fault)

  -- of a text that a site hands in, a packet of another sender is not taken
  abbrev pub after_handing : State → Option Complaint → Result PacketValue WireFault → Done
  after_handing s None reading = after_reading s reading
  after_handing s (Some complaint) reading = undone s (answer_line (text_of_complaint roster complaint)) complaint

  -- to what stands behind `take`
  abbrev pub after_text : State → List ℕ → Done
  after_text s text = after_handing s (complaint_of_name roster (named_in text) (packet_in (packet_of text))) (packet_in (packet_of text))

  -- ---- lines
  abbrev pub unreadable : State → Said
  unreadable s = said_of (undone s (answer_line (codes "cannot be read")) Complaint.Unreadable)

  -- what a line does: an empty one and a comment are answered by nothing, and one of another kind is none of a site
  abbrev pub after_line : State → Line → Said
  after_line s skips = said_of (only s [])
  after_line s (acts site who commands) = said_of (after_commands s who 0 commands)
  after_line s (lists site full jobs) = said_of (only s (listed full roster s.view jobs))
  after_line s (misuses site fault) = said_of (undone s (line_of_usage fault) (Complaint.Misused fault))
  after_line s (ships site to) = record { after = s; reply = PacketFor to; kept = false; complaint = None; begun = None }
  after_line s (plans site moment) = said_of (after_plan s (plan_if_any roster s.view s.site moment))
  after_line s line = unreadable s

  -- ---- rosters
  -- of a roster that is told a site says whether it goes on with the one that it knows, and it is kept where it differs
  abbrev pub after_next : State → Option (List (List ℕ × ℕ)) → Done
  after_next s None = undone s (answer_line (codes "other roster")) Complaint.OtherRoster
  after_next s (Some sites) =
      record { after = s; text = answer_line (codes "done"); kept = not (are_same roster sites); complaint = None; begun = None }

  -- ---- what a site says
  -- to what a line says
  abbrev pub after_own : State → OwnLine → Said
  after_own s (tells told) = said_of (after_next s (next_roster roster told))
  after_own s (carries text) = said_of (after_text s text)
  after_own s (asks look) = said_of (only s (text_of_look roster s look))
  after_own s (says (Some line)) = after_line s line
  after_own s (says None) = unreadable s

  -- to a line
  abbrev pub site_says : State → List ℕ → Said
  site_says s line = after_own s (own_line_of roster s.site line)
