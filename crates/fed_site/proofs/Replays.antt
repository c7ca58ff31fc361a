-- What isn't kept changes nothing.
use Rattle.std.specs.Prelude.{Some, None, Option, Result, Ok, Err, is_none, if◌then◌else◌, codes, unwrap_or}
use Rattle.std.proofs.Common.{◌≡◌, ℕ, ◌+◌, Bool, true, false, List, [], ◌∷◌, ◌++◌, refl, sym, ap, ◌∙◌}
use Rattle.std.proofs.lemmas.Bool.{not-false, or_parts}
use Rattle.fed_model.specs.declared.askers.Who.{Who}
use Rattle.fed_model.specs.declared.commands.Command.{Command}
use Rattle.fed_wire.specs.declared.faults.WireFault.{WireFault}
use Rattle.fed_delta.specs.Packet.{PacketValue}
use Rattle.fed_wire.specs.Reading.{packet_in}
use Rattle.fed_model.specs.Answer.{Answer, Answer.Refuses, Answer.Replies, answer_to}
use Rattle.fed_replica.specs.Outcome.{adds}
use Rattle.fed_replica.specs.State.{State, after_answer, after_packet_unless, lacking}
use Rattle.fed_script.specs.Line.{skips, begins, acts, lists, misuses, ships, takes, plans, compares}
use Rattle.fed_qstat.specs.Outcome.{answer_line}
use Rattle.fed_machine.specs.Planned.{plan_if_any}
use Rattle.fed_site.specs.declared.complaints.Complaint.{Complaint}
use Rattle.fed_site.specs.Journal.{after_lines, kept_line, kept_lines}
use Rattle.fed_site.specs.OwnLine.{OwnLine, tells, carries, asks, says, own_line_of, told_by}
use Rattle.fed_site.specs.Handed.{complaint_of_name, named_in, packet_of}
use Rattle.fed_site.specs.Packets.{is_foreign, is_forgotten}
use Rattle.fed_site.specs.Rosters.{are_same, next_roster, roster_after, roster_after_lines, roster_told}
use Rattle.fed_site.specs.Says.{after_command, after_commands, after_handing, after_next, after_own, after_plan, after_reading, after_receipt, after_text, site_says, undone}
use Rattle.fed_site.proofs.ReadLines.{told_is}
use Rattle.fed_site.proofs.RosterLines.{tells_sites}

-- ---- commands
answer_unkept : (s : State) (a : Answer) → adds a ≡ false → after_answer s a ≡ s
answer_unkept s (Refuses r) e = refl
answer_unkept s (Replies r None) e = refl
answer_unkept s (Replies r (Some new)) e = cc

plan_unkept : (s : State) (plan : Option (List ℕ)) → (after_plan s plan).after ≡ s
plan_unkept s (Some text) = refl
plan_unkept s None = refl

module _ (roster : List (List ℕ × ℕ)) where
  commands_unkept : (s : State) (who : Who) (index : ℕ) (commands : List Command) → (after_commands roster s who index commands).kept ≡ false → (after_commands roster s who index commands).after ≡ s
  commands_unkept s who index [] e = refl
  commands_unkept s who index (command ∷ commands) e =
      let first = after_command roster s who index command in
      let both = or_parts first.kept (after_commands roster first.after who (index + 1) commands).kept e in
      commands_unkept first.after who (index + 1) commands both.1 ∙ answer_unkept s (answer_to s.view s.site who command) both.0

  -- ---- packets
  receipt_unkept : (s : State) (p : PacketValue) (lacks : Option ℕ) → is_none lacks ≡ false → after_packet_unless lacks s p ≡ s
  receipt_unkept s p (Some site) e = refl
  receipt_unkept s p None e = cc

  packet_unkept : (s : State) (p : PacketValue) (foreign forgotten : Bool)
      → (if foreign then undone s (answer_line (codes "foreign")) Complaint.Foreign else (if forgotten then undone s (answer_line (codes "forgotten")) Complaint.Forgotten else after_receipt roster s p)).kept ≡ false
      → (if foreign then undone s (answer_line (codes "foreign")) Complaint.Foreign else (if forgotten then undone s (answer_line (codes "forgotten")) Complaint.Forgotten else after_receipt roster s p)).after ≡ s
  packet_unkept s p true forgotten e = refl
  packet_unkept s p false true e = refl
  packet_unkept s p false false e = receipt_unkept s p (lacking s p) e

  pub reading_unkept : (s : State) (r : Result PacketValue WireFault) → (after_reading roster s r).kept ≡ false → (after_reading roster s r).after ≡ s
  reading_unkept s (Ok p) e = packet_unkept s p (is_foreign roster p) (is_forgotten s p) e
  reading_unkept s (Err fault) e = refl

  handing_unkept : (s : State) (complaint : Option Complaint) (r : Result PacketValue WireFault) → (after_handing roster s complaint r).kept ≡ false → (after_handing roster s complaint r).after ≡ s
  handing_unkept s None r e = reading_unkept s r e
  handing_unkept s (Some complaint) r e = refl

  pub text_unkept : (s : State) (text : List ℕ) → (after_text roster s text).kept ≡ false → (after_text roster s text).after ≡ s
  text_unkept s text e = handing_unkept s (complaint_of_name roster (named_in text) (packet_in (packet_of text))) (packet_in (packet_of text)) e

  -- ---- lines
  pub next_unkept : (s : State) (next : Option (List (List ℕ × ℕ))) → (after_next roster s next).after ≡ s
  next_unkept s None = refl
  next_unkept s (Some sites) = refl

  own_unkept : (s : State) (line : OwnLine) → (after_own roster s line).kept ≡ false → (after_own roster s line).after ≡ s
  own_unkept s (tells told) e = next_unkept s (next_roster roster told)
  own_unkept s (carries text) e = text_unkept s text e
  own_unkept s (asks look) e = refl
  own_unkept s (says None) e = refl
  own_unkept s (says (Some skips)) e = refl
  own_unkept s (says (Some (begins sites))) e = refl
  own_unkept s (says (Some (acts site who commands))) e = commands_unkept s who 0 commands e
  own_unkept s (says (Some (lists site full jobs))) e = refl
  own_unkept s (says (Some (misuses site fault))) e = refl
  own_unkept s (says (Some (ships site to))) e = refl
  own_unkept s (says (Some (takes site packet))) e = refl
  own_unkept s (says (Some (plans site moment))) e = plan_unkept s (plan_if_any roster s.view s.site moment)
  own_unkept s (says (Some (compares site other))) e = refl

  pub unkept : (s : State) (line : List ℕ) → (site_says roster s line).kept ≡ false → (site_says roster s line).after ≡ s
  unkept s line e = own_unkept s (own_line_of roster s.site line) e

  -- ---- rosters
  next_same : (s : State) (next : Option (List (List ℕ × ℕ))) → (after_next roster s next).kept ≡ false → unwrap_or next roster ≡ roster
  next_same s None e = refl
  next_same s (Some sites) e = sym ((tells_sites roster sites).0 (not-false (are_same roster sites) e))

  told_same : (s : State) (line : OwnLine) → (after_own roster s line).kept ≡ false → roster_told roster (told_by line) ≡ roster
  told_same s (tells told) e = next_same s (next_roster roster told) e
  told_same s (carries text) e = refl
  told_same s (asks look) e = refl
  told_same s (says line) e = refl

  pub still_roster : (s : State) (line : List ℕ) → (site_says roster s line).kept ≡ false → roster_after roster line ≡ roster
  still_roster s line e = ap (roster_told roster) (told_is roster s.site line) ∙ told_same s (own_line_of roster s.site line) e

-- ---- the replay of the kept lines
pub replayed : (roster : List (List ℕ × ℕ)) (s : State) (lines : List (List ℕ)) → after_lines roster s (kept_lines roster s lines) ≡ after_lines roster s lines
replayed roster s [] = refl
replayed roster s (line ∷ lines) = go (site_says roster s line).kept refl (replayed (roster_after roster line) (site_says roster s line).after lines)
  where
    go : (b : Bool) → (site_says roster s line).kept ≡ b
        → after_lines (roster_after roster line) (site_says roster s line).after (kept_lines (roster_after roster line) (site_says roster s line).after lines) ≡ after_lines (roster_after roster line) (site_says roster s line).after lines
        → after_lines roster s (kept_lines roster s (line ∷ lines)) ≡ after_lines roster s (line ∷ lines)
    go true e ih =
        let rest = kept_lines (roster_after roster line) (site_says roster s line).after lines in
        ap (λ b. after_lines roster s (kept_line b line ++ rest)) e ∙ ih
    go false e ih =
        let rest = kept_lines (roster_after roster line) (site_says roster s line).after lines in
        ap (λ b. after_lines roster s (kept_line b line ++ rest)) e
        ∙ (λ k. after_lines (sym (still_roster roster s line e) k) (sym (unkept roster s line e) k) rest)
        ∙ ih

pub replayed_roster : (roster : List (List ℕ × ℕ)) (s : State) (lines : List (List ℕ)) → roster_after_lines roster (kept_lines roster s lines) ≡ roster_after_lines roster lines
replayed_roster roster s [] = refl
replayed_roster roster s (line ∷ lines) = go (site_says roster s line).kept refl (replayed_roster (roster_after roster line) (site_says roster s line).after lines)
  where
    go : (b : Bool) → (site_says roster s line).kept ≡ b
        → roster_after_lines (roster_after roster line) (kept_lines (roster_after roster line) (site_says roster s line).after lines) ≡ roster_after_lines (roster_after roster line) lines
        → roster_after_lines roster (kept_lines roster s (line ∷ lines)) ≡ roster_after_lines roster (line ∷ lines)
    go true e ih =
        let rest = kept_lines (roster_after roster line) (site_says roster s line).after lines in
        ap (λ b. roster_after_lines roster (kept_line b line ++ rest)) e ∙ ih
    go false e ih =
        let rest = kept_lines (roster_after roster line) (site_says roster s line).after lines in
        ap (λ b. roster_after_lines roster (kept_line b line ++ rest)) e
        ∙ (λ k. roster_after_lines (sym (still_roster roster s line e) k) rest)
        ∙ ih

pub kept_again : (roster : List (List ℕ × ℕ)) (s : State) (lines : List (List ℕ)) → kept_lines roster s (kept_lines roster s lines) ≡ kept_lines roster s lines
kept_again roster s [] = refl
kept_again roster s (line ∷ lines) = go (site_says roster s line).kept refl (kept_again (roster_after roster line) (site_says roster s line).after lines)
  where
    go : (b : Bool) → (site_says roster s line).kept ≡ b
        → kept_lines (roster_after roster line) (site_says roster s line).after (kept_lines (roster_after roster line) (site_says roster s line).after lines) ≡ kept_lines (roster_after roster line) (site_says roster s line).after lines
        → kept_lines roster s (kept_lines roster s (line ∷ lines)) ≡ kept_lines roster s (line ∷ lines)
    go true e ih =
        let rest = kept_lines (roster_after roster line) (site_says roster s line).after lines in
        ap (λ b. kept_lines roster s (kept_line b line ++ rest)) e
        ∙ ap (λ b. kept_line b line ++ kept_lines (roster_after roster line) (site_says roster s line).after rest) e
        ∙ ap (λ ls. line ∷ ls) ih
        ∙ sym (ap (λ b. kept_line b line ++ rest) e)
    go false e ih =
        let rest = kept_lines (roster_after roster line) (site_says roster s line).after lines in
        ap (λ b. kept_lines roster s (kept_line b line ++ rest)) e
        ∙ (λ k. kept_lines (sym (still_roster roster s line e) k) (sym (unkept roster s line e) k) rest)
        ∙ ih
        ∙ sym (ap (λ b. kept_line b line ++ rest) e)
