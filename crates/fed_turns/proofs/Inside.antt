-- A site knows of no site that its roster hasn't, and has heard nothing of one.
use Rattle.std.specs.Prelude.{Some, None, Option, Result, Ok, Err, if◌then◌else◌, codes, nat_le, nat_lt, drop}
use Rattle.std.specs.List.{list_any}
use Rattle.std.proofs.Common.{◌≡◌, ◌≤◌, ◌<◌, ℕ, ◌+◌, zero, suc, max, Bool, true, false, List, [], ◌∷◌, length, replicate, refl, sym, subst, ap, ◌∙◌, inl, inr, arith}
use Rattle.std.proofs.lemmas.Bool.{cases_eq, leb-false, ltb-false, or_parts}
use Rattle.fed_stamp.specs.Stamp.{StampValue}
use Rattle.fed_stamp.specs.Version.{counter_of, joined, next_stamp, raised}
use Rattle.fed_stamp.specs.declared.versions.ClockFull.{ClockFull}
use Rattle.fed_stamp.proofs.VersionLaws.{counter_of_joined}
use Rattle.fed_lattice.proofs.VersionOfLaws.{raised_cases, version_of-origin}
use Rattle.fed_model.specs.declared.askers.Who.{Who}
use Rattle.fed_model.specs.declared.commands.Command.{Command}
use Rattle.fed_model.specs.declared.refusals.Refusal.{Refusal}
use Rattle.fed_model.specs.declared.replies.Reply.{Reply}
use Rattle.fed_model.specs.Answer.{Answer, Answer.Refuses, Answer.Replies, answer_to, answer_unless, effect, replies}
use Rattle.fed_model.specs.Body.{Body}
use Rattle.fed_model.specs.Desk.{first_of}
use Rattle.fed_model.specs.Refusals.{refusals}
use Rattle.fed_model.specs.Run.{World, run_from}
use Rattle.fed_model.specs.View.{View}
use Rattle.fed_theory.specs.ViewSteps.{add_to_view, join_records}
use Rattle.fed_theory.proofs.NextStamps.{next_is}
use Rattle.fed_theory.proofs.RunSteps.{put_other}
use Rattle.fed_theory.proofs.Runs.{put_same}
use Rattle.fed_wire.specs.declared.faults.WireFault.{WireFault}
use Rattle.fed_delta.specs.Packet.{PacketValue}
use Rattle.fed_wire.specs.Reading.{packet_in}
use Rattle.fed_replica.specs.State.{State, after_answer, after_packet_unless, lacking}
use Rattle.fed_script.specs.Line.{skips, begins as begins_line, acts, lists, misuses, ships, takes, plans, compares}
use Rattle.fed_qstat.specs.Outcome.{answer_line}
use Rattle.fed_machine.specs.Planned.{plan_if_any}
use Rattle.fed_site.specs.declared.complaints.Complaint.{Complaint}
use Rattle.fed_site.specs.OwnLine.{OwnLine, tells, carries, asks, says, own_line_of}
use Rattle.fed_site.specs.Handed.{complaint_of_name, named_in, packet_of}
use Rattle.fed_site.specs.Packets.{is_foreign, is_forgotten}
use Rattle.fed_site.specs.Rosters.{next_roster, roster_after}
use Rattle.fed_site.specs.Says.{after_commands, after_handing, after_own, after_plan, after_reading, after_receipt, site_says, undone}
use Rattle.fed_site.proofs.Replays.{next_unkept}
use Rattle.fed_site.proofs.RosterLines.{after_begins, begins_length}
use Rattle.fed_turns.specs.Run.{StandsFor, events_at}
use Rattle.fed_turns.specs.Turn.{Course, MayTurns, Turn, after_turn, after_turns, beginning, said_to}
use Rattle.fed_turns.proofs.Reached.{Reached, run_reached}
use Rattle.fed_turns.proofs.Turns.{turn_played}

-- from this place on nothing was seen, and nothing heard
abbrev pub NoneFrom : ℕ → State → Type 0
NoneFrom m s = (j : ℕ) → m ≤ j → (counter_of s.view.version j ≡ 0) × (s.heard j ≡ replicate 16 0)

-- ---- commands
-- an answer adds an operation of its site
new_site : (v : View) (here : ℕ) (who : Who) (command : Command) (reply : Reply) (new : StampValue × Body) → answer_to v here who command ≡ Replies reply (Some new) → new.0.site ≡ here
unfolding answer_to
new_site v here who command reply new e = go (first_of (refusals v here who command)) (next_stamp v.version here) refl (effect v who command) e
  where
    go : (r : Option Refusal) (n : Result StampValue ClockFull) → next_stamp v.version here ≡ n → (b : Option Body) → answer_unless r (replies n command b) ≡ Replies reply (Some new) → new.0.site ≡ here
    go (Some r) n at b f = cc
    go None n at None f = cc
    go None (Err full) at (Some body) f = cc
    go None (Ok t) at (Some body) f =
        let same : t ≡ new.0 = cc in
        ap (λ (x : StampValue). x.site) (sym same) ∙ (next_is v.version here t at).site

answer_site : (s : State) (a : Answer) → (after_answer s a).site ≡ s.site
answer_site s (Refuses refusal) = refl
answer_site s (Replies reply None) = refl
answer_site s (Replies reply (Some new)) = refl

module _ (roster : List (List ℕ × ℕ)) where
  abbrev m : ℕ
  m = length roster

  raised_none : (v : List ℕ) (t : StampValue) (j : ℕ) → t.site < m → m ≤ j → counter_of v j ≡ 0 → counter_of (raised v t) j ≡ 0
  raised_none v t j small far none = elim (raised_cases v t j) [
    | inl same ↦ same ∙ none
    | inr at ↦ (let here = at.0 in absurd (omega (arith, small, far, here)))
  ]

  added_none : (s : State) (reply : Reply) (new : StampValue × Body) → new.0.site < m → NoneFrom m s → NoneFrom m (after_answer s (Replies reply (Some new)))
  unfolding add_to_view
  added_none s reply new small none j far = let old = none j far in (raised_none s.view.version new.0 j small far old.0, old.1)

  answer_none : (s : State) (a : Answer) → ((reply : Reply) (new : StampValue × Body) → a ≡ Replies reply (Some new) → new.0.site < m) → NoneFrom m s → NoneFrom m (after_answer s a)
  answer_none s (Refuses refusal) own none = none
  answer_none s (Replies reply None) own none = none
  answer_none s (Replies reply (Some new)) own none = added_none s reply new (own reply new refl) none

  commands_none : (s : State) (who : Who) (index : ℕ) (commands : List Command) → s.site < m → NoneFrom m s → NoneFrom m (after_commands roster s who index commands).after
  commands_none s who index [] small none = none
  commands_none s who index (command ∷ commands) small none =
      let a : Answer = answer_to s.view s.site who command in
      let same = answer_site s a in
      commands_none (after_answer s a) who (index + 1) commands (omega (arith, small, same))
      (answer_none s a (λ reply new e. (let at = new_site s.view s.site who command reply new e in omega (arith, small, at))) none)

  -- ---- packets
  none_heard : (v : List ℕ) (n : ℕ) → list_any (λ counter. nat_lt 0 counter) (drop n v) ≡ false → (j : ℕ) → n ≤ j → counter_of v j ≡ 0
  none_heard [] n e j far = refl
  none_heard (x ∷ v) zero e zero far =
      let least = ltb-false 0 x (or_parts (nat_lt 0 x) (list_any (λ counter. nat_lt 0 counter) v) e).0 in
      omega (arith, least)
  none_heard (x ∷ v) zero e (suc j) far = none_heard v zero (or_parts (nat_lt 0 x) (list_any (λ counter. nat_lt 0 counter) v) e).1 j (omega arith)
  none_heard (x ∷ v) (suc n) e zero far = absurd (omega (arith, far))
  none_heard (x ∷ v) (suc n) e (suc j) far = none_heard v n e j (omega (arith, far))

  receipt_none : (s : State) (p : PacketValue) (lacks : Option ℕ) → is_foreign roster p ≡ false → NoneFrom m s → NoneFrom m (after_packet_unless lacks s p)
  unfolding join_records
  receipt_none s p (Some site) known none j far = none j far
  receipt_none s p None known none j far =
      let parts = or_parts (nat_le m p.sender) _ known in
      let told = none_heard p.delta.changes.version m parts.1 j far in
      let sender = leb-false m p.sender parts.0 in
      let old = none j far in
      let held = old.0 in
      let both = counter_of_joined s.view.version p.delta.changes.version j in
      (both ∙ (λ k. max (held k) (told k)), put_other s.heard p.sender (joined (s.heard p.sender) p.delta.changes.version) j (λ same. omega (arith, same, sender, far)) ∙ old.1)

  packet_none : (s : State) (p : PacketValue) (foreign : Bool) → is_foreign roster p ≡ foreign → (forgotten : Bool) → NoneFrom m s
      → NoneFrom m (if foreign then undone s (answer_line (codes "foreign")) Complaint.Foreign else (if forgotten then undone s (answer_line (codes "forgotten")) Complaint.Forgotten else after_receipt roster s p)).after
  packet_none s p true is forgotten none = none
  packet_none s p false is true none = none
  packet_none s p false is false none = receipt_none s p (lacking s p) is none

  reading_none : (s : State) (o : Result PacketValue WireFault) → NoneFrom m s → NoneFrom m (after_reading roster s o).after
  reading_none s (Ok p) none = packet_none s p (is_foreign roster p) refl (is_forgotten s p) none
  reading_none s (Err fault) none = none

  handing_none : (s : State) (complaint : Option Complaint) (o : Result PacketValue WireFault) → NoneFrom m s → NoneFrom m (after_handing roster s complaint o).after
  handing_none s None o none = reading_none s o none
  handing_none s (Some complaint) o none = none

  -- ---- lines
  plan_none : (s : State) (plan : Option (List ℕ)) → NoneFrom m s → NoneFrom m (after_plan s plan).after
  plan_none s (Some text) none = none
  plan_none s None none = none

  own_none : (s : State) (line : OwnLine) → s.site < m → NoneFrom m s → NoneFrom m (after_own roster s line).after
  own_none s (tells told) small none = subst (NoneFrom m) (sym (next_unkept roster s (next_roster roster told))) none
  own_none s (carries text) small none = handing_none s (complaint_of_name roster (named_in text) (packet_in (packet_of text))) (packet_in (packet_of text)) none
  own_none s (asks look) small none = none
  own_none s (says None) small none = none
  own_none s (says (Some skips)) small none = none
  own_none s (says (Some (begins_line sites))) small none = none
  own_none s (says (Some (acts site who commands))) small none = commands_none s who 0 commands small none
  own_none s (says (Some (lists site full jobs))) small none = none
  own_none s (says (Some (misuses site fault))) small none = none
  own_none s (says (Some (ships site to))) small none = none
  own_none s (says (Some (takes site packet))) small none = none
  own_none s (says (Some (plans site moment))) small none = plan_none s (plan_if_any roster s.view s.site moment) none
  own_none s (says (Some (compares site other))) small none = none

  said_none : (s : State) (line : List ℕ) → s.site < m → NoneFrom m s → NoneFrom m (site_says roster s line).after
  said_none s line small none = own_none s (own_line_of roster s.site line) small none

-- ---- turns
abbrev pub AreInside : Course → Type 0
AreInside c = (i : ℕ) → NoneFrom (length (c.roster i)) (c.site i)

pub start_inside : (rosters : ℕ → List (List ℕ × ℕ)) → AreInside (beginning rosters)
start_inside rosters i j far = elim (version_of-origin {C = Body} [] j) [
  | inl z ↦ (z, refl)
  | inr o ↦ absurd o.1
]

turn_inside : (c : Course) (t : Turn) → (c.site t.site).site ≡ t.site → t.site < length (c.roster t.site) → AreInside c → AreInside (after_turn c t)
turn_inside c t own small inside i = elim (cases_eq i t.site) [
  | inl at ↦ subst (λ (k : ℕ). NoneFrom (length ((after_turn c t).roster k)) ((after_turn c t).site k)) (sym at) here
  | inr apart ↦ subst (λ (r : List (List ℕ × ℕ)). NoneFrom (length r) ((after_turn c t).site i)) (sym (put_other c.roster t.site next i apart))
      (subst (λ (s : State). NoneFrom (length (c.roster i)) s) (sym (put_other c.site t.site (said_to c t).after i apart)) (inside i))
]
  where
    roster : List (List ℕ × ℕ)
    roster = c.roster t.site

    next : List (List ℕ × ℕ)
    next = roster_after (c.roster t.site) t.line

    longer : length (c.roster t.site) ≤ length (roster_after (c.roster t.site) t.line)
    longer = begins_length (c.roster t.site) (roster_after (c.roster t.site) t.line) (after_begins (c.roster t.site) t.line)

    said : NoneFrom (length (c.roster t.site)) (said_to c t).after
    said = said_none (c.roster t.site) (c.site t.site) t.line (omega (arith, own, small)) (inside t.site)

    more : NoneFrom (length (roster_after (c.roster t.site) t.line)) (said_to c t).after
    more j far = said j (omega (arith, far, longer))

    here : NoneFrom (length ((after_turn c t).roster t.site)) ((after_turn c t).site t.site)
    here = subst (λ (r : List (List ℕ × ℕ)). NoneFrom (length r) ((after_turn c t).site t.site)) (sym (put_same c.roster t.site (roster_after (c.roster t.site) t.line)))
        (subst (λ (s : State). NoneFrom (length (roster_after (c.roster t.site) t.line)) s) (sym (put_same c.site t.site (said_to c t).after)) more)

pub turns_inside : (whole : List (List ℕ × ℕ)) (few : length whole ≤ 16) (ts : List Turn) (c : Course) (w : World) → StandsFor c w → Reached (length whole) w → MayTurns whole c ts → AreInside c → AreInside (after_turns c ts)
turns_inside whole few [] c w stands r may inside = inside
turns_inside whole few (t ∷ ts) c w stands r may inside =
    let one = turn_played whole few c w t stands r may.0 in
    turns_inside whole few ts (after_turn c t) (run_from (length whole) w (events_at c t)) one.stands (run_reached (length whole) (events_at c t) w one.ranged r) may.1
    (turn_inside c t (ap (λ (s : State). s.site) (stands.sites t.site)) may.0.site inside)
