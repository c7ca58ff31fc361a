-- The run that turns make, and what is answered in it.
use Rattle.std.specs.Prelude.{◌≡◌, ◌+◌, ◌-◌, ◌||◌, ℕ, suc, Bool, false, List, [], ◌∷◌, ◌++◌, length, map, take, position, codes, Option, Some, None, is_some, option_map, Result, Ok, Err, if◌then◌else◌}
use Rattle.fed_model.specs.View.{view}
use Rattle.fed_model.specs.Packet.{Site, Packet, shipped}
use Rattle.fed_wire.specs.declared.faults.WireFault.{WireFault}
use Rattle.fed_delta.specs.Packet.{PacketValue}
use Rattle.fed_delta.specs.PacketLaws.{same_packet}
use Rattle.fed_wire.specs.Reading.{packet_in}
use Rattle.fed_replica.specs.State.{State}
use Rattle.fed_script.specs.Line.{Line, skips, acts, lists, misuses, ships, takes, plans}
use Rattle.fed_model.specs.declared.events.Event.{Event}
use Rattle.fed_model.specs.declared.events.Event.TheVariants.{Do, Ship, Take}
use Rattle.fed_model.specs.declared.outcomes.Outcome.{Outcome}
use Rattle.fed_world.specs.Kept.{IsTextOf}
use Rattle.fed_model.specs.Run.{World, run_from, outcomes_from}
use Rattle.fed_qstat.specs.Listed.{listed}
use Rattle.fed_qstat.specs.Outcome.{answer_line, line_of_usage, text_of_outcome}
use Rattle.fed_machine.specs.Planned.{text_of_plan}
use Rattle.fed_looks.specs.Look.{Look}
use Rattle.fed_site.specs.LookText.{text_of_look}
use Rattle.fed_site.specs.OwnLine.{OwnLine, tells, carries, asks, says, own_line_of}
use Rattle.fed_site.specs.Handed.{complaint_of_name, named_in, packet_of}
use Rattle.fed_site.specs.Packets.{is_foreign}
use Rattle.fed_site.specs.Rosters.{next_roster}
use Rattle.fed_site.specs.Says.{after_next, after_text}
use Rattle.fed_turns.specs.Turn.{Turn, Course, after_turn}

-- ---- what a turn does in a run
pub data Deed : Type 0 where
  -- a look at the site, which changes nothing: no line of a script asks for one
  looks : (look : Look) → Deed
  -- what the line of a script does that says the same, if it can be read
  does : (line : Option Line) → Deed
  -- the site is to take a text that tells of a site which its roster hasn't, that another site hands in than its sender, or
  -- that is of no packet shipped before, and takes nothing: no line of a script says so
  declines : (text : List ℕ) → Deed
  -- the site is told a roster, or words that name none, which changes nothing that it holds: no line of a script says so
  hears : (told : Option (List (List ℕ × ℕ))) → Deed

-- two texts are read, and as the same packet
abbrev pub is_same_reading : Result PacketValue WireFault → Result PacketValue WireFault → Bool
is_same_reading (Ok p) (Ok q) = same_packet p q
is_same_reading _ _ = false

-- the text that an answer to a ship is the line of
abbrev pub text_of : List ℕ → List ℕ
text_of answer = take (length answer - 1) answer

-- the answer to a ship has a text that reads as the same packet
abbrev pub is_read_in : List ℕ → List ℕ → Bool
is_read_in text answer = is_same_reading (packet_in (packet_of text)) (packet_in (text_of answer))

-- the number of the first packet shipped that the text is read as: packets are counted from 1
abbrev pub number_of : List (List ℕ) → List ℕ → Option ℕ
number_of answers text = option_map suc (position (is_read_in text) answers)

-- in a script a packet has a number
abbrev pub taken_as : ℕ → List ℕ → Option ℕ → Deed
taken_as site text (Some number) = does (Some (takes site number))
taken_as site text None = declines text

-- a packet is read that tells of a site which the roster hasn't
abbrev pub is_stranger : List (List ℕ × ℕ) → Result PacketValue WireFault → Bool
is_stranger roster (Ok p) = is_foreign roster p
is_stranger roster (Err fault) = false

-- or another site hands the text in than the packet's sender
abbrev pub is_declined : List (List ℕ × ℕ) → List ℕ → Bool
is_declined roster text =
    is_some (complaint_of_name roster (named_in text) (packet_in (packet_of text))) || is_stranger roster (packet_in (packet_of text))

-- what a line does at the site that says this
abbrev pub deed_by : List (List ℕ × ℕ) → List (List ℕ) → ℕ → OwnLine → Deed
deed_by roster answers site (tells told) = hears told
deed_by roster answers site (carries text) =
    if is_declined roster text then declines text else taken_as site text (number_of answers text)
deed_by roster answers site (asks look) = looks look
deed_by roster answers site (says line) = does line

-- by the roster that the site knows, and the packets shipped
abbrev pub deed_of : Course → Turn → Deed
deed_of c t = deed_by (c.roster t.site) c.shipped t.site (own_line_of (c.roster t.site) t.site t.line)

-- the events of a line: its commands in order, a packet that is made, or one that is taken
abbrev pub events_of : Line → List Event
events_of (acts site who commands) = map (Do site who) commands
events_of (ships site to) = Ship site to ∷ []
events_of (takes site number) = Take site number ∷ []
events_of _ = []

abbrev pub events_told : Option Line → List Event
events_told None = []
events_told (Some line) = events_of line

abbrev pub events_done : Deed → List Event
events_done (looks look) = []
events_done (does line) = events_told line
events_done (declines text) = []
events_done (hears told) = []

abbrev pub events_at : Course → Turn → List Event
events_at c t = events_done (deed_of c t)

-- the events of turns, in their order
abbrev pub events_from : Course → List Turn → List Event
events_from c [] = []
events_from c (t ∷ ts) = events_at c t ++ events_from (after_turn c t) ts

-- ---- what a run leaves
-- what is read of a site
abbrev pub state_at : ℕ → Site → State
state_at i s = record { site = i; view = view s.set; heard = s.heard }

-- the bytes are the line of a text of the packet
abbrev pub IsShipment : Packet → List ℕ → Type 0
IsShipment p bytes = (text : List ℕ) × IsTextOf p text × (bytes ≡ answer_line text)

-- so they are for each packet in order
abbrev pub AreShipments : List Packet → List (List ℕ) → Type 0
AreShipments [] [] = Unit {0}
AreShipments (p ∷ packets) (bytes ∷ answers) = IsShipment p bytes × AreShipments packets answers
AreShipments _ _ = ⊥

-- each site reads as in the run, and what was shipped are the packets of the run
pub record StandsFor (c : Course) (w : World) : Type 0 where
  pub sites : (i : ℕ) → c.site i ≡ state_at i (w.site i)
  pub shipped : AreShipments w.packets c.shipped

-- ---- what is answered in a run
-- the texts of outcomes, a line each
abbrev pub outcome_lines : List (List ℕ × ℕ) → List Outcome → List ℕ
outcome_lines roster [] = []
outcome_lines roster (outcome ∷ outcomes) = answer_line (text_of_outcome roster outcome) ++ outcome_lines roster outcomes

-- the bytes answer a line in a world, where its events have these outcomes
abbrev pub IsAnswer : List (List ℕ × ℕ) → World → Line → List Outcome → List ℕ → Type 0
IsAnswer roster w (acts site who commands) outcomes bytes = bytes ≡ outcome_lines roster outcomes
IsAnswer roster w (takes site number) outcomes bytes = bytes ≡ outcome_lines roster outcomes
IsAnswer roster w (ships site to) outcomes bytes =
    (outcomes ≡ Outcome.Packet (length w.packets + 1) ∷ []) × IsShipment (shipped site (w.site site) to) bytes
IsAnswer roster w (lists site full jobs) outcomes bytes = bytes ≡ listed full roster (view (w.site site).set) jobs
IsAnswer roster w (plans site moment) outcomes bytes = bytes ≡ text_of_plan roster (view (w.site site).set) site moment
IsAnswer roster w (misuses site fault) outcomes bytes = bytes ≡ line_of_usage fault
IsAnswer roster w skips outcomes bytes = bytes ≡ []
IsAnswer roster w _ outcomes bytes = bytes ≡ answer_line (codes "cannot be read")

abbrev pub IsToldAnswer : List (List ℕ × ℕ) → World → Option Line → List Outcome → List ℕ → Type 0
IsToldAnswer roster w None outcomes bytes = bytes ≡ answer_line (codes "cannot be read")
IsToldAnswer roster w (Some line) outcomes bytes = IsAnswer roster w line outcomes bytes

-- a look at a site, a text that it declines and a roster that it is told are answered by what the site holds in the world
abbrev pub IsDeedAnswer : List (List ℕ × ℕ) → World → ℕ → Deed → List Outcome → List ℕ → Type 0
IsDeedAnswer roster w site (looks look) outcomes bytes = bytes ≡ text_of_look roster (state_at site (w.site site)) look
IsDeedAnswer roster w site (does line) outcomes bytes = IsToldAnswer roster w line outcomes bytes
IsDeedAnswer roster w site (declines text) outcomes bytes =
    bytes ≡ (after_text roster (state_at site (w.site site)) text).text
IsDeedAnswer roster w site (hears told) outcomes bytes =
    bytes ≡ (after_next roster (state_at site (w.site site)) (next_roster roster told)).text

-- in a run of so many sites
module _ (n : ℕ) where
  abbrev pub IsAnswered : Course → World → Turn → Type 0
  IsAnswered c w t =
      IsDeedAnswer (c.roster t.site) w t.site (deed_of c t) (outcomes_from n w (events_at c t)) t.answer

  -- each turn is answered as in the run
  abbrev pub AreAnswered : Course → World → List Turn → Type 0
  AreAnswered c w [] = Unit {0}
  AreAnswered c w (t ∷ ts) = IsAnswered c w t × AreAnswered (after_turn c t) (run_from n w (events_at c t)) ts
