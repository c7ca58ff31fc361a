-- Sites by themselves: their lines, one after another, among which the texts of packets are carried.
use Rattle.std.specs.Prelude.{◌≡◌, ℕ, ◌<◌, true, List, [], ◌∷◌, ◌++◌, length, All, IfSome}
use Rattle.fed_stamp.specs.Indexes.{put}
use Rattle.fed_lattice.specs.Sets.{Has}
use Rattle.fed_replica.specs.State.{State, empty_at}
use Rattle.fed_wire.specs.Reading.{packet_in}
use Rattle.fed_qstat.specs.Outcome.{answer_line}
use Rattle.fed_site.specs.Journal.{kept_lines}
use Rattle.fed_site.specs.Handed.{packet_of}
use Rattle.fed_site.specs.Line.{packet_text}
use Rattle.fed_site.specs.Rosters.{begins, roster_after}
use Rattle.fed_site.specs.Says.{Reply, Text, PacketFor, IsReply, Said, site_says}

-- a line at a site, and the bytes that answered it
pub record Turn : Type 0 where
  pub site : ℕ
  pub line : List ℕ
  pub answer : List ℕ

-- what is read of each site, the roster that it knows, and the answers to the ships so far, in order
pub record Course : Type 0 where
  pub site : ℕ → State
  pub roster : ℕ → List (List ℕ × ℕ)
  pub shipped : List (List ℕ)

-- each site holds nothing, and knows the roster that it was made with
abbrev pub beginning : (ℕ → List (List ℕ × ℕ)) → Course
beginning rosters = record { site = empty_at; roster = rosters; shipped = [] }

-- an answer to a ship
abbrev pub shipped_by : Reply → List ℕ → List (List ℕ)
shipped_by (Text text) answer = []
shipped_by (PacketFor to) answer = answer ∷ []

-- once this was said at a site, and answered so, and the site knows this roster
abbrev pub after_said : Course → ℕ → List (List ℕ × ℕ) → Said → List ℕ → Course
after_said c site roster said answer = record {
  site = put c.site site said.after;
  roster = put c.roster site roster;
  shipped = c.shipped ++ shipped_by said.reply answer;
}

-- what the site of a turn says
abbrev pub said_to : Course → Turn → Said
said_to c t = site_says (c.roster t.site) (c.site t.site) t.line

abbrev pub after_turn : Course → Turn → Course
after_turn c t = after_said c t.site (roster_after (c.roster t.site) t.line) (said_to c t) t.answer

abbrev pub after_turns : Course → List Turn → Course
after_turns c [] = c
after_turns c (t ∷ ts) = after_turns (after_turn c t) ts

-- the roster that the site of a turn behind these knows, where sites were made with these rosters
abbrev pub roster_at : (ℕ → List (List ℕ × ℕ)) → List Turn → Turn → List (List ℕ × ℕ)
roster_at rosters early t = (after_turns (beginning rosters) early).roster t.site

-- ---- texts that are carried
-- the text is that of an answer to a ship, or reads as the same packet
abbrev pub WasShipped : List (List ℕ) → List ℕ → Type 0
WasShipped answers text = (shipped : List ℕ) × Has answers (answer_line shipped) × (packet_in (packet_of text) ≡ packet_in shipped)

-- where the line is to take a text, that was shipped
abbrev pub IsCarried : List (List ℕ) → List ℕ → Type 0
IsCarried answers line = IfSome (packet_text line) (WasShipped answers)

-- Of lines of a site that holds this, each that is kept takes no text but one that was shipped. A line that isn't kept takes
-- nothing, so it may have any text: one that was cut on its way, a stranger's, one made for another site.
abbrev pub AreCarried : List (List ℕ × ℕ) → List (List ℕ) → State → List (List ℕ) → Type 0
AreCarried roster answers s lines = All (IsCarried answers) (kept_lines roster s lines)

-- ---- what may be
-- The sites' rosters are beginnings of one, by their names: so a number is that of one site wherever it is known.
module _ (whole : List (List ℕ × ℕ)) where
  -- so it is for a site that knows this roster, before each of these lines
  abbrev pub AreBeginnings : List (List ℕ × ℕ) → List (List ℕ) → Type 0
  AreBeginnings roster [] = Unit {0}
  AreBeginnings roster (line ∷ lines) = (begins roster whole ≡ true) × AreBeginnings (roster_after roster line) lines

  -- a site of its own roster said so, and a text that it took was shipped before
  pub record MayTurn (c : Course) (t : Turn) : Type 0 where
    pub site : t.site < length (c.roster t.site)
    pub part : begins (c.roster t.site) whole ≡ true
    pub said : IsReply (c.site t.site) (said_to c t).reply t.answer
    pub carried : AreCarried (c.roster t.site) c.shipped (c.site t.site) (t.line ∷ [])

  abbrev pub MayTurns : Course → List Turn → Type 0
  MayTurns c [] = Unit {0}
  MayTurns c (t ∷ ts) = MayTurn c t × MayTurns (after_turn c t) ts
