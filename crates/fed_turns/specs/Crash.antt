-- Lines of sites that crash and are opened again. What a site has answered its disk has; lines whose answers nobody saw the
-- disk has or not.
use Rattle.std.specs.Prelude.{ℕ, ◌<◌, ◌==◌, Bool, true, false, List, [], ◌∷◌, ◌++◌, length, if◌then◌else◌}
use Rattle.fed_replica.specs.State.{empty_at}
use Rattle.fed_site.specs.Journal.{kept_lines}
use Rattle.fed_site.specs.Says.{Reply, Text, PacketFor, site_says}
use Rattle.fed_turns.specs.Turn.{Turn, Course, AreBeginnings, AreCarried, MayTurn, after_turns}

pub data Happening : Type 0 where
  -- a line was answered
  answered : (turn : Turn) → Happening
  -- a site crashed before anybody saw what it answered to these lines: they stand in its journal, or none of them does
  cut : (site : ℕ) (lines : List (List ℕ)) (stand : Bool) → Happening

-- ---- the turns that are left
-- a line that nobody saw answered stands with its text; where it was to ship, no packet was made
abbrev pub unseen : ℕ → List ℕ → Reply → List Turn
unseen site line (Text text) = record { site = site; line = line; answer = text } ∷ []
unseen site line (PacketFor to) = []

abbrev pub turn_unseen : Course → ℕ → List ℕ → List Turn
turn_unseen c site line = unseen site line (site_says (c.roster site) (c.site site) line).reply

abbrev pub turns_unseen : Course → ℕ → List (List ℕ) → List Turn
turns_unseen c site [] = []
turns_unseen c site (line ∷ lines) =
    turn_unseen c site line ++ turns_unseen (after_turns c (turn_unseen c site line)) site lines

abbrev pub turns_of : Course → Happening → List Turn
turns_of c (answered turn) = turn ∷ []
turns_of c (cut site lines true) = turns_unseen c site lines
turns_of c (cut site lines false) = []

abbrev pub turns_from : Course → List Happening → List Turn
turns_from c [] = []
turns_from c (h ∷ hs) = turns_of c h ++ turns_from (after_turns c (turns_of c h)) hs

-- ---- what may happen
module _ (whole : List (List ℕ × ℕ)) where
  -- a site of its own roster was given the lines, and a text that it took was shipped before
  pub record MayStand (c : Course) (here : ℕ) (lines : List (List ℕ)) : Type 0 where
    pub site : here < length (c.roster here)
    pub parts : AreBeginnings whole (c.roster here) lines
    pub carried : AreCarried (c.roster here) c.shipped (c.site here) lines

  abbrev pub MayHappen : Course → Happening → Type 0
  MayHappen c (answered turn) = MayTurn whole c turn
  MayHappen c (cut site lines true) = MayStand c site lines
  MayHappen c (cut site lines false) = Unit {0}

  abbrev pub MayAllHappen : Course → List Happening → Type 0
  MayAllHappen c [] = Unit {0}
  MayAllHappen c (h ∷ hs) = MayHappen c h × MayAllHappen (after_turns c (turns_of c h)) hs

-- ---- journals
-- the lines, if they are of the site
abbrev pub lines_if : Bool → List (List ℕ) → List (List ℕ)
lines_if here lines = if here then lines else []

-- the lines of a site that it has answered, or that stand though nobody saw them answered
abbrev pub lines_at : ℕ → Happening → List (List ℕ)
lines_at i (answered turn) = lines_if (turn.site == i) (turn.line ∷ [])
lines_at i (cut site lines true) = lines_if (site == i) lines
lines_at i (cut site lines false) = []

abbrev pub lines_all : ℕ → List Happening → List (List ℕ)
lines_all i [] = []
lines_all i (h ∷ hs) = lines_at i h ++ lines_all i hs

-- what its journal keeps of them, where it was made with this roster
abbrev pub journal_of : List (List ℕ × ℕ) → ℕ → List Happening → List (List ℕ)
journal_of roster i happenings = kept_lines roster (empty_at i) (lines_all i happenings)
