-- Homes: the journals' files of sites on a disk, by what happened at all sites.
use Rattle.std.specs.Prelude.{◌≡◌, ◌<◌, ℕ, List, [], ◌∷◌, length, Some}
use Rattle.fed_stamp.specs.Roster.{IsRoster}
use Rattle.fed_site.specs.SiteAnswer.{bytes_of}
use Rattle.fed_site.specs.declared.site.SiteAnswer.{SiteAnswer}
use Rattle.fed_journal.specs.Journal.{entries_in}
use Rattle.fed_home.specs.Replay.{replay}
use Rattle.fed_turns.specs.Turn.{Course, Turn, after_turns, beginning}
use Rattle.fed_turns.specs.Crash.{Happening, answered, cut, turns_from}

-- what has happened, where sites were made with these rosters
abbrev pub course_of : (ℕ → List (List ℕ × ℕ)) → List Happening → Course
course_of rosters happenings = after_turns (beginning rosters) (turns_from (beginning rosters) happenings)

-- the file's entries stand for this site, one of the roster that it knows, as what happened has left it
abbrev pub IsHomeOf : (ℕ → List (List ℕ × ℕ)) → ℕ → List Happening → List ℕ → Type 0
IsHomeOf rosters i happenings file = IsRoster ((course_of rosters happenings).roster i)
    × (i < length ((course_of rosters happenings).roster i))
    × (replay (entries_in file) ≡ Some (record {
      roster = (course_of rosters happenings).roster i;
      state = (course_of rosters happenings).site i;
    }))

-- lines of a site, each with the bytes that answered it
abbrev pub turns_at : ℕ → List (List ℕ) → List SiteAnswer → List Turn
turns_at i (line ∷ lines) (answer ∷ answers) =
    record { site = i; line = line; answer = bytes_of answer } ∷ turns_at i lines answers
turns_at i _ _ = []

-- where it happens
abbrev pub happens_at : Happening → ℕ
happens_at (answered turn) = turn.site
happens_at (cut site lines stand) = site
