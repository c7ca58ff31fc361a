-- The site that entries stand for, and what it answers to lines.
use Rattle.std.specs.Prelude.{◌≡◌, ℕ, zero, suc, ◌+◌, List, [], ◌∷◌, length, Option, Some, None, unwrap_or, Result, Ok, Err, if◌then◌else◌, ⊤}
use Rattle.std.specs.Result.{result_ok}
use Rattle.std.specs.Str.{bytes_eq}
use Rattle.fed_replica.specs.State.{State, empty_at, state_of}
use Rattle.fed_site.specs.SiteAnswer.{begun_of, bytes_of, complaint_of, kept_of}
use Rattle.fed_site.specs.Journal.{after_lines}
use Rattle.fed_site.specs.Known.{heard_line, known_in}
use Rattle.fed_site.specs.Rosters.{roster_after, roster_after_lines}
use Rattle.fed_site.specs.Says.{IsReply, site_says}
use Rattle.fed_site.specs.Site.{SiteValue}
use Rattle.fed_site.specs.declared.site.SiteAnswer.{SiteAnswer}
use Rattle.fed_home.specs.declared.faults.HomeFault.{HomeFault}
use Rattle.fed_home.specs.declared.faults.HomeFault.TheVariants.{NoHeader, UnreadHeader, UnreadKnown, UnreadHeard, UnkeptEntry}
use Rattle.fed_home.specs.declared.headers.JournalFormat.{JournalFormat}
use Rattle.fed_home.specs.declared.headers.JournalFormat.TheVariants.{One, Two, Three, Four}
use Rattle.fed_home.specs.declared.headers.Header.{Header}
use Rattle.fed_home.specs.Header.{header_in}

-- a roster, and what a site of it holds
pub record Replayed : Type 0 where
  pub roster : List (List ℕ × ℕ)
  pub state : State

-- a site that has answered these lines, by the roster that it knew and what it held before them
abbrev pub site_after : List (List ℕ × ℕ) → List (List ℕ) → State → Replayed
site_after roster lines before =
    record { roster = roster_after_lines roster lines; state = after_lines roster before lines }

-- ---- what entries stand for: a site, or a fault
-- A site that has answered these lines, where it keeps each of them; else the fault of the first that it doesn't keep. The
-- first of them is this line of the journal.
abbrev pub after_kept : ℕ → List (List ℕ × ℕ) → State → List (List ℕ) → Result Replayed HomeFault
after_kept number roster s [] = Ok (record { roster = roster; state = s })
after_kept number roster s (line ∷ lines) =
    if (site_says roster s line).kept then after_kept (number + 1) (roster_after roster line) (site_says roster s line).after lines
    else Err (UnkeptEntry number)

-- what a site writes of what it has heard of another, and nothing where that is nothing
abbrev pub heard_text : State → ℕ → List ℕ
heard_text s from = unwrap_or (heard_line s from) []

-- A site that has heard of so many sites, from that of this number on, what as many lines tell, and has then answered the
-- others. Each of these lines is what the site writes of what it has heard, once it has answered it.
abbrev pub after_heard : ℕ → ℕ → List (List ℕ × ℕ) → State → List (List ℕ) → Result Replayed HomeFault
after_heard zero from roster s lines = after_kept (3 + from) roster s lines
after_heard (suc count) from roster s [] = Err (UnreadHeard (3 + from))
after_heard (suc count) from roster s (line ∷ lines) =
    if bytes_eq (heard_text (site_says roster s line).after from) line
    then after_heard count (from + 1) (roster_after roster line) (site_says roster s line).after lines
    else Err (UnreadHeard (3 + from))

abbrev pub after_known : Option State → (State → Result Replayed HomeFault) → Result Replayed HomeFault
after_known None next = Err UnreadKnown
after_known (Some s) next = next s

-- The entries behind a header. In formats 1 and 3 the site had nothing before them; in formats 2 and 4 the first is what it
-- knew, and in format 4 those behind it are what it had heard of each site of the roster. The others are lines that it kept.
abbrev pub begun : JournalFormat → List (List ℕ × ℕ) → ℕ → List (List ℕ) → Result Replayed HomeFault
begun One roster here lines = after_kept 2 roster (empty_at here) lines
begun Two roster here [] = Err UnreadKnown
begun Two roster here (text ∷ lines) = after_known (known_in roster here text) (λ s. after_kept 3 roster s lines)
begun Three roster here lines = after_kept 2 roster (empty_at here) lines
begun Four roster here [] = Err UnreadKnown
begun Four roster here (text ∷ lines) = after_known (known_in roster here text) (λ s. after_heard (length roster) 0 roster s lines)

abbrev pub begun_by : List (List ℕ) → Option Header → Result Replayed HomeFault
begun_by lines None = Err UnreadHeader
begun_by lines (Some header) = begun header.format header.roster header.site lines

-- entries, of which the first is the header
abbrev pub replayed_by : List (List ℕ) → Result Replayed HomeFault
replayed_by [] = Err NoHeader
replayed_by (first ∷ lines) = begun_by lines (header_in first)

-- the site that entries stand for, if they are a site's
abbrev pub replay : List (List ℕ) → Option Replayed
replay entries = result_ok (replayed_by entries)

-- a site as the code keeps it
abbrev pub replayed_of : SiteValue → Replayed
replayed_of site = record { roster = site.roster; state = state_of site.replica }

-- these are the answers to these lines, one after another, of a site that knows this roster
abbrev pub AreReplies : List (List ℕ × ℕ) → State → List (List ℕ) → List SiteAnswer → Type 0
AreReplies roster s [] [] = ⊤
AreReplies roster s (line ∷ lines) (answer ∷ answers) =
    IsReply s (site_says roster s line).reply (bytes_of answer)
    × (kept_of answer ≡ (site_says roster s line).kept)
    × (complaint_of answer ≡ (site_says roster s line).complaint)
    × (begun_of answer ≡ (site_says roster s line).begun)
    × AreReplies (roster_after roster line) (site_says roster s line).after lines answers
AreReplies roster s _ _ = ⊥
