-- An input that is served while the home of the site is compacted and opened again.
use Rattle.std.specs.Prelude.{◌≡◌, ◌⊎◌, ◌≤◌, ℕ, ◌*◌, ◌-◌, ◌^◌, max, min, Bool, List, [], ◌∷◌, ◌++◌, length, Option, Result, Ok, Err, ⊤}
use Rattle.std.specs.List.{flat_map}
use Rattle.std.specs.Io.KnownBytes.{IsAtEnd}
use Rattle.fed_replica.specs.State.{State}
use Rattle.fed_site.specs.Journal.{after_lines}
use Rattle.fed_site.specs.Rosters.{roster_after_lines}
use Rattle.fed_journal.specs.Lines.{at_rest, recovered}
use Rattle.fed_home.specs.Compaction.{AreEntriesOf}
use Rattle.fed_home.specs.Home.{state_in, home_device, site_of}
use Rattle.fed_home.specs.Replay.{replayed_of}
use Rattle.fed_home.specs.declared.homes.Home.{Home}
use Rattle.fed_serve.specs.Inputs.{lines_in}
use Rattle.fed_serve.specs.Served.{AreNotKept, HasAnswered}
use Rattle.fed_serve.specs.declared.faults.ServeFault.TheVariants.{Write}
use Rattle.fed_serve.specs.declared.openings.Stop.{Stop}
use Rattle.fed_serve.specs.declared.openings.Stop.TheVariants.{Served}

-- ---- what is written over several openings
-- lines that were done, each by what the ones before it have left, or lines of which nothing was kept
pub data Part : Type 0 where
  Done : List (List ℕ) → Part
  NotKept : List (List ℕ) → Part

-- all lines of the parts, in their order
abbrev pub lines_of : List Part → List (List ℕ)
lines_of [] = []
lines_of (Done given ∷ parts) = given ++ lines_of parts
lines_of (NotKept given ∷ parts) = given ++ lines_of parts

-- those that were done
abbrev pub done_of : List Part → List (List ℕ)
done_of [] = []
done_of (Done given ∷ parts) = given ++ done_of parts
done_of (NotKept given ∷ parts) = done_of parts

-- What is written to the parts, one after another: to lines that were done what a site answers that has done those before
-- them, and has nothing of the lines that weren't kept.
abbrev pub AreWritten : (frames : Bool) → List (List ℕ × ℕ) → State → List Part → Option (List ℕ) → Option (List ℕ) → Type 0
AreWritten frames roster s [] before after = before ≡ after
AreWritten frames roster s (Done given ∷ parts) before after =
    (between : Option (List ℕ)) × HasAnswered frames roster s given before between × AreWritten frames (roster_after_lines roster given) (after_lines roster s given) parts between after
AreWritten frames roster s (NotKept given ∷ parts) before after =
    (between : Option (List ℕ)) × AreNotKept frames given before between × AreWritten frames roster s parts between after

-- The texts that were read, and their lines. There is one, unless an input that had ended was read again, since its last
-- line, which was cut, could not be kept: what came then began anew.
abbrev pub text_of : List (List ℕ) → List ℕ
text_of inputs = flat_map (λ input. input) inputs

abbrev pub lines_in_all : List (List ℕ) → List (List ℕ)
lines_in_all inputs = flat_map lines_in inputs

-- some first lines of an input are written to, and to the rest nothing is
abbrev pub AreBegun : (frames : Bool) → List (List ℕ × ℕ) → State → List (List ℕ) → Option (List ℕ) → Option (List ℕ) → Type 0
AreBegun frames roster s inputs before after =
    (parts : List Part) × (rest : List (List ℕ)) × (lines_in_all inputs ≡ lines_of parts ++ rest) × AreWritten frames roster s parts before after

-- How it ends: all lines are written to, and the home has done those that were kept; or it stops behind some first lines. Of
-- what can't be written nothing is said.
abbrev pub EndsAs : {D F : Type 0} (frames : Bool) → Home D → List (List ℕ) → Option (List ℕ) → Option (List ℕ) → Option (List ℕ) → Result (Home D) (Stop F) → Type 0
EndsAs frames old inputs left before after (Ok new) =
    IsAtEnd left × ((parts : List Part) × (lines_in_all inputs ≡ lines_of parts) × AreWritten frames (site_of old).roster (state_in old) parts before after
    × ((site_of new).roster ≡ roster_after_lines (site_of old).roster (done_of parts)) × (state_in new ≡ after_lines (site_of old).roster (state_in old) (done_of parts)))
EndsAs frames old inputs left before after (Err (Served (Write error))) = ⊤
EndsAs frames old inputs left before after (Err stop) = AreBegun frames (site_of old).roster (state_in old) inputs before after

-- ---- opening again
-- The journal of a home that is opened again reads as a file that a crash may leave of the home before.
abbrev pub IsLeft : {D : Type 0} (seen : D → List ℕ) (may_leave : D → List ℕ → Type 0) → Home D → Home D → Type 0
IsLeft seen may_leave old again = (file : List ℕ) × may_leave (home_device old) file × (recovered (seen (home_device again)) ≡ recovered file)

-- ---- compacting
-- The most bytes of a journal that isn't long, by those that it has or would have when it is compacted: a mebibyte, or four
-- times as many.
abbrev pub longest_of : ℕ → ℕ
longest_of compacted = max 1048576 (min (compacted * 4) (2 ^ 64 - 1))

-- From how many bytes on the journal is long again: by those that it has now, where it was replaced, which it is by a fourth
-- at most, or couldn't be; or by those that it would have had.
abbrev pub IsLongest : {D : Type 0} (seen : D → List ℕ) → Home D → Home D → ℕ → Type 0
IsLongest seen old new longest =
    ((longest ≡ longest_of (length (seen (home_device new)))) × ((new ≡ old) ⊎ (length (seen (home_device new)) * 4 ≤ length (seen (home_device old)))))
    ⊎ ((new ≡ old) × ((entries : List (List ℕ)) × AreEntriesOf (replayed_of (site_of old)) entries × (longest ≡ longest_of (min (length (at_rest entries)) (2 ^ 64 - 1)))))
