-- Which line of a script that runs live is the first that can't be read, and what is written where such a run fails.
use Rattle.std.specs.Prelude.{◌≡◌, ℕ, ◌+◌, Bool, true, false, List, [], ◌∷◌, Option, Some, None, Result, Ok, Err, if◌then◌else◌}
use Rattle.std.specs.Io.KnownBytes.{Keeps}
use Rattle.std.specs.Option.{option_and_then, option_map_or}
use Rattle.std.specs.Str.Lines.{lines}
use Rattle.fed_script.specs.Line.{Line as Told, skips, begins, takes, compares, first_line_in, later_line_in}
use Rattle.fed_main.specs.declared.fault.RunFault.{RunFault}
use Rattle.fed_main.specs.declared.fault.RunFault.TheVariants.{Line, Read, Write, NoMemory, Close, Behind}

-- the sites, or none before the line that names them
abbrev pub Sites : Type 0
Sites = Option (List (List ℕ × ℕ))

-- sites that run at the same time take what comes next, and no two boards are there at one moment
abbrev pub is_live : Told → Bool
is_live (takes site packet) = false
is_live (compares site other) = false
is_live line = true

-- what a line says, where no packet has a number
abbrev pub line_in : Sites → List ℕ → Option Told
line_in None bytes = first_line_in bytes
line_in (Some roster) bytes = later_line_in roster 0 bytes

abbrev pub named_by : Sites → Told → Sites
named_by sites (begins roster) = Some roster
named_by sites line = sites

-- does a thread of a site run it? Sites are named and lines skipped before a thread is started
abbrev pub is_run : Option Told → Bool
is_run None = false
is_run (Some skips) = false
is_run (Some (begins roster)) = false
is_run (Some line) = is_live line

-- the sites behind what a line says, where it can be run live
abbrev pub sites_told : Sites → Option Told → Option Sites
sites_told sites = option_and_then (λ line. if is_live line then Some (named_by sites line) else None)

-- the sites behind a line that can be read
abbrev pub sites_after : Sites → List ℕ → Option Sites
sites_after sites bytes = sites_told sites (line_in sites bytes)

-- the first of the lines that can't be read, where the first of them has the number n
abbrev pub unread_from : ℕ → Sites → List (List ℕ) → Option ℕ
unread_from n sites [] = None
unread_from n sites (bytes ∷ rest) =
    option_map_or (λ (after : Sites). unread_from (n + 1) after rest) (sites_after sites bytes) (Some n)

abbrev pub unread : List ℕ → Option ℕ
unread script = unread_from 1 None (lines script)

-- what a fault tells of the lines that were read
abbrev pub TellsUnread : List ℕ → RunFault → Type 0
TellsUnread script (Line n) = unread script ≡ Some n
TellsUnread script NoMemory = Unit {0}
TellsUnread script fault = ⊥

-- what the threads of sites may end with
abbrev pub IsOfThreads : RunFault → Type 0
IsOfThreads NoMemory = Unit {0}
IsOfThreads (Close fault) = Unit {0}
IsOfThreads Behind = Unit {0}
IsOfThreads fault = ⊥

-- nothing is written but where all is well or the writer fails, and a line that can't be read comes before all that runs
abbrev pub EndsLiveAs : Option (List ℕ) → Option (List ℕ) → List ℕ → Result (Unit {0}) RunFault → Type 0
EndsLiveAs before after script (Ok done) = unread script ≡ None
EndsLiveAs before after script (Err (Line n)) = (unread script ≡ Some n) × Keeps before after
EndsLiveAs before after script (Err Read) = Keeps before after
EndsLiveAs before after script (Err Write) = unread script ≡ None
EndsLiveAs before after script (Err NoMemory) = Keeps before after
EndsLiveAs before after script (Err (Close fault)) = (unread script ≡ None) × Keeps before after
EndsLiveAs before after script (Err Behind) = (unread script ≡ None) × Keeps before after
