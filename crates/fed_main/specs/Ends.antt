-- What has been written when a script ends.
use Rattle.std.specs.Prelude.{ℕ, List, Option, Some, None, Result, Ok, Err}
use Rattle.std.specs.Io.KnownBytes.{Keeps}
use Rattle.fed_replay.specs.Said.{said, said_first}
use Rattle.fed_main.specs.declared.fault.RunFault.{RunFault}
use Rattle.fed_main.specs.declared.fault.RunFault.TheVariants.{Line, Read, Write, NoMemory, Close, Behind}
pub use Rattle.fed_replay.specs.Ends.{HasSaid}

-- all was said; or what is said before the first line that can't be read; or nothing; or what is said to some first
-- lines, each of which can be read. Only sites that run at the same time meet the last two faults
abbrev pub EndsAs : Option (List ℕ) → Option (List ℕ) → List ℕ → Result (Unit {0}) RunFault → Type 0
EndsAs before after script (Ok done) = HasSaid before after (said script) None
EndsAs before after script (Err (Line n)) = HasSaid before after (said script) (Some n)
EndsAs before after script (Err Read) = Keeps before after
EndsAs before after script (Err Write) = Unit {0}
EndsAs before after script (Err NoMemory) = (k : ℕ) × HasSaid before after (said_first k script) None
EndsAs before after script (Err (Close fault)) = ⊥
EndsAs before after script (Err Behind) = ⊥
