-- What has been written when a replay ends.
use Rattle.std.specs.Prelude.{◌≡◌, ℕ, List, Option, Some, None, Result, Ok, Err}
use Rattle.std.specs.Io.KnownBytes.{Appends, Keeps}
use Rattle.fed_replay.specs.Said.{Said, said, said_first}
use Rattle.fed_replay.specs.declared.fault.ReplayFault.{ReplayFault}
use Rattle.fed_replay.specs.declared.fault.ReplayFault.TheVariants.{Line, Read, Write, NoMemory}

-- this has been said, and no more was written
pub record HasSaid (before after : Option (List ℕ)) (said : Said) (unread : Option ℕ) : Type 0 where
  pub ended : said.unread ≡ unread
  pub written : Appends before after said.text

-- all was said; or what is said before the first line that can't be read; or nothing; or what is said to some first
-- lines, each of which can be read
abbrev pub EndsAs : Option (List ℕ) → Option (List ℕ) → List ℕ → Result (Unit {0}) ReplayFault → Type 0
EndsAs before after script (Ok done) = HasSaid before after (said script) None
EndsAs before after script (Err (Line n)) = HasSaid before after (said script) (Some n)
EndsAs before after script (Err Read) = Keeps before after
EndsAs before after script (Err Write) = Unit {0}
EndsAs before after script (Err NoMemory) = (k : ℕ) × HasSaid before after (said_first k script) None
