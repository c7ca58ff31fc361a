use Rattle.std.proofs.Common.{◌<◌, Ok, Err, length}
use Rattle.fed_replay.specs.declared.script.TheConstants.{MAX_SCRIPT_BYTES}
use Rattle.fed_main.proofs.ReplayEnds.{EndsAs-told, long-told, read-told}
use Rattle.fed_main.proofs.replays.replay.Goals as goal

pub returns-in-Ok-clause-replays : goal.returns-in-Ok-clause-replays
returns-in-Ok-clause-replays g c = EndsAs-told _ _ _ (Ok tt) c.in-Ok.ensures.replays

pub returns-in-Ok-clause-long : goal.returns-in-Ok-clause-long
returns-in-Ok-clause-long g c = long-told _ (λ input. MAX_SCRIPT_BYTES < length input) (Ok tt) c.in-Ok.ensures.long

pub returns-in-Ok-clause-read : goal.returns-in-Ok-clause-read
returns-in-Ok-clause-read g c = λ e. c.in-Ok.ensures.read (read-told (Ok tt) e)

pub returns-in-Err-clause-replays : goal.returns-in-Err-clause-replays
returns-in-Err-clause-replays g c = rw c.into.ensures (EndsAs-told _ _ _ (Err c.in-Err.fault) c.in-Err.ensures.replays)

pub returns-in-Err-clause-long : goal.returns-in-Err-clause-long
returns-in-Err-clause-long g c = rw c.into.ensures (long-told _ (λ input. MAX_SCRIPT_BYTES < length input) (Err c.in-Err.fault) c.in-Err.ensures.long)

pub returns-in-Err-clause-read : goal.returns-in-Err-clause-read
returns-in-Err-clause-read g c = rw c.into.ensures (λ e. c.in-Err.ensures.read (read-told (Err c.in-Err.fault) e))
