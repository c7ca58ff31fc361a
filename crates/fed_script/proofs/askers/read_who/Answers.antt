use Rattle.std.proofs.Common.{sym}
use Rattle.fed_script.proofs.Slashes.{who_in-user}
use Rattle.fed_script.proofs.askers.read_who.Goals as goal

pub returns-in-Some : goal.returns-in-Some
returns-in-Some c = sym (who_in-user c.args.word.now c.in-Some.who (sym c.in-Some.ensures))
