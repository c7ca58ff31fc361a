use Rattle.fed_script.proofs.LineCuts.{position-searched}
use Rattle.fed_script.proofs.lines.line_end.Goals as goal

pub returns-in_default : goal.returns-in_default
returns-in_default c = position-searched c.args.script.now c.memchr.result c.memchr.ensures
