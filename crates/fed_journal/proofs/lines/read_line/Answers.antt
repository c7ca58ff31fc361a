use Rattle.fed_journal.proofs.Reading.{short}
use Rattle.fed_journal.proofs.lines.read_line.Goals as goal

pub returns-then-line-lt-FRONT_BYTES : goal.returns-then-line-lt-FRONT_BYTES
returns-then-line-lt-FRONT_BYTES c = short c.args.before.now c.args.line.now c.if-line-lt-FRONT_BYTES.true
