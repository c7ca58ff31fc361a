use Rattle.std.specs.Fmt.{decimal}
use Rattle.fed_qstat.proofs.Columns.{right-written}
use Rattle.fed_qstat.proofs.padding.write_right.Goals as goal

pub returns : goal.returns
returns c = λ rest is. right-written c.write_digits-start.result c.args.end c.args.width c.args.row.now _ (decimal c.args.number) rest c.write_digits-start.ensures.start c.write_digits-start.ensures.written c.write_digits-start.ensures.before c.requires.digits c.requires.column is
