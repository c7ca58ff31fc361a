use Rattle.fed_journal.proofs.Writing.{wrote_more}
use Rattle.fed_journal.proofs.lines.write_lines.Goals as goal

pub loop-text-preserved : goal.loop-text-preserved
loop-text-preserved c = wrote_more c.args.before.now c.args.texts.now c.loop-text.text-index _ _ _ _ _ c.loop-text-test.true c.loop-text.invariant c.digest_after-digest.ensures c.in_ok-write_line.ensures
