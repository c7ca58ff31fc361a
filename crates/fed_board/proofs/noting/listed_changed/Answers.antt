use Rattle.std.proofs.Common.{arith}
use Rattle.fed_board.proofs.ChangeLists.{all_found}
use Rattle.fed_board.proofs.noting.listed_changed.Goals as goal

pub returns : goal.returns
returns c = record {
  changed = all_found c.args.changes.now c.args.need.now c.args.jobs.now c.loop-site.changed c.requires.listed c.requires.after c.requires.counters c.loop-site.invariant.part
      (λ s job k small. c.loop-site.invariant.found s job k (omega arith)) c.table_is_well_formed.ensures.0 c.table_is_well_formed-2.ensures.0;
}
