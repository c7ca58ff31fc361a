use Rattle.std.specs.Map.{keys_of}
use Rattle.std.proofs.Common.{sym, ◌∙◌}
use Rattle.fed_wire.proofs.RetiredLoops.{one_more}
use Rattle.fed_wire.proofs.retired.all_sites.Goals as goal

pub loop-index-preserved : goal.loop-index-preserved
loop-index-preserved c =
    one_more c.args.reached.now (keys_of c.args.jobs.now) (keys_of c.args.reservations.now) c.args.values.now c.loop-index.index c.loop-index.last c.loop-index.retired c.index-values-index.result _ c.loop-index-test.true c.index-values-index.is
    c.loop-index.invariant c.in-Ok.entry (sym c.in-Ok.is ∙ c.in_ok-entry.ensures) c.is_above.result c.insert.new.self c.is_above.ensures c.if-not-is_above.false (sym c.is_fit.ensures ∙ c.if-not-is_fit.false) c.in_ok-insert-in-Ok.ensures.inserted
