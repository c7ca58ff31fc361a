use Rattle.std.proofs.Common.{◌∷◌, [], ap, length, arith}
use Rattle.std.proofs.lemmas.List.{length-append}
use Rattle.fed_replica.specs.State.{state_of}
use Rattle.fed_home.proofs.Entries.{gathered_more}
use Rattle.fed_home.proofs.compactions.entries_from.Goals as goal

pub loop-number-preserved : goal.loop-number-preserved
loop-number-preserved c = record {
  few = omega (arith, ap length c.in_ok-push-3.ensures.items, length-append c.loop-number.entries.items (c.in_ok-heard_text.field-0 ∷ []), c.loop-number.invariant.few);
  are = gathered_more _ (state_of c.args.site.now.replica) c.loop-number.number c.loop-number.entries.items _ c.in_ok-heard_text.field-0 c.loop-number.invariant.are c.in_ok-push-3.ensures.items c.in_ok-heard_text.ensures;
}
