use Rattle.std.proofs.Common.{arith}
use Rattle.std.proofs.lemmas.List.Edits.{map_over_more}
use Rattle.fed_easy.specs.Profile.{raised}
use Rattle.fed_easy.proofs.Raise.{rest_late}
use Rattle.fed_easy.proofs.profiles.raise.Goals as goal

pub loop-i-preserved : goal.loop-i-preserved
loop-i-preserved c = record {
  items = rw c.raised_step.ensures (map_over_more (raised c.args.capacity c.args.from c.args.until c.args.nodes) c.args.steps.now.items c.loop-i.steps.items c.loop-i.i c.index-step.result.now
      (omega (arith, c.loop-i.invariant.end)) c.loop-i.invariant.items c.index-step.ensures);
  end = c.loop-i.invariant.end;
}

pub returns-then-until-step : goal.returns-then-until-step
returns-then-until-step c =
    rest_late c.args.capacity c.args.from c.args.until c.args.nodes c.args.steps.now.items c.loop-i.steps.items c.loop-i.i c.requires.after.0 c.index-step.result.now c.requires.after.1
    (omega (arith, c.loop-i.invariant.end)) c.loop-i.invariant.items c.index-step.ensures c.if-until-step.true
