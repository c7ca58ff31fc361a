use Rattle.std.proofs.Common.{ap, arith, sym, ◌∙◌}
use Rattle.std.specs.Cow.{cow_str_bytes}
use Rattle.std.specs.Prelude.{is_ok}
use Rattle.fed_replay.specs.ScriptWorld.{state_of}
use Rattle.fed_replay.specs.Script.{answered}
use Rattle.fed_replay.proofs.Progress.{Progress-empty, Progress-none, Progress-more, ran_line, said_some}
use Rattle.fed_replay.proofs.Written.{OnOk-from_is_ok}
use Rattle.fed_replay.proofs.run.run_lines.Goals as goal

pub loop-line-init : goal.loop-line-init
loop-line-init g c = record {
  progress = rw c.requires (Progress-none _ _);
  few = omega arith;
}

pub returns-in-Err-clause-ends : goal.returns-in-Err-clause-ends
returns-in-Err-clause-ends g c = said_some (g.W.Write.contents c.args.writer.now) (g.W.Write.contents c.loop-line.writer) c.args.script.now _ _ _ c.loop-line.invariant.progress

pub loop-line-preserved-then-is_empty : goal.loop-line-preserved-then-is_empty
loop-line-preserved-then-is_empty g c = record {
  progress = Progress-empty _ _ _ _ _ _ c.in-Some.line.now _ c.loop-line.invariant.progress c.in-Some.ensures.some c.if-is_empty.ensures;
  few = omega (arith, c.in-Some.ensures.shorter);
}

pub loop-line-preserved-in_ok-map_err : goal.loop-line-preserved-in_ok-map_err
loop-line-preserved-in_ok-map_err g c = record {
  progress = Progress-more _ _ _ _ _ _ _ _ _ _ _ c.loop-line.invariant.progress c.in-Some.ensures.some
      (ran_line c.in-Ok-Some.field-0 c.in-Ok-Some.text cow_str_bytes c.as_bytes.result.now (state_of c.run_line.new.self.world) (answered (state_of c.loop-line.session.world) c.in-Some.line.now)
      c.in-Ok-Some.ensures c.in-Ok-Some.field-0-is (c.as_bytes.ensures.value ∙ c.as_str.ensures.value))
      (OnOk-from_is_ok c.write_all.result (sym c.map_err.ensures.variant ∙ ap is_ok c.in_ok-map_err.was) c.write_all.ensures.bytes);
  few = omega (arith, c.in-Some.ensures.shorter);
}

pub loop-line-preserved : goal.loop-line-preserved
loop-line-preserved g c = record {
  progress = Progress-more _ _ _ _ _ _ _ _ _ _ _ c.loop-line.invariant.progress c.in-Some.ensures.some
      (ran_line c.in-Ok-Some.field-0 c.in-Ok-Some.text cow_str_bytes c.as_bytes.result.now (state_of c.run_line.new.self.world) (answered (state_of c.loop-line.session.world) c.in-Some.line.now)
      c.in-Ok-Some.ensures c.in-Ok-Some.field-0-is (c.as_bytes.ensures.value ∙ c.as_str.ensures.value))
      (OnOk-from_is_ok c.write_all.result (sym c.map_err.ensures.variant ∙ ap is_ok c.in_ok-map_err.was) c.write_all.ensures.bytes);
  few = omega (arith, c.in-Some.ensures.shorter);
}
