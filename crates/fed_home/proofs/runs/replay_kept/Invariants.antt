use Rattle.std.proofs.Common.{◌≡◌, ◌+◌, drop}
use Rattle.fed_home.proofs.Beginnings.{goes, texts_now}
use Rattle.fed_home.proofs.runs.replay_kept.Given as goal

abbrev pub invariant-loop-line : goal.invariant-loop-line
invariant-loop-line l = record {
  count : l.number ≡ l.fn.first + l.line-index;
  rest : goes l.number l.site (texts_now (drop l.line-index l.lines)) ≡ goes l.fn.first l.fn.begun (texts_now l.fn.lines);
}
