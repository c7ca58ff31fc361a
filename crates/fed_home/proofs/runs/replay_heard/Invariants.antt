use Rattle.std.proofs.Common.{◌≡◌, ◌-◌, ◌≤◌, drop, length}
use Rattle.fed_home.proofs.Beginnings.{hears_on, texts_now}
use Rattle.fed_home.proofs.runs.replay_heard.Given as goal

abbrev pub invariant-loop-number : goal.invariant-loop-number
invariant-loop-number l = record {
  within : l.number ≤ length l.lines;
  rest : hears_on (l.count - l.number) l.number l.site (texts_now (drop l.number l.lines)) ≡ hears_on (length l.fn.knowing.roster) 0 l.fn.knowing (texts_now l.fn.lines);
}
