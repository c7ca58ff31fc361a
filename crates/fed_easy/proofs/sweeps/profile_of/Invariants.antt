use Rattle.std.proofs.Common.{◌≡◌, ◌≤◌, ◌*◌, ◌^◌, ◌-◌, length, drop, reverse}
use Rattle.fed_easy.proofs.Sweep.{IsSwept, first_second}
use Rattle.fed_easy.proofs.sweeps.profile_of.Given as goal

abbrev pub invariant-loop-i : goal.invariant-loop-i
invariant-loop-i l = record {
  count : l.count ≡ length l.events.items;
  closed : l.closed ≤ 2 ^ 64 * l.i;
  opened : l.opened ≤ 2 ^ 64 * l.i;
  swept : IsSwept l.capacity l.start (drop (length l.events.items - l.i) l.events.items) l.closed l.opened l.nodes (reverse l.steps.items);
  first : l.first ≡ first_second (drop (length l.events.items - l.i) l.events.items);
}
