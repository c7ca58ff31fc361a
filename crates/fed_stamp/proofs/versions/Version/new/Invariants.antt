use Rattle.std.proofs.Common.{◌≡◌, ℕ, ◌<◌, ◌≤◌, length, slice_index}
use Rattle.fed_stamp.proofs.versions.Version.new.Given as goal

abbrev pub invariant-loop-i : goal.invariant-loop-i
invariant-loop-i l = record {
  len : length l.seen ≡ 16;
  same : (k : ℕ) → k < l.i → slice_index l.seen k ≡ slice_index l.counters k;
  small : (k : ℕ) → k < l.i → slice_index l.counters k ≤ 1_000_000_000;
}
