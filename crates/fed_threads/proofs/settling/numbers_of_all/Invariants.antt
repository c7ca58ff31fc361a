use Rattle.std.proofs.Common.{◌≡◌, ◌<◌, ◌≤◌, ℕ, get_or, length}
use Rattle.fed_threads.proofs.settling.numbers_of_all.Given as goal

abbrev pub invariant-loop-site : goal.invariant-loop-site
invariant-loop-site l = record {
  count : length l.next ≡ 16;
  before : (s : ℕ) → s < l.site → get_or l.next s 0 ≡ get_or l.placed s 0;
  after : (s : ℕ) → l.site ≤ s → get_or l.next s 0 ≡ 0;
}
