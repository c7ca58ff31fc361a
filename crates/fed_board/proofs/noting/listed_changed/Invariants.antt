use Rattle.std.proofs.Common.{ℕ, ◌<◌, slice_index}
use Rattle.fed_stamp.specs.Stamp.{StampValue}
use Rattle.fed_board.specs.Changes.{IsListed, IsFound, IsPart, is_later, site_at}
use Rattle.fed_board.proofs.noting.listed_changed.Given as goal

abbrev pub invariant-loop-site : goal.invariant-loop-site
invariant-loop-site l = record {
  part : IsPart (is_later l.need) l.jobs l.changed;
  found : (s : ℕ) (job : StampValue) (c : ℕ) → s < l.site → (site_at l.changes s).floor < c → slice_index l.need s < c → IsListed (site_at l.changes s) job c → IsFound (is_later l.need) l.jobs l.changed job;
}
