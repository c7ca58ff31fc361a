use Rattle.std.proofs.Common.{ℕ, ◌<◌, slice_index_or}
use Rattle.fed_board.specs.declared.rises.Rise.{Rise}
use Rattle.fed_board.specs.Changes.{IsListed, Keeps, site_at}
use Rattle.fed_board.proofs.noting.note_all.Given as goal

abbrev pub invariant-loop-rise : goal.invariant-loop-rise
invariant-loop-rise l = record {
  kept : Keeps l.fn.changes l.changes;
  listed : (k : ℕ) (d : Rise) → k < l.rise-index → (slice_index_or l.rises k d).site < 16 → IsListed (site_at l.changes (slice_index_or l.rises k d).site) (slice_index_or l.rises k d).job (slice_index_or l.rises k d).counter;
}
