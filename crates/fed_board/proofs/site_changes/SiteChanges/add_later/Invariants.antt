use Rattle.std.proofs.Common.{ℕ, ◌<◌, ◌≤◌, slice_index_or}
use Rattle.fed_stamp.specs.Stamp.{StampValue}
use Rattle.fed_board.specs.declared.changes.Change.{Change}
use Rattle.fed_board.specs.Changes.{IsFound, IsPart, is_later}
use Rattle.fed_board.proofs.site_changes.SiteChanges.add_later.Given as goal

abbrev pub invariant-loop-i : goal.invariant-loop-i
invariant-loop-i l = record {
  part : IsPart (is_later l.need) l.jobs l.changed;
  kept : (job : StampValue) → IsFound (is_later l.need) l.jobs l.fn.changed job → IsFound (is_later l.need) l.jobs l.changed job;
  found : (k : ℕ) (d : Change) → l.start ≤ k → k < l.i → IsFound (is_later l.need) l.jobs l.changed (slice_index_or l.self-inside.changes.items k d).job;
}
