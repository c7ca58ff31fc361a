use Rattle.std.proofs.Common.{◌≡◌}
use Rattle.std.specs.Slice.Iter.{chunks_rest, chunks_size}
use Rattle.fed_journal.proofs.ReadBack.{IsFront}
use Rattle.fed_journal.proofs.files.has_bytes.Given as goal

abbrev pub invariant-loop-part : goal.invariant-loop-part
invariant-loop-part g l = record {
  can : (goal.iterator-loop-part g).can_next l.part-iterator;
  ends : (goal.iterator-loop-part g).is_finite l.part-iterator;
  size : chunks_size l.part-iterator ≡ 8192;
  front : IsFront (g.R.Read.remaining l.fn.reader) (g.R.Read.remaining l.reader) l.fn.bytes (chunks_rest l.part-iterator);
}
