use Rattle.std.proofs.Common.{◌<◌, length}
use Rattle.fed_serve.proofs.Groups.{IsServing}
use Rattle.fed_serve.proofs.serving.serve.Given as goal

abbrev pub invariant-loop : goal.invariant-loop
invariant-loop g l = record {
  serving : IsServing l.frames g.D.Device.seen g.D.Device.may_leave g.D.Device.moment g.D.Device.left_since l.fn.home l.home (g.R.Read.remaining l.fn.reader) (g.R.Read.remaining l.reader) l.fn.begun.items l.begun.items
      (g.W.Write.contents l.fn.writer) (g.W.Write.contents l.writer);
  room : 0 < length l.chunk.items;
}
