use Rattle.std.specs.Map.Iter.{deref_pair}
use Rattle.std.proofs.lemmas.Map.Iter.{rest_all}
use Rattle.fed_qstat.specs.Layout.{lines_in}
use Rattle.fed_qstat.proofs.BoardJobs.{all_written}
use Rattle.fed_qstat.proofs.listings.list_all.Goals as goal

pub returns : goal.returns
returns c =
    all_written (lines_in c.args.layout c.args.roster.now) c.args.board.now _ c.loop-id.id-iterator
    (record { board = c.board_is_covered.ensures; ascending = c.jobs-id-items.ensures.ascending; ids = c.jobs-id-items.ensures.ids })
    c.loop-id.invariant (rest_all deref_pair _ _ _ c.in-None.is c.next.ensures.steps)
