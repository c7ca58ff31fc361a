use Rattle.std.proofs.Common.{refl, ◌+◌, ◌∙◌, sym, subst, ap, ◌∷◌, [], ◌++◌, take}
use Rattle.std.proofs.lemmas.List.{take_all, take_more}
use Rattle.fed_board.specs.Board.{board_reads}
use Rattle.fed_qstat.specs.Layout.{lines_in}
use Rattle.fed_qstat.proofs.BoardJobs.{AreWritten, named_written, next_id}
use Rattle.fed_qstat.proofs.listings.list_named.Goals as goal

pub loop-id-preserved : goal.loop-id-preserved
loop-id-preserved c =
    subst (λ t. AreWritten (lines_in c.args.layout c.args.roster.now) (board_reads c.args.board.now) t (take (c.loop-id.id-index + 1) c.deref-id-items.result.now)) (sym c.in_ok-push_named.ensures)
    (next_id (lines_in c.args.layout c.args.roster.now) (board_reads c.args.board.now) _ _ _ _ c.id-item.result c.loop-id.invariant
    (take_more c.deref-id-items.result.now c.loop-id.id-index c.id-item.result c.loop-id-test.true ∙ ap (λ x. take c.loop-id.id-index c.deref-id-items.result.now ++ x ∷ []) (sym c.id-item.is))
    refl)

pub returns : goal.returns
returns c =
    named_written (lines_in c.args.layout c.args.roster.now) c.args.board.now _ _ _ _
    (record { board = c.board_is_covered.ensures; ascending = c.board_is_in_order.ensures.jobs_ascend; ids = c.board_is_in_order.ensures.jobs })
    c.in_ok-ids.ensures.ascending c.requires c.in_ok-ids.ensures.members c.loop-id.invariant
    (take_all c.loop-id.id-index c.deref-id-items.result.now c.loop-id-test.false ∙ c.deref-id-items.ensures.value)
