use Rattle.std.proofs.Common.{◌≡◌, ◌↔◌, true, List, subst}
use Rattle.fed_stamp.specs.Stamp.{StampValue}
use Rattle.fed_lattice.specs.Sets.{Has}
use Rattle.fed_board.specs.Board.{board_reads}
use Rattle.fed_model.specs.Letter.{is_submitted}
use Rattle.fed_looks.proofs.Placed.{placed_are_queued}
use Rattle.fed_looks.proofs.laws.jobs_with_a_place_are_queued.Goals as goal

pub returns : goal.returns
returns c = λ roster here id.
    placed_are_queued (board_reads c.args.board.now)
    (λ job. subst (λ (ids : List StampValue). Has ids job ↔ (is_submitted ((board_reads c.args.board.now).job job) ≡ true)) c.jobs-jobs.ensures.ids (c.jobs-jobs.ensures.all job)) roster here id
