use Rattle.std.proofs.Common.{sym, ap, ◌∙◌}
use Rattle.std.proofs.lemmas.Result.{on_ok_weaker}
use Rattle.fed_record.specs.Operation.{body_of}
use Rattle.fed_theory.specs.ViewSteps.{add_to_view}
use Rattle.fed_board.specs.Board.{board_reads}
use Rattle.fed_board.proofs.StandingBoards.{stands_added}
use Rattle.fed_board.proofs.boards.Board.apply.Goals as goal

pub returns-in-Some-clause-stands : goal.returns-in-Some-clause-stands
returns-in-Some-clause-stands c = on_ok_weaker c.change_job.result (stands_added _ _ _ c.requires.fresh) c.change_job.ensures.added

pub returns-in-Retire-clause-stands : goal.returns-in-Retire-clause-stands
returns-in-Retire-clause-stands c = on_ok_weaker c.retire.result
    (λ e. stands_added _ _ _ c.requires.fresh (e ∙ ap (λ b. add_to_view (board_reads c.args.self.now) (c.args.at, b)) (sym (ap body_of c.in-Retire.is)))) c.retire.ensures.added

pub returns-in_default-operation-clause-stands : goal.returns-in_default-operation-clause-stands
returns-in_default-operation-clause-stands c = on_ok_weaker c.change_reservation.result (stands_added _ _ _ c.requires.fresh) c.change_reservation.ensures.added
