use Rattle.std.specs.List.{list_any}
use Rattle.std.proofs.Common.{◌||◌, sym, ap, ◌∙◌}
use Rattle.fed_replica.specs.Retiring.{is_open_reservation}
use Rattle.fed_replica.proofs.Unsettled.{unsettled_entries}
use Rattle.fed_replica.proofs.retire_steps.has_unsettled.Goals as goal

pub returns-then-has_open_job : goal.returns-then-has_open_job
returns-then-has_open_job c =
    c.if-has_open_job.true
    ∙ ap (λ b. b || list_any (is_open_reservation c.args.here c.args.first c.args.last) c.args.board.now.reservations) (sym c.if-has_open_job.true ∙ c.has_open_job.ensures)
    ∙ unsettled_entries c.args.board.now c.board_is_covered.ensures c.args.here c.args.first c.args.last c.board_is_in_order.ensures.jobs_ascend c.board_is_in_order.ensures.reservations_ascend

pub returns-else-has_open_job : goal.returns-else-has_open_job
returns-else-has_open_job c =
    c.has_open_reservation.ensures
    ∙ ap (λ b. b || list_any (is_open_reservation c.args.here c.args.first c.args.last) c.args.board.now.reservations) (sym c.if-has_open_job.false ∙ c.has_open_job.ensures)
    ∙ unsettled_entries c.args.board.now c.board_is_covered.ensures c.args.here c.args.first c.args.last c.board_is_in_order.ensures.jobs_ascend c.board_is_in_order.ensures.reservations_ascend
