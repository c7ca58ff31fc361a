use Rattle.std.proofs.Common.{ap, sym, ◌∙◌}
use Rattle.fed_board.specs.Board.{board_reads}
use Rattle.fed_looks.specs.JobObject.{lines_of_jobs}
use Rattle.fed_looks.proofs.JobLaws.{asked_all, asked_some}
use Rattle.fed_looks.proofs.job_lines.jobs_json.Goals as goal

pub returns-in_ok-all_lines : goal.returns-in_ok-all_lines
returns-in_ok-all_lines c =
    c.in_ok-all_lines.ensures ∙ ap (lines_of_jobs c.args.roster.now (board_reads c.args.board.now)) (sym (asked_all (board_reads c.args.board.now) c.args.jobs.now c.if-is_empty.ensures))

pub returns-in_ok-named_lines : goal.returns-in_ok-named_lines
returns-in_ok-named_lines c =
    c.in_ok-named_lines.ensures ∙ ap (lines_of_jobs c.args.roster.now (board_reads c.args.board.now)) (sym (asked_some (board_reads c.args.board.now) c.args.jobs.now c.if-is_empty.ensures))
