use Rattle.std.specs.Prelude.{Bool, None, if◌then◌else◌}
use Rattle.std.proofs.Common.{sym, ap, ◌∙◌}
use Rattle.fed_board.specs.Board.{board_reads}
use Rattle.fed_model.specs.Answer.{answer_to}
use Rattle.fed_site.specs.Says.{job_begun_by}
use Rattle.fed_site.proofs.Commands.{replied}
use Rattle.fed_site.proofs.acts.ask.Goals as goal

pub returns-in-Ok-clause-done : goal.returns-in-Ok-clause-done
returns-in-Ok-clause-done c =
    let old = c.args.replica.now in
    let answer = answer_to (board_reads old.board) old.site c.args.who.now c.args.command.now in
    let told = replied c.args.roster.now c.args.who.now c.args.index c.args.command.now c.in-Ok.reply answer (sym c.in-Ok.is ∙ c.in_ok-answered.ensures.said) in
    record {
      after = c.in_ok-answered.ensures.left;
      said = c.reply_line.ensures ∙ told.0;
      keeps = c.in_ok-answered.ensures.added;
      complains = told.1;
      begins = c.job_begun.ensures ∙ ap (λ (b : Bool). if b then job_begun_by c.args.command.now else None) c.in_ok-answered.ensures.added;
    }
