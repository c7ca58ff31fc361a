use Rattle.std.specs.Prelude.{None, Some}
use Rattle.std.proofs.Common.{◌≡◌, rules, sym, ap, ◌∙◌}
use Rattle.fed_model.specs.declared.commands.Command.{Command}
use Rattle.fed_model.specs.Body.{Body, JobBody}
use Rattle.fed_model.specs.JobView.{JobView}
use Rattle.fed_record.specs.Operation.{has_site_pair}
use Rattle.fed_board.specs.Board.{board_reads}
use Rattle.fed_model.specs.Desk.{first_of}
use Rattle.fed_model.specs.Answer.{replaced_sites}
use Rattle.fed_model.specs.Refusals.{refusals}
use Rattle.fed_replica.proofs.StepLaws.{step_by, added}
use Rattle.fed_replica.proofs.job_steps.alter.Goals as goal

pub returns : goal.returns
returns c =
    let spared : first_of (refusals (board_reads c.args.board.now) c.args.here c.args.who.now (Command.Alter c.args.job c.args.changes.now)) ≡ None = search rules in
    step_by _ _ _ (added _ _ _ _ spared c.in_ok-at.at (Body.OfJob c.args.job (JobBody.Set c.args.changes.now (has_site_pair c.in_ok-removed.removed.items)))
    (ap (λ p. Some (Body.OfJob c.args.job (JobBody.Set c.args.changes.now p))) (ap (λ (j : JobView). replaced_sites j c.args.changes.now.sites) (sym c.in-Some.ensures.reads.0) ∙ sym c.in_ok-removed.ensures.pairs))
    c.in_ok-at.ensures)
