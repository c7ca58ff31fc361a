use Rattle.std.proofs.Common.{sym, ap, ◌∙◌}
use Rattle.fed_model.specs.JobView.{JobView}
use Rattle.fed_board.specs.Board.{board_reads}
use Rattle.fed_model.specs.Answer.{Answer.Refuses, term_in}
use Rattle.fed_replica.proofs.GrantAnswers.{grant_refused, grant_yours, grant_last, grant_full, grant_added}
use Rattle.fed_replica.proofs.StepLaws.{said_refused}
use Rattle.fed_replica.proofs.grant_steps.grant.Goals as goal

pub returns-in-Refused : goal.returns-in-Refused
returns-in-Refused c =
    λ who. grant_refused _ _ who _ _ c.in-Refused.refusal (sym (c.in-Refused.ensures (board_reads c.args.board.now) (sym c.in-Some.ensures.reads.0)))

pub returns-in-Yours : goal.returns-in-Yours
returns-in-Yours c =
    λ who. grant_yours _ _ who _ _ (sym (c.in-Yours.ensures (board_reads c.args.board.now) (sym c.in-Some.ensures.reads.0)))

pub returns-in_default-new : goal.returns-in_default-new
returns-in_default-new c =
    λ who. grant_last (board_reads c.args.board.now) _ who _ _ (sym (c.in-Grant.ensures (board_reads c.args.board.now) (sym c.in-Some.ensures.reads.0))) c.last_term.result (c.last_term.ensures.term ∙ ap (λ (j : JobView). term_in j.stages.grant) c.in-Some.ensures.reads.0) c.in_default-new.ensures

pub returns-in_err-at : goal.returns-in_err-at
returns-in_err-at c =
    λ who. said_refused _ _ c.from_residual.ensures ∙ ap Refuses c.in_err-at.ensures.0
    ∙ grant_full (board_reads c.args.board.now) _ who _ _ (sym (c.in-Grant.ensures (board_reads c.args.board.now) (sym c.in-Some.ensures.reads.0))) c.last_term.result (c.last_term.ensures.term ∙ ap (λ (j : JobView). term_in j.stages.grant) c.in-Some.ensures.reads.0) c.in-Some-new.term c.in-Some-new.ensures c.in_err-at.ensures.1

pub returns : goal.returns
returns c =
    λ who. grant_added (board_reads c.args.board.now) _ who _ _ (sym (c.in-Grant.ensures (board_reads c.args.board.now) (sym c.in-Some.ensures.reads.0))) c.last_term.result (c.last_term.ensures.term ∙ ap (λ (j : JobView). term_in j.stages.grant) c.in-Some.ensures.reads.0) c.in-Some-new.term c.in-Some-new.ensures c.in_ok-at.at c.in_ok-at.ensures
