use Rattle.std.specs.Cow.{cow_str_bytes}
use Rattle.std.proofs.Common.{◌≡◌, sym, ap, ◌∙◌}
use Rattle.fed_board.specs.Board.{board_reads}
use Rattle.fed_script.specs.LineView.{said_by}
use Rattle.fed_qstat.specs.Listed.{listed}
use Rattle.fed_machine.specs.Planned.{plan_if_any}
use Rattle.fed_site.specs.Site.{SiteValue}
use Rattle.fed_site.specs.declared.site.SiteAnswer.TheVariants.{Text}
use Rattle.fed_site.proofs.Lines.{lists_said, plans_said}
use Rattle.fed_site.proofs.site.Site.do_line.Goals as goal

pub returns-in-List-clause-said : goal.returns-in-List-clause-said
returns-in-List-clause-said c =
    let roster : c.get-roster.result.now ≡ c.args.self.now.roster = c.get-roster.ensures ∙ ap (λ (v : SiteValue). v.roster) c.self.view_is in
    let board : c.board.result.now ≡ c.args.self.now.replica.board = c.board.ensures ∙ ap (λ (v : SiteValue). v.replica.board) c.self.view_is in
    lists_said c.args.self.now (said_by c.args.line) c.in-List.site c.in-List.full c.in-List.jobs.items (Text c.told-in-List.result) c.told-in-List.ensures.kept c.told-in-List.ensures.complaint c.told-in-List.ensures.begun (ap said_by c.in-List.is)
    (c.told-in-List.ensures.text ∙ c.in_ok-text-in-List.ensures ∙ (λ i. listed c.in-List.full (roster i) (board_reads (board i)) (c.deref-in-List.ensures.value i)))

pub returns-in-Plan-clause-said : goal.returns-in-Plan-clause-said
returns-in-Plan-clause-said c =
    let roster : c.get-roster.result.now ≡ c.args.self.now.roster = c.get-roster.ensures ∙ ap (λ (v : SiteValue). v.roster) c.self.view_is in
    let board : c.board-in-Plan.result.now ≡ c.args.self.now.replica.board = c.board-in-Plan.ensures ∙ ap (λ (v : SiteValue). v.replica.board) c.self.view_is in
    let here : c.self.inside.here ≡ c.args.self.now.replica.site = sym c.self.invariant.0 ∙ ap (λ (v : SiteValue). v.replica.site) c.self.view_is in
    plans_said cow_str_bytes c.in_ok-plan-in-Plan.plan c.args.self.now (said_by c.args.line) c.in-Plan.site c.in-Plan.moment (Text c.plan_answer.result) c.plan_answer.ensures.kept c.plan_answer.ensures.complaint c.plan_answer.ensures.begun (ap said_by c.in-Plan.is)
    c.plan_answer.ensures.text (c.in_ok-plan-in-Plan.ensures ∙ (λ i. plan_if_any (roster i) (board_reads (board i)) (here i) c.in-Plan.moment))
