use Rattle.std.proofs.Common.{ap, refl, ◌∙◌}
use Rattle.fed_model.specs.Outcome.{outcome_of}
use Rattle.fed_qstat.specs.Outcome.{answer_line, text_of_outcome}
use Rattle.fed_main.specs.Thread.{Does}
use Rattle.fed_main.proofs.Threads.{Answers-one}
use Rattle.fed_main.proofs.live_sites.LiveSite.ask.Goals as goal

pub returns : goal.returns
returns g c =
    let roster = c.args.self.now.sites.now.roster.now in
    Answers-one (Does roster c.args.self.now.here c.args.who.now c.args.command.now) _ _ _ _ _ _
    (record {
      outcome = outcome_of c.in_ok-said.said;
      claim = c.in_ok-said.ensures.ok;
      told = c.as_str.ensures.value ∙ c.in_ok-answer.ensures ∙ ap (λ o. answer_line (text_of_outcome roster o)) c.from.ensures;
    })
    refl c.in_ok-add.ensures
