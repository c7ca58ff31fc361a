use Rattle.std.proofs.Common.{refl, ◌∙◌}
use Rattle.fed_qstat.specs.Outcome.{line_of_usage}
use Rattle.fed_main.specs.Thread.{Only}
use Rattle.fed_main.proofs.Threads.{Answers-one}
use Rattle.fed_main.proofs.live_sites.LiveSite.misuse.Goals as goal

pub returns : goal.returns
returns g c =
    Answers-one (Only (line_of_usage c.args.fault)) _ _ _ _ _ _ (refl, c.as_str.ensures.value ∙ c.in_ok-answer.ensures) refl c.in_ok-add.ensures
