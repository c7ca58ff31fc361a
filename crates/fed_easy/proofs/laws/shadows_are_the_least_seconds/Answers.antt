use Rattle.fed_easy.proofs.FirstFit.{shadow_least}
use Rattle.fed_easy.proofs.laws.shadows_are_the_least_seconds.Goals as goal

pub returns : goal.returns
returns c = λ capacity now end used j idle narrow. shadow_least capacity now end used j idle narrow
