use Rattle.std.proofs.Common.{sym, ◌∙◌}
use Rattle.fed_easy.proofs.RosterNodes.{nodes_found}
use Rattle.fed_easy.proofs.roster_plans.nodes_of.Goals as goal

pub returns : goal.returns
returns c = nodes_found c.args.roster.now c.args.site c.unwrap.result c.requires (sym c.unwrap.ensures ∙ c.nodes.ensures.same)
