use Rattle.std.proofs.Common.{◌∙◌}
use Rattle.fed_easy.proofs.LeftOut.{one_found}
use Rattle.fed_easy.proofs.queues.is_one_of.Goals as goal

pub returns : goal.returns
returns c = c.is_ok.ensures.value ∙ one_found c.args.jobs.now c.args.job c.requires c.binary_search.result c.binary_search.ensures.bound c.binary_search.ensures.position
