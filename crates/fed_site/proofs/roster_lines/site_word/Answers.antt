use Rattle.std.proofs.lemmas.Result.{IfOk-weaker}
use Rattle.fed_site.proofs.LookValues.{word_found}
use Rattle.fed_site.proofs.roster_lines.site_word.Goals as goal

pub returns : goal.returns
returns c = IfOk-weaker c.format.result _ _ (λ s e. rw e (rw (c.in_ok-name.ensures, c.nodes_of-nodes.ensures) (word_found c.args.roster.now c.args.site c.requires))) c.format.ensures.ok
