use Rattle.std.proofs.Common.{arith}
use Rattle.std.proofs.lemmas.Bool.Decides.{nat_tests}
use Rattle.fed_tags.proofs.GroupLaws.{empty_pairs}
use Rattle.fed_tags.proofs.sets.TagSet.is_empty.Goals as goal

pub returns : goal.returns
returns g c = empty_pairs g.T.Ord.cmp _ _ c.is_empty.result c.self.view_is c.self.invariant (grind (arith, nat_tests, c.is_empty.ensures, c.self.inside.groups.ok))
