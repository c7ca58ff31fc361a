use Rattle.std.proofs.Common.{rules}
use Rattle.std.proofs.lemmas.Fn.{always_returns_same}
use Rattle.fed_tags.proofs.Places.{searched}
use Rattle.fed_tags.proofs.groups.find.Goals as goal

pub returns-clause-found : goal.returns-clause-found
returns-clause-found g c =
    let by_order = c.binary_search_by.ensures.position (λ group. g.T.Ord.cmp group.0 c.args.element.now) (always_returns_same _ _ _ (λ a r h called. search rules)) in
    (searched g.T.Ord.cmp g.met.T.Ord.total c.args.groups.now c.args.element.now _ c.requires c.binary_search_by.ensures.bound by_order).0

pub returns-clause-absent : goal.returns-clause-absent
returns-clause-absent g c =
    let by_order = c.binary_search_by.ensures.position (λ group. g.T.Ord.cmp group.0 c.args.element.now) (always_returns_same _ _ _ (λ a r h called. search rules)) in
    (searched g.T.Ord.cmp g.met.T.Ord.total c.args.groups.now c.args.element.now _ c.requires c.binary_search_by.ensures.bound by_order).1
