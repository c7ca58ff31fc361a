use Rattle.fed_tags.proofs.Places.{lookup_place, lookup_gap}
use Rattle.fed_tags.proofs.groups.tags_of.Goals as goal

pub returns-in-Ok : goal.returns-in-Ok
returns-in-Ok g c =
    let at = c.in-Ok.ensures.found in
    record { value = lookup_place g.T.Ord.cmp g.met.T.Ord.total g.met.T.Exact.exact c.args.groups.now c.args.element.now c.in-Ok.place c.index-groups-place.result c.requires at.0 (at.1 _) }

pub returns-in-Err : goal.returns-in-Err
returns-in-Err g c = let gap = c.in-Err.ensures.absent in record { value = lookup_gap g.T.Ord.cmp g.met.T.Ord.total _ _ _ gap.0 gap.1 }
