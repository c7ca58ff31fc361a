use Rattle.std.proofs.Common.{◌≡◌, true, sym, ◌∙◌}
use Rattle.fed_parts_json.specs.Retirements.{are_apart_before}
use Rattle.fed_parts_json.proofs.RetirementLaws.{canonical_where_true}
use Rattle.fed_parts_json.proofs.retirements.read_parts.Goals as goal

pub from_vec-ranges-requires : goal.from_vec-ranges-requires
from_vec-ranges-requires c =
    let items = c.in-Ok.read.1.1.items in
    let apart : are_apart_before c.in-Ok.read.1.0 1 items ≡ true = rw (← c.deref-else-not-are_some.ensures.value) (sym c.are_apart_before.ensures ∙ c.if-not-are_apart_before.false) in
    canonical_where_true c.in-Ok.read.1.0 items apart
