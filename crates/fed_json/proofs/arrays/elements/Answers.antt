use Rattle.fed_json.proofs.Views.{elements_by}
use Rattle.fed_json.proofs.arrays.elements.Goals as goal

pub returns-in-Some : goal.returns-in-Some
returns-in-Some c = rw (c.as_slice.ensures.value) (elements_by _ c.in-Some.values.now.items c.in-Some.ensures)
