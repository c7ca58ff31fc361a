use Rattle.std.proofs.Common.{◌≡◌, ◌<◌, length, get_or, take, map, arith, refl, sym, ap, ◌∙◌}
use Rattle.std.proofs.lemmas.List.{map-append, take_more, take_all}
use Rattle.std.proofs.lemmas.Grind.{common_steps}
use Rattle.serde_json.specs.View.{view}
use Rattle.serde_json.proofs.Views.{view-Array}
use Rattle.fed_json.specs.Values.{list_value}
use Rattle.fed_json.specs.Numbers.{natural_value}
use Rattle.fed_parts_json.proofs.WrittenValues.{one_more}
use Rattle.fed_parts_json.proofs.values.write_version.Goals as goal

pub loop-number-preserved : goal.loop-number-preserved
loop-number-preserved c =
    let n = c.loop-number.number in
    let version = c.args.version.now in
    let there : n < length version = omega arith in
    let counter : view c.from.result ≡ natural_value (get_or version n 0) =
    let same : c.get.result ≡ get_or version n 0 = grind (arith, common_steps) in
    rw (c.from.ensures, same) refl in
    one_more _ _ _ _ _ c.loop-number.invariant c.in_ok-push.ensures.items counter
    ∙ sym (ap (map natural_value) (take_more version n 0 there) ∙ map-append natural_value (take n version) _)

pub returns : goal.returns
returns c =
    view-Array _ ∙ ap list_value (c.loop-number.invariant ∙ ap (map natural_value) (take_all c.loop-number.number c.args.version.now (omega arith)))
