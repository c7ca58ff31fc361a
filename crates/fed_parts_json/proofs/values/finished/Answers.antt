use Rattle.std.proofs.Common.{◌≡◌, refl, ap, ◌∙◌}
use Rattle.serde_json.specs.View.{view}
use Rattle.serde_json.proofs.Views.{view-Array}
use Rattle.fed_json.specs.Values.{list_value}
use Rattle.fed_json.specs.Numbers.{natural_value}
use Rattle.fed_parts_json.proofs.WrittenValues.{one_more}
use Rattle.fed_parts_json.proofs.values.finished.Goals as goal

pub returns : goal.returns
returns c =
    let moment : view c.from.result ≡ natural_value c.args.finished.1.moment = rw c.from.ensures (rw c.get.ensures.same refl) in
    let status : view c.from-2.result ≡ natural_value c.args.finished.1.status = rw c.from-2.ensures refl in
    let first = one_more _ _ _ _ _ c.in_ok-parts.ensures c.in_ok-push.ensures.items c.in_ok-write_stamp.ensures in
    let second = one_more _ _ _ _ _ first c.in_ok-push-2.ensures.items moment in
    view-Array _ ∙ ap list_value (one_more _ _ _ _ _ second c.in_ok-push-3.ensures.items status)
