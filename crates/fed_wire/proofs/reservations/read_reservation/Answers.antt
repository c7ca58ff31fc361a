use Rattle.std.proofs.Common.{sym, ap₂, ◌∙◌}
use Rattle.serde_json.specs.View.{view}
use Rattle.fed_json.specs.Reading.{both}
use Rattle.fed_wire.proofs.MemberLaws.{misnamed, reservation_is}
use Rattle.fed_wire.proofs.reservations.read_reservation.Goals as goal

pub returns-then-not-read_members : goal.returns-then-not-read_members
returns-then-not-read_members c = misnamed (view c.args.value.now) (sym c.read_members.ensures.named ∙ c.if-not-read_members.true)

pub returns : goal.returns
returns c =
    c.both.ensures ∙ ap₂ both c.read_stamp.ensures c.read_latest.ensures
    ∙ reservation_is (view c.args.value.now) c.read_members.new.members c.index-members-0.result c.index-members-1.result c.read_members.auto.members c.if-not-read_members.ensures.members
