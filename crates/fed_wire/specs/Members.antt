-- The members of a packet's JSON object, as they are read in one pass.
use Rattle.std.specs.Prelude.{◌≡◌, codes, Some, IfSome}
use Rattle.serde_json.specs.Data.{Data}
use Rattle.serde_json.specs.Find.{get}
use Rattle.serde_json.specs.View.{view}
use Rattle.fed_wire.specs.declared.members.PacketMembers.{PacketMembers}

-- each is the object's member of its name, and so is what is retired where it is there
pub record AreMembers (d : Data) (m : PacketMembers) : Type 0 where
  pub jobs : get (codes "jobs") d ≡ Some (view m.jobs.now)
  pub need : get (codes "need") d ≡ Some (view m.need.now)
  pub reached : get (codes "reached") d ≡ Some (view m.reached.now)
  pub reservations : get (codes "reservations") d ≡ Some (view m.reservations.now)
  pub retired : IfSome m.retired (λ v. get (codes "retired") d ≡ Some (view v.now))
  pub sender : get (codes "sender") d ≡ Some (view m.sender.now)
