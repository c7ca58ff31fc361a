use Rattle.std.proofs.Common.{refl}
use Rattle.fed_wire.proofs.IdentifierLaws.{none_kept}
use Rattle.fed_wire.proofs.identifiers.Identifiers.new.Goals as goal

pub returns : goal.returns
returns c = none_kept _ refl
