use Rattle.fed_theory.proofs.Clearing.{settled_retired}
use Rattle.fed_theory.proofs.run_laws.settled_identifiers_can_be_retired.Goals as goal

pub returns : goal.returns
returns c n events site who few small some time = settled_retired n few events site small who some time
