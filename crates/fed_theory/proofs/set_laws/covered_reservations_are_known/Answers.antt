use Rattle.fed_theory.proofs.KnownLaws.{covered_reservation}
use Rattle.fed_theory.proofs.set_laws.covered_reservations_are_known.Goals as goal

pub returns : goal.returns
returns c ops others id kin covered = covered_reservation ops others kin id covered
