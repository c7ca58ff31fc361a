use Rattle.fed_theory.proofs.SubmitLaws.{reserve_of, made_from, standing_whole}
use Rattle.fed_theory.proofs.set_laws.made_reservations_have_their_reserve.Goals as goal

pub returns : goal.returns
returns c ops id l = (λ e. (reserve_of ops id l e, (standing_whole ops id e).0), λ p. made_from ops id p.0 p.1)
