use Rattle.fed_theory.proofs.RetiredRuns.{retired_cancelled}
use Rattle.fed_theory.proofs.run_laws.retired_reservations_are_cancelled.Goals as goal

pub returns : goal.returns
returns c n events few site other id window e h = retired_cancelled n events few site other id window e h
