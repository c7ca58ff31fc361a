use Rattle.fed_theory.proofs.Begins.{done_once}
use Rattle.fed_theory.proofs.run_laws.begins_are_done_once.Goals as goal

pub returns : goal.returns
returns c = done_once
