use Rattle.fed_theory.proofs.DoneCommands.{done_kept, done_passed}
use Rattle.fed_theory.proofs.run_laws.done_commands_stay.Goals as goal

pub returns-clause-kept : goal.returns-clause-kept
returns-clause-kept c = done_kept

pub returns-clause-passed : goal.returns-clause-passed
returns-clause-passed c = done_passed
