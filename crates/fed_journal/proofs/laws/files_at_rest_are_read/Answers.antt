use Rattle.fed_journal.proofs.Crash.{recovered_gated}
use Rattle.fed_journal.proofs.laws.files_at_rest_are_read.Goals as goal

pub returns : goal.returns
returns c = λ entries tail lines. recovered_gated entries tail lines
