use Rattle.std.proofs.Common.{Ok, ap, sym, ◌∙◌}
use Rattle.fed_words.proofs.Readback.{asking_is_read}
use Rattle.fed_words.proofs.laws.requests_are_read_from_words.Goals as goal

pub returns : goal.returns
returns c = λ roster here request asked lawful. asking_is_read roster lawful here asked.utility asked.arguments asked.jobs asked.asked ∙ ap Ok (sym asked.same)
