use Rattle.std.proofs.Common.{arith, ◌∙◌}
use Rattle.fed_model.specs.declared.limits.TheConstants.{MAX_LIMIT}
use Rattle.fed_words.proofs.DigitWords.{narrower}
use Rattle.fed_words.proofs.numbers.read_limit.Goals as goal

pub returns : goal.returns
returns c = c.new.ensures ∙ narrower 1 MAX_LIMIT c.in_ok-read_number.field-0 c.args.word.now (omega arith) c.in_ok-read_number.ensures
