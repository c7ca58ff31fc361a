use Rattle.std.proofs.Common.{rules, ◌≢◌, ◌∙◌}
use Rattle.std.specs.Prelude.{slice_index}
use Rattle.fed_words.proofs.DigitWords.{number_in-parsed}
use Rattle.fed_words.proofs.numbers.read_number.Goals as goal

pub returns : goal.returns
returns c =
    let plain : slice_index c.args.word.now 0 ≢ 43 = search rules in
    c.ok.ensures.value ∙ number_in-parsed c.args.word.now c.parse.result c.parse.ensures.value.0 plain
