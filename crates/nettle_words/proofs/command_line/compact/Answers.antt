use Rattle.std.proofs.Common.{ap₂, ◌∙◌}
use Rattle.std.proofs.lemmas.Result.{IfOk-weaker}
use Rattle.clap.specs.Words.{with_rule}
use Rattle.nettle_words.proofs.command_line.compact.Goals as goal

pub returns : goal.returns
returns c =
    IfOk-weaker c.arg.result _ _ (λ command added. added.shape c.keep.ensures.local
    ∙ ap₂ with_rule c.in_ok-with_directory.ensures c.keep.ensures.rule) c.arg.ensures
