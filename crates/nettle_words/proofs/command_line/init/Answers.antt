use Rattle.std.proofs.Common.{ap₂, ◌∙◌}
use Rattle.std.proofs.lemmas.Result.{IfOk-weaker}
use Rattle.clap.specs.Words.{with_rule}
use Rattle.nettle_words.proofs.command_line.init.Goals as goal

pub returns : goal.returns
returns c =
    IfOk-weaker c.arg-2.result _ _ (λ command added. added.shape c.rest.ensures.local
    ∙ ap₂ with_rule (c.in_ok-arg.ensures.shape c.site.ensures.local ∙ ap₂ with_rule c.in_ok-with_directory.ensures c.site.ensures.rule) c.rest.ensures.rule) c.arg-2.ensures
