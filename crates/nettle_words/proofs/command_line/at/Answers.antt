use Rattle.std.proofs.Common.{rules, ap, ap₂, codes, ◌≡◌, ◌∙◌}
use Rattle.std.proofs.lemmas.Result.{IfOk-weaker}
use Rattle.clap.specs.Words.{rule_of, with_rule}
use Rattle.nettle_words.specs.CommandLine.{line}
use Rattle.nettle_words.proofs.command_line.at.Goals as goal

pub returns : goal.returns
returns c =
    let argument_is : rule_of c.trailing_var_arg-words.result ≡ line = search rules in
    IfOk-weaker c.arg.result _ _ (λ command added. added.shape (search rules) ∙ ap₂ with_rule c.in_ok-with_directory.ensures argument_is) c.arg.ensures
