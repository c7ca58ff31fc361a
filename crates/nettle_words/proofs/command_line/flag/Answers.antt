use Rattle.std.proofs.Common.{rules, ap, ◌≡◌, ◌∙◌}
use Rattle.clap.specs.Words.{rule_of}
use Rattle.nettle_words.specs.CommandLine.{flag}
use Rattle.nettle_words.proofs.command_line.flag.Goals as goal

pub returns-clause-rule : goal.returns-clause-rule
returns-clause-rule c =
    let set_is : rule_of c.action.result ≡ flag c.args.name.now = search rules in
    ap rule_of c.help.ensures ∙ set_is
