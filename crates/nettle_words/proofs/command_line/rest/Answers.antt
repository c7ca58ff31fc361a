use Rattle.std.proofs.Common.{rules, ap, ◌≡◌, ◌∙◌}
use Rattle.clap.specs.Words.{rule_of}
use Rattle.nettle_words.specs.CommandLine.{rest}
use Rattle.nettle_words.proofs.command_line.rest.Goals as goal

pub returns-clause-rule : goal.returns-clause-rule
returns-clause-rule c = search rules

pub returns-clause-local : goal.returns-clause-local
returns-clause-local c = search rules
