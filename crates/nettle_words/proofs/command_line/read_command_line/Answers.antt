use Rattle.std.proofs.Common.{ap, map, string_bytes, sym, ◌∙◌}
use Rattle.clap.specs.Words.{App, fault_of, is_simple_and_free, takes}
use Rattle.nettle_words.proofs.command_line.read_command_line.Goals as goal

pub returns-in-Err-clause-passes : goal.returns-in-Err-clause-passes
returns-in-Err-clause-passes c = λ taken. c.in-Err.ensures.passes (ap (λ (a : App). takes a (map string_bytes c.args.words.now)) c.in_ok-command.ensures ∙ taken)

pub returns-clause-whole : goal.returns-clause-whole
returns-clause-whole c = sym (ap (λ (a : App). fault_of a (map string_bytes c.args.words.now)) c.in_ok-command.ensures) ∙ c.in-Ok.ensures.kinds (ap is_simple_and_free c.in_ok-command.ensures)
