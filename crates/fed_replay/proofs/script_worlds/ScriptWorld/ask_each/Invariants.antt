use Rattle.std.proofs.Common.{◌≡◌, string_bytes, take}
use Rattle.fed_replay.specs.ScriptWorld.{reads}
use Rattle.fed_replay.specs.Script.{after_commands, says}
use Rattle.fed_replay.proofs.script_worlds.ScriptWorld.ask_each.Given as goal

abbrev pub invariant-loop-command : goal.invariant-loop-command
invariant-loop-command l = after_commands (reads l.fn.self) l.site l.who (take l.command-index l.commands) ≡ says (reads l.self) (string_bytes l.text)
