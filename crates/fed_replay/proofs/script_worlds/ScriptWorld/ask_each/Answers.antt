use Rattle.std.proofs.Common.{◌≡◌, ◌++◌, string_bytes, ap, ◌∙◌}
use Rattle.std.specs.Cow.{cow_str_bytes}
use Rattle.fed_replay.specs.ScriptWorld.{reads}
use Rattle.fed_replay.proofs.ScriptWorlds.{one_done}
use Rattle.fed_replay.proofs.script_worlds.ScriptWorld.ask_each.Goals as goal

pub loop-command-preserved : goal.loop-command-preserved
loop-command-preserved c =
    let text : string_bytes c.push_str.new.self ≡ string_bytes c.loop-command.text ++ cow_str_bytes c.in_ok-answer.answer =
    c.in_ok-push_str.ensures.bytes ∙ ap (λ b. string_bytes c.loop-command.text ++ b) c.as_str.ensures.value in
    rw text (one_done (reads c.args.self.now) c.args.site c.args.who.now c.args.commands.now c.loop-command.command-index c.command-item.result (reads c.loop-command.self) (reads c.ask.new.self)
    (string_bytes c.loop-command.text) (cow_str_bytes c.in_ok-answer.answer) c.loop-command-test.true c.command-item.is c.loop-command.invariant c.in_ok-answer.ensures)
