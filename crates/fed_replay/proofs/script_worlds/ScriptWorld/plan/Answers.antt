use Rattle.std.specs.Cow.{cow_str_bytes}
use Rattle.std.proofs.Common.{◌≡◌, ◌<◌}
use Rattle.std.proofs.lemmas.Result.{IfOk-weaker}
use Rattle.fed_board.specs.Board.{board_reads}
use Rattle.fed_machine.specs.Planned.{planned, text_of_plan}
use Rattle.fed_replay.specs.ScriptWorld.{reads}
use Rattle.fed_replay.specs.Script.{view_at}
use Rattle.fed_replay.proofs.Machines.{planned_at}
use Rattle.fed_replay.proofs.script_worlds.ScriptWorld.plan.Goals as goal

pub returns : goal.returns
returns c = IfOk-weaker c.plan_line.result
    (λ text. cow_str_bytes text ≡ text_of_plan c.roster.result.now (board_reads c.board.result.now) c.args.site c.args.moment)
    (λ text. cow_str_bytes text ≡ planned c.args.self.now.roster (view_at (reads c.args.self.now) c.args.site) c.args.site c.args.moment)
    (λ text. planned_at c.roster.result.now c.args.self.now.roster (board_reads c.board.result.now) ((reads c.args.self.now).world.site c.args.site).set c.args.site c.args.moment
    c.roster.ensures.lawful c.requires c.roster.ensures.same c.board.ensures.stands c.board.ensures.within (cow_str_bytes text))
    c.plan_line.ensures
