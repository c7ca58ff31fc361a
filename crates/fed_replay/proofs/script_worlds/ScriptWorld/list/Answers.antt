use Rattle.std.proofs.Common.{◌≡◌, string_bytes}
use Rattle.std.proofs.lemmas.Result.{IfOk-weaker}
use Rattle.fed_board.specs.Board.{board_reads}
use Rattle.fed_qstat.specs.Listed.{listed}
use Rattle.fed_replay.specs.ScriptWorld.{reads}
use Rattle.fed_replay.specs.Script.{view_at}
use Rattle.fed_replay.proofs.ScriptWorlds.{listed_at}
use Rattle.fed_replay.proofs.script_worlds.ScriptWorld.list.Goals as goal

pub returns : goal.returns
returns c = IfOk-weaker c.listing_text.result
    (λ text. string_bytes text ≡ listed c.args.is_full c.roster.result.now (board_reads c.board.result.now) c.args.jobs.now)
    (λ text. string_bytes text ≡ listed c.args.is_full c.args.self.now.roster (view_at (reads c.args.self.now) c.args.site) c.args.jobs.now)
    (λ text e. listed_at (string_bytes text) c.args.is_full c.roster.result.now c.args.self.now.roster (board_reads c.board.result.now) (view_at (reads c.args.self.now) c.args.site) c.args.jobs.now e c.roster.ensures.same c.board.ensures.stands)
    c.listing_text.ensures
