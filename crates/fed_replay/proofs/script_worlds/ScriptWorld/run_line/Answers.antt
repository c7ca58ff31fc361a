use Rattle.fed_script.specs.LineView.{said_by}
use Rattle.fed_replay.proofs.ScriptWorlds.{named_sites}
use Rattle.fed_replay.proofs.script_worlds.ScriptWorld.run_line.Goals as goal

pub do_read-requires : goal.do_read-requires
do_read-requires c = named_sites said_by c.in_ok-read.read _ c.roster.result.now c.args.self.now.roster c.in_ok-read.ensures c.roster.ensures.same
    (c.lines_name_sites_of_the_roster.ensures c.roster.result.now c.made.result c.args.bytes.now)
