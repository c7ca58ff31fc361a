use Rattle.fed_turns.proofs.Begins.{one_begin}
use Rattle.fed_turns.proofs.laws.no_job_begins_at_two_sites.Goals as goal

pub returns : goal.returns
returns c whole rosters turns i j job one other lawful may e f = one_begin whole lawful.at_most rosters turns may job i j one other e f
