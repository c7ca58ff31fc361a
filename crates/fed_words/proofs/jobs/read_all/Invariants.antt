use Rattle.std.proofs.Common.{◌≡◌, List, drop, map}
use Rattle.fed_stamp.specs.Stamp.{StampValue}
use Rattle.fed_lattice.specs.Results.{each}
use Rattle.fed_words.specs.Identifier.{job_in}
use Rattle.fed_words.specs.Item.{words_of}
use Rattle.fed_words.specs.Request.{once}
use Rattle.fed_words.proofs.Each.{each_after}
use Rattle.fed_words.proofs.Onces.{key}
use Rattle.fed_words.proofs.jobs.read_all.Given as goal

abbrev pub invariant-loop-operand : goal.invariant-loop-operand
invariant-loop-operand l = (done : List StampValue) × (l.jobs.items ≡ once done) × (l.seen.keys ≡ map key (once done))
    × (each (job_in l.roster l.here) (words_of l.operands)
    ≡ each_after (job_in l.roster l.here) done (drop l.operand-index (words_of l.operands)))
