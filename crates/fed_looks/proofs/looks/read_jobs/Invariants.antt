use Rattle.std.proofs.Common.{◌≡◌, map, take, Some}
use Rattle.fed_script.specs.Values.{identifier}
use Rattle.fed_looks.specs.Look.{each}
use Rattle.fed_looks.proofs.looks.read_jobs.Given as goal

abbrev pub invariant-loop-word : goal.invariant-loop-word
invariant-loop-word l = each (identifier l.roster l.here) (map (λ word. word.now) (take l.word-index l.words)) ≡ Some l.jobs.items
