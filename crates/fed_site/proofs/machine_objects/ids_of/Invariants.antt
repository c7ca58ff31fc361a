use Rattle.std.proofs.Common.{◌≡◌, ◌++◌, map}
use Rattle.fed_site.proofs.machine_objects.ids_of.Given as goal

abbrev pub invariant-loop-run : goal.invariant-loop-run
invariant-loop-run l = l.ids.items ++ map (λ run. run.id) l.run-iterator ≡ map (λ run. run.id) l.runs.keys
