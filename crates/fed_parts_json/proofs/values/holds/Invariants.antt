use Rattle.std.proofs.Common.{◌≡◌, map, ◌++◌}
use Rattle.serde_json.specs.View.{view}
use Rattle.fed_json.specs.Values.{pair_value}
use Rattle.fed_job_json.specs.Stamps.{stamp_value}
use Rattle.fed_job_json.specs.Pairs.{kind_value}
use Rattle.fed_parts_json.proofs.values.holds.Given as goal

abbrev pub invariant-loop-kind : goal.invariant-loop-kind
invariant-loop-kind l = map view l.values.items ++ map (pair_value kind_value stamp_value) l.kind-iterator ≡ map (pair_value kind_value stamp_value) l.job.holds
