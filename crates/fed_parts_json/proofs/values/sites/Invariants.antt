use Rattle.std.proofs.Common.{◌≡◌, map, ◌++◌}
use Rattle.serde_json.specs.View.{view}
use Rattle.fed_json.specs.Numbers.{natural_value}
use Rattle.fed_json.specs.Values.{pair_value}
use Rattle.fed_job_json.specs.Stamps.{stamp_value}
use Rattle.fed_parts_json.proofs.values.sites.Given as goal

abbrev pub invariant-loop-number : goal.invariant-loop-number
invariant-loop-number l = map view l.values.items ++ map (pair_value natural_value stamp_value) l.number-iterator ≡ map (pair_value natural_value stamp_value) l.job.sites
