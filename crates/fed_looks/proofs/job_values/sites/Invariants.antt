use Rattle.std.proofs.Common.{◌≡◌, map}
use Rattle.std.specs.Prelude.{filter}
use Rattle.std.specs.List.{range_with_len}
use Rattle.serde_json.specs.View.{view}
use Rattle.fed_record.specs.JobRecord.{job_reads}
use Rattle.fed_model.specs.Letter.{has_site}
use Rattle.fed_looks.specs.JobObject.{site_data}
use Rattle.fed_looks.proofs.job_values.sites.Given as goal

abbrev pub invariant-loop-number : goal.invariant-loop-number
invariant-loop-number l = map view l.values.items ≡ map (site_data l.roster) (filter (has_site (job_reads l.job)) (range_with_len 0 l.number))
