use Rattle.std.proofs.Common.{◌≡◌, map, drop}
use Rattle.serde_json.specs.View.{view}
use Rattle.fed_json.specs.Values.{all_of, pair_of}
use Rattle.fed_json.proofs.ListLaws.{after}
use Rattle.fed_job_json.specs.Stamps.{stamp_of, site_of}
use Rattle.fed_job_json.proofs.live_pairs.all_sites.Given as goal

abbrev pub invariant-loop-value : goal.invariant-loop-value
invariant-loop-value l = after l.in_range l.sites.items (all_of (pair_of site_of stamp_of) (map view (drop l.value-index l.values))) ≡ all_of (pair_of site_of stamp_of) (map view l.values)
