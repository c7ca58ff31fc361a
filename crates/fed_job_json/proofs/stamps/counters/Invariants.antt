use Rattle.std.proofs.Common.{◌≡◌, map, length, take, drop}
use Rattle.serde_json.specs.View.{view}
use Rattle.fed_json.specs.Numbers.{natural_in}
use Rattle.fed_json.specs.Values.{all_of}
use Rattle.fed_json.proofs.ListLaws.{after}
use Rattle.fed_stamp.specs.declared.stamps.TheConstants.{MAX_COUNTER}
use Rattle.fed_job_json.proofs.stamps.counters.Given as goal

abbrev pub invariant-loop-site : goal.invariant-loop-site
invariant-loop-site l = record {
  sites : length l.counters ≡ 16;
  read : after l.in_range (take l.site l.counters) (all_of (natural_in 0 MAX_COUNTER) (map view (drop l.site l.values))) ≡ all_of (natural_in 0 MAX_COUNTER) (map view l.values);
}
