use Rattle.std.proofs.Common.{ap, ◌∙◌}
use Rattle.serde_json.specs.Written.{has_float}
use Rattle.fed_replica.specs.State.{state_of}
use Rattle.fed_site.proofs.LookValues.{seen_plain}
use Rattle.fed_site.proofs.seen.seen_json.Goals as goal

pub json_line-requires : goal.json_line-requires
json_line-requires c = ap has_float c.in_ok-value.ensures ∙ seen_plain c.args.roster.now (state_of c.args.replica.now)
