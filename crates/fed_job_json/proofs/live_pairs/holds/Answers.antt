use Rattle.std.proofs.Common.{◌≡◌, map, true, sym, ap, ◌∙◌}
use Rattle.serde_json.specs.View.{view}
use Rattle.fed_lattice.specs.Results.{mapped}
use Rattle.fed_model.specs.Hold.{kind_cmp}
use Rattle.fed_job_json.specs.Pairs.{kind_of}
use Rattle.fed_job_json.proofs.JobReads.{pairs_then, pairs_else}
use Rattle.fed_job_json.proofs.live_pairs.holds.Goals as goal

pub returns-then-is_ascending : goal.returns-then-is_ascending
returns-then-is_ascending c =
    pairs_then kind_of kind_cmp (view c.args.value.now) (map view c.in-Ok.values.now) c.in-Ok-2.holds.items c.in-Ok.ensures (sym (ap (mapped (λ v. v.items)) c.in-Ok-2.is) ∙ c.in_ok-holds.ensures) (rw c.deref.ensures.value at (c.is_ascending.ensures.0 c.if-is_ascending.true))

pub returns-else-is_ascending : goal.returns-else-is_ascending
returns-else-is_ascending c =
    pairs_else kind_of kind_cmp (view c.args.value.now) (map view c.in-Ok.values.now) c.in-Ok-2.holds.items c.in-Ok.ensures (sym (ap (mapped (λ v. v.items)) c.in-Ok-2.is) ∙ c.in_ok-holds.ensures)
    (λ h. let t : c.is_ascending.result ≡ true = c.is_ascending.ensures.1 (rw c.deref.ensures.value h) in absurd cc)
