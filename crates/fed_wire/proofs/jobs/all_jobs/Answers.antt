use Rattle.std.specs.Map.{keys_of}
use Rattle.std.specs.Ordering.{nat_cmp}
use Rattle.std.proofs.Common.{sym, ap, ◌∙◌}
use Rattle.serde_json.specs.View.{view}
use Rattle.fed_model.specs.declared.capacities.TheConstants.{MAX_JOBS}
use Rattle.fed_stamp.specs.Version.{is_below}
use Rattle.fed_tags.specs.Tags.{pair_cmp}
use Rattle.fed_model.specs.Hold.{kind_cmp}
use Rattle.fed_job_json.specs.Job.{Job, job_of}
use Rattle.fed_job_json.proofs.JobLaws.{job_form}
use Rattle.fed_job_json.proofs.PairLaws.{sorted_where_ascending}
use Rattle.fed_wire.specs.declared.faults.Part.TheVariants.{Jobs}
use Rattle.fed_wire.proofs.ReadLoops.{crowded, unfit, more}
use Rattle.fed_wire.proofs.jobs.all_jobs.Goals.{then-not-admit-via-then-not-admit, then-not-admit-via-else-not-admit+then-not-le}
use Rattle.fed_wire.proofs.jobs.all_jobs.Goals as goal

pub returns-then-not-admit : goal.returns-then-not-admit
returns-then-not-admit c n =
    let fits = λ (j : Job). is_below j.1.touched c.args.reached.now in
    elim c.then-not-admit.branch [
      | then-not-admit-via-then-not-admit w ↦
          crowded Jobs (job_of c.args.format) MAX_JOBS fits c.args.values.now c.loop-index.index c.loop-index.jobs c.index-values-index.result _ c.loop-index-test.true c.index-values-index.is c.loop-index.invariant.read c.loop-index.invariant.many
          c.in-Ok.job (sym c.in-Ok.is ∙ c.in_ok-job.ensures) (sym (c.admit.ensures.admitted (keys_of c.loop-index.jobs) c.loop-index.invariant.ids) ∙ w.if-not-admit.true)
      | then-not-admit-via-else-not-admit+then-not-le w ↦
          unfit Jobs (job_of c.args.format) MAX_JOBS fits c.args.values.now c.loop-index.index c.loop-index.jobs c.index-values-index.result _ c.loop-index-test.true c.index-values-index.is c.loop-index.invariant.read c.loop-index.invariant.many
          c.in-Ok.job (sym c.in-Ok.is ∙ c.in_ok-job.ensures) (sym (c.admit.ensures.admitted (keys_of c.loop-index.jobs) c.loop-index.invariant.ids) ∙ w.if-not-admit.false)
          (ap (λ t. is_below t c.args.reached.now) (sym w.touched.ensures) ∙ sym w.le.ensures ∙ w.if-not-le.true)
    ]

pub insert-requires : goal.insert-requires
insert-requires c =
    let t = (job_form c.args.format).takes (view c.index-values-index.result) c.in-Ok.job (sym c.in_ok-job.ensures ∙ c.in-Ok.is) in
    ((tt, tt, tt, tt, tt, tt), (tt, tt, tt, tt), sorted_where_ascending (pair_cmp kind_cmp) c.in-Ok.job.1.holds t.1.holds.1, sorted_where_ascending (pair_cmp nat_cmp) c.in-Ok.job.1.sites t.1.sites.1)

pub loop-index-preserved : goal.loop-index-preserved
loop-index-preserved c =
    let fits = λ (j : Job). is_below j.1.touched c.args.reached.now in
    let t = more Jobs (job_of c.args.format) MAX_JOBS fits c.args.values.now c.loop-index.index c.loop-index.jobs c.index-values-index.result _ c.loop-index-test.true c.index-values-index.is c.loop-index.invariant.read c.loop-index.invariant.many
    c.in-Ok.job (sym c.in-Ok.is ∙ c.in_ok-job.ensures) c.admit.new.self c.insert.new.self (sym (c.admit.ensures.admitted (keys_of c.loop-index.jobs) c.loop-index.invariant.ids) ∙ c.if-not-admit.false)
    (ap (λ t. is_below t c.args.reached.now) (sym c.touched.ensures) ∙ sym c.le.ensures ∙ c.if-not-le.false)
    (c.admit.ensures.kept c.if-not-admit.false (keys_of c.loop-index.jobs) c.loop-index.invariant.ids) c.in_ok-insert-in-Ok.ensures.inserted in
    record { many = t.many; ids = t.ids; read = t.read }
