use Rattle.std.proofs.Common.{refl, sym, ◌∙◌}
use Rattle.std.proofs.lemmas.Bool.{true≢false}
use Rattle.std.proofs.lemmas.Map.Iter.{rest_more}
use Rattle.std.specs.Map.Iter.{deref_pair}
use Rattle.fed_lattice.specs.ExactLaws.{exact_stamp}
use Rattle.fed_lattice.specs.Latest.{stamp_cmp}
use Rattle.fed_lattice.specs.LatestLaws.{stamp_total}
use Rattle.fed_board.specs.Board.{IsKnownJob}
use Rattle.fed_delta.proofs.PartLaws.{at_each, each_at, left_more, left_none, left_not}
use Rattle.fed_delta.proofs.parts.are_known_jobs.Goals as goal

pub returns-then-not-is_known_job : goal.returns-then-not-is_known_job
returns-then-not-is_known_job c =
    let first = rest_more deref_pair _ _ _ _ c.in-Some.is c.next.ensures.steps in (
      λ e. cc,
      λ all. absurd (true≢false (sym (c.is_known_job.ensures.1
          (left_not (IsKnownJob c.args.version.now) c.args.jobs.now _ _ _ _ c.loop-id.invariant first (each_at (IsKnownJob c.args.version.now) stamp_cmp stamp_total exact_stamp c.args.jobs.now c.iter-id-items.ensures.well_formed.0 all)))
          ∙ c.if-not-is_known_job.true)),
    )

pub loop-id-preserved : goal.loop-id-preserved
loop-id-preserved c =
    let first = rest_more deref_pair _ _ _ _ c.in-Some.is c.next.ensures.steps in
    left_more (IsKnownJob c.args.version.now) c.args.jobs.now _ _ _ _ c.loop-id.invariant first (c.is_known_job.ensures.0 c.if-not-is_known_job.false)

pub returns : goal.returns
returns c = (
  λ e. at_each (IsKnownJob c.args.version.now) stamp_cmp stamp_total exact_stamp c.args.jobs.now (left_none (IsKnownJob c.args.version.now) c.args.jobs.now _ c.loop-id.invariant c.in-None.ensures.steps.0),
  λ all. refl,
)
