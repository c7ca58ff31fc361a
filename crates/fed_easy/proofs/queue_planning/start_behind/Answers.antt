use Rattle.std.proofs.Common.{◌≡◌, ℕ, ◌^◌, List, ◌∷◌, [], refl, sym, ◌∙◌, arith, add-one, append_assoc}
use Rattle.fed_easy.specs.declared.queues.QueuedJob.{QueuedJob}
use Rattle.fed_easy.specs.Use.{fits, with_job}
use Rattle.fed_easy.specs.Profile.{TellsUntil}
use Rattle.fed_easy.proofs.Fits.{told_test, told_job}
use Rattle.fed_easy.proofs.Fronts.{backfill_starts, backfill_passes}
use Rattle.fed_easy.proofs.queue_planning.start_behind.Goals as goal
use Rattle.fed_easy.proofs.queue_planning.start_behind.Goals.{then-fits+in_ok-add+in_ok-push, else-fits}

pub loop-i-init : goal.loop-i-init
loop-i-init c = record {
  profile = c.requires.profile;
  start = refl;
  capacity = refl;
  end = refl;
  so_far = λ used tells. (used, (tells, refl));
}

-- whether the next job fits, by the definition
test_here : (c : goal.Joined-fits) (now : ℕ → ℕ) → TellsUntil c.loop-i.profile (2 ^ 62) now
    → c.fits.result ≡ fits c.args.profile.now.capacity now c.index-queue-i.result c.args.profile.now.start
test_here c now tells =
    told_test c.loop-i.profile (2 ^ 62) now c.index-queue-i.result c.fits.result
    c.args.profile.now.capacity c.args.profile.now.start c.get-nodes.result c.get-limit.result c.loop-i.invariant.capacity c.loop-i.invariant.start c.get-nodes.ensures.same c.get-limit.ensures.same
    tells (omega (arith, c.requires.soon, c.get-limit.ensures.at_most)) c.fits.ensures

pub loop-i-preserved : goal.loop-i-preserved
loop-i-preserved c =
    let queue : List QueuedJob = c.args.queue.now in
    let x : QueuedJob = c.index-queue-i.result in
    let capacity : ℕ = c.args.profile.now.capacity in
    let start : ℕ = c.args.profile.now.start in
    elim c.if-fits.branch [
      | then-fits+in_ok-add+in_ok-push w ↦
          let e = w.in_ok-add.ensures in
          rw (w.profile-is, w.starts-is) (record {
            profile = e.profile;
            start = e.start ∙ c.loop-i.invariant.start;
            capacity = e.capacity ∙ c.loop-i.invariant.capacity;
            end = refl;
            so_far = λ used tells.
                let before = c.loop-i.invariant.so_far used tells in
                let starts = backfill_starts capacity start queue c.loop-i.i x c.loop-i-test.true c.index-queue-i.is before.0 (sym (test_here c before.0 before.1.0) ∙ w.if-fits.true) in (
                  with_job start x before.0,
                  (
                    λ u from until. told_job c.loop-i.profile w.add.new.self before.0 x start c.get-nodes.result c.get-limit.result u c.get-nodes.ensures.same c.get-limit.ensures.same
                        (before.1.0 u (omega (arith, from, e.start)) until) e.capacity (e.nodes u (omega (arith, from, e.start))),
                    before.1.1 ∙ rw (starts, add-one, w.in_ok-push.ensures.items) (sym (append_assoc c.loop-i.starts.items (x.id ∷ []) _)),
                  ),
                );
          })
      | else-fits w ↦
          rw (w.profile-is, w.starts-is) (record {
            profile = c.loop-i.invariant.profile;
            start = c.loop-i.invariant.start;
            capacity = c.loop-i.invariant.capacity;
            end = refl;
            so_far = λ used tells.
                let before = c.loop-i.invariant.so_far used tells in
                let passes = backfill_passes capacity start queue c.loop-i.i x c.loop-i-test.true c.index-queue-i.is before.0 (sym (test_here c before.0 before.1.0) ∙ w.if-fits.false) in
                (before.0, (before.1.0, before.1.1 ∙ rw (passes, add-one) refl));
          })
    ]
