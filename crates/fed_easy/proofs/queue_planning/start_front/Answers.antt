use Rattle.std.proofs.Common.{◌≡◌, ℕ, ◌+◌, List, ◌∷◌, [], true, take, refl, sym, ◌∙◌, arith, add-one, append_assoc}
use Rattle.fed_easy.specs.declared.queues.QueuedJob.{QueuedJob}
use Rattle.fed_easy.specs.Use.{fits, with_jobs}
use Rattle.fed_easy.specs.Plan.{ids}
use Rattle.fed_easy.specs.Profile.{Tells}
use Rattle.fed_easy.proofs.Fits.{told_test, told_job}
use Rattle.fed_easy.proofs.Fronts.{with_jobs_push, ids_push, taken_more, front_more, front_stops, behind_more, behind_stops}
use Rattle.fed_easy.proofs.queue_planning.start_front.Goals as goal

-- whether the next job fits, by the definition
test_here : (c : goal.Then-not-fits) (used : ℕ → ℕ) → Tells c.args.profile.now used
    → c.fits.result ≡ fits c.args.profile.now.capacity (with_jobs c.args.profile.now.start (take c.loop-i.i c.args.queue.now) used) c.index-queue-i.result c.args.profile.now.start
test_here c used tells =
    told_test c.loop-i.profile (c.args.profile.now.start + c.get-limit.result) (with_jobs c.args.profile.now.start (take c.loop-i.i c.args.queue.now) used) c.index-queue-i.result c.fits.result
    c.args.profile.now.capacity c.args.profile.now.start c.get-nodes.result c.get-limit.result c.loop-i.invariant.capacity c.loop-i.invariant.start c.get-nodes.ensures.same c.get-limit.ensures.same
    (λ u from before. c.loop-i.invariant.tells used tells u from) (omega arith) c.fits.ensures

pub returns-then-not-fits-clause-front : goal.returns-then-not-fits-clause-front
returns-then-not-fits-clause-front c = λ used tells.
    front_stops c.args.profile.now.capacity c.args.profile.now.start c.args.queue.now c.loop-i.i c.index-queue-i.result c.loop-i-test.true c.index-queue-i.is used
    (sym (test_here c used tells) ∙ c.if-not-fits.true) (c.loop-i.invariant.front used tells)

pub returns-then-not-fits-clause-behind : goal.returns-then-not-fits-clause-behind
returns-then-not-fits-clause-behind c = λ used tells.
    behind_stops c.args.profile.now.capacity c.args.profile.now.start c.args.queue.now c.loop-i.i c.index-queue-i.result c.loop-i-test.true c.index-queue-i.is used
    (sym (test_here c used tells) ∙ c.if-not-fits.true) (c.loop-i.invariant.behind used tells)

test_now : (c : goal.In_ok-push) (used : ℕ → ℕ) → Tells c.args.profile.now used
    → fits c.args.profile.now.capacity (with_jobs c.args.profile.now.start (take c.loop-i.i c.args.queue.now) used) c.index-queue-i.result c.args.profile.now.start ≡ true
test_now c used tells =
    sym (told_test c.loop-i.profile (c.args.profile.now.start + c.get-limit.result) (with_jobs c.args.profile.now.start (take c.loop-i.i c.args.queue.now) used) c.index-queue-i.result c.fits.result
    c.args.profile.now.capacity c.args.profile.now.start c.get-nodes.result c.get-limit.result c.loop-i.invariant.capacity c.loop-i.invariant.start c.get-nodes.ensures.same c.get-limit.ensures.same
    (λ u from before. c.loop-i.invariant.tells used tells u from) (omega arith) c.fits.ensures) ∙ c.if-not-fits.false

pub loop-i-preserved : goal.loop-i-preserved
loop-i-preserved c =
    let queue : List QueuedJob = c.args.queue.now in
    let x : QueuedJob = c.index-queue-i.result in
    let more = taken_more c.args.profile.now.capacity c.args.profile.now.start queue c.loop-i.i x c.loop-i-test.true c.index-queue-i.is in
    let e = c.in_ok-add.ensures in
    record {
      profile = e.profile;
      start = e.start ∙ c.loop-i.invariant.start;
      capacity = e.capacity ∙ c.loop-i.invariant.capacity;
      end = refl;
      starts = rw add-one (c.in_ok-push.ensures.items ∙ rw c.loop-i.invariant.starts (append_assoc c.args.starts.now.items (ids (take c.loop-i.i queue)) (x.id ∷ []) ∙ rw (more, ids_push) refl));
      front = λ used tells. rw add-one (front_more c.args.profile.now.capacity c.args.profile.now.start queue c.loop-i.i x c.loop-i-test.true c.index-queue-i.is used (test_now c used tells) (c.loop-i.invariant.front used tells));
      behind = λ used tells. rw add-one (behind_more c.args.profile.now.capacity c.args.profile.now.start queue c.loop-i.i x c.loop-i-test.true c.index-queue-i.is used (test_now c used tells) (c.loop-i.invariant.behind used tells));
      tells = λ used tells u from.
          let here = told_job c.loop-i.profile c.add.new.self (with_jobs c.args.profile.now.start (take c.loop-i.i queue) used) x c.args.profile.now.start c.get-nodes.result c.get-limit.result u c.get-nodes.ensures.same c.get-limit.ensures.same
          (c.loop-i.invariant.tells used tells u (omega (arith, from, e.start))) e.capacity (e.nodes u (omega (arith, from, e.start))) in
          rw (add-one, more, with_jobs_push) here;
    }
