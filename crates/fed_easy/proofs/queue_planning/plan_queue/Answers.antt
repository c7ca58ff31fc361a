use Rattle.std.proofs.Common.{◌≡◌, ℕ, suc, ◌+◌, ◌^◌, ◌≤◌, ◌<◌, List, take, drop, ◌∙◌, arith, rules, add-one, length}
use Rattle.fed_easy.specs.declared.queues.QueuedJob.{QueuedJob}
use Rattle.fed_easy.specs.Use.{with_job, with_jobs, IsShadow}
use Rattle.fed_easy.specs.Profile.{Tells, TellsUntil}
use Rattle.fed_easy.proofs.Fits.{told_shadow, told_job, not_yet}
use Rattle.std.proofs.lemmas.List.{take_rest}
use Rattle.fed_easy.proofs.Fronts.{rest_is, plan_with_head}
use Rattle.fed_easy.proofs.queue_planning.plan_queue.Goals as goal
use Rattle.fed_easy.proofs.queue_planning.plan_queue.Goals.{in-Some+in_ok-add, in_default}

-- the profile with the head's time
told_head : (c : goal.After-drop-profile-2) (used : ℕ → ℕ) → Tells c.start_front.new.profile used
    → TellsUntil c.match-checked_add.profile (2 ^ 62) (with_job c.shadow-shadow.result c.index-queue-count.result used)
told_head c used tells =
    elim c.match-checked_add.branch [
      | in-Some+in_ok-add w ↦
          let ends : w.in-Some.end ≡ c.shadow-shadow.result + c.get-limit.result = omega (arith, w.in-Some.ensures) in
          let e = w.in_ok-add.ensures in
          rw w.profile-is (λ u from before.
          told_job c.start_front.new.profile w.add.new.self used c.index-queue-count.result c.shadow-shadow.result c.get-nodes.result c.get-limit.result u c.get-nodes.ensures.same c.get-limit.ensures.same
          (tells u (omega (arith, from, e.start))) e.capacity (rw ends at (e.nodes u (omega (arith, from, e.start)))))
      | in_default w ↦
          rw w.profile-is (λ u from before.
          let late : u < c.shadow-shadow.result = omega (arith, w.in_default.ensures, c.get-limit.ensures.at_most, before) in
          rw (not_yet c.shadow-shadow.result (c.shadow-shadow.result + c.index-queue-count.result.limit) c.index-queue-count.result.nodes u used late) (tells u from))
    ]

same_start : (c : goal.After-drop-profile-2) → (c.match-checked_add.profile.start ≡ c.args.profile.start) × (c.match-checked_add.profile.capacity ≡ c.args.profile.capacity)
same_start c =
    let front = c.in_ok-count.ensures in
    elim c.match-checked_add.branch [
      | in-Some+in_ok-add w ↦ let e = w.in_ok-add.ensures in rw w.profile-is (e.start ∙ front.start, e.capacity ∙ front.capacity)
      | in_default w ↦ rw w.profile-is (front.start, front.capacity)
    ]

pub returns : goal.returns
returns c = λ used end tells idle.
    let e = c.in_ok-count.ensures in
    let queue : List QueuedJob = c.args.queue.now in
    let n : ℕ = c.in_ok-count.count in
    let h : QueuedJob = c.index-queue-count.result in
    let s : ℕ = c.shadow-shadow.result in
    let within : n < length queue = omega (arith, e.count, c.if-count-queue.false) in
    let started : ℕ → ℕ = with_jobs c.args.profile.start (take n queue) used in
    let told : Tells c.start_front.new.profile started = e.tells used tells in
    let least = told_shadow c.start_front.new.profile started c.get-nodes.result c.get-limit.result s told c.shadow-shadow.ensures in
    let shadow : IsShadow c.args.profile.capacity started c.args.profile.start h s = rw (e.start, e.capacity, c.get-nodes.ensures.same, c.get-limit.ensures.same) at least in
    let rest = c.in_ok-start_behind.ensures (with_job s h started) (told_head c started told) in
    let same = same_start c in
    let narrow : h.nodes ≤ c.args.profile.capacity = search (rules, arith) in
    plan_with_head c.args.profile.capacity c.args.profile.start end used queue (take n queue) (drop (suc n) queue) h s c.start_behind.new.starts.items idle
    narrow
    (e.front used tells) (e.behind used tells ∙ rest_is c.args.profile.capacity c.args.profile.start queue n h within c.index-queue-count.is) shadow
    (rw (same.0, same.1, add-one, take_rest queue (suc n), e.starts, c.new-starts.ensures.items) at rest)
