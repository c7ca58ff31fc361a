use Rattle.std.proofs.Common.{◌≡◌, ◌⊎◌, ◌<◌, List, [], drop, length, arith, ◌∙◌, ap, inl, inr, slice_index_or}
use Rattle.std.proofs.lemmas.Grind.{common_steps}
use Rattle.fed_easy.specs.declared.profiles.Step.{Step}
use Rattle.fed_easy.specs.Profile.{level_at}
use Rattle.fed_easy.proofs.Split.{split_at, split_same, split_after, split_is_step, split_kept, inserted}
use Rattle.fed_easy.proofs.profiles.split.Goals as goal
use Rattle.fed_easy.proofs.profiles.split.Goals.{else-loop-step-test, then-loop-step-test+else-step-second+then-second-step}

-- what is left is a list with the step put in
split_items : (c : goal.In_ok-insert) → c.insert.new.self.items ≡ split_at c.args.second c.args.nodes c.args.steps.now.items
split_items c =
    let ss : List Step = c.args.steps.now.items in
    let late : (drop c.loop-step.step-index ss ≡ []) ⊎ ((c.loop-step.step-index < length ss) × (c.args.second < (slice_index_or ss c.loop-step.step-index (record { from = 0; nodes = 0 })).from)) =
    elim c.loop-step-test.branch [
      | else-loop-step-test w ↦ inl (grind (arith, common_steps))
      | then-loop-step-test+else-step-second+then-second-step w ↦ inr (rw c.deref-step-items.ensures.value at w.loop-step-test.true, rw c.deref-step-items.ensures.value at w.if-second-step.true)
    ] in
    let put = inserted c.args.second ss c.args.nodes c.loop-step.level c.loop-step.step-index (rw c.deref-step-items.ensures.value at c.loop-step.invariant.same) late in
    c.in_ok-insert.ensures.items ∙ rw c.loop-step.invariant.count put

pub returns-clause-same : goal.returns-clause-same
returns-clause-same c = λ u. ap (λ (ss : List Step). level_at c.args.nodes ss u) (split_items c) ∙ split_same c.args.second c.args.nodes c.args.steps.now.items u

pub returns-clause-after : goal.returns-clause-after
returns-clause-after c = λ t lt after. rw (split_items c) (split_after c.args.second c.args.nodes t c.args.steps.now.items lt after)

pub returns-clause-step : goal.returns-clause-step
returns-clause-step c = rw (split_items c) (split_is_step c.args.second c.args.nodes c.args.steps.now.items)

pub returns-clause-kept : goal.returns-clause-kept
returns-clause-kept c = λ t e. rw (split_items c) (split_kept c.args.second c.args.nodes t c.args.steps.now.items e)
