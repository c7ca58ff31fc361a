use Rattle.std.proofs.Common.{◌≡◌, ◌-◌, true, leb, drop, suc, ◌∙◌, arith, add-one, slice_index_or, []}
use Rattle.std.proofs.lemmas.Grind.{common_steps}
use Rattle.fed_easy.proofs.Levels.{after_earlier}
use Rattle.fed_easy.proofs.Shadow.{search_from, search_stops, search_goes, search_moves, least_found, rest_after}
use Rattle.fed_easy.proofs.profiles.Profile.shadow.Goals as goal
use Rattle.fed_easy.proofs.profiles.Profile.shadow.Goals.{then-not-has_room, else-not-has_room+else-limit-step}

pub returns-then-limit-step : goal.returns-then-limit-step
returns-then-limit-step c =
    let p = c.args.self.now in
    let items = c.deref-step-items.result.now in
    let most = p.capacity - c.args.nodes in
    let stops : search_from most c.args.limit c.loop-step.candidate c.loop-step.has_room (drop c.loop-step.step-index items) ≡ c.loop-step.candidate =
    rw c.if-not-has_room.false (search_stops most c.args.limit items c.loop-step.step-index c.loop-step.candidate c.loop-step-test.true c.if-limit-step.true) in
    least_found p c.args.nodes c.args.limit c.loop-step.candidate c.requires.profile c.requires.narrow c.requires.long (c.loop-step.invariant.same ∙ stops)

pub loop-step-preserved : goal.loop-step-preserved
loop-step-preserved c =
    let items = c.deref-step-items.result.now in
    let most = c.args.self.now.capacity - c.args.nodes in
    let rest = rest_after items c.loop-step.step-index c.loop-step.candidate c.loop-step-test.true c.loop-step.invariant.after in
    elim c.if-not-has_room.branch [
      | then-not-has_room w ↦ record {
        same = rw (w.candidate-is, add-one) (c.loop-step.invariant.same ∙ rw w.if-not-has_room.true (search_moves most c.args.limit items c.loop-step.step-index c.loop-step.candidate c.loop-step-test.true));
        after = rw (w.candidate-is, add-one) rest.1;
      }
      | else-not-has_room+else-limit-step w ↦
          let open_still : c.loop-step.has_room ≡ true = w.if-not-has_room.false in
          record {
            same = rw (w.candidate-is, add-one) (c.loop-step.invariant.same ∙ rw open_still (search_goes most c.args.limit items c.loop-step.step-index c.loop-step.candidate c.loop-step-test.true w.if-limit-step.false));
            after = rw (w.candidate-is, add-one) (after_earlier (slice_index_or items c.loop-step.step-index (record { from = 0; nodes = 0 })).from c.loop-step.candidate (drop (suc c.loop-step.step-index) items) (omega (arith, rest.0)) rest.1);
          }
    ]

pub returns : goal.returns
returns c =
    let p = c.args.self.now in
    let items = c.deref-step-items.result.now in
    let most = p.capacity - c.args.nodes in
    let rest : drop c.loop-step.step-index items ≡ [] = grind (arith, common_steps) in
    let same : search_from most c.args.limit p.start (leb p.nodes most) p.steps.items ≡ search_from most c.args.limit c.loop-step.candidate c.loop-step.has_room [] = rw rest at c.loop-step.invariant.same in
    least_found p c.args.nodes c.args.limit c.loop-step.candidate c.requires.profile c.requires.narrow c.requires.long same
