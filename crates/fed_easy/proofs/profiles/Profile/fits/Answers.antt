use Rattle.std.proofs.Common.{◌≡◌, ◌+◌, ◌-◌, true, false, drop, sym, ◌∙◌, arith}
use Rattle.std.proofs.lemmas.Bool.{and_from, and_left, and_right, le-leb, lt-leb}
use Rattle.std.proofs.lemmas.Grind.{common_steps}
use Rattle.fed_easy.proofs.Room.{has_room_in, room_of, room_stops, room_blocks}
use Rattle.fed_easy.proofs.profiles.Profile.fits.Goals as goal

pub returns-then-most-self : goal.returns-then-most-self
returns-then-most-self c =
    let p = c.args.self.now in
    room_of p c.args.nodes c.args.limit false c.requires.profile c.requires.narrow c.requires.long
    (sym (and_left _ (has_room_in (p.capacity - c.args.nodes) (p.start + c.args.limit) p.steps.items) (lt-leb p.nodes (p.capacity - c.args.nodes) c.if-most-self.true)))

pub returns-then-until-step : goal.returns-then-until-step
returns-then-until-step c =
    let p = c.args.self.now in
    let items = c.deref-step-items.result.now in
    let stops = room_stops (p.capacity - c.args.nodes) (p.start + c.args.limit) items c.loop-step.step-index c.loop-step-test.true c.if-until-step.true in
    room_of p c.args.nodes c.args.limit true c.requires.profile c.requires.narrow c.requires.long
    (sym (and_from _ _ (le-leb p.nodes (p.capacity - c.args.nodes) c.if-most-self.false) (c.loop-step.invariant ∙ stops)))

pub returns-then-most-step : goal.returns-then-most-step
returns-then-most-step c =
    let p = c.args.self.now in
    let items = c.deref-step-items.result.now in
    let blocks = room_blocks (p.capacity - c.args.nodes) (p.start + c.args.limit) items c.loop-step.step-index c.loop-step-test.true c.if-until-step.false c.if-most-step.true in
    room_of p c.args.nodes c.args.limit false c.requires.profile c.requires.narrow c.requires.long
    (sym (and_right _ (has_room_in (p.capacity - c.args.nodes) (p.start + c.args.limit) p.steps.items) (c.loop-step.invariant ∙ blocks)))

pub returns : goal.returns
returns c =
    let p = c.args.self.now in
    let items = c.deref-step-items.result.now in
    let rest : has_room_in (p.capacity - c.args.nodes) (p.start + c.args.limit) (drop c.loop-step.step-index items) ≡ true = grind (arith, common_steps) in
    room_of p c.args.nodes c.args.limit true c.requires.profile c.requires.narrow c.requires.long
    (sym (and_from _ _ (le-leb p.nodes (p.capacity - c.args.nodes) c.if-most-self.false) (c.loop-step.invariant ∙ rest)))
