use Rattle.std.proofs.Common.{◌≡◌, true, sym, arith}
use Rattle.fed_stamp.specs.Version.{is_below}
use Rattle.fed_stamp.proofs.VersionLaws.{below_from_places}
use Rattle.fed_stamp.proofs.versions.Version.first_above.Goals as goal

pub returns-clause-above : goal.returns-clause-above
returns-clause-above c =
    let e : true ≡ is_below c.args.self.now c.args.other.now = rw (← c.self.view_is, ← c.other.view_is) (below_from_places 16 _ _ c.self.invariant.0 c.other.invariant.0 (λ k h. c.loop-i.invariant k (omega arith))) in
    sym e
