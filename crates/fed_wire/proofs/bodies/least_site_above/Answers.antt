use Rattle.std.specs.Prelude.{MatchOption, IsTrue}
use Rattle.std.proofs.Common.{◌≡◌, ℕ, List, Option, Some, None, sym, ap, ◌∙◌, arith}
use Rattle.fed_stamp.specs.Version.{is_below, IsFirstAbove}
use Rattle.fed_wire.specs.Reading.{least_above}
use Rattle.fed_wire.proofs.BodyLaws.{above_some}
use Rattle.fed_wire.proofs.PacketLaws.{above_none}
use Rattle.fed_wire.proofs.bodies.least_site_above.Goals as goal

least : (v w : List ℕ) (o : Option ℕ) → MatchOption o (IsTrue (is_below v w)) (λ site. IsFirstAbove v w site) → o ≡ least_above 0 v w
least v w None h = sym (above_none 0 v w h)
least v w (Some site) h = ap (λ n. Some n) (omega arith) ∙ sym (above_some 0 v w site h)

pub returns : goal.returns
returns c = least c.args.need.now c.args.reached.now c.first_above.result c.first_above.ensures.above
