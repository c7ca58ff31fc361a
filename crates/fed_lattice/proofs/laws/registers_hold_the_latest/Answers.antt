use Rattle.std.proofs.Common.{sym, subst}
use Rattle.fed_lattice.specs.Latest.{latest}
use Rattle.fed_lattice.specs.Register.{register_stands_for}
use Rattle.fed_lattice.specs.LatestLaws.{latest_stands, latest_from_stands}
use Rattle.fed_lattice.proofs.laws.registers_hold_the_latest.Goals as goal

pub returns : goal.returns
returns g c = λ x h one. (
  λ p. latest_from_stands x (latest h) h one p (latest_stands h),
  λ e. subst (λ y. register_stands_for y h) (sym e) (latest_stands h),
)
