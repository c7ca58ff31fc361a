-- Kin sets of one version have the same operations.
use Rattle.std.proofs.Common.{◌≡◌, ◌≤◌, ℕ, List, true, subst}
use Rattle.fed_stamp.specs.Version.{is_below}
use Rattle.fed_stamp.proofs.VersionLaws.{below_itself, covers_more}
use Rattle.fed_lattice.specs.History.{History, Shares}
use Rattle.fed_lattice.specs.Sets.{Includes, IsSameSet}
use Rattle.fed_lattice.specs.VersionOf.{HasSites, version_of}
use Rattle.fed_lattice.proofs.VersionOfLaws.{version_of-covers}
use Rattle.fed_model.specs.Body.{Body}
use Rattle.fed_model.specs.Lawful.{AreKin}
use Rattle.fed_model.specs.declared.events.Event.{Event}
use Rattle.fed_model.specs.Run.{run}
use Rattle.fed_theory.proofs.Promises.{sites_kin}

-- a set whose version is not above the other's is included in it
included : (ops others : History Body) → HasSites ops → Shares (version_of others) ops others → is_below (version_of ops) (version_of others) ≡ true → Includes others ops
included ops others sites shares below e h =
    shares e h (covers_more (version_of ops) (version_of others) e.0 below (version_of-covers ops sites e h))

-- kin sets of which each has a version that is not above the other's have the same operations
pub kin_below : (ops others : History Body) → AreKin ops others → is_below (version_of ops) (version_of others) ≡ true → is_below (version_of others) (version_of ops) ≡ true → IsSameSet ops others
kin_below ops others kin up down = (
  included others ops kin.right.sites kin.right_shares down,
  included ops others kin.left.sites kin.left_shares up,
)

kin_same : (ops others : History Body) → AreKin ops others → version_of ops ≡ version_of others → IsSameSet ops others
kin_same ops others kin e = kin_below ops others kin
    (subst (λ v. is_below (version_of ops) v ≡ true) e (below_itself (version_of ops)))
    (subst (λ v. is_below v (version_of ops) ≡ true) e (below_itself (version_of ops)))

pub same_version_same_set : (n : ℕ) (events : List Event) → n ≤ 16 → (a b : ℕ) → version_of ((run n events).site a).set ≡ version_of ((run n events).site b).set → IsSameSet ((run n events).site a).set ((run n events).site b).set
same_version_same_set n events few a b e = kin_same ((run n events).site a).set ((run n events).site b).set (sites_kin n events few a b) e
