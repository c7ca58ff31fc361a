-- In a run two sites of one version have the same operations.
use Rattle.std.specs.Prelude.{◌↔◌}
use Rattle.std.proofs.Common.{◌≡◌, ℕ, List, true, ◌&&◌, length, Some, sym, ap, ap₂, subst}
use Rattle.std.proofs.lemmas.Bool.{and_parts}
use Rattle.fed_stamp.specs.Version.{is_below}
use Rattle.fed_stamp.proofs.VersionLaws.{below_itself}
use Rattle.fed_lattice.specs.History.{History}
use Rattle.fed_lattice.specs.VersionOf.{version_of}
use Rattle.fed_model.specs.Body.{Body}
use Rattle.fed_model.specs.Lawful.{AreKin}
use Rattle.fed_model.specs.View.{View, view}
use Rattle.fed_theory.proofs.ViewLaws.{view_same}
use Rattle.fed_model.specs.Run.{World}
use Rattle.fed_theory.proofs.EqualVersions.{kin_below}
use Rattle.fed_theory.proofs.Promises.{sites_kin}
use Rattle.fed_replay.specs.Script.{IsRun, Script, same_version, view_at}

same_itself : (v w : List ℕ) → v ≡ w → same_version v w ≡ true
same_itself v w e = subst (λ u. same_version v u ≡ true) e (ap₂ (λ x y. x && y) (below_itself v) (below_itself v))

kin_views : (ops others : History Body) → AreKin ops others → (same_version (version_of ops) (version_of others) ≡ true) ↔ (view ops ≡ view others)
kin_views ops others kin = (
  λ e.
      let parts = and_parts (is_below (version_of ops) (version_of others)) (is_below (version_of others) (version_of ops)) e in
      view_same ops others kin.left.distinct (kin_below ops others kin parts.0 parts.1),
  λ e. same_itself (version_of ops) (version_of others) (ap (λ (v : View). v.version) e),
)

pub compared_views : (s : Script) (site other : ℕ) → IsRun (Some s) → (same_version (view_at s site).version (view_at s other).version ≡ true) ↔ (view_at s site ≡ view_at s other)
compared_views s site other r =
    let kin : AreKin (s.world.site site).set (s.world.site other).set =
    subst (λ (w : World). AreKin (w.site site).set (w.site other).set) (sym r.1.1) (sites_kin (length s.roster) r.1.0 r.0.at_most site other) in
    kin_views (s.world.site site).set (s.world.site other).set kin
