-- Openings that were noted.
use Rattle.std.proofs.Common.{◌≡◌, ℕ, List, [], ◌∷◌, ◌++◌, subst}
use Rattle.http_server.specs.declared.log.Log.{Log}
use Rattle.fed_home.specs.declared.homes.Home.{Home}
use Rattle.fed_serve.specs.Openings.{IsLeft}
use Rattle.nettlebeam.specs.Openings.{AreLeft, IsLeftOf}

module _ {D : Type 0} (seen : D → List ℕ) (may_leave : D → List ℕ → Type 0) where
  pub left_before : (openings : List (Log (Home D) (Unit {0}) × Home D)) (note : Log (Home D) (Unit {0})) (again : Home D) → AreLeft seen may_leave (openings ++ (note, again) ∷ []) → AreLeft seen may_leave openings
  left_before [] note again left = tt
  left_before (opening ∷ openings) note again left = (left.0, left_before openings note again left.1)

  pub left_last : (openings : List (Log (Home D) (Unit {0}) × Home D)) (note : Log (Home D) (Unit {0})) (home again : Home D) → note.items ≡ (home, tt) ∷ [] → AreLeft seen may_leave (openings ++ (note, again) ∷ []) → IsLeft seen may_leave home again
  left_last [] note home again is left = (subst (IsLeftOf seen may_leave again) is left.0).0
  left_last (opening ∷ openings) note home again is left = left_last openings note home again is left.1
