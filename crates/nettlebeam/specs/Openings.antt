-- The homes that were opened again.
use Rattle.std.specs.Prelude.{ℕ, List, [], ◌∷◌, ⊤}
use Rattle.http_server.specs.declared.log.Log.{Log}
use Rattle.fed_home.specs.declared.homes.Home.{Home}
use Rattle.fed_serve.specs.Openings.{IsLeft}

-- This home was opened again behind each of these, and its journal read as a file that a crash may leave of it.
abbrev pub IsLeftOf : {D : Type 0} (seen : D → List ℕ) (may_leave : D → List ℕ → Type 0) → Home D → List (Home D × Unit {0}) → Type 0
IsLeftOf seen may_leave again [] = ⊤
IsLeftOf seen may_leave again (old ∷ olds) = IsLeft seen may_leave old.0 again × IsLeftOf seen may_leave again olds

-- It was so at each opening that was noted: by a note of the home that was let go, and the home that was opened.
abbrev pub AreLeft : {D : Type 0} (seen : D → List ℕ) (may_leave : D → List ℕ → Type 0) → List (Log (Home D) (Unit {0}) × Home D) → Type 0
AreLeft seen may_leave [] = ⊤
AreLeft seen may_leave (opening ∷ openings) = IsLeftOf seen may_leave opening.1 opening.0.items × AreLeft seen may_leave openings
