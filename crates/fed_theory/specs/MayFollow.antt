-- Operations that may be added to a lawful set.
use Rattle.std.specs.Prelude.{ℕ}
use Rattle.fed_stamp.specs.Stamp.{StampValue}
use Rattle.fed_lattice.specs.Sets.{Has}
use Rattle.fed_lattice.specs.History.{History}
use Rattle.fed_model.specs.declared.beginnings.Beginning.{Beginning}
use Rattle.fed_model.specs.declared.beginnings.Ending.{Ending}
use Rattle.fed_model.specs.Body.{Body, Body.OfJob, JobBody.Grant, JobBody.HandBack, JobBody.Begin, JobBody.Finish}
use Rattle.fed_model.specs.Lawful.{IsHolder}

-- what lets an operation be added to a lawful set, besides what it rests on: no such operation is there
-- already, a job begins at the site that holds its grant, and no grant is handed back once the job has begun
abbrev pub MayFollow : History Body → StampValue → Body → Type 0
MayFollow ops t (OfJob job (Grant site term)) = (s : StampValue) (other : ℕ) → Has ops (s, OfJob job (Grant other term)) → ⊥
MayFollow ops t (OfJob job (HandBack term)) =
    ((s : StampValue) → Has ops (s, OfJob job (HandBack term)) → ⊥) ×
    ((s : StampValue) (a : Beginning) → Has ops (s, OfJob job (Begin a)) → ⊥)
MayFollow ops t (OfJob job (Begin beginning)) =
    ((s : StampValue) (a : Beginning) → Has ops (s, OfJob job (Begin a)) → ⊥) × IsHolder ops job t.site
MayFollow ops t (OfJob job (Finish ending)) = (s : StampValue) (a : Ending) → Has ops (s, OfJob job (Finish a)) → ⊥
MayFollow ops t _ = Unit {0}
