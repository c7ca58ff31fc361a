-- Grants that a set of operations has and that it doesn't have handed back.
use Rattle.std.specs.Prelude.{ℕ}
use Rattle.fed_stamp.specs.Stamp.{StampValue}
use Rattle.fed_lattice.specs.Sets.{Has}
use Rattle.fed_lattice.specs.History.{History}
use Rattle.fed_model.specs.Body.{Body, Body.OfJob, JobBody.Grant, JobBody.HandBack}

-- the set has a grant of the job to the site, and no return of its term
abbrev pub HasOpenGrant : History Body → StampValue → ℕ → Type 0
HasOpenGrant ops job site = (s : StampValue) × (term : ℕ) × Has ops (s, OfJob job (Grant site term)) ×
    ((t : StampValue) → Has ops (t, OfJob job (HandBack term)) → ⊥)
