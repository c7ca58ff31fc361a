-- Operations of one job that remove what others added.
use Rattle.std.specs.Prelude.{◌≡◌, Bool, true}
use Rattle.fed_stamp.specs.Stamp.{StampValue}
use Rattle.fed_lattice.specs.Sets.{Has}
use Rattle.fed_lattice.specs.History.{History}
use Rattle.fed_model.specs.Body.{Body}
use Rattle.fed_model.specs.Pairs.{adds_site, removes_site, adds_hold, removes_hold}

-- `adds` says which elements an operation adds, `removes` which pairs it removes
module _ {C E : Type 0} (adds : C → E → Bool) (removes : C → E → StampValue → Bool) where
  -- each pair that is removed was added by the operation with its stamp
  abbrev pub RemovesAdded : History C → Type 0
  RemovesAdded ops = (e : StampValue × C) (element : E) (tag : StampValue) → Has ops e →
      removes e.1 element tag ≡ true → (c : C) × Has ops (tag, c) × (adds c element ≡ true)

-- operations of one job, of which those that remove pairs remove what others added
pub record IsJobHistory (ops : History Body) : Type 0 where
  pub sites : RemovesAdded adds_site removes_site ops
  pub holds : RemovesAdded adds_hold removes_hold ops
