-- Why a packet can't be read.
use Rattle.std.specs.Prelude.{◌≡◌, ◌≢◌, ℕ, Result, Ok, Err}
use Rattle.fed_wire.specs.declared.faults.WireFault.{WireFault}
use Rattle.fed_wire.specs.declared.faults.WireFault.TheVariants.{NotJson, Version, Shape, Range, NoMemory}

abbrev pub number_of : WireFault → ℕ
number_of NotJson = 1
number_of (Version n) = 2
number_of (Shape place) = 3
number_of (Range place) = 4
number_of NoMemory = 5

-- the outcome is the one that is said, unless an allocation failed
abbrev pub Gives : {A : Type 0} → Result A WireFault → Result A WireFault → Type 0
Gives said (Ok x) = Ok x ≡ said
Gives said (Err e) = e ≢ NoMemory → Err e ≡ said
