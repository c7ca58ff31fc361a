-- Why an input is not served to its end.
use Rattle.std.specs.Prelude.{ℕ}
use Rattle.fed_serve.specs.declared.faults.ServeFault.{ServeFault}
use Rattle.fed_serve.specs.declared.faults.ServeFault.TheVariants.{Home, Read, Write, NotKept}

abbrev pub number_of : ServeFault → ℕ
number_of (Home fault) = 1
number_of (Read error) = 2
number_of (Write error) = 3
number_of (NotKept fault) = 4
