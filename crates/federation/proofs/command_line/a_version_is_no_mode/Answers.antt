use Rattle.std.proofs.Common.{◌≡◌, ℕ, List, [], ◌∷◌, codes, refl}
use Rattle.clap.specs.Words.{fault_of}
use Rattle.clap.specs.declared.error.kind.ErrorKind.TheVariants.{UnknownArgument}
use Rattle.clap.proofs.OnLiterals.{clap_on_literals}
use Rattle.federation.specs.CommandLine.{mode_command}
use Rattle.federation.proofs.command_line.a_version_is_no_mode.Goals as goal

unknown : (name : List ℕ) → (fault_of mode_command (name ∷ codes "--version" ∷ []) ≡ UnknownArgument ∷ []) × (fault_of mode_command (name ∷ codes "-V" ∷ []) ≡ UnknownArgument ∷ [])
unfolding clap_on_literals
unknown name = (refl, refl)

pub returns-clause-long : goal.returns-clause-long
returns-clause-long c = λ name. (unknown name).0

pub returns-clause-short : goal.returns-clause-short
returns-clause-short c = λ name. (unknown name).1
