use Rattle.std.proofs.Common.{◌≡◌, ℕ, List, [], ◌∷◌, refl, sym, ◌∙◌}
use Rattle.clap.specs.Words.{fault_of}
use Rattle.clap.specs.declared.error.kind.ErrorKind.TheVariants.{UnknownArgument}
use Rattle.clap.proofs.OnLiterals.{clap_on_literals}
use Rattle.federation.specs.CommandLine.{mode_command, mode_name}
use Rattle.federation.specs.declared.command_line.Mode.{Mode}
use Rattle.federation.specs.declared.command_line.Mode.TheVariants.{Replay, Live}
use Rattle.federation.proofs.command_line.second_modes_are_faults.Goals as goal

unknown : (name : List ℕ) (mode second : Mode) → fault_of mode_command (name ∷ mode_name mode ∷ mode_name second ∷ []) ≡ UnknownArgument ∷ []
unfolding clap_on_literals
unknown name Replay Replay = refl
unknown name Replay Live = refl
unknown name Live Replay = refl
unknown name Live Live = refl

pub returns : goal.returns
returns c = λ name mode second none. let bad : UnknownArgument ∷ [] ≡ [] = sym (unknown name mode second) ∙ none in cc
