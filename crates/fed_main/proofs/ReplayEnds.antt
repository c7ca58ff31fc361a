-- The end of a replay, as the end of a run.
use Rattle.std.proofs.Common.{◌≡◌, ℕ, List, Option, Some, None, Result, Ok, Err, refl, ap, inl, inr}
use Rattle.std.specs.Prelude.{◌⊎◌, IfSome}
use Rattle.fed_replay.specs.declared.fault.ReplayFault.{ReplayFault}
use Rattle.fed_replay.specs.Ends.{EndsAs as EndsReplay}
use Rattle.fed_main.specs.declared.fault.RunFault.{RunFault}
use Rattle.fed_main.specs.declared.fault.RunFault.TheVariants.{Read, NoMemory}
use Rattle.fed_main.specs.Ends.{EndsAs}
use Rattle.fed_main.specs.Fault.{of_replay}

abbrev pub told : Result (Unit {0}) ReplayFault → Result (Unit {0}) RunFault
told (Ok done) = Ok done
told (Err fault) = Err (of_replay fault)

ends : (before after : Option (List ℕ)) (script : List ℕ) (ended : Result (Unit {0}) ReplayFault) → EndsReplay before after script ended → EndsAs before after script (told ended)
ends before after script (Ok done) h = h
ends before after script (Err (ReplayFault.Line n)) h = h
ends before after script (Err ReplayFault.Read) h = h
ends before after script (Err ReplayFault.Write) h = h
ends before after script (Err ReplayFault.NoMemory) h = h

pub EndsAs-told : (known before after : Option (List ℕ)) (ended : Result (Unit {0}) ReplayFault) → IfSome known (λ input. EndsReplay before after input ended)
    → IfSome known (λ input. EndsAs before after input (told ended))
EndsAs-told None before after ended h = tt
EndsAs-told (Some input) before after ended h = ends before after input ended h

pub long-told : (known : Option (List ℕ)) (IsLong : List ℕ → Type 0) (ended : Result (Unit {0}) ReplayFault) → IfSome known (λ input. IsLong input → (ended ≡ Err ReplayFault.Read) ⊎ (ended ≡ Err ReplayFault.NoMemory))
    → IfSome known (λ input. IsLong input → (told ended ≡ Err Read) ⊎ (told ended ≡ Err NoMemory))
long-told None IsLong ended h = tt
long-told (Some input) IsLong ended h = λ long. elim (h long) [
  | inl e ↦ inl (ap told e)
  | inr e ↦ inr (ap told e)
]

pub read-told : (ended : Result (Unit {0}) ReplayFault) → told ended ≡ Err Read → ended ≡ Err ReplayFault.Read
read-told (Ok done) e = cc
read-told (Err (ReplayFault.Line n)) e = cc
read-told (Err ReplayFault.Read) e = refl
read-told (Err ReplayFault.Write) e = cc
read-told (Err ReplayFault.NoMemory) e = cc
