use Rattle.std.proofs.Common.{ℕ, true, false, List, [], ◌∷◌, codes, refl}
use Rattle.std.specs.Prelude.{None, Some}
use Rattle.clap.proofs.OnLiterals.{clap_on_literals}
use Rattle.nettle_words.specs.CommandLine.{Answers, Asks, Checks, Compacts, Makes, Serves, TellsWords}
use Rattle.nettle_words.proofs.command_line.commands_are_taken.Goals as goal

made : (name : List ℕ) → Asks name (codes "init" ∷ codes "d" ∷ codes "a" ∷ codes "a:8" ∷ codes "b:4" ∷ [])
    (record { directory = codes "d"; task = Makes (codes "a") (codes "a:8" ∷ codes "b:4" ∷ []) })
unfolding clap_on_literals
made name = (refl, refl)

answered : (name : List ℕ) → Asks name (codes "at" ∷ codes "d" ∷ codes "ann" ∷ codes "qdel" ∷ codes "-h" ∷ codes "--" ∷ codes "-1" ∷ [])
    (record { directory = codes "d"; task = Answers (codes "ann" ∷ codes "qdel" ∷ codes "-h" ∷ codes "--" ∷ codes "-1" ∷ []) })
unfolding clap_on_literals
answered name = (refl, refl)

served : (name : List ℕ) → Asks name (codes "serve" ∷ codes "d" ∷ []) (record { directory = codes "d"; task = Serves false false })
unfolding clap_on_literals
served name = (refl, refl)

framed : (name : List ℕ) → Asks name (codes "serve" ∷ codes "--frames" ∷ codes "d" ∷ []) (record { directory = codes "d"; task = Serves true false })
unfolding clap_on_literals
framed name = (refl, refl)

unforgotten : (name : List ℕ) → Asks name (codes "serve" ∷ codes "d" ∷ codes "--keep-history" ∷ codes "--frames" ∷ []) (record { directory = codes "d"; task = Serves true true })
unfolding clap_on_literals
unforgotten name = (refl, refl)

compacted : (name : List ℕ) → Asks name (codes "compact" ∷ codes "d" ∷ []) (record { directory = codes "d"; task = Compacts None })
unfolding clap_on_literals
compacted name = (refl, refl)

kept : (name : List ℕ) → Asks name (codes "compact" ∷ codes "--keep" ∷ codes "f" ∷ codes "d" ∷ []) (record { directory = codes "d"; task = Compacts (Some (codes "f")) })
unfolding clap_on_literals
kept name = (refl, refl)

checked : (name : List ℕ) → Asks name (codes "check" ∷ codes "d" ∷ []) (record { directory = codes "d"; task = Checks })
unfolding clap_on_literals
checked name = (refl, refl)

told : (name : List ℕ) → Asks name (codes "words" ∷ []) (record { directory = []; task = TellsWords })
unfolding clap_on_literals
told name = (refl, refl)

pub returns : goal.returns
returns c = record { init = made; at = answered; serve = served; frames = framed; history = unforgotten; compact = compacted; keep = kept; check = checked; words = told }
