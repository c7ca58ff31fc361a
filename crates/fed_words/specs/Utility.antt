-- The utilities, and the options of each by letter.
use Rattle.std.specs.Prelude.{ℕ, Bool, true, false, ◌==◌, List, [], ◌∷◌, codes, Option, option_map, find}
use Rattle.std.specs.Str.{byte, bytes_eq}
use Rattle.fed_words.specs.declared.utilities.Choice.{Choice}
use Rattle.fed_words.specs.declared.utilities.Choice.TheVariants.{Account, Held, Kinds, Resources, Name, Priority, Full}
use Rattle.fed_words.specs.declared.utilities.Utility.{Utility}
use Rattle.fed_words.specs.declared.utilities.Utility.TheVariants.{Qsub, Qalter, Qhold, Qrls, Qdel, Qstat}

abbrev pub utilities : List (List ℕ × Utility)
utilities = (codes "qsub", Qsub) ∷ (codes "qalter", Qalter) ∷ (codes "qhold", Qhold) ∷ (codes "qrls", Qrls) ∷
    (codes "qdel", Qdel) ∷ (codes "qstat", Qstat) ∷ []

abbrev pub utility_named : List ℕ → Option Utility
utility_named word = option_map (λ u. u.1) (find (λ u. bytes_eq word u.0) utilities)

abbrev pub choices : Utility → List (ℕ × Choice)
choices Qsub =
    (byte "A", Account) ∷ (byte "h", Held) ∷ (byte "l", Resources) ∷ (byte "N", Name) ∷ (byte "p", Priority) ∷ []
choices Qalter = (byte "A", Account) ∷ (byte "l", Resources) ∷ (byte "N", Name) ∷ (byte "p", Priority) ∷ []
choices Qhold = (byte "h", Kinds) ∷ []
choices Qrls = (byte "h", Kinds) ∷ []
choices Qdel = []
choices Qstat = (byte "f", Full) ∷ []

-- the option of a letter
abbrev pub choice_of : Utility → ℕ → Option Choice
choice_of utility letter = option_map (λ c. c.1) (find (λ c. letter == c.0) (choices utility))

abbrev pub takes_argument : Choice → Bool
takes_argument Held = false
takes_argument Full = false
takes_argument _ = true

-- the letter of an option
abbrev pub letter_of : Choice → ℕ
letter_of Account = byte "A"
letter_of Held = byte "h"
letter_of Kinds = byte "h"
letter_of Resources = byte "l"
letter_of Name = byte "N"
letter_of Priority = byte "p"
letter_of Full = byte "f"
