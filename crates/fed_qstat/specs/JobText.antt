-- What listings show of a job, piece by piece.
use Rattle.std.specs.Prelude.{ℕ, Bool, false, List, [], ◌∷◌, ◌++◌, codes, filter, map, Option, Some, None, if◌then◌else◌}
use Rattle.std.specs.List.{join_with_byte, range_with_len}
use Rattle.std.specs.Fmt.{decimal}
use Rattle.fed_stamp.specs.declared.sites.TheConstants.{SITES}
use Rattle.fed_stamp.specs.Stamp.{StampValue}
use Rattle.fed_model.specs.declared.holds.HoldKind.TheVariants.{User, Operator, System}
use Rattle.fed_model.specs.declared.holds.HoldKinds.{HoldKinds}
use Rattle.fed_model.specs.declared.letters.Letter.{Letter}
use Rattle.fed_model.specs.declared.letters.Letter.TheVariants.{Exiting, Running, Held, Granted, Queued}
use Rattle.fed_model.specs.declared.beginnings.Beginning.{Beginning}
use Rattle.fed_model.specs.Hold.{has_kind}
use Rattle.fed_model.specs.JobView.{JobView}
use Rattle.fed_model.specs.Letter.{has_site, has_hold}
use Rattle.fed_qstat.specs.Identifier.{text_of_site}

-- what stands where there is nothing to show
abbrev pub nothing : List ℕ
nothing = codes "-"

-- the text, or `-` where it is empty
abbrev pub text_or_dash : List ℕ → List ℕ
text_or_dash [] = nothing
text_or_dash (byte ∷ text) = byte ∷ text

-- the value of a field as its text; a field of a job that is submitted has a value
abbrev pub field_text : {T : Type 0} → (T → List ℕ) → Option (StampValue × T) → List ℕ
field_text text None = []
field_text text (Some latest) = text latest.1

-- the letter that stands for the state of a job
abbrev pub sign_of_letter : Letter → List ℕ
sign_of_letter Exiting = codes "E"
sign_of_letter Running = codes "R"
sign_of_letter Held = codes "H"
sign_of_letter Granted = codes "T"
sign_of_letter Queued = codes "Q"

-- a job that is gone has none
abbrev pub letter_text : Option Letter → List ℕ
letter_text None = []
letter_text (Some sign) = sign_of_letter sign

-- the site that the job is granted to, or `-`
abbrev pub text_of_holder : List (List ℕ × ℕ) → Option ℕ → List ℕ
text_of_holder roster None = nothing
text_of_holder roster (Some site) = text_of_site roster site

-- the moment of the Begin, or `-`
abbrev pub text_of_begun : Option (StampValue × Beginning) → List ℕ
text_of_begun None = nothing
text_of_begun (Some begun) = decimal begun.1.moment

-- the letters of the kinds of holds that are present, in the order u, o, s, or `n` where there is none
abbrev pub hold_letters : Bool → Bool → Bool → List ℕ
hold_letters false false false = codes "n"
hold_letters user operator system =
    (if user then codes "u" else []) ++ (if operator then codes "o" else []) ++ (if system then codes "s" else [])

-- those of a set of kinds
abbrev pub letters_of_kinds : HoldKinds → List ℕ
letters_of_kinds kinds = hold_letters (has_kind kinds User) (has_kind kinds Operator) (has_kind kinds System)

-- those of the holds that the job has
abbrev pub text_of_holds : JobView → List ℕ
text_of_holds j = hold_letters (has_hold j User) (has_hold j Operator) (has_hold j System)

-- the sites that the job may run at, in the order of their numbers
abbrev pub sites_of : JobView → List ℕ
sites_of j = filter (has_site j) (range_with_len 0 SITES)

-- their names, joined by `+`, or `-` where there is none
abbrev pub text_of_sites : List (List ℕ × ℕ) → JobView → List ℕ
text_of_sites roster j = text_or_dash (join_with_byte 43 (map (text_of_site roster) (sites_of j)))
