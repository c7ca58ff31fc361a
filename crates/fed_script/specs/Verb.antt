-- The words that stand behind the name of a site where no user does.
use Rattle.std.specs.Prelude.{ℕ, Bool, List, [], ◌∷◌, codes, Option, option_map, find, is_some}
use Rattle.std.specs.Str.{bytes_eq}
use Rattle.fed_script.specs.declared.verbs.Verb.{Verb}
use Rattle.fed_script.specs.declared.verbs.Verb.TheVariants.{Grant, Begin, Finish, HandBack, Decline, Retire, Ship, Take, Plan}

abbrev pub verbs : List (List ℕ × Verb)
verbs = (codes "grant", Grant) ∷ (codes "begin", Begin) ∷ (codes "finish", Finish) ∷ (codes "handback", HandBack) ∷
    (codes "decline", Decline) ∷ (codes "retire", Retire) ∷ (codes "ship", Ship) ∷ (codes "take", Take) ∷ (codes "plan", Plan) ∷ []

abbrev pub verb_named : List ℕ → Option Verb
verb_named word = option_map (λ v. v.1) (find (λ v. bytes_eq word v.0) verbs)

abbrev pub is_verb : List ℕ → Bool
is_verb word = is_some (verb_named word)
