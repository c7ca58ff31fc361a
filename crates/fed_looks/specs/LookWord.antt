-- The words that ask for a look.
use Rattle.std.specs.Prelude.{ℕ, List, [], ◌∷◌, codes, Option, find, option_map}
use Rattle.std.specs.Str.{bytes_eq}
use Rattle.fed_looks.specs.declared.look_words.LookWord.{LookWord}
use Rattle.fed_looks.specs.declared.look_words.LookWord.TheVariants.{Why, Machine, Reservations, Jobs, Seen, Chart, Plan, PlanJson, MachineJson, Roster, SeenJson, ReservationsJson}

abbrev pub look_words : List (List ℕ × LookWord)
look_words = (codes "why", Why) ∷ (codes "machine", Machine) ∷ (codes "reservations", Reservations) ∷ (codes "jobs", Jobs) ∷
    (codes "seen", Seen) ∷ (codes "chart", Chart) ∷ (codes "plan", Plan) ∷ (codes "plan-json", PlanJson) ∷
    (codes "machine-json", MachineJson) ∷ (codes "roster", Roster) ∷ (codes "seen-json", SeenJson) ∷
    (codes "reservations-json", ReservationsJson) ∷ []

abbrev pub look_named : List ℕ → Option LookWord
look_named word = option_map (λ l. l.1) (find (λ l. bytes_eq word l.0) look_words)
