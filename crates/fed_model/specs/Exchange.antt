-- Exchanges: events without a command, among which each site tells each other site what it has.
use Rattle.std.specs.Prelude.{◌≡◌, ◌≢◌, ℕ, ◌<◌, List, ◌∷◌, ◌++◌, All}
use Rattle.fed_model.specs.declared.events.Event.{Event}
use Rattle.fed_model.specs.declared.events.Event.TheVariants.{Do, Ship, Take}
use Rattle.fed_model.specs.declared.outcomes.Outcome.{Outcome}
use Rattle.fed_model.specs.Run.{run, step}

-- no command is done
abbrev pub IsQuiet : Event → Type 0
IsQuiet (Do site who command) = ⊥
IsQuiet (Ship site to) = Unit {0}
IsQuiet (Take site packet) = Unit {0}

-- among the later events the site a makes a packet for b, which b takes after that
pub record IsPassed (n : ℕ) (early late : List Event) (a b : ℕ) : Type 0 where
  pub before : List Event
  pub between : List Event
  pub after : List Event
  pub number : ℕ
  pub events : late ≡ before ++ Ship a b ∷ (between ++ Take b number ∷ after)
  pub made : (step n (run n (early ++ before)) (Ship a b)).outcome ≡ Outcome.Packet number

-- among the later events no command is done, and a packet is passed from each site to each other
pub record IsExchange (n : ℕ) (early late : List Event) : Type 0 where
  pub quiet : All IsQuiet late
  pub passed : (a b : ℕ) → a < n → b < n → a ≢ b → IsPassed n early late a b
