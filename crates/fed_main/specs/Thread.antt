-- What a thread of a site answers to the lines that ask the site.
use Rattle.std.specs.Prelude.{◌≡◌, ℕ, ◌==◌, Bool, false, List, [], ◌∷◌, ◌++◌, codes, string_bytes}
use Rattle.std.specs.List.{filter}
use Rattle.fed_model.specs.declared.askers.Who.{Who}
use Rattle.fed_model.specs.declared.commands.Command.{Command}
use Rattle.fed_model.specs.View.{View}
use Rattle.fed_model.specs.declared.outcomes.Outcome.{Outcome}
use Rattle.fed_threads.specs.declared.journal.Asked.TheVariants.{Do, Ship}
use Rattle.fed_threads.specs.Calls.{AddsClaim, Looks}
use Rattle.fed_threads.specs.Seat.{Known, known_by}
use Rattle.fed_script.specs.Line.{Line, skips, begins, acts, lists, misuses, ships, takes, plans, compares}
use Rattle.fed_qstat.specs.Outcome.{answer_line, line_of_usage, text_of_outcome}
use Rattle.fed_qstat.specs.Listed.{listed}
use Rattle.fed_machine.specs.Planned.{text_of_plan}
use Rattle.fed_main.specs.declared.live_sites.Log.{Log}

-- what a thread's seat knows, and what was answered so far
pub record LogValue : Type 0 where
  pub known : Known
  pub text : List ℕ

abbrev pub reads : Log → LogValue
reads log = record { known = known_by log.seat; text = string_bytes log.text }

-- a text was added, which may be said between what was known before and what is known now
pub record Answers (Says : Known → Known → List ℕ → Type 0) (before after : LogValue) : Type 0 where
  pub added : List ℕ
  pub said : Says before.known after.known added
  pub text_is : after.text ≡ before.text ++ added

-- the one is said, and then the other
pub record Then (P Q : Known → Known → List ℕ → Type 0) (before after : Known) (text : List ℕ) : Type 0 where
  pub between : Known
  pub front : List ℕ
  pub rest : List ℕ
  pub first : P before between front
  pub next : Q between after rest
  pub text_is : text ≡ front ++ rest

-- this text alone: the site is not asked
abbrev pub Only : List ℕ → Known → Known → List ℕ → Type 0
Only answer before after text = (after ≡ before) × (text ≡ answer)

-- what is said to each, in this order
abbrev pub Each : {A : Type 0} → (A → Known → Known → List ℕ → Type 0) → List A → Known → Known → List ℕ → Type 0
Each Says [] = Only []
Each Says (x ∷ xs) = Then (Says x) (Each Says xs)

-- a command: what is told is the outcome that the seat claims
pub record Does (roster : List (List ℕ × ℕ)) (here : ℕ) (who : Who) (command : Command) (before after : Known)
    (text : List ℕ) : Type 0 where
  pub outcome : Outcome
  pub claim : AddsClaim before after here (Do here who command) outcome
  pub told : text ≡ answer_line (text_of_outcome roster outcome)

-- a packet is made: its place in the journal is not told
pub record MakesPacket (here to : ℕ) (before after : Known) (text : List ℕ) : Type 0 where
  pub place : ℕ
  pub claim : AddsClaim before after here (Ship here to) (Outcome.Packet place)
  pub told : text ≡ answer_line (codes "shipped")

-- the board is looked at, and what it reads as is shown
pub record Looked (here : ℕ) (shown : View → List ℕ) (before after : Known) (text : List ℕ) : Type 0 where
  pub board : View
  pub looks : Looks before after here board
  pub told : text ≡ shown board

-- what is said to a line that asks the site
abbrev pub LineSays : List (List ℕ × ℕ) → ℕ → Line → Known → Known → List ℕ → Type 0
LineSays roster here skips = Only []
LineSays roster here (begins sites) = Only []
LineSays roster here (acts site who commands) = Each (Does roster here who) commands
LineSays roster here (lists site full jobs) = Looked here (λ board. listed full roster board jobs)
LineSays roster here (misuses site fault) = Only (line_of_usage fault)
LineSays roster here (ships site to) = MakesPacket here to
LineSays roster here (takes site packet) = Only []
LineSays roster here (plans site moment) = Looked here (λ board. text_of_plan roster board here moment)
LineSays roster here (compares site other) = Only []

-- does the line ask the site?
abbrev pub asks : ℕ → Line → Bool
asks here (acts site who commands) = site == here
asks here (lists site full jobs) = site == here
asks here (misuses site fault) = site == here
asks here (ships site to) = site == here
asks here (plans site moment) = site == here
asks here line = false

-- what a thread says to those of the lines that ask its site
abbrev pub ThreadSays : List (List ℕ × ℕ) → ℕ → List Line → Known → Known → List ℕ → Type 0
ThreadSays roster here lines = Each (LineSays roster here) (filter (asks here) lines)
