-- Faults, and answers that are a value or the first fault.
use Rattle.std.specs.Prelude.{◌≡◌, ℕ, Result, Ok, Err, ◌⊎◌, MatchResult}
use Rattle.fed_words.specs.declared.faults.UsageFault.{UsageFault}
use Rattle.fed_words.specs.declared.faults.UsageFault.TheVariants.{UnknownUtility, UnknownOption, MissingArgument, BadValue, BadIdentifier, UnknownSite, MissingOperand, NoMemory}

abbrev pub fault_number : UsageFault → ℕ
fault_number UnknownUtility = 1
fault_number UnknownOption = 2
fault_number MissingArgument = 3
fault_number BadValue = 4
fault_number BadIdentifier = 5
fault_number UnknownSite = 6
fault_number MissingOperand = 7
fault_number NoMemory = 8

-- a value or a fault
abbrev pub OrFault : Type 0 → Type 0
OrFault A = Result A UsageFault

-- want of memory apart, what was returned is this answer
abbrev pub Gives : {A B : Type 0} → (A → B) → OrFault A → OrFault B → Type 0
Gives view result answer =
    MatchResult result (λ x. answer ≡ Ok (view x)) (λ fault. (fault ≡ NoMemory) ⊎ (answer ≡ Err fault))
