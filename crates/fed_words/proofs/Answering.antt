-- What words ask, put together from their parts.
use Rattle.std.proofs.Common.{◌≡◌, ℕ, List, [], ◌∷◌, Some, None, Ok, Err, refl, ◌∙◌}
use Rattle.fed_lattice.specs.Results.{◌>>=◌, mapped}
use Rattle.fed_words.specs.declared.faults.UsageFault.{UsageFault}
use Rattle.fed_words.specs.declared.settings.Settings.{Settings}
use Rattle.fed_words.specs.declared.utilities.Utility.{Utility}
use Rattle.fed_words.specs.Fault.{OrFault}
use Rattle.fed_words.specs.Reading.{reading}
use Rattle.fed_words.specs.Request.{jobs_in, request_in, request_of}
use Rattle.fed_words.specs.Setting.{settings_in}
use Rattle.fed_words.specs.Spelling.{Spelling, spelling}
use Rattle.fed_words.specs.Utility.{utility_named}
use Rattle.fed_words.proofs.Readings.{first_fault, parts}

then_mapped : {A B : Type 0} (a : OrFault A) (f : A → B) → (a >>= λ x. Ok (f x)) ≡ mapped f a
then_mapped (Ok x) f = refl
then_mapped (Err fault) f = refl

module _ (roster : List (List ℕ × ℕ)) (here : ℕ) (name : List ℕ) (words : List (List ℕ)) (utility : Utility) (named : utility_named name ≡ Some utility) (spelled : Spelling (List (List ℕ))) (same : spelled ≡ spelling utility None words) where
  asked : request_in roster here (name ∷ words) ≡ (settings_in roster spelled.items >>= λ settings. spelled.rest >>= λ operands. jobs_in roster here utility operands >>= λ jobs. Ok (request_of roster utility settings jobs))
  asked = rw (same, named) refl

  pub asked-answer : (settings : Settings) (operands : List (List ℕ)) → settings_in roster spelled.items ≡ Ok settings → spelled.rest ≡ Ok operands → request_in roster here (name ∷ words) ≡ mapped (request_of roster utility settings) (jobs_in roster here utility operands)
  asked-answer settings operands e f = asked ∙ rw (e, f) (then_mapped (jobs_in roster here utility operands) (request_of roster utility settings))

module _ (roster : List (List ℕ × ℕ)) (here : ℕ) (name : List ℕ) (words : List (List ℕ)) (utility : Utility) (named : utility_named name ≡ Some utility) where
  pub read-answer : (settings : Settings) (operands : List (List ℕ)) → reading roster [] (spelling utility None words) ≡ Ok (settings, operands) → request_in roster here (name ∷ words) ≡ mapped (request_of roster utility settings) (jobs_in roster here utility operands)
  read-answer settings operands e =
      let said = parts (settings_in roster (spelling utility None words).items) (spelling utility None words).rest settings operands e in
      asked-answer roster here name words utility named (spelling utility None words) refl settings operands said.0 said.1

  pub read-fault : (fault : UsageFault) → reading roster [] (spelling utility None words) ≡ Err fault → request_in roster here (name ∷ words) ≡ Err fault
  read-fault fault e = rw named (first_fault (settings_in roster (spelling utility None words).items) (spelling utility None words).rest (λ settings operands. jobs_in roster here utility operands >>= λ jobs. Ok (request_of roster utility settings jobs)) fault e)
