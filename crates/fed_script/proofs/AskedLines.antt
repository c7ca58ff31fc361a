-- The line of what the words of a utility were read as.
use Rattle.std.specs.Prelude.{IfOk, IsErr}
use Rattle.std.proofs.Common.{◌≡◌, ℕ, true, false, Result, Ok, Err, sym, ap, ◌∙◌, inl, inr}
use Rattle.fed_lattice.specs.Results.{mapped}
use Rattle.fed_model.specs.declared.askers.Who.{Who}
use Rattle.fed_words.specs.declared.faults.UsageFault.TheVariants.{NoMemory}
use Rattle.fed_words.specs.Fault.{OrFault, Gives}
use Rattle.fed_words.specs.Request.{Asked}
use Rattle.fed_script.specs.Line.{Line, asked_at}

pub asked_given : {R L E : Type 0} (view : R → Asked) (said : L → Line) (site : ℕ) (who : Who) (read : OrFault R) (answer : OrFault Asked) (line : Result L E) → Gives view read answer
    → IfOk line (λ l. said l ≡ asked_at site who (mapped view read)) → (read ≡ Err NoMemory → IsErr line) → IfOk line (λ l. said l ≡ asked_at site who answer)
asked_given view said site who read answer (Err e) g h told = tt
asked_given view said site who (Ok x) answer (Ok l) g h told = h ∙ ap (asked_at site who) (sym g)
asked_given view said site who (Err fault) answer (Ok l) (inl e) h told = let bad : false ≡ true = told (ap Err e) in absurd cc
asked_given view said site who (Err fault) answer (Ok l) (inr e) h told = h ∙ ap (asked_at site who) (sym e)
