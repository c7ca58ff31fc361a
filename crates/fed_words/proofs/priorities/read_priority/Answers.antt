use Rattle.std.proofs.Common.{rules, FitsSigned}
use Rattle.std.specs.Int.{w16}
use Rattle.std.proofs.lemmas.Int.{to_z-of_z}
use Rattle.fed_words.proofs.DigitWords.{priority_in-number, priority_in-none}
use Rattle.fed_words.proofs.priorities.read_priority.Goals as goal

pub returns-in-Ok : goal.returns-in-Ok
returns-in-Ok c =
    let fits : FitsSigned w16 c.in-Ok.number = search rules in
    rw (c.new.ensures, to_z-of_z w16 c.in-Ok.number fits) (priority_in-number c.args.word.now c.in-Ok.number c.in-Ok.ensures.value.0.0.0 c.in-Ok.ensures.value.0.1)

pub returns-in-Err : goal.returns-in-Err
returns-in-Err c = priority_in-none c.args.word.now c.in-Err.ensures.value.0
