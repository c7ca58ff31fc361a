use Rattle.std.proofs.Common.{sym, ◌∙◌}
use Rattle.fed_easy.proofs.BadEntries.{bad_stays, bad_none, bad_now}
use Rattle.fed_easy.proofs.machines.bad_with.Goals as goal

pub returns-in-Some : goal.returns-in-Some
returns-in-Some c = λ running at before. bad_stays running c.args.entry c.in-Some.first (sym c.in-Some.is ∙ before)

pub returns-then-is_entry : goal.returns-then-is_entry
returns-then-is_entry c =
    λ running at before. bad_none running c.args.entry (sym c.in-None.is ∙ before) (sym c.is_entry.ensures ∙ c.if-is_entry.true)

pub returns-else-is_entry : goal.returns-else-is_entry
returns-else-is_entry c =
    λ running at before. rw at (bad_now running c.args.entry (sym c.in-None.is ∙ before) (sym c.is_entry.ensures ∙ c.if-is_entry.false))
