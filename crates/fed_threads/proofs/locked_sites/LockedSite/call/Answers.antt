use Rattle.std.specs.Prelude.{None}
use Rattle.std.proofs.Common.{List, ◌++◌, ◌∷◌, [], length, ap, sym, subst, ◌∙◌}
use Rattle.fed_threads.specs.declared.journal.Asked.TheVariants.{Do}
use Rattle.fed_threads.specs.declared.journal.Entry.{Entry}
use Rattle.fed_threads.proofs.Journals.{Does, replayed_more, appends}
use Rattle.fed_threads.proofs.Replicas.{does_command}
use Rattle.fed_threads.proofs.locked_sites.LockedSite.call.Goals as goal

pub invariant_of-self-2 : goal.invariant_of-self-2
invariant_of-self-2 c =
    replayed_more c.self.inside.replica c.answer.new.self c.self.inside.journal.items c.keep.new.journal.items (Do c.args.site c.args.who.now c.args.command.now) None c.outcome_of-outcome.result c.self.invariant
    (subst (Does c.self.inside.replica c.answer.new.self (length c.self.inside.journal.items) (Do c.args.site c.args.who.now c.args.command.now) None) (sym c.outcome_of-outcome.ensures)
    (does_command c.self.inside.replica c.answer.new.self (length c.self.inside.journal.items) c.args.site c.args.who.now c.args.command.now c.answer.ensures.site c.answer.ensures.heard c.in_ok-answered.answered.said c.in_ok-answered.ensures.said c.in_ok-answered.ensures.left))
    (c.keep.ensures ∙ ap (λ (xs : List Entry). xs ++ record { asked = Do c.args.site c.args.who.now c.args.command.now; packet = None; outcome = c.outcome_of-outcome.result } ∷ []) c.in_ok-reserve.ensures.items)

pub returns-clause-ok : goal.returns-clause-ok
returns-clause-ok c =
    rw (← c.self.view_is, ← c.outcome_of-outcome.ensures)
    (appends c.self.inside.replica c.answer.new.self c.self.inside.journal.items c.keep.new.journal.items (Do c.args.site c.args.who.now c.args.command.now) None c.outcome_of-outcome.result c.self.invariant
    (subst (Does c.self.inside.replica c.answer.new.self (length c.self.inside.journal.items) (Do c.args.site c.args.who.now c.args.command.now) None) (sym c.outcome_of-outcome.ensures)
    (does_command c.self.inside.replica c.answer.new.self (length c.self.inside.journal.items) c.args.site c.args.who.now c.args.command.now c.answer.ensures.site c.answer.ensures.heard c.in_ok-answered.answered.said c.in_ok-answered.ensures.said c.in_ok-answered.ensures.left))
    (c.keep.ensures ∙ ap (λ (xs : List Entry). xs ++ record { asked = Do c.args.site c.args.who.now c.args.command.now; packet = None; outcome = c.outcome_of-outcome.result } ∷ []) c.in_ok-reserve.ensures.items))
