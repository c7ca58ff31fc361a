use Rattle.std.specs.Prelude.{Some}
use Rattle.std.proofs.Common.{List, ◌++◌, ◌∷◌, [], length, ap, ◌∙◌}
use Rattle.fed_threads.specs.declared.journal.Asked.TheVariants.{Take}
use Rattle.fed_threads.specs.declared.journal.Entry.{Entry}
use Rattle.fed_threads.proofs.Journals.{replayed_more, appends}
use Rattle.fed_threads.proofs.Replicas.{does_packet}
use Rattle.fed_threads.proofs.locked_sites.LockedSite.take.Goals as goal

pub invariant_of-self-2 : goal.invariant_of-self-2
invariant_of-self-2 c =
    replayed_more c.self.inside.replica c.receive.new.self c.self.inside.journal.items c.keep.new.journal.items (Take c.args.site c.args.sender c.args.place) (Some c.args.packet) c.outcome.result c.self.invariant
    (does_packet c.self.inside.replica c.receive.new.self (length c.self.inside.journal.items) c.args.site c.args.sender c.args.place c.args.packet c.sender_is_in_range.ensures c.receive.ensures.site
    c.outcome.result (c.outcome.ensures ∙ c.in_ok-received.ensures.said) c.in_ok-received.ensures.left)
    (c.keep.ensures ∙ ap (λ (xs : List Entry). xs ++ record { asked = Take c.args.site c.args.sender c.args.place; packet = Some c.args.packet; outcome = c.outcome.result } ∷ []) c.in_ok-reserve.ensures.items)

pub returns-clause-ok : goal.returns-clause-ok
returns-clause-ok c =
    rw (← c.self.view_is, ← c.outcome.ensures)
    (appends c.self.inside.replica c.receive.new.self c.self.inside.journal.items c.keep.new.journal.items (Take c.args.site c.args.sender c.args.place) (Some c.args.packet) c.outcome.result c.self.invariant
    (does_packet c.self.inside.replica c.receive.new.self (length c.self.inside.journal.items) c.args.site c.args.sender c.args.place c.args.packet c.sender_is_in_range.ensures c.receive.ensures.site
    c.outcome.result (c.outcome.ensures ∙ c.in_ok-received.ensures.said) c.in_ok-received.ensures.left)
    (c.keep.ensures ∙ ap (λ (xs : List Entry). xs ++ record { asked = Take c.args.site c.args.sender c.args.place; packet = Some c.args.packet; outcome = c.outcome.result } ∷ []) c.in_ok-reserve.ensures.items))
