use Rattle.std.specs.Prelude.{None}
use Rattle.std.proofs.Common.{◌≡◌, List, ◌++◌, ◌∷◌, [], length, ap, sym, subst, ◌∙◌, arith}
use Rattle.fed_model.specs.declared.outcomes.Outcome.{Outcome}
use Rattle.fed_threads.specs.declared.journal.Asked.TheVariants.{Ship}
use Rattle.fed_threads.specs.declared.journal.Entry.{Entry}
use Rattle.fed_threads.proofs.Journals.{Does, replayed_more, appends}
use Rattle.fed_threads.proofs.Replicas.{does_ship}
use Rattle.fed_threads.proofs.locked_sites.LockedSite.ship.Goals as goal

pub invariant_of-self-2 : goal.invariant_of-self-2
invariant_of-self-2 c =
    let n : c.len.result ≡ length c.self.inside.journal.items =
    omega (arith, c.len.ensures, c.reserve.new.self.ok.0, ap length c.in_ok-reserve.ensures.items) in
    replayed_more c.self.inside.replica c.self.inside.replica c.self.inside.journal.items c.keep.new.journal.items (Ship c.args.site c.args.to) None (Outcome.Packet c.len.result)
    c.self.invariant (subst (λ m. Does c.self.inside.replica c.self.inside.replica (length c.self.inside.journal.items) (Ship c.args.site c.args.to) None (Outcome.Packet m)) (sym n) (does_ship c.self.inside.replica (length c.self.inside.journal.items) c.args.site c.args.to))
    (c.keep.ensures ∙ ap (λ (xs : List Entry). xs ++ record { asked = Ship c.args.site c.args.to; packet = None; outcome = Outcome.Packet c.len.result } ∷ []) c.in_ok-reserve.ensures.items)

pub returns-clause-ok : goal.returns-clause-ok
returns-clause-ok c =
    let n : c.len.result ≡ length c.self.inside.journal.items =
    omega (arith, c.len.ensures, c.reserve.new.self.ok.0, ap length c.in_ok-reserve.ensures.items) in
    rw (← c.self.view_is, ← n)
    (appends c.self.inside.replica c.self.inside.replica c.self.inside.journal.items c.keep.new.journal.items (Ship c.args.site c.args.to) None (Outcome.Packet c.len.result)
    c.self.invariant (subst (λ m. Does c.self.inside.replica c.self.inside.replica (length c.self.inside.journal.items) (Ship c.args.site c.args.to) None (Outcome.Packet m)) (sym n) (does_ship c.self.inside.replica (length c.self.inside.journal.items) c.args.site c.args.to))
    (c.keep.ensures ∙ ap (λ (xs : List Entry). xs ++ record { asked = Ship c.args.site c.args.to; packet = None; outcome = Outcome.Packet c.len.result } ∷ []) c.in_ok-reserve.ensures.items))
