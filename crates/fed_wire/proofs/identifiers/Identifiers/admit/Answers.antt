use Rattle.std.proofs.Common.{rules, sym, ◌∙◌}
use Rattle.fed_wire.proofs.IdentifierLaws.{one_more_kept}
use Rattle.fed_wire.proofs.identifiers.Identifiers.admit.Goals as goal

pub returns-clause-kept : goal.returns-clause-kept
returns-clause-kept c t ids are =
    one_more_kept c.args.self.now ids c.args.room c.args.id c.get.result are (sym (c.may_stand.ensures.stands ids are) ∙ (cc)) (search rules) c.get.ensures.in_range (c.get.ensures.same ∙ c.site.ensures)
