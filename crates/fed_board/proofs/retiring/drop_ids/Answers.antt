use Rattle.std.proofs.Common.{length, sym, ap, ◌∙◌}
use Rattle.std.proofs.lemmas.Bool.{eqb-true}
use Rattle.std.proofs.lemmas.List.{nil_from_length}
use Rattle.fed_lattice.specs.Latest.{stamp_cmp}
use Rattle.fed_lattice.specs.JoinedEntries.{without}
use Rattle.fed_board.proofs.Retirings.{without_none}
use Rattle.fed_board.proofs.retiring.drop_ids.Goals as goal

pub returns-then-is_empty-clause-dropped : goal.returns-then-is_empty-clause-dropped
returns-then-is_empty-clause-dropped g c =
    let none = nil_from_length c.args.ids.now (eqb-true (length c.args.ids.now) 0 (sym c.is_empty.ensures ∙ c.if-is_empty.true)) in
    sym (ap (without stamp_cmp c.args.table.now) none ∙ without_none c.args.table.now)
