use Rattle.std.proofs.Common.{◌≡◌, ◌++◌, filter, refl, ap, ◌∙◌}
use Rattle.std.specs.Map.{keys_of}
use Rattle.fed_lattice.specs.Latest.{stamp_cmp}
use Rattle.fed_lattice.specs.JoinedEntries.{without}
use Rattle.fed_ranges.specs.Retired.{has_retired}
use Rattle.fed_board.proofs.DroppedTables.{without_passing}
use Rattle.fed_board.proofs.retiring.without_retired.Goals as goal

pub returns : goal.returns
returns g c =
    let gone = has_retired c.args.retired.now in
    let keys = keys_of c.args.table in
    let ids : c.deref.result.now ≡ filter gone keys = c.deref.ensures.value ∙ c.in_ok-add_retired.ensures ∙ ap (λ l. l ++ filter gone keys) c.new-ids.ensures.items in
    c.remove_keys.ensures ∙ ap (without stamp_cmp c.args.table) ids
    ∙ without_passing gone gone c.args.table c.table_is_well_formed.ensures.0 (λ id there. refl)
