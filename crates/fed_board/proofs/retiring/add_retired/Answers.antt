use Rattle.std.proofs.Common.{◌++◌, filter, sym, ap, ◌∙◌}
use Rattle.std.proofs.lemmas.List.{append-nil}
use Rattle.std.specs.Map.{keys_of}
use Rattle.fed_ranges.specs.Retired.{has_retired}
use Rattle.fed_board.proofs.RetiringLoops.{none_pass}
use Rattle.fed_board.proofs.retiring.add_retired.Goals as goal

pub returns-then-is_empty : goal.returns-then-is_empty
returns-then-is_empty g c =
    let none = c.is_empty.ensures.0 c.if-is_empty.true in
    let ids = c.args.ids.now.items in
    let keys = keys_of c.args.table.now in
    sym (ap (λ l. ids ++ l) (ap (λ r. filter (has_retired r) keys) none ∙ none_pass keys) ∙ append-nil ids)
