use Rattle.std.proofs.Common.{subst}
use Rattle.std.specs.Map.{keys_of}
use Rattle.std.specs.List.Sorted.{IsStrictlySortedBy}
use Rattle.fed_lattice.specs.Latest.{stamp_cmp}
use Rattle.fed_board.specs.Board.{BoardValue, IsBoard}
use Rattle.fed_board.proofs.BoardKeeps.{made_values}
use Rattle.fed_board.proofs.ListedIdentifiers.{reservations_are}
use Rattle.fed_board.proofs.records.Records.reservations.Goals as goal

pub returns-clause-made : goal.returns-clause-made
returns-clause-made c =
    let sorted = subst (λ (b : BoardValue). IsStrictlySortedBy stamp_cmp (keys_of b.reservations)) c.self.view_is c.iter.ensures.well_formed.0 in
    let i = subst IsBoard c.self.view_is c.self.invariant in
    made_values c.args.self.now.version c.args.self.now.reservations sorted i.reservations

pub returns-clause-ids : goal.returns-clause-ids
returns-clause-ids c =
    let sorted = subst (λ (b : BoardValue). IsStrictlySortedBy stamp_cmp (keys_of b.reservations)) c.self.view_is c.iter.ensures.well_formed.0 in
    reservations_are c.args.self.now (subst IsBoard c.self.view_is c.self.invariant) sorted
