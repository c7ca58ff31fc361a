use Rattle.std.proofs.Common.{◌≡◌, ◌-◌, map, length}
use Rattle.std.specs.List.{sum}
use Rattle.fed_threads.specs.Placing.{entries_of, claims_of}
use Rattle.fed_threads.specs.Cursors.{AreCursors}
use Rattle.fed_threads.proofs.Filling.{IsUnderWay}
use Rattle.fed_threads.proofs.placing.place_all.Given as goal

abbrev pub invariant-loop-next : goal.invariant-loop-next
invariant-loop-next l = record {
  under_way : IsUnderWay (entries_of l.journals) (claims_of l.seats) l.placed.items l.sites.items;
  cursors : AreCursors (claims_of l.seats) l.placed.items l.cursors.items;
  seats : length l.cursors.items ≡ length l.seats;
}

abbrev pub decreases-loop-next : goal.decreases-loop-next
decreases-loop-next l = sum (map length (entries_of l.journals)) - sum l.placed.items
