use Rattle.std.proofs.Common.{ℕ, ◌<◌, ◌≤◌, slice_index}
use Rattle.fed_board.specs.Changes.{site_at}
use Rattle.fed_board.proofs.noting.are_listed_after.Given as goal

abbrev pub invariant-loop-site : goal.invariant-loop-site
invariant-loop-site l = (s : ℕ) → s < l.site → (site_at l.changes s).floor ≤ slice_index l.need s
