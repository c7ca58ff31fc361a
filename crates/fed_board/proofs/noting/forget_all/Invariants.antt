use Rattle.std.proofs.Common.{ℕ, ◌<◌, ◌≤◌, slice_index}
use Rattle.fed_board.specs.Changes.{site_at}
use Rattle.fed_board.proofs.noting.forget_all.Given as goal

abbrev pub invariant-loop-site : goal.invariant-loop-site
invariant-loop-site l = (s : ℕ) → s < l.site → slice_index l.version s ≤ (site_at l.changes s).floor
