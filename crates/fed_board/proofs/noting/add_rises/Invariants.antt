use Rattle.std.proofs.Common.{ℕ, ◌<◌, slice_index}
use Rattle.fed_lattice.specs.Sets.{Has}
use Rattle.fed_board.specs.declared.rises.Rise.{Rise}
use Rattle.fed_board.proofs.noting.add_rises.Given as goal

abbrev pub invariant-loop-site : goal.invariant-loop-site
invariant-loop-site l = record {
  kept : (x : Rise) → Has l.fn.rises.items x → Has l.rises.items x;
  added : (s : ℕ) → s < l.site → slice_index l.mine s < slice_index l.theirs s → Has l.rises.items (record { counter = slice_index l.theirs s; site = s; job = l.job });
}
