-- The nodes that are in use, counted over the entries of a board.
use Rattle.std.proofs.Common.{◌≡◌, ℕ, ◌+◌, ◌≤◌, min, arith}

-- all are counted
pub counted_all : (most used left whole : ℕ) → left ≡ 0 → used ≤ most → min (used + left) most ≡ whole → used ≡ whole
counted_all most used left whole none within so_far = omega arith
