-- The seconds at which the use of a machine changes.
use Rattle.std.specs.Prelude.{◌≡◌, ℕ, ◌+◌, ◌≤◌, ◌<◌, All, List, nat_lt, if◌then◌else◌}
use Rattle.std.specs.List.{sum_by}
use Rattle.fed_easy.specs.declared.bookings.Booking.{Booking}
use Rattle.fed_easy.specs.declared.use_changes.UseChange.{UseChange}
use Rattle.fed_easy.specs.Use.{use_at}

-- the nodes that come into use after second u
abbrev pub opened_after : ℕ → List UseChange → ℕ
opened_after u es = sum_by (λ e. if nat_lt u e.second then e.opened else 0) es

-- the nodes that go out of use after second u
abbrev pub closed_after : ℕ → List UseChange → ℕ
closed_after u es = sum_by (λ e. if nat_lt u e.second then e.closed else 0) es

-- what happens to the use of the bookings after second `start`: what goes out of use after a second is what is in use
-- then and what comes into use later
pub record AreEvents (start : ℕ) (bs : List Booking) (es : List UseChange) : Type 0 where
  pub after : All (λ e. start < e.second) es
  pub tells : (u : ℕ) → start ≤ u → use_at bs u + opened_after u es ≡ closed_after u es
