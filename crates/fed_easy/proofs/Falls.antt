-- Bookings of which none begins later make a use that doesn't rise.
use Rattle.std.proofs.Common.{ℕ, List, [], ◌∷◌, ◌++◌, arith, map}
use Rattle.std.specs.List.{AllByRecursion}
use Rattle.std.specs.Prelude.{max, suc}
use Rattle.fed_easy.specs.declared.bookings.Booking.{Booking}
use Rattle.fed_easy.specs.declared.machines.Running.{Running}
use Rattle.fed_easy.specs.Promises.{IsOver}
use Rattle.fed_easy.specs.SitePlan.{running_booking}
use Rattle.fed_easy.specs.Use.{is_during, use_at}
use Rattle.fed_easy.proofs.ByExtra.{Falls, part_less}
use Rattle.fed_easy.proofs.NoDelay.{during, within}

pub falls_over : (now : ℕ) (bs : List Booking) → AllByRecursion (IsOver now) bs → Falls now (use_at bs)
falls_over now [] over u v from le = omega arith
falls_over now (b ∷ bs) over u v from le =
    part_less (is_during b.from b.until v) (is_during b.from b.until u) b.nodes (use_at bs v) (use_at bs u)
    (λ e. let inside = within b.from b.until v e in absurd (omega (arith, over.0)))
    (falls_over now bs over.1 u v from le)

pub falls_site : (now : ℕ) (rs : List Running) (bs : List Booking) → AllByRecursion (IsOver now) bs → Falls now (use_at (map (running_booking now) rs ++ bs))
falls_site now [] bs over = falls_over now bs over
falls_site now (r ∷ rs) bs over = λ u v from le.
    part_less (is_during 0 (max r.end (suc now)) v) (is_during 0 (max r.end (suc now)) u) r.nodes (use_at (map (running_booking now) rs ++ bs) v) (use_at (map (running_booking now) rs ++ bs) u)
    (λ e. let inside = within 0 (max r.end (suc now)) v e in during 0 (max r.end (suc now)) u (omega arith) (omega (arith, inside.1)))
    (falls_site now rs bs over u v from le)
