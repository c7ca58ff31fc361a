use Rattle.std.proofs.Common.{ℕ, replicate, ap, ◌∙◌}
use Rattle.fed_threads.specs.Course.{placed_in}
use Rattle.fed_threads.proofs.Numbers.{nothing_placed}
use Rattle.fed_threads.proofs.course.Course.new.Goals as goal

pub returns : goal.returns
returns c =
    let placed = ap placed_in c.in_ok-no_numbers.ensures ∙ nothing_placed c.len.result ∙ ap (λ (n : ℕ). replicate n 0) c.len.ensures.same in
    let world = c.in_ok-new.ensures in
    λ i. record { sites = (world i).sites; point = record { placed = placed i; ships = c.new.ensures.items i; events = (world i).events } }
