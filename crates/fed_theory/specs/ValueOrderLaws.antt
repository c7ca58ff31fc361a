-- That these orders are total.
use Rattle.std.specs.Ordering.{nat_cmp, int_cmp}
use Rattle.std.specs.Cmp.{IsTotalOrder, nat_cmp_total}
use Rattle.std.specs.Cmp.Lexicographic.{nat_list_cmp_total}
use Rattle.std.proofs.lemmas.Cmp.{on_total, then_total, int_cmp_total}
use Rattle.fed_lattice.specs.GreatestLaws.{option_total}
use Rattle.fed_model.specs.declared.beginnings.Beginning.{Beginning}
use Rattle.fed_model.specs.declared.beginnings.Ending.{Ending}
use Rattle.fed_model.specs.declared.windows.Window.{Window}
use Rattle.fed_theory.specs.ValueOrders.{name_cmp, account_cmp, beginning_cmp, ending_cmp, window_cmp, option_window_cmp}

pub name_total : IsTotalOrder name_cmp
name_total = nat_list_cmp_total

pub priority_total : IsTotalOrder int_cmp
priority_total = int_cmp_total

pub number_total : IsTotalOrder nat_cmp
number_total = nat_cmp_total

pub account_total : IsTotalOrder account_cmp
account_total = option_total name_cmp name_total

pub beginning_total : IsTotalOrder beginning_cmp
beginning_total = then_total (on_total (λ (b : Beginning). b.moment) nat_cmp_total) (then_total (on_total (λ (b : Beginning). b.nodes) nat_cmp_total) (on_total (λ (b : Beginning). b.end) nat_cmp_total))

pub ending_total : IsTotalOrder ending_cmp
ending_total = then_total (on_total (λ (e : Ending). e.moment) nat_cmp_total) (on_total (λ (e : Ending). e.status) nat_cmp_total)

window_total : IsTotalOrder window_cmp
window_total = then_total (on_total (λ (w : Window). w.site) nat_cmp_total) (then_total (on_total (λ (w : Window). w.start) nat_cmp_total) (then_total (on_total (λ (w : Window). w.end) nat_cmp_total) (on_total (λ (w : Window). w.nodes) nat_cmp_total)))

pub option_window_total : IsTotalOrder option_window_cmp
option_window_total = option_total window_cmp window_total
