-- That the equality of stamps tells them apart.
use Rattle.std.specs.Bool.{Decides}
use Rattle.std.specs.Cmp.{IsPartialEquivalence, partial_equiv_from_equiv, nat_eq_equiv, on_per, and_per}
use Rattle.std.specs.Prelude.{◌≡◌}
use Rattle.std.proofs.Common.{nat_eq, ap, ap₂}
use Rattle.std.proofs.lemmas.Bool.{and_parts, and_from}
use Rattle.std.proofs.lemmas.Bool.Decides.{Decides-eqb}
use Rattle.fed_stamp.specs.Stamp.{StampValue, same_stamp}

pub same_stamp-Decides : (s t : StampValue) → Decides (same_stamp s t) (s ≡ t)
same_stamp-Decides s t = (
  λ e.
      let parts = and_parts _ _ e in
      ap₂ (λ c d. let stamp : StampValue = record { counter = c; site = d } in stamp) ((Decides-eqb s.counter t.counter).0 parts.0) ((Decides-eqb s.site t.site).0 parts.1),
  λ e. and_from _ _ ((Decides-eqb s.counter t.counter).1 (ap (λ (x : StampValue). x.counter) e)) ((Decides-eqb s.site t.site).1 (ap (λ (x : StampValue). x.site) e)),
)

pub same_stamp-per : IsPartialEquivalence same_stamp
same_stamp-per =
    let per : IsPartialEquivalence nat_eq = partial_equiv_from_equiv nat_eq_equiv in
    and_per (on_per (λ (s : StampValue). s.counter) per) (on_per (λ (s : StampValue). s.site) per)
