use Rattle.std.specs.Prelude.{nat_le, nat_lt, slice_index_or}
use Rattle.std.specs.List.Sorted.{IsPartitionPoint}
use Rattle.std.proofs.Common.{rules, ◌≡◌, ◌≤◌, ◌<◌, ◌&&◌, List, true, false, length, sym, ap, subst, ◌∙◌}
use Rattle.std.proofs.lemmas.Bool.{le-ltb, lt-ltb}
use Rattle.std.proofs.lemmas.Fn.{always_returns_same}
use Rattle.fed_ranges.specs.declared.ranges.Range.{Range}
use Rattle.fed_ranges.specs.Ranges.{has as has_number, IsCanonical}
use Rattle.fed_ranges.proofs.RangePlaces.{found_by, partitioned}
use Rattle.fed_ranges.proofs.ranges.Ranges.has.Goals as goal

pub returns-then-place-len-clause-value : goal.returns-then-place-len-clause-value
returns-then-place-len-clause-value c =
    let rs : List Range = c.deref.result.now in
    let i = c.partition_point-place.result in
    let is : rs ≡ c.args.self.now = c.deref.ensures.value ∙ c.self.view_is in
    let canonical : IsCanonical rs = subst IsCanonical (sym c.deref.ensures.value) c.self.invariant in
    let point : IsPartitionPoint (λ (r : Range). nat_lt r.last c.args.number ≡ true) (λ (r : Range). nat_lt r.last c.args.number ≡ false) rs i =
    c.partition_point-place.ensures.partitioned (λ (r : Range). nat_lt r.last c.args.number) (always_returns_same _ _ _ (λ a r h called. search rules)) (partitioned c.args.number rs canonical) in
    let less : i < length rs = search rules in
    ap (λ (r : Range). nat_le r.first c.args.number) (c.index.ensures ∙ ap (λ (xs : List Range). slice_index_or xs i c.index.result.now) (sym c.deref.ensures.value))
    ∙ sym (ap (λ b. b && nat_le (slice_index_or rs i c.index.result.now).first c.args.number) (lt-ltb i (length rs) less))
    ∙ sym (found_by c.args.number rs i c.index.result.now canonical c.partition_point-place.ensures.bound point)
    ∙ ap (λ xs. has_number xs c.args.number) is

pub returns-else-place-len-clause-value : goal.returns-else-place-len-clause-value
returns-else-place-len-clause-value c =
    let rs : List Range = c.deref.result.now in
    let i = c.partition_point-place.result in
    let none : Range = record { first = 0; last = 0 } in
    let is : rs ≡ c.args.self.now = c.deref.ensures.value ∙ c.self.view_is in
    let canonical : IsCanonical rs = subst IsCanonical (sym c.deref.ensures.value) c.self.invariant in
    let point : IsPartitionPoint (λ (r : Range). nat_lt r.last c.args.number ≡ true) (λ (r : Range). nat_lt r.last c.args.number ≡ false) rs i =
    c.partition_point-place.ensures.partitioned (λ (r : Range). nat_lt r.last c.args.number) (always_returns_same _ _ _ (λ a r h called. search rules)) (partitioned c.args.number rs canonical) in
    let far : length rs ≤ i = search rules in
    le-ltb i c.len.result c.if-place-len.false
    ∙ sym (ap (λ b. b && nat_le (slice_index_or rs i none).first c.args.number) (le-ltb i (length rs) far))
    ∙ sym (found_by c.args.number rs i none canonical c.partition_point-place.ensures.bound point)
    ∙ ap (λ xs. has_number xs c.args.number) is
