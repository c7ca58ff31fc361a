-- That the orders of values tell them apart.
use Rattle.std.specs.Prelude.{◌≡◌, ℕ}
use Rattle.std.specs.Option.{option_cmp}
use Rattle.std.specs.Ordering.{nat_cmp, ordering_then}
use Rattle.std.specs.Cmp.Lexicographic.{slice_cmp}
use Rattle.std.proofs.Common.{ap}
use Rattle.std.proofs.lemmas.Map.Lookups.{CmpEqualImpliesEq, exact_unsigned, exact_pairs}
use Rattle.fed_stamp.proofs.WordLaws.{exact_word}
use Rattle.fed_lattice.specs.GreatestLaws.{exact_option}
use Rattle.fed_model.specs.declared.beginnings.Beginning.{Beginning}
use Rattle.fed_model.specs.declared.beginnings.Ending.{Ending}
use Rattle.fed_model.specs.declared.windows.Window.{Window}

-- the empty account is below every name
pub exact_account : CmpEqualImpliesEq (option_cmp (slice_cmp nat_cmp))
exact_account = exact_option (slice_cmp nat_cmp) exact_word

pub exact_ending : CmpEqualImpliesEq {K = Ending} (λ a b. ordering_then (nat_cmp a.moment b.moment) (nat_cmp a.status b.status))
exact_ending a b e =
    let p : (a.moment, a.status) ≡ (b.moment, b.status) = exact_pairs nat_cmp nat_cmp exact_unsigned exact_unsigned (a.moment, a.status) (b.moment, b.status) e in
    ap (λ (q : ℕ × ℕ). let r : Ending = record { moment = q.0; status = q.1 } in r) p

pub exact_beginning : CmpEqualImpliesEq {K = Beginning} (λ a b. ordering_then (nat_cmp a.moment b.moment) (ordering_then (nat_cmp a.nodes b.nodes) (nat_cmp a.end b.end)))
exact_beginning a b e =
    let p : (a.moment, (a.nodes, a.end)) ≡ (b.moment, (b.nodes, b.end)) = exact_pairs nat_cmp _ exact_unsigned (exact_pairs nat_cmp nat_cmp exact_unsigned exact_unsigned) (a.moment, (a.nodes, a.end)) (b.moment, (b.nodes, b.end)) e in
    ap (λ (q : ℕ × (ℕ × ℕ)). let r : Beginning = record { moment = q.0; nodes = q.1.0; end = q.1.1 } in r) p

pub exact_window : CmpEqualImpliesEq {K = Window} (λ a b. ordering_then (nat_cmp a.site b.site) (ordering_then (nat_cmp a.start b.start) (ordering_then (nat_cmp a.end b.end) (nat_cmp a.nodes b.nodes))))
exact_window a b e =
    let parts : Window → ℕ × (ℕ × (ℕ × ℕ)) = λ w. (w.site, (w.start, (w.end, w.nodes))) in
    let p : parts a ≡ parts b = exact_pairs nat_cmp _ exact_unsigned (exact_pairs nat_cmp _ exact_unsigned (exact_pairs nat_cmp nat_cmp exact_unsigned exact_unsigned)) (parts a) (parts b) e in
    ap (λ (q : ℕ × (ℕ × (ℕ × ℕ))). let r : Window = record { site = q.0; start = q.1.0; end = q.1.1.0; nodes = q.1.1.1 } in r) p
