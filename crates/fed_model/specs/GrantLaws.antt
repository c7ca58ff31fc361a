-- That the order of the stages of grants is total and tells them apart.
use Rattle.std.specs.Prelude.{◌≡◌, ℕ}
use Rattle.std.specs.Ordering.{nat_cmp}
use Rattle.std.specs.Cmp.{IsTotalOrder, nat_cmp_total}
use Rattle.std.proofs.Common.{ap}
use Rattle.std.proofs.lemmas.Cmp.{on_total, then_total}
use Rattle.std.proofs.lemmas.Map.Lookups.{CmpEqualImpliesEq, exact_unsigned, exact_pairs}
use Rattle.fed_stamp.specs.Stamp.{StampValue}
use Rattle.fed_lattice.specs.ExactLaws.{exact_stamp}
use Rattle.fed_lattice.specs.Latest.{stamp_cmp}
use Rattle.fed_lattice.specs.LatestLaws.{stamp_total}
use Rattle.fed_model.specs.declared.grants.GrantStage.{GrantStage}
use Rattle.fed_model.specs.declared.grants.GrantStage.TheVariants.{Open, Returned}
use Rattle.fed_model.specs.Grant.{term_of, rank_of, stamp_of, site_or_0, grant_cmp}

pub grant_total : IsTotalOrder grant_cmp
grant_total = then_total (on_total term_of nat_cmp_total) (then_total (on_total rank_of nat_cmp_total) (then_total (on_total stamp_of stamp_total) (on_total site_or_0 nat_cmp_total)))

-- the parts that stages are compared by
abbrev Parts : Type 0
Parts = ℕ × (ℕ × (StampValue × ℕ))

abbrev parts_of : GrantStage → Parts
parts_of g = (term_of g, (rank_of g, (stamp_of g, site_or_0 g)))

same_parts : (g h : GrantStage) → parts_of g ≡ parts_of h → g ≡ h
same_parts (Open a s k) (Open b t l) e =
    let p : a ≡ b = ap (λ (x : Parts). x.0) e in let q : s ≡ t = ap (λ (x : Parts). x.1.1.0) e in let r : k ≡ l = ap (λ (x : Parts). x.1.1.1) e in cc
same_parts (Open a s k) (Returned b t) e = let p : ◌≡◌ {A = ℕ} 0 1 = ap (λ (x : Parts). x.1.0) e in cc
same_parts (Returned a s) (Open b t l) e = let p : ◌≡◌ {A = ℕ} 1 0 = ap (λ (x : Parts). x.1.0) e in cc
same_parts (Returned a s) (Returned b t) e =
    let p : a ≡ b = ap (λ (x : Parts). x.0) e in let q : s ≡ t = ap (λ (x : Parts). x.1.1.0) e in cc

pub exact_grant : CmpEqualImpliesEq grant_cmp
exact_grant g h e =
    same_parts g h
    (exact_pairs nat_cmp _ exact_unsigned
    (exact_pairs nat_cmp _ exact_unsigned
    (exact_pairs stamp_cmp nat_cmp exact_stamp exact_unsigned)) (parts_of g) (parts_of h) e)
