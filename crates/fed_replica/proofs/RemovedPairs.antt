-- The pairs that an operation of the code lists are those that an answer removes.
use Rattle.std.specs.Prelude.{filter}
use Rattle.std.specs.Cmp.{nat_cmp_total, both_ways}
use Rattle.std.specs.Ordering.{nat_cmp}
use Rattle.std.proofs.Common.{◌≡◌, ℕ, List, true, ◌&&◌, ◌==◌, refl, ap₂, subst}
use Rattle.std.proofs.lemmas.Bool.{and_parts, and_from, eqb-true, eq-eqb}
use Rattle.std.proofs.lemmas.Map.Lookups.{exact_unsigned}
use Rattle.fed_stamp.specs.Stamp.{StampValue, same_stamp}
use Rattle.fed_lattice.proofs.FilterLaws.{Has-filter, filter-Has}
use Rattle.fed_lattice.specs.Sets.{Has}
use Rattle.fed_lattice.specs.SetLaws.{found, any_from}
use Rattle.fed_tags.specs.Tags.{pair_cmp, has}
use Rattle.fed_tags.specs.TagLaws.{pair_total, exact_pair, has_member, member}
use Rattle.fed_model.specs.declared.holds.HoldKind.{HoldKind}
use Rattle.fed_model.specs.declared.holds.HoldKind.TheVariants.{User, Operator, System}
use Rattle.fed_model.specs.declared.holds.HoldKinds.{HoldKinds}
use Rattle.fed_model.specs.Hold.{has_kind, kind_cmp, same_kind}
use Rattle.fed_model.specs.HoldLaws.{kind_total, exact_kind}
use Rattle.fed_record.specs.Operation.{has_site_pair, has_hold_pair}
use Rattle.fed_lattice.specs.ExactLaws.{same_stamp_is, same_stamp_itself}

same_kind_is : (a b : HoldKind) → same_kind a b ≡ true → a ≡ b
same_kind_is User User e = refl
same_kind_is User Operator e = cc
same_kind_is User System e = cc
same_kind_is Operator User e = cc
same_kind_is Operator Operator e = refl
same_kind_is Operator System e = cc
same_kind_is System User e = cc
same_kind_is System Operator e = cc
same_kind_is System System e = refl

same_kind_itself : (a : HoldKind) → same_kind a a ≡ true
same_kind_itself User = refl
same_kind_itself Operator = refl
same_kind_itself System = refl

-- a list of all live pairs of sites, as a record keeps them
pub sites_removed : (xs : List (ℕ × StampValue)) → has_site_pair xs ≡ (λ site tag. has (pair_cmp nat_cmp) xs (site, tag))
sites_removed xs = λ i site tag. same site tag i
  where
    same : (site : ℕ) (tag : StampValue) → has_site_pair xs site tag ≡ has (pair_cmp nat_cmp) xs (site, tag)
    same site tag = both_ways _ _
        (λ e.
        let f = found (λ (p : ℕ × StampValue). p.0 == site && same_stamp p.1 tag) xs e in
        let p = and_parts (f.0.0 == site) (same_stamp f.0.1 tag) f.2 in
        let is : ◌≡◌ {A = ℕ × StampValue} f.0 (site, tag) = ap₂ (λ (s : ℕ) (t : StampValue). (s, t)) (eqb-true f.0.0 site p.0) (same_stamp_is f.0.1 tag p.1) in
        has_member (pair_cmp nat_cmp) (pair_total nat_cmp nat_cmp_total) (exact_pair nat_cmp exact_unsigned) (site, tag) xs (subst (Has xs) is f.1))
        (λ e.
        let m = member (pair_cmp nat_cmp) (pair_total nat_cmp nat_cmp_total) (exact_pair nat_cmp exact_unsigned) (site, tag) xs e in
        any_from (λ (p : ℕ × StampValue). p.0 == site && same_stamp p.1 tag) xs (site, tag) m (and_from (site == site) (same_stamp tag tag) (eq-eqb site site refl) (same_stamp_itself tag)))

-- a list of the live pairs of some kinds of holds
pub holds_removed : (kinds : HoldKinds) (xs : List (HoldKind × StampValue)) → has_hold_pair (filter (λ (p : HoldKind × StampValue). has_kind kinds p.0) xs) ≡ (λ kind tag. has_kind kinds kind && has (pair_cmp kind_cmp) xs (kind, tag))
holds_removed kinds xs = λ i kind tag. same kind tag i
  where
    same : (kind : HoldKind) (tag : StampValue) → has_hold_pair (filter (λ (p : HoldKind × StampValue). has_kind kinds p.0) xs) kind tag ≡ (has_kind kinds kind && has (pair_cmp kind_cmp) xs (kind, tag))
    same kind tag = both_ways _ _
        (λ e.
        let ys : List (HoldKind × StampValue) = filter (λ (p : HoldKind × StampValue). has_kind kinds p.0) xs in
        let f = found (λ (p : HoldKind × StampValue). same_kind p.0 kind && same_stamp p.1 tag) ys e in
        let p = and_parts (same_kind f.0.0 kind) (same_stamp f.0.1 tag) f.2 in
        let is : ◌≡◌ {A = HoldKind × StampValue} f.0 (kind, tag) = ap₂ (λ (k : HoldKind) (t : StampValue). (k, t)) (same_kind_is f.0.0 kind p.0) (same_stamp_is f.0.1 tag p.1) in
        let m = Has-filter (λ (p : HoldKind × StampValue). has_kind kinds p.0) xs (kind, tag) (subst (Has ys) is f.1) in
        and_from (has_kind kinds kind) (has (pair_cmp kind_cmp) xs (kind, tag)) m.1
        (has_member (pair_cmp kind_cmp) (pair_total kind_cmp kind_total) (exact_pair kind_cmp exact_kind) (kind, tag) xs m.0))
        (λ e.
        let p = and_parts (has_kind kinds kind) (has (pair_cmp kind_cmp) xs (kind, tag)) e in
        let m = member (pair_cmp kind_cmp) (pair_total kind_cmp kind_total) (exact_pair kind_cmp exact_kind) (kind, tag) xs p.1 in
        any_from (λ (p : HoldKind × StampValue). same_kind p.0 kind && same_stamp p.1 tag) (filter (λ (p : HoldKind × StampValue). has_kind kinds p.0) xs) (kind, tag)
        (filter-Has (λ (p : HoldKind × StampValue). has_kind kinds p.0) xs (kind, tag) m p.0) (and_from (same_kind kind kind) (same_stamp tag tag) (same_kind_itself kind) (same_stamp_itself tag)))
