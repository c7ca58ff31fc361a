-- What the parts of a record read as after a change.
use Rattle.std.specs.Ordering.{nat_cmp, is_eq, eq_by_cmp}
use Rattle.std.specs.List.{list_any, range_with_len}
use Rattle.std.specs.Cmp.{IsTotalOrder, nat_cmp_total, both_ways}
use Rattle.std.proofs.Common.{◌≡◌, ℕ, zero, suc, ◌+◌, ◌<◌, List, [], ◌∷◌, Bool, true, not, ◌&&◌, ◌||◌, Option, Some, None, Ordering, filter, nat_eq, nat_lt, refl, sym, ap, ap₂, subst, ◌∙◌, inl, inr, arith}
use Rattle.std.proofs.lemmas.Bool.{and_parts, ltb-true, and_from}
use Rattle.std.proofs.lemmas.Cmp.{tied_itself}
use Rattle.std.proofs.lemmas.Map.Lookups.{CmpEqualImpliesEq, exact_unsigned}
use Rattle.std.proofs.lemmas.Map.Views.{tells_apart}
use Rattle.fed_stamp.specs.Stamp.{StampValue, same_stamp}
use Rattle.fed_lattice.specs.Exact.{TellsApart}
use Rattle.fed_lattice.specs.ExactLaws.{tells_numbers, same_stamp_is, same_stamp_itself}
use Rattle.fed_lattice.proofs.FilterLaws.{Has-filter, filter-Has}
use Rattle.fed_lattice.specs.FlagLaws.{or_comm}
use Rattle.fed_lattice.specs.Sets.{Has}
use Rattle.fed_tags.specs.Tags.{pair_cmp, has, stamped, applied_tags}
use Rattle.fed_tags.specs.TagLaws.{pair_total, exact_pair, has_member, member, has_applied, stamped_at}
use Rattle.fed_model.specs.declared.holds.HoldKind.{HoldKind}
use Rattle.fed_model.specs.declared.holds.HoldKind.TheVariants.{User, Operator, System}
use Rattle.fed_record.specs.declared.operations.JobOperation.{JobOperation}
use Rattle.fed_record.specs.declared.operations.Operation.{Operation}
use Rattle.fed_model.specs.Body.{Body, Body.Submit, Body.OfJob, JobBody.Set}
use Rattle.fed_model.specs.Hold.{all_kinds, same_kind, kind_cmp}
use Rattle.fed_record.specs.Changes.{removed_holds, removed_sites, hold_change, site_change}
use Rattle.fed_model.specs.HoldLaws.{kind_total, exact_kind}
use Rattle.fed_record.specs.Operation.{body_of}
use Rattle.fed_model.specs.Pairs.{adds_pair, adds_site, removes_site, adds_hold, removes_hold, is_site_named}
use Rattle.fed_theory.specs.JobSteps.{add_live}

-- ---- live pairs
module _ {E : Type 0} (cmp : E → E → Ordering) (o : IsTotalOrder cmp) (exact : CmpEqualImpliesEq cmp) (same : E → E → Bool) (tells : TellsApart same) where
  pair_test : (e : E) (tag : StampValue) (p : E × StampValue) → eq_by_cmp (pair_cmp cmp) (e, tag) p ≡ (same p.0 e && same_stamp p.1 tag)
  pair_test e tag p = both_ways _ _
      (λ t.
      let q : (e, tag) ≡ p = tells_apart (exact_pair cmp exact) (e, tag) p t in
      and_from _ _ ((tells p.0 e).1 (sym (ap (λ (r : E × StampValue). r.0) q))) (ap (λ (u : StampValue). same_stamp u tag) (sym (ap (λ (r : E × StampValue). r.1) q)) ∙ same_stamp_itself tag))
      (λ t.
      let b = and_parts (same p.0 e) (same_stamp p.1 tag) t in
      let q : p ≡ (e, tag) = ap₂ (λ (x : E) (y : StampValue). (x, y)) ((tells p.0 e).0 b.0) (same_stamp_is p.1 tag b.1) in
      ap (λ (r : E × StampValue). is_eq (pair_cmp cmp (e, tag) r)) q ∙ ap is_eq (tied_itself (pair_total cmp o) (e, tag)))

  -- whether a list has a pair
  pub has_test : (e : E) (tag : StampValue) (xs : List (E × StampValue)) → has (pair_cmp cmp) xs (e, tag) ≡ list_any (λ (p : E × StampValue). same p.0 e && same_stamp p.1 tag) xs
  has_test e tag [] = refl
  has_test e tag (p ∷ xs) = ap₂ (λ a b. a || b) (pair_test e tag p) (has_test e tag xs)

  stamped-Has : (s : StampValue) (ts : List E) (t : E) → Has ts t → Has (stamped s ts) (t, s)
  stamped-Has s (u ∷ ts) t (inl e) = inl (ap (λ (w : E). (w, s)) e)
  stamped-Has s (u ∷ ts) t (inr h) = inr (stamped-Has s ts t h)
  stamped-Has s [] t h = absurd h

  -- whether a pair is among those that are added
  added_test : (adds : E → Bool) (all : List E) → ((x : E) → adds x ≡ true → Has all x) → (s : StampValue) (e : E) (tag : StampValue)
      → has (pair_cmp cmp) (stamped s (filter adds all)) (e, tag) ≡ (same_stamp s tag && adds e)
  added_test adds all each s e tag = both_ways _ _
      (λ t.
      let m = stamped_at (pair_cmp cmp) (pair_total cmp o) (exact_pair cmp exact) s (filter adds all) (e, tag) (member (pair_cmp cmp) (pair_total cmp o) (exact_pair cmp exact) (e, tag) _ t) in
      and_from _ _ (ap (λ (u : StampValue). same_stamp s u) m.1 ∙ same_stamp_itself s) (Has-filter adds all e m.0).1)
      (λ t.
      let b = and_parts (same_stamp s tag) (adds e) t in
      let m : Has (stamped s (filter adds all)) (e, s) = stamped-Has s (filter adds all) e (filter-Has adds all e (each e b.1) b.1) in
      has_member (pair_cmp cmp) (pair_total cmp o) (exact_pair cmp exact) (e, tag) _ (subst (λ (u : StampValue). Has (stamped s (filter adds all)) (e, u)) (same_stamp_is s tag b.0) m))

  -- a pair, after elements are added and pairs are removed
  pub pair_applied : (adds : E → Bool) (all : List E) → ((x : E) → adds x ≡ true → Has all x) → (xs removed : List (E × StampValue)) (s : StampValue) (e : E) (tag : StampValue) (gone : Bool)
      → has (pair_cmp cmp) removed (e, tag) ≡ gone
      → has (pair_cmp cmp) (applied_tags (pair_cmp cmp) xs s (filter adds all, removed)) (e, tag) ≡ add_live (has (pair_cmp cmp) xs (e, tag)) (same_stamp s tag && adds e) gone
  pair_applied adds all each xs removed s e tag gone r =
      has_applied (pair_cmp cmp) (pair_total cmp o) (exact_pair cmp exact) (e, tag) xs s (filter adds all, removed)
      ∙ (λ i. (added_test adds all each s e tag i || has (pair_cmp cmp) xs (e, tag)) && not (r i))
      ∙ ap (λ b. b && not gone) (or_comm (same_stamp s tag && adds e) (has (pair_cmp cmp) xs (e, tag)))

-- ---- holds
pub tells_kinds : TellsApart same_kind
tells_kinds User User = (λ _. refl, λ _. refl)
tells_kinds User Operator = (λ e. cc, λ e. cc)
tells_kinds User System = (λ e. cc, λ e. cc)
tells_kinds Operator User = (λ e. cc, λ e. cc)
tells_kinds Operator Operator = (λ _. refl, λ _. refl)
tells_kinds Operator System = (λ e. cc, λ e. cc)
tells_kinds System User = (λ e. cc, λ e. cc)
tells_kinds System Operator = (λ e. cc, λ e. cc)
tells_kinds System System = (λ _. refl, λ _. refl)

pub every_kind : (adds : HoldKind → Bool) (kind : HoldKind) → adds kind ≡ true → Has all_kinds kind
every_kind adds User e = inl refl
every_kind adds Operator e = inr (inl refl)
every_kind adds System e = inr (inr (inl refl))

pub removed_hold : (c : Operation) (kind : HoldKind) (tag : StampValue) → has (pair_cmp kind_cmp) (removed_holds c) (kind, tag) ≡ removes_hold (body_of c) kind tag
removed_hold (Operation.OfJob job (JobOperation.Release removed)) kind tag = has_test kind_cmp kind_total exact_kind same_kind tells_kinds kind tag removed.items
removed_hold _ kind tag = refl

pub hold_applied : (xs : List (HoldKind × StampValue)) (s : StampValue) (c : Operation) (kind : HoldKind) (tag : StampValue)
    → has (pair_cmp kind_cmp) (applied_tags (pair_cmp kind_cmp) xs s (hold_change c)) (kind, tag)
    ≡ add_live (has (pair_cmp kind_cmp) xs (kind, tag)) (adds_pair adds_hold removes_hold kind tag (s, body_of c)) (removes_hold (body_of c) kind tag)
hold_applied xs s c kind tag =
    pair_applied kind_cmp kind_total exact_kind same_kind tells_kinds (adds_hold (body_of c)) all_kinds (every_kind (adds_hold (body_of c))) xs (removed_holds c) s kind tag _ (removed_hold c kind tag)

-- ---- sites
pub range-Has : (n a k : ℕ) → k < n → Has (range_with_len a n) (a + k)
range-Has zero a k h = absurd (omega arith)
range-Has (suc n) a zero h = inl (let e : a ≡ a + zero = omega arith in e)
range-Has (suc n) a (suc k) h = inr (subst (Has (range_with_len (a + 1) n)) (let e : (a + 1) + k ≡ a + suc k = omega arith in e) (range-Has n (a + 1) k (omega arith)))

pub below_16 : (site : ℕ) → nat_lt site 16 ≡ true → Has (range_with_len 0 16) site
below_16 site e = subst (Has (range_with_len 0 16)) (let z : 0 + site ≡ site = omega arith in z) (range-Has 16 0 site (ltb-true site 16 e))

named_below : (sites : Option (List Bool)) (site : ℕ) → is_site_named sites site ≡ true → Has (range_with_len 0 16) site
named_below None site e = cc
named_below (Some sites) site e = below_16 site (and_parts (nat_lt site 16) _ e).0

pub every_site : (b : Body) (site : ℕ) → adds_site b site ≡ true → Has (range_with_len 0 16) site
every_site (Submit owner values held) site e = below_16 site (and_parts (nat_lt site 16) _ e).0
every_site (OfJob job (Set changes removed)) site e = named_below changes.sites site e
every_site _ site e = cc

pub removed_site : (c : Operation) (site : ℕ) (tag : StampValue) → has (pair_cmp nat_cmp) (removed_sites c) (site, tag) ≡ removes_site (body_of c) site tag
removed_site (Operation.OfJob job (JobOperation.Set changes removed)) site tag = has_test nat_cmp nat_cmp_total exact_unsigned nat_eq tells_numbers site tag removed.items
removed_site _ site tag = refl

pub site_applied : (xs : List (ℕ × StampValue)) (s : StampValue) (c : Operation) (site : ℕ) (tag : StampValue)
    → has (pair_cmp nat_cmp) (applied_tags (pair_cmp nat_cmp) xs s (site_change c)) (site, tag)
    ≡ add_live (has (pair_cmp nat_cmp) xs (site, tag)) (adds_pair adds_site removes_site site tag (s, body_of c)) (removes_site (body_of c) site tag)
site_applied xs s c site tag =
    pair_applied nat_cmp nat_cmp_total exact_unsigned nat_eq tells_numbers (adds_site (body_of c)) (range_with_len 0 16) (every_site (body_of c)) xs (removed_sites c) s site tag _ (removed_site c site tag)
