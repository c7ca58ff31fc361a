-- The laws of records of jobs.
use Rattle.std.specs.Cmp.{nat_cmp_total, IsTotalOrder}
use Rattle.std.specs.Cmp.Lexicographic.{pointwise}
use Rattle.std.specs.Ordering.{nat_cmp, eq_by_cmp}
use Rattle.std.proofs.Common.{◌≡◌, ℕ, List, [], ◌++◌, Ordering, Bool, true, nat_eq, replicate, refl, sym, ap, ap₂, subst, ◌∙◌}
use Rattle.std.proofs.lemmas.Map.Lookups.{CmpEqualImpliesEq, exact_unsigned}
use Rattle.fed_stamp.specs.declared.sites.TheConstants.{SITES}
use Rattle.fed_stamp.specs.Stamp.{StampValue}
use Rattle.fed_stamp.specs.Version.{covers, joined as joined_versions, raised}
use Rattle.fed_stamp.proofs.VersionLaws.{joined-assoc, joined-comm, joined-itself}
use Rattle.fed_lattice.specs.Exact.{TellsApart}
use Rattle.fed_lattice.specs.ExactLaws.{tells_numbers, tells_lists, tells_pairs, tells_by_order}
use Rattle.fed_lattice.specs.Sets.{Has}
use Rattle.fed_lattice.specs.History.{History, IsFresh, OneEach, IsCovered, Shares, Agree}
use Rattle.fed_lattice.specs.Laws.{IsAssociative, IsCommutative, IsIdempotent, JoinsWellFormed, BottomsJoin, AddsChange, JoinsHistories, StandsForSets}
use Rattle.fed_lattice.specs.Part.{part}
use Rattle.fed_lattice.specs.Stamped.{stamped}
use Rattle.fed_lattice.proofs.StampedLaws.{stamped-append, stamped-Has, Has-stamped, same_stamped}
use Rattle.fed_lattice.proofs.VersionOfLaws.{joined_zeros, version_of-append, version_of-same}
use Rattle.fed_tags.specs.Tags.{pair_cmp}
use Rattle.fed_tags.specs.TagLaws.{pair_total, exact_pair, sorted_empty, sorted_applied, sorted_joined, joined_tags_assoc, joined_tags_comm, joined_tags_itself, empty_tags_stand, applied_tags_stand, joined_tags_stand, tags_stand_same}
use Rattle.fed_model.specs.declared.holds.HoldKind.{HoldKind}
use Rattle.fed_record.specs.declared.operations.Operation.{Operation}
use Rattle.fed_theory.specs.JobSteps.{JobFieldChanges, JobStageChanges}
use Rattle.fed_record.specs.Changes.{field_changes_of, stage_changes_of, hold_change, site_change, always}
use Rattle.fed_model.specs.Hold.{kind_cmp}
use Rattle.fed_model.specs.HoldLaws.{kind_total, exact_kind}
use Rattle.fed_model.specs.NamedPartLaws.{part_adds_change, part_joins_histories, part_stands_for_sets}
use Rattle.fed_record.specs.Record.{RecordValue}
use Rattle.fed_record.specs.RecordSteps.{same_record, IsRecord, applied_record, joined_records, record_stands_for, IsRecordHistory}

-- ---- the orders of the pairs of holds and of sites
pub hold_order : IsTotalOrder (pair_cmp kind_cmp)
hold_order = pair_total kind_cmp kind_total

pub hold_exact : CmpEqualImpliesEq (pair_cmp kind_cmp)
hold_exact = exact_pair kind_cmp exact_kind

pub site_order : IsTotalOrder (pair_cmp nat_cmp)
site_order = pair_total nat_cmp nat_cmp_total

pub site_exact : CmpEqualImpliesEq (pair_cmp nat_cmp)
site_exact = exact_pair nat_cmp exact_unsigned

-- ---- equality
pub tells_tags : {E : Type 0} (R : E × StampValue → E × StampValue → Ordering) → IsTotalOrder R → CmpEqualImpliesEq R → TellsApart (pointwise (eq_by_cmp R))
tells_tags R o exact = tells_lists (eq_by_cmp R) (tells_by_order R (eq_by_cmp R) o exact (λ _ _. refl))

-- `==` tells records apart where it tells their parts apart
pub tells_records : {F G : Type 0} (eq : F → F → Bool) (same : G → G → Bool) → TellsApart eq → TellsApart same
    → TellsApart (same_record eq same)
tells_records {F} {G} eq same t u x y =
    let w = tells_pairs _ _ (tells_pairs eq same t u)
    (tells_pairs _ _ (tells_pairs _ _ (tells_tags (pair_cmp kind_cmp) hold_order hold_exact) (tells_tags (pair_cmp nat_cmp) site_order site_exact)) (tells_lists nat_eq tells_numbers))
    ((x.fields, x.stages), ((x.holds, x.sites), x.touched)) ((y.fields, y.stages), ((y.holds, y.sites), y.touched)) in (
      λ e. ap (λ (p : (F × G) × ((List (HoldKind × StampValue) × List (ℕ × StampValue)) × List ℕ)).
          let r : RecordValue F G = record { fields = p.0.0; holds = p.1.0.0; sites = p.1.0.1; stages = p.0.1; touched = p.1.1 } in r) (w.0 e),
      λ e. w.1 (ap (λ (r : RecordValue F G). ((r.fields, r.stages), ((r.holds, r.sites), r.touched))) e),
    )

-- ---- histories whose changes say their stamps
module _ {C : Type 0} where
  pub fresh_stamped : (s : StampValue) (h : History C) → IsFresh s h → IsFresh s (stamped h)
  fresh_stamped s h f e k =
      let i = Has-stamped h e k in
      λ p. f e.1 i.0 (ap (λ (x : StampValue × (StampValue × C)). x.0) i.1 ∙ p)

  covered_stamped : (v : List ℕ) (h : History C) → IsCovered v h → IsCovered v (stamped h)
  covered_stamped v h c e k =
      let i = Has-stamped h e k in
      subst (λ (x : StampValue × (StampValue × C)). covers v x.0 ≡ true) i.1 (c e.1 i.0)

  shares_stamped : (v : List ℕ) (g h : History C) → Shares v g h → Shares v (stamped g) (stamped h)
  shares_stamped v g h s e k c =
      let i = Has-stamped g e k in
      subst (λ (x : StampValue × (StampValue × C)). Has (stamped h) x) i.1
      (stamped-Has h e.1 (s e.1 i.0 (subst (λ (x : StampValue × (StampValue × C)). covers v x.0 ≡ true) (sym i.1) c)))

  one_each_stamped : (h : History C) → OneEach h → OneEach (stamped h)
  one_each_stamped h one e f i j same =
      let a = Has-stamped h e i in
      let b = Has-stamped h f j in
      let p : e.1 ≡ f.1 = one e.1 f.1 a.0 b.0 (ap (λ (x : StampValue × (StampValue × C)). x.0) a.1 ∙ same ∙ sym (ap (λ (x : StampValue × (StampValue × C)). x.0) b.1)) in
      sym a.1 ∙ ap (λ (y : StampValue × C). (y.0, y)) p ∙ b.1

  pub agree_stamped : (v w : List ℕ) (g h : History C) → Agree v g w h → Agree v (stamped g) w (stamped h)
  agree_stamped v w g h a = record {
    left_covered = covered_stamped v g a.left_covered;
    right_covered = covered_stamped w h a.right_covered;
    left_shares = shares_stamped w g h a.left_shares;
    right_shares = shares_stamped v h g a.right_shares;
    one_each = subst OneEach (stamped-append g h) (one_each_stamped (g ++ h) a.one_each);
  }

-- ---- records, from the laws of their fields and of their stages
module _ {F G : Type 0} (are_fields : F → Type 0) (are_stages : G → Type 0) where
  pub bottom_is_record : (fields : F) (stages : G) → are_fields fields → are_stages stages
      → IsRecord are_fields are_stages (record { fields = fields; holds = []; sites = []; stages = stages; touched = replicate SITES 0 })
  bottom_is_record fields stages p q = (p, q, sorted_empty (pair_cmp kind_cmp), sorted_empty (pair_cmp nat_cmp))

  pub applied_is_record : (apply_fields : F → StampValue → JobFieldChanges → F) (apply_stages : G → StampValue → JobStageChanges → G)
      → ((x : F) (s : StampValue) (c : JobFieldChanges) → are_fields x → are_fields (apply_fields x s c))
      → ((x : G) (s : StampValue) (c : JobStageChanges) → are_stages x → are_stages (apply_stages x s c))
      → (x : RecordValue F G) (s : StampValue) (c : Operation) → IsRecord are_fields are_stages x → IsRecord are_fields are_stages (applied_record apply_fields apply_stages x s c)
  applied_is_record apply_fields apply_stages f g x s c p = (
    f x.fields s (field_changes_of c) p.0,
    g x.stages s (stage_changes_of (s, c)) p.1,
    sorted_applied (pair_cmp kind_cmp) hold_order hold_exact x.holds s (hold_change c) p.2,
    sorted_applied (pair_cmp nat_cmp) site_order site_exact x.sites s (site_change c) p.3,
  )

module _ {F G : Type 0} (are_fields : F → Type 0) (are_stages : G → Type 0)
    (join_fields : F → List ℕ → F → List ℕ → F) (join_stages : G → List ℕ → G → List ℕ → G) where
  pub joined_are_records : JoinsWellFormed are_fields join_fields → JoinsWellFormed are_stages join_stages
      → JoinsWellFormed (IsRecord are_fields are_stages) (joined_records join_fields join_stages)
  joined_are_records f g x y v w p q = (
    f x.fields y.fields v w p.0 q.0,
    g x.stages y.stages v w p.1 q.1,
    sorted_joined (pair_cmp kind_cmp) hold_order hold_exact x.holds y.holds v w,
    sorted_joined (pair_cmp nat_cmp) site_order site_exact x.sites y.sites v w,
  )

  pub joined_records_assoc : IsAssociative are_fields join_fields → IsAssociative are_stages join_stages
      → IsAssociative (IsRecord are_fields are_stages) (joined_records join_fields join_stages)
  joined_records_assoc f g x y z u v w p q r = λ i. record {
    fields = f x.fields y.fields z.fields u v w p.0 q.0 r.0 i;
    holds = joined_tags_assoc (pair_cmp kind_cmp) hold_order hold_exact x.holds y.holds z.holds u v w p.2 q.2 r.2 i;
    sites = joined_tags_assoc (pair_cmp nat_cmp) site_order site_exact x.sites y.sites z.sites u v w p.3 q.3 r.3 i;
    stages = g x.stages y.stages z.stages u v w p.1 q.1 r.1 i;
    touched = joined-assoc x.touched y.touched z.touched i;
  }

  pub joined_records_comm : IsCommutative are_fields join_fields → IsCommutative are_stages join_stages
      → IsCommutative (IsRecord are_fields are_stages) (joined_records join_fields join_stages)
  joined_records_comm f g x y v w p q = λ i. record {
    fields = f x.fields y.fields v w p.0 q.0 i;
    holds = joined_tags_comm (pair_cmp kind_cmp) hold_order hold_exact x.holds y.holds v w p.2 q.2 i;
    sites = joined_tags_comm (pair_cmp nat_cmp) site_order site_exact x.sites y.sites v w p.3 q.3 i;
    stages = g x.stages y.stages v w p.1 q.1 i;
    touched = joined-comm x.touched y.touched i;
  }

  pub joined_records_itself : IsIdempotent are_fields join_fields → IsIdempotent are_stages join_stages
      → IsIdempotent (IsRecord are_fields are_stages) (joined_records join_fields join_stages)
  joined_records_itself f g x v p = λ i. record {
    fields = f x.fields v p.0 i;
    holds = joined_tags_itself (pair_cmp kind_cmp) hold_order hold_exact x.holds v p.2 i;
    sites = joined_tags_itself (pair_cmp nat_cmp) site_order site_exact x.sites v p.3 i;
    stages = g x.stages v p.1 i;
    touched = joined-itself x.touched i;
  }

pub bottom_records_join : {F G : Type 0} (fields : F) (stages : G) (join_fields : F → List ℕ → F → List ℕ → F) (join_stages : G → List ℕ → G → List ℕ → G)
    → BottomsJoin fields join_fields → BottomsJoin stages join_stages
    → BottomsJoin {X = RecordValue F G} (record { fields = fields; holds = []; sites = []; stages = stages; touched = replicate SITES 0 }) (joined_records join_fields join_stages)
bottom_records_join fields stages join_fields join_stages f g v w = λ i. record {
  fields = f v w i;
  holds = [];
  sites = [];
  stages = g v w i;
  touched = joined_zeros SITES (replicate SITES 0) refl i;
}

-- ---- what records read as
pub bottom_record_stands : {F G : Type 0} (fields : F) (stages : G) (fields_stand_for : F → History JobFieldChanges → Type 0) (stages_stand_for : G → History JobStageChanges → Type 0)
    → fields_stand_for fields [] → stages_stand_for stages []
    → record_stands_for fields_stand_for stages_stand_for (record { fields = fields; holds = []; sites = []; stages = stages; touched = replicate SITES 0 }) []
bottom_record_stands fields stages fields_stand_for stages_stand_for p q = (p, q, empty_tags_stand, empty_tags_stand, refl)

module _ {F G : Type 0} (are_fields : F → Type 0) (are_stages : G → Type 0)
    (is_field_history : History JobFieldChanges → Type 0) (is_stage_history : History JobStageChanges → Type 0)
    (fields_stand_for : F → History JobFieldChanges → Type 0) (stages_stand_for : G → History JobStageChanges → Type 0) where
  pub record_adds_change : (apply_fields : F → StampValue → JobFieldChanges → F) (apply_stages : G → StampValue → JobStageChanges → G)
      → AddsChange are_fields is_field_history fields_stand_for apply_fields → AddsChange are_stages is_stage_history stages_stand_for apply_stages
      → AddsChange (IsRecord are_fields are_stages) (IsRecordHistory is_field_history is_stage_history) (record_stands_for fields_stand_for stages_stand_for) (applied_record apply_fields apply_stages)
  record_adds_change apply_fields apply_stages law rule x h s c p r k f i = (
    part_adds_change (always field_changes_of) _ _ _ _ law x.fields h s c p.0 r.0 k.0 f i.0,
    part_adds_change (always stage_changes_of) _ _ _ _ rule x.stages (stamped h) s (s, c) p.1 r.1 k.1 (fresh_stamped s h f) i.1,
    part_adds_change (always hold_change) _ _ _ _ (applied_tags_stand (pair_cmp kind_cmp) hold_order hold_exact) x.holds h s c p.2 r.2 k.2 f i.2,
    part_adds_change (always site_change) _ _ _ _ (applied_tags_stand (pair_cmp nat_cmp) site_order site_exact) x.sites h s c p.3 r.3 k.3 f i.3,
    ap (λ t. raised t s) r.4,
  )

  pub record_joins_histories : (join_fields : F → List ℕ → F → List ℕ → F) (join_stages : G → List ℕ → G → List ℕ → G)
      → JoinsHistories are_fields is_field_history fields_stand_for join_fields → JoinsHistories are_stages is_stage_history stages_stand_for join_stages
      → JoinsHistories (IsRecord are_fields are_stages) (IsRecordHistory is_field_history is_stage_history) (record_stands_for fields_stand_for stages_stand_for) (joined_records join_fields join_stages)
  record_joins_histories join_fields join_stages law rule x y v w g h p q rx ry a i j = (
    part_joins_histories (always field_changes_of) _ _ _ _ law x.fields y.fields v w g h p.0 q.0 rx.0 ry.0 a i.0 j.0,
    subst (λ l. stages_stand_for (join_stages x.stages v y.stages w) (part (always stage_changes_of) l)) (sym (stamped-append g h))
        (part_joins_histories (always stage_changes_of) _ _ _ _ rule x.stages y.stages v w (stamped g) (stamped h) p.1 q.1 rx.1 ry.1 (agree_stamped v w g h a) i.1 j.1),
    part_joins_histories (always hold_change) _ _ _ _ (joined_tags_stand (pair_cmp kind_cmp) hold_order hold_exact) x.holds y.holds v w g h p.2 q.2 rx.2 ry.2 a i.2 j.2,
    part_joins_histories (always site_change) _ _ _ _ (joined_tags_stand (pair_cmp nat_cmp) site_order site_exact) x.sites y.sites v w g h p.3 q.3 rx.3 ry.3 a i.3 j.3,
    ap₂ joined_versions rx.4 ry.4 ∙ sym (version_of-append g h),
  )

pub record_stands_for_sets : {F G : Type 0} (fields_stand_for : F → History JobFieldChanges → Type 0) (stages_stand_for : G → History JobStageChanges → Type 0)
    → StandsForSets fields_stand_for → StandsForSets stages_stand_for → StandsForSets (record_stands_for fields_stand_for stages_stand_for)
record_stands_for_sets fields_stand_for stages_stand_for law rule x g h e p = (
  part_stands_for_sets (always field_changes_of) _ law x.fields g h e p.0,
  part_stands_for_sets (always stage_changes_of) _ rule x.stages (stamped g) (stamped h) (same_stamped g h e) p.1,
  part_stands_for_sets (always hold_change) _ tags_stand_same x.holds g h e p.2,
  part_stands_for_sets (always site_change) _ tags_stand_same x.sites g h e p.3,
  p.4 ∙ version_of-same g h e,
)
