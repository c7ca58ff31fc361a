-- Fields, stages and marks of unions, of one operation more, and of sets with the same members.
use Rattle.std.specs.Option.{option_cmp}
use Rattle.std.specs.Ordering.{ord_max}
use Rattle.std.specs.Cmp.{IsTotalOrder}
use Rattle.std.specs.List.{cons_option}
use Rattle.std.specs.Prelude.{is_some}
use Rattle.std.proofs.Common.{◌≡◌, [], ◌∷◌, ◌++◌, Bool, true, false, ◌||◌, Option, Some, None, Ordering, refl, ap, subst, ◌∙◌}
use Rattle.fed_stamp.specs.Stamp.{StampValue}
use Rattle.fed_lattice.specs.Sets.{IsSameSet}
use Rattle.fed_lattice.specs.History.{History, OneEach}
use Rattle.fed_lattice.specs.Part.{part}
use Rattle.fed_lattice.specs.PartLaws.{part-append, one_each_part, same_part}
use Rattle.fed_lattice.specs.Latest.{latest}
use Rattle.fed_lattice.specs.Both.{applied_option}
use Rattle.fed_lattice.specs.Register.{stamped_cmp, joined_registers}
use Rattle.fed_lattice.specs.Stage.{greatest_value}
use Rattle.fed_lattice.specs.Flag.{has_changes}
use Rattle.fed_lattice.specs.Stamped.{with_stamp, stamped}
use Rattle.fed_lattice.proofs.StampedLaws.{stamped-append, same_stamped}
use Rattle.fed_lattice.proofs.UnionLaws.{register_union, latest_same, greatest_union, greatest_same, has_changes_union, has_changes_same}
use Rattle.fed_model.specs.declared.grants.GrantStage.{GrantStage}
use Rattle.fed_model.specs.Body.{Body}
use Rattle.fed_model.specs.Field.{deletion_in, field}
use Rattle.fed_model.specs.Grant.{grant_cmp, grant_in, grant_stage}
use Rattle.fed_model.specs.GrantLaws.{grant_total, exact_grant}
use Rattle.fed_theory.specs.JobSteps.{set_register, raise_stage}

max_none : {T : Type 0} (cmp : T → T → Ordering) (x : Option T) → ord_max (option_cmp cmp) x None ≡ x
max_none cmp None = refl
max_none cmp (Some a) = refl

module _ {T : Type 0} (cmp : T → T → Ordering) (o : IsTotalOrder cmp) (says : Body → Option T) where
  pub field_union : (g h : History Body) → OneEach (g ++ h) → field says (g ++ h) ≡ joined_registers cmp (field says g) (field says h)
  field_union g h one =
      ap latest (part-append says g h)
      ∙ register_union cmp o (part says g) (part says h) (subst OneEach (part-append says g h) (one_each_part says (g ++ h) one))

  only : (t : StampValue) (o : Option T) → latest (cons_option (with_stamp t o) []) ≡ with_stamp t o
  only t None = refl
  only t (Some a) = refl

  pub field_push : (h : History Body) (e : StampValue × Body) → OneEach (h ++ e ∷ []) → field says (h ++ e ∷ []) ≡ joined_registers cmp (field says h) (with_stamp e.0 (says e.1))
  field_push h e one = field_union h (e ∷ []) one ∙ ap (joined_registers cmp (field says h)) (only e.0 (says e.1))

  -- where an operation says nothing the register stays
  set : (x : Option (StampValue × T)) (t : StampValue) (o : Option T) → joined_registers cmp x (with_stamp t o) ≡ applied_option (set_register cmp) x t o
  set x t None = max_none (stamped_cmp cmp) x
  set x t (Some a) = refl

  pub field_set : (h : History Body) (e : StampValue × Body) → OneEach (h ++ e ∷ []) → field says (h ++ e ∷ []) ≡ applied_option (set_register cmp) (field says h) e.0 (says e.1)
  field_set h e one = field_push h e one ∙ set (field says h) e.0 (says e.1)

module _ {T : Type 0} (says : Body → Option T) where
  pub field_same : (g h : History Body) → IsSameSet g h → OneEach g → field says g ≡ field says h
  field_same g h same one = latest_same (part says g) (part says h) (same_part says g h same) (one_each_part says g one)

pub grant_union : (g h : History Body) → grant_stage (g ++ h) ≡ ord_max (option_cmp grant_cmp) (grant_stage g) (grant_stage h)
grant_union g h =
    ap (λ l. greatest_value grant_cmp (part grant_in l)) (stamped-append g h)
    ∙ ap (greatest_value grant_cmp) (part-append grant_in (stamped g) (stamped h))
    ∙ greatest_union grant_cmp grant_total exact_grant (part grant_in (stamped g)) (part grant_in (stamped h))

only_grant : (t : StampValue) (o : Option GrantStage) → greatest_value grant_cmp (cons_option (with_stamp t o) []) ≡ o
only_grant t None = refl
only_grant t (Some g) = refl

raised_to : (x : Option GrantStage) (t : StampValue) (o : Option GrantStage) → ord_max (option_cmp grant_cmp) x o ≡ applied_option (raise_stage grant_cmp) x t o
raised_to x t None = max_none grant_cmp x
raised_to x t (Some g) = refl

pub grant_push : (h : History Body) (e : StampValue × Body) → grant_stage (h ++ e ∷ []) ≡ applied_option (raise_stage grant_cmp) (grant_stage h) e.0 (grant_in e)
grant_push h e =
    grant_union h (e ∷ []) ∙ ap (ord_max (option_cmp grant_cmp) (grant_stage h)) (only_grant e.0 (grant_in e)) ∙ raised_to (grant_stage h) e.0 (grant_in e)

pub grant_same : (g h : History Body) → IsSameSet g h → grant_stage g ≡ grant_stage h
grant_same g h same = greatest_same grant_cmp grant_total exact_grant _ _ (same_part grant_in (stamped g) (stamped h) (same_stamped g h same))

pub deleted_union : (g h : History Body) → has_changes (part deletion_in (g ++ h)) ≡ (has_changes (part deletion_in g) || has_changes (part deletion_in h))
deleted_union g h = ap has_changes (part-append deletion_in g h) ∙ has_changes_union (part deletion_in g) (part deletion_in h)

only_deletion : (t : StampValue) (o : Option (Unit {0})) → has_changes (cons_option (with_stamp t o) []) ≡ is_some o
only_deletion t None = refl
only_deletion t (Some u) = refl

marked : (x : Bool) (t : StampValue) (o : Option (Unit {0})) → (x || is_some o) ≡ applied_option (λ _ _ _. true) x t o
marked true t None = refl
marked true t (Some u) = refl
marked false t None = refl
marked false t (Some u) = refl

pub deleted_push : (h : History Body) (e : StampValue × Body) → has_changes (part deletion_in (h ++ e ∷ [])) ≡ applied_option (λ _ _ _. true) (has_changes (part deletion_in h)) e.0 (deletion_in e.1)
deleted_push h e =
    deleted_union h (e ∷ []) ∙ ap (λ b. has_changes (part deletion_in h) || b) (only_deletion e.0 (deletion_in e.1))
    ∙ marked (has_changes (part deletion_in h)) e.0 (deletion_in e.1)

pub deleted_same : (g h : History Body) → IsSameSet g h → has_changes (part deletion_in g) ≡ has_changes (part deletion_in h)
deleted_same g h same = has_changes_same (part deletion_in g) (part deletion_in h) (same_part deletion_in g h same)
