-- Jobs that are submitted stay so.
use Rattle.std.specs.Option.{option_cmp}
use Rattle.std.specs.Ordering.{is_lt}
use Rattle.std.proofs.Common.{◌≡◌, ℕ, List, Bool, true, false, cond, Option, Some, None, is_some, Ordering, refl}
use Rattle.fed_stamp.specs.Stamp.{StampValue}
use Rattle.fed_lattice.specs.Register.{stamped_cmp, joined_registers}
use Rattle.fed_lattice.specs.Both.{applied_option}
use Rattle.fed_model.specs.declared.values.JobValues.{JobValues}
use Rattle.fed_model.specs.Body.{Body, Body.Submit}
use Rattle.fed_theory.specs.JobSteps.{add_to_job, join_jobs, set_register, fields_in, empty_fields, changed_fields}
use Rattle.fed_theory.proofs.FieldTests.{fields_changed, fields_joined}
use Rattle.fed_model.specs.JobView.{JobFields, JobView}
use Rattle.fed_model.specs.Letter.{is_submitted}

some_of_two : {T : Type 0} (b : Bool) (x y : T) → is_some (cond b (Some x) (Some y)) ≡ true
some_of_two true x y = refl
some_of_two false x y = refl

-- a register that is set stays so
module _ {T : Type 0} (cmp : T → T → Ordering) where
  pub set_left : (x y : Option (StampValue × T)) → is_some x ≡ true → is_some (joined_registers cmp x y) ≡ true
  set_left None y e = cc
  set_left (Some p) None e = refl
  set_left (Some p) (Some q) e = some_of_two (is_lt (option_cmp (stamped_cmp cmp) (Some q) (Some p))) p q

  pub set_right : (x y : Option (StampValue × T)) → is_some y ≡ true → is_some (joined_registers cmp x y) ≡ true
  set_right x None e = cc
  set_right None (Some q) e = refl
  set_right (Some p) (Some q) e = some_of_two (is_lt (option_cmp (stamped_cmp cmp) (Some q) (Some p))) p q

  pub set_more : (x : Option (StampValue × T)) (s : StampValue) (o : Option T) → is_some x ≡ true → is_some (applied_option (set_register cmp) x s o) ≡ true
  set_more x s None e = e
  set_more x s (Some c) e = set_left x (Some (s, c)) e

pub submitted_added : (s : StampValue) (b : Body) (j : JobView) → is_submitted j ≡ true → is_submitted (add_to_job s b j) ≡ true
unfolding add_to_job
submitted_added s b j e = fields_changed (λ _. is_some) (λ _. is_some) s (λ _ cmp x o i. set_more cmp x s o i) j.fields (fields_in b) e

-- a Submit sets all fields
pub submitted_by : (s : StampValue) (owner : List ℕ) (values : JobValues) (held : Bool) (j : JobView) → is_submitted (add_to_job s (Submit owner values held) j) ≡ true
unfolding add_to_job
submitted_by s owner values held j =
    let set : JobFields = changed_fields empty_fields s (fields_in (Submit owner values held)) in
    fields_joined (λ _ _. true) (λ _. is_some) (λ _. is_some) (λ _ cmp x y _ e. set_right cmp x y e) j.fields set refl refl

module _ (v w : List ℕ) (j k : JobView) where
  pub submitted_left : is_submitted j ≡ true → is_submitted (join_jobs v j w k) ≡ true
  unfolding join_jobs
  submitted_left e = fields_joined (λ _. is_some) (λ _ _. true) (λ _. is_some) (λ _ cmp x y i _. set_left cmp x y i) j.fields k.fields e refl

  pub submitted_right : is_submitted k ≡ true → is_submitted (join_jobs v j w k) ≡ true
  unfolding join_jobs
  submitted_right e = fields_joined (λ _ _. true) (λ _. is_some) (λ _. is_some) (λ _ cmp x y _ i. set_right cmp x y i) j.fields k.fields refl e
