-- The members of a job's object.
use Rattle.std.proofs.Common.{◌≡◌, ℕ, true, List, [], ◌∷◌, ◌++◌, length, map, slice_index_or, Option, Some, None, refl, sym, ap, subst}
use Rattle.std.specs.Prelude.{codes, not, option_map}
use Rattle.std.specs.Borrow.{Bor}
use Rattle.std.specs.Cmp.Lexicographic.{slice_cmp}
use Rattle.std.specs.Ordering.{nat_cmp, is_eq}
use Rattle.std.specs.List.{zip}
use Rattle.std.proofs.lemmas.List.FromFn.{fill_by_all}
use Rattle.serde_json.specs.Data.{Data}
use Rattle.serde_json.specs.Find.{get}
use Rattle.serde_json.specs.View.{view}
use Rattle.serde_json.specs.declared.value.Value.{Value}
use Rattle.fed_lattice.specs.Results.{◌>>=◌, mapped}
use Rattle.fed_json.specs.Reading.{Reading, or_shape}
use Rattle.fed_json.specs.Objects.{Named, object_value, member_of}
use Rattle.fed_json.proofs.ObjectLaws.{other}
use Rattle.fed_job_json.specs.declared.formats.Format.{Format}
use Rattle.fed_job_json.specs.declared.formats.Format.TheVariants.{One, Two}
use Rattle.fed_job_json.specs.declared.members.JobMembers.{JobMembers}
use Rattle.fed_job_json.specs.Stamps.{stamp_of}
use Rattle.fed_job_json.specs.Fields.{field_of, account_in}
use Rattle.fed_job_json.specs.Job.{job_names, account_of}
use Rattle.fed_job_json.specs.Members.{account_named, others_named, members_value}

-- ---- the values of an object, one by one

twelve : {A : Type 0} (P : List A → Type 0) (xs : List A) (x : A) → length xs ≡ 12 → ((a b c d e f g h i j k l : A) → P (a ∷ b ∷ c ∷ d ∷ e ∷ f ∷ g ∷ h ∷ i ∷ j ∷ k ∷ l ∷ [])) → P xs
twelve P xs x many each = subst P (sym (fill_by_all (λ k. slice_index_or xs k x) xs 12 x many (λ k less. refl))) (each _ _ _ _ _ _ _ _ _ _ _ _)

thirteen : {A : Type 0} (P : List A → Type 0) (xs : List A) (x : A) → length xs ≡ 13 → ((a b c d e f g h i j k l m : A) → P (a ∷ b ∷ c ∷ d ∷ e ∷ f ∷ g ∷ h ∷ i ∷ j ∷ k ∷ l ∷ m ∷ [])) → P xs
thirteen P xs x many each = subst P (sym (fill_by_all (λ k. slice_index_or xs k x) xs 13 x many (λ k less. refl))) (each _ _ _ _ _ _ _ _ _ _ _ _ _)

abbrev pub Values : Type 0
Values = List (Bor Value)

-- members by their indices, with a .. l for those beyond the end
abbrev pub placed : Option (Bor Value) → Values → (a b c d e f g h i j k l : Bor Value) → JobMembers
placed account vs a b c d e f g h i j k l = record {
  account = account;
  deleted = slice_index_or vs 1 a;
  grant = slice_index_or vs 2 b;
  holds = slice_index_or vs 3 c;
  id = slice_index_or vs 4 d;
  limit = slice_index_or vs 5 e;
  name = slice_index_or vs 6 f;
  nodes = slice_index_or vs 7 g;
  owner = slice_index_or vs 8 h;
  priority = slice_index_or vs 9 i;
  progress = slice_index_or vs 10 j;
  sites = slice_index_or vs 11 k;
  touched = slice_index_or vs 12 l;
}

abbrev Are : Format → Data → Values → Type 0
Are format whole vs = whole ≡ object_value (zip (job_names format) (map (λ v. view v.now) vs))

pub one_is : (whole : Data) (job : Bor Value) (vs : Values) (a b c d e f g h i j k l : Bor Value) → length vs ≡ 12 → Are One whole vs → members_value (placed None (job ∷ (vs ++ [])) a b c d e f g h i j k l) ≡ whole
unfolding members_value
one_is whole job vs a b c d e f g h i j k l many are =
    twelve (λ vs. Are One whole vs → members_value (placed None (job ∷ (vs ++ [])) a b c d e f g h i j k l) ≡ whole) vs job many (λ m n o p q r s t u v w x are. sym are) are

pub two_is : (whole : Data) (vs : Values) (x a b c d e f g h i j k l : Bor Value) → length vs ≡ 13 → Are Two whole vs → members_value (placed (Some (slice_index_or (vs ++ []) 0 x)) (vs ++ []) a b c d e f g h i j k l) ≡ whole
unfolding members_value
two_is whole vs x a b c d e f g h i j k l many are =
    thirteen (λ vs. Are Two whole vs → members_value (placed (Some (slice_index_or (vs ++ []) 0 x)) (vs ++ []) a b c d e f g h i j k l) ≡ whole) vs x many (λ m n o p q r s t u v w y z are. sym are) are

-- ---- each member is found by its name

past_account : (account : Option (Bor Value)) (name : List ℕ) (ms : Named) → not (is_eq (slice_cmp nat_cmp name (codes "account"))) ≡ true
    → get name (object_value (account_named account ++ ms)) ≡ get name (object_value ms)
past_account None name ms e = refl
past_account (Some v) name ms e = other (slice_cmp nat_cmp name (codes "account")) (get name (object_value ms)) (Some (view v.now)) e

-- what is read of a member is read of the object
pub found : {A : Type 0} (m : JobMembers) (name : List ℕ) (v : Bor Value) (read : Data → Reading A) → not (is_eq (slice_cmp nat_cmp name (codes "account"))) ≡ true
    → get name (object_value (others_named m)) ≡ Some (view v.now) → read (view v.now) ≡ member_of name read (members_value m)
unfolding members_value
found m name v read e there = rw (past_account m.account name (others_named m) e, there) refl

-- in format 1 the account is of the stamp that the job is known by
pub account_of_one : (m : JobMembers) → account_of One (members_value m) ≡ mapped (λ id. Some (id, None)) (stamp_of (view m.id.now))
account_of_one m = ap (mapped (λ id. Some (id, None))) (sym (found m (codes "id") m.id stamp_of refl refl))

account_at : (m : JobMembers) (account : Option (Bor Value))
    → member_of (codes "account") (field_of account_in) (object_value (account_named account ++ others_named m)) ≡ or_shape (option_map (λ v. view v.now) account) >>= field_of account_in
account_at m None = refl
account_at m (Some v) = refl

pub account_of_two : (m : JobMembers) → account_of Two (members_value m) ≡ or_shape (option_map (λ v. view v.now) m.account) >>= field_of account_in
unfolding members_value
account_of_two m = account_at m m.account
