-- Fields are read as what they are the values of.
use Rattle.std.proofs.Common.{◌≡◌, ℕ, Bool, true, false, cond, List, [], ◌∷◌, Option, Some, None, Ok, refl, ap, subst, ◌∙◌}
use Rattle.serde_json.specs.Data.{Data, string}
use Rattle.fed_stamp.specs.Stamp.{StampValue}
use Rattle.fed_stamp.specs.Word.{is_name}
use Rattle.fed_lattice.proofs.ResultLaws.{bind_ok, ok_is}
use Rattle.fed_model.specs.Account.{account_of, text_of as text_of_account}
use Rattle.fed_json.specs.Reading.{Reading, or_range}
use Rattle.fed_json.specs.Values.{text_of, pair_of, pair_value}
use Rattle.fed_json.specs.Numbers.{natural_value, integer_value, integer_of}
use Rattle.fed_model.specs.Ranges.{IsFrom, IsStamp, IsName, is_priority, IsPriority, IsAccount}
use Rattle.fed_json.proofs.Forms.{IsForm}
use Rattle.fed_json.proofs.NumberLaws.{natural_form, integer_form}
use Rattle.fed_json.proofs.FormLaws.{pair_form, mapped_form, tested_form, ranged_form, text_form}
use Rattle.fed_stamp.specs.declared.rosters.TheConstants.{MAX_NODES}
use Rattle.fed_model.specs.declared.limits.TheConstants.{MAX_LIMIT}
use Rattle.fed_job_json.specs.Stamps.{stamp_value, stamp_of}
use Rattle.fed_job_json.specs.Fields.{field_value, field_of, IsField, name_of, priority_of, nodes_of, limit_of, account_value, account_in}
use Rattle.fed_job_json.proofs.StampLaws.{stamp_form}

module _ {T : Type 0} (read : Data → Reading T) (v : T → Data) (P : T → Type 0) where
  back : (o : Option (StampValue × T)) → IsField P o → (p : T × StampValue) × (P p.0 × IsStamp p.1) × (Some (p.1, p.0) ≡ o)
  back None h = absurd h
  back (Some f) h = ((f.1, f.0), (h.1, h.0), refl)

  pub field_form : IsForm read v P → IsForm (field_of read) (field_value v) (IsField P)
  field_form F = mapped_form (pair_of read stamp_of) (pair_value v stamp_value) (λ p. P p.0 × IsStamp p.1) (λ p. Some (p.1, p.0)) (field_value v) (IsField P)
      (pair_form read stamp_of v stamp_value P IsStamp F stamp_form)
      (λ p h. (refl, (h.1, h.0))) back

pub name_form : IsForm name_of string IsName
name_form = ranged_form name_of string (λ s. Unit {0} × IsName s) IsName (tested_form text_of string (λ _. Unit {0}) is_name text_form) (λ s h. h.1) (λ s h. (tt, h))

pub priority_form : IsForm priority_of integer_value IsPriority
priority_form = ranged_form priority_of integer_value (λ n. Unit {0} × IsPriority n) IsPriority (tested_form integer_of integer_value (λ _. Unit {0}) is_priority integer_form) (λ n h. h.1) (λ n h. (tt, h))

pub nodes_form : IsForm nodes_of natural_value (IsFrom 1 MAX_NODES)
nodes_form = natural_form 1 MAX_NODES

pub limit_form : IsForm limit_of natural_value (IsFrom 1 MAX_LIMIT)
limit_form = natural_form 1 MAX_LIMIT

-- ---- accounts

named : (text : List ℕ) (b : Bool) (a : Option (List ℕ)) → is_name text ≡ b → or_range (cond b (Some (Some text)) None) ≡ Ok a → (text ≡ text_of_account a) × IsAccount a
named text true a t e = subst (λ (a : Option (List ℕ)). (text ≡ text_of_account a) × IsAccount a) (ok_is (Some text) a e) (refl, t)
named text false a t e = absurd cc

account_takes : (text : List ℕ) (a : Option (List ℕ)) → or_range (account_of text) ≡ Ok a → (text ≡ text_of_account a) × IsAccount a
account_takes [] a e = subst (λ (a : Option (List ℕ)). ([] ≡ text_of_account a) × IsAccount a) (ok_is None a e) (refl, tt)
account_takes (b ∷ text) a e = named (b ∷ text) (is_name (b ∷ text)) a refl e

no_name : is_name [] ≡ true → ⊥
unfolding is_name
no_name e = cc

account_again : (a : Option (List ℕ)) → IsAccount a → account_in (account_value a) ≡ Ok a
account_again None h = refl
account_again (Some []) h = absurd (no_name h)
account_again (Some (b ∷ name)) h = rw h refl

pub account_form : IsForm account_in account_value IsAccount
account_form = record {
  takes = λ d a e.
      let t = bind_ok (text_of d) (λ text. or_range (account_of text)) a e in
      let r = account_takes t.0 a t.2 in
      (((text_form).takes d t.0 t.1).0 ∙ ap string r.0, r.1);
  again = account_again;
}
