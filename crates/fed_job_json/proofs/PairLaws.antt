-- Live pairs are read as what they are the values of.
use Rattle.std.proofs.Common.{◌≡◌, Bool, true, false, cond, List, [], ◌∷◌, Ok, Err, refl, subst}
use Rattle.std.specs.Prelude.{codes}
use Rattle.std.specs.List.{AllByRecursion, list_all}
use Rattle.std.specs.List.Sorted.{IsStrictlySortedBy}
use Rattle.std.specs.declared.cmp.Ordering.{Ordering}
use Rattle.std.specs.declared.cmp.Ordering.TheVariants.{Less, Equal, Greater}
use Rattle.std.specs.Ordering.{is_lt, nat_cmp}
use Rattle.std.proofs.lemmas.Bool.{and_parts}
use Rattle.serde_json.specs.Data.{Data}
use Rattle.fed_lattice.proofs.ResultLaws.{ok_is}
use Rattle.fed_tags.specs.Tags.{pair_cmp}
use Rattle.fed_model.specs.declared.holds.HoldKind.{HoldKind}
use Rattle.fed_model.specs.declared.holds.HoldKind.TheVariants.{User, Operator, System}
use Rattle.fed_model.specs.Hold.{kind_cmp}
use Rattle.fed_json.specs.declared.flaws.Flaw.TheVariants.{Shape}
use Rattle.fed_json.specs.Reading.{Reading}
use Rattle.fed_json.specs.Numbers.{natural_value}
use Rattle.fed_json.specs.Values.{is_word, pair_of, pair_value, array_of}
use Rattle.fed_json.proofs.Forms.{IsForm}
use Rattle.fed_json.proofs.FormLaws.{pair_form, array_form, tested_form, word_takes}
use Rattle.fed_job_json.specs.Stamps.{stamp_value, stamp_of, site_of}
use Rattle.fed_model.specs.Ranges.{IsStamp, IsSite}
use Rattle.fed_job_json.specs.Pairs.{ascends, kind_value, kind_of, pairs_value, pairs_of, ArePairs, holds_value, holds_of, sites_value, sites_of}
use Rattle.fed_job_json.proofs.StampLaws.{site_form, stamp_form}

pub pairs_form : {E : Type 0} (read : Data → Reading E) (v : E → Data) (P : E → Type 0) (cmp : E → E → Ordering) → IsForm read v P → IsForm (pairs_of read cmp) (pairs_value v) (ArePairs P cmp)
pairs_form read v P cmp F = tested_form (array_of (pair_of read stamp_of)) (pairs_value v) (AllByRecursion (λ p. P p.0 × IsStamp p.1)) (ascends (pair_cmp cmp))
    (array_form (pair_of read stamp_of) (pair_value v stamp_value) (λ p. P p.0 × IsStamp p.1) (pair_form read stamp_of v stamp_value P IsStamp F stamp_form))

kind_at : (u o s : Bool) (d : Data) (k : HoldKind) → is_word (codes "u") d ≡ u → is_word (codes "o") d ≡ o → is_word (codes "s") d ≡ s
    → cond u (Ok User) (cond o (Ok Operator) (cond s (Ok System) (Err Shape))) ≡ Ok k → d ≡ kind_value k
kind_at true o s d k is_u is_o is_s e = subst (λ (k : HoldKind). d ≡ kind_value k) (ok_is User k e) (word_takes (codes "u") d is_u)
kind_at false true s d k is_u is_o is_s e = subst (λ (k : HoldKind). d ≡ kind_value k) (ok_is Operator k e) (word_takes (codes "o") d is_o)
kind_at false false true d k is_u is_o is_s e = subst (λ (k : HoldKind). d ≡ kind_value k) (ok_is System k e) (word_takes (codes "s") d is_s)
kind_at false false false d k is_u is_o is_s e = absurd cc

kind_again : (k : HoldKind) → Unit {0} → kind_of (kind_value k) ≡ Ok k
kind_again User h = refl
kind_again Operator h = refl
kind_again System h = refl

kind_form : IsForm kind_of kind_value (λ _. Unit {0})
kind_form = record {
  takes = λ d k e. (kind_at (is_word (codes "u") d) (is_word (codes "o") d) (is_word (codes "s") d) d k refl refl refl e, tt);
  again = kind_again;
}

pub holds_form : IsForm holds_of holds_value (ArePairs (λ _. Unit {0}) kind_cmp)
holds_form = pairs_form kind_of kind_value (λ _. Unit {0}) kind_cmp kind_form

pub sites_form : IsForm sites_of sites_value (ArePairs IsSite nat_cmp)
sites_form = pairs_form site_of natural_value IsSite nat_cmp site_form

-- ---- order

pub less : (o : Ordering) → is_lt o ≡ true → o ≡ Less
less Less e = refl
less Equal e = absurd cc
less Greater e = absurd cc

module _ {A : Type 0} (cmp : A → A → Ordering) where
  all_below : (x : A) (xs : List A) → list_all (λ y. is_lt (cmp x y)) xs ≡ true → AllByRecursion (λ y. cmp x y ≡ Less) xs
  all_below x [] e = tt
  all_below x (y ∷ ys) e =
      let t = and_parts (is_lt (cmp x y)) (list_all (λ z. is_lt (cmp x z)) ys) e in
      (less (cmp x y) t.0, all_below x ys t.1)

  pub sorted_where_ascending : (xs : List A) → ascends cmp xs ≡ true → IsStrictlySortedBy cmp xs
  unfolding IsStrictlySortedBy
  sorted_where_ascending [] e = tt
  sorted_where_ascending (x ∷ xs) e =
      let t = and_parts (list_all (λ y. is_lt (cmp x y)) xs) (ascends cmp xs) e in
      (all_below x xs t.0, sorted_where_ascending xs t.1)

  below_all : (x : A) (xs : List A) → AllByRecursion (λ y. cmp x y ≡ Less) xs → list_all (λ y. is_lt (cmp x y)) xs ≡ true
  below_all x [] h = refl
  below_all x (y ∷ ys) h = rw (h.0, below_all x ys h.1) refl

  pub ascending_where_sorted : (xs : List A) → IsStrictlySortedBy cmp xs → ascends cmp xs ≡ true
  unfolding IsStrictlySortedBy
  ascending_where_sorted [] h = refl
  ascending_where_sorted (x ∷ xs) h = rw (below_all x xs h.0, ascending_where_sorted xs h.1) refl
