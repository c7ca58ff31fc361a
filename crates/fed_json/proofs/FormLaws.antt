-- Forms are made of forms.
use Rattle.std.proofs.Common.{◌≡◌, ℕ, Bool, true, false, Option, Some, None, length, eqb, cond, List, [], ◌∷◌, map, Ok, Err, refl, sym, ap, subst, ◌∙◌, ap₂}
use Rattle.std.specs.Prelude.{is_some, IfSome}
use Rattle.std.specs.List.{AllByRecursion}
use Rattle.std.proofs.lemmas.Bool.{eqb-true, eq-eqb}
use Rattle.std.proofs.lemmas.Slice.Eq.{bytes_eq-Decides}
use Rattle.std.proofs.lemmas.List.{length-map}
use Rattle.serde_json.specs.Data.{Data, null, boolean, number, string, array, object, Items, no_items, item}
use Rattle.serde_json.specs.Find.{as_null}
use Rattle.serde_json.specs.View.{items_of}
use Rattle.fed_lattice.specs.Results.{◌>>=◌, mapped}
use Rattle.fed_lattice.proofs.ResultLaws.{bind_ok, mapped_ok, when_ok, ok_is}
use Rattle.fed_json.specs.declared.flaws.Flaw.TheVariants.{Shape}
use Rattle.fed_json.specs.Reading.{Reading, both, where_true}
use Rattle.fed_json.specs.Values.{list_value, list_of, elements_of, text_of, truth_of, is_word, pair_from, pair_of, pair_value, all_of, array_of, row_of, or_null, null_or}
use Rattle.fed_json.proofs.Forms.{IsForm}
use Rattle.fed_json.proofs.Steps.{both_ok, where_true_ok}

-- ---- arrays

items_of-list_of : (ds : Items) → items_of (list_of ds) ≡ ds
items_of-list_of no_items = refl
items_of-list_of (item d ds) = ap (item d) (items_of-list_of ds)

pub list_of-items_of : (ds : List Data) → list_of (items_of ds) ≡ ds
list_of-items_of [] = refl
list_of-items_of (d ∷ ds) = ap (λ (es : List Data). d ∷ es) (list_of-items_of ds)

pub elements_takes : (d : Data) (ds : List Data) → elements_of d ≡ Ok ds → d ≡ list_value ds
elements_takes (array es) ds e = ap array (sym (items_of-list_of es) ∙ ap items_of (ok_is _ _ e))
elements_takes null ds e = absurd cc
elements_takes (boolean b) ds e = absurd cc
elements_takes (number n) ds e = absurd cc
elements_takes (string s) ds e = absurd cc
elements_takes (object ms) ds e = absurd cc

-- ---- texts

text_takes : (d : Data) (s : List ℕ) → text_of d ≡ Ok s → (d ≡ string s) × Unit {0}
text_takes (string t) s e = (ap string (ok_is _ _ e), tt)
text_takes null s e = absurd cc
text_takes (boolean b) s e = absurd cc
text_takes (number n) s e = absurd cc
text_takes (array ds) s e = absurd cc
text_takes (object ms) s e = absurd cc

pub text_form : IsForm text_of string (λ _. Unit {0})
text_form = record { takes = text_takes; again = λ s h. refl }

truth_takes : (d : Data) (b : Bool) → truth_of d ≡ Ok b → (d ≡ boolean b) × Unit {0}
truth_takes (boolean c) b e = (ap boolean (ok_is _ _ e), tt)
truth_takes null b e = absurd cc
truth_takes (string s) b e = absurd cc
truth_takes (number n) b e = absurd cc
truth_takes (array ds) b e = absurd cc
truth_takes (object ms) b e = absurd cc

pub truth_form : IsForm truth_of boolean (λ _. Unit {0})
truth_form = record { takes = truth_takes; again = λ b h. refl }

pub word_takes : (word : List ℕ) (d : Data) → is_word word d ≡ true → d ≡ string word
word_takes word (string s) e = ap string ((bytes_eq-Decides s word).0 e)
word_takes word null e = absurd cc
word_takes word (boolean b) e = absurd cc
word_takes word (number n) e = absurd cc
word_takes word (array ds) e = absurd cc
word_takes word (object ms) e = absurd cc

-- ---- forms of forms

module _ {A B : Type 0} (f : Data → Reading A) (g : Data → Reading B) (v : A → Data) (w : B → Data) (P : A → Type 0) (Q : B → Type 0) where
  pair_from_takes : IsForm f v P → IsForm g w Q → (ds : List Data) (p : A × B) → pair_from f g ds ≡ Ok p → (list_value ds ≡ pair_value v w p) × (P p.0 × Q p.1)
  pair_from_takes F G (a ∷ b ∷ []) p e =
      let r = both_ok (f a) (g b) p e in
      let x = F.takes a p.0 r.0 in
      let y = G.takes b p.1 r.1 in
      (ap₂ (λ (x y : Data). list_value (x ∷ y ∷ [])) x.0 y.0, (x.1, y.1))
  pair_from_takes F G [] p e = absurd cc
  pair_from_takes F G (a ∷ []) p e = absurd cc
  pair_from_takes F G (a ∷ b ∷ c ∷ ds) p e = absurd cc

  pub pair_form : IsForm f v P → IsForm g w Q → IsForm (pair_of f g) (pair_value v w) (λ p. P p.0 × Q p.1)
  pair_form F G = record {
    takes = λ d p e.
        let l = bind_ok (elements_of d) (pair_from f g) p e in
        let t = pair_from_takes F G l.0 p l.2 in
        (elements_takes d l.0 l.1 ∙ t.0, t.1);
    again = λ p h. rw (F.again p.0 h.0, G.again p.1 h.1) refl;
  }

-- what is read, as another value
pub mapped_form : {A B : Type 0} (f : Data → Reading A) (v : A → Data) (P : A → Type 0) (to : A → B) (w : B → Data) (Q : B → Type 0) → IsForm f v P
    → ((x : A) → P x → (v x ≡ w (to x)) × Q (to x)) → ((y : B) → Q y → (x : A) × P x × (to x ≡ y)) → IsForm (λ d. mapped to (f d)) w Q
mapped_form {A} {B} f v P to w Q F there back = record {
  takes = λ d y e.
      let x = mapped_ok (f d) to y e in
      let t = F.takes d x.0 x.1 in
      let r = there x.0 t.1 in
      subst (λ (y : B). (d ≡ w y) × Q y) x.2 (t.0 ∙ r.0, r.1);
  again = λ y h.
      let x = back y h in
      let same : v x.0 ≡ w y = (there x.0 x.1).0 ∙ ap w x.2 in
      rw (← same, F.again x.0 x.1) (ap (λ (y : B). Ok y) x.2);
}

-- what is read, where it passes a test
pub tested_form : {A : Type 0} (f : Data → Reading A) (v : A → Data) (P : A → Type 0) (test : A → Bool) → IsForm f v P
    → IsForm (λ d. f d >>= where_true test) v (λ x. P x × (test x ≡ true))
tested_form {A} f v P test F = record {
  takes = λ d y e.
      let x = bind_ok (f d) (where_true test) y e in
      let t = where_true_ok test x.0 y (test x.0) refl x.2 in
      let r = F.takes d x.0 x.1 in
      let fits : test y ≡ true = ap test (sym t.0) ∙ t.1 in
      (subst (λ (y : A). d ≡ v y) t.0 r.0, (subst P t.0 r.1, fits));
  again = λ x h. rw (F.again x h.0, h.1) refl;
}

-- ---- arrays of one form

module _ {A : Type 0} (f : Data → Reading A) (v : A → Data) (P : A → Type 0) where
  pub all_takes : IsForm f v P → (ds : List Data) (xs : List A) → all_of f ds ≡ Ok xs → (ds ≡ map v xs) × AllByRecursion P xs
  all_takes F [] xs e = subst (λ (xs : List A). ([] ≡ map v xs) × AllByRecursion P xs) (ok_is [] xs e) (refl, tt)
  all_takes F (d ∷ ds) xs e =
      let m = mapped_ok (both (f d) (all_of f ds)) (λ p. p.0 ∷ p.1) xs e in
      let r = both_ok (f d) (all_of f ds) m.0 m.1 in
      let here = F.takes d m.0.0 r.0 in
      let rest = all_takes F ds m.0.1 r.1 in
      subst (λ (xs : List A). (d ∷ ds ≡ map v xs) × AllByRecursion P xs) m.2 (ap₂ (λ (b : Data) (bs : List Data). b ∷ bs) here.0 rest.0, (here.1, rest.1))

  pub all_again : IsForm f v P → (xs : List A) → AllByRecursion P xs → all_of f (map v xs) ≡ Ok xs
  all_again F [] h = refl
  all_again F (x ∷ xs) h = rw (F.again x h.0, all_again F xs h.1) refl

  pub array_form : IsForm f v P → IsForm (array_of f) (λ xs. list_value (map v xs)) (AllByRecursion P)
  array_form F = record {
    takes = λ d xs e.
        let l = bind_ok (elements_of d) (all_of f) xs e in
        let t = all_takes F l.0 xs l.2 in
        (elements_takes d l.0 l.1 ∙ ap list_value t.0, t.1);
    again = λ xs h. rw (list_of-items_of (map v xs)) (all_again F xs h);
  }

  pub row_form : (n : ℕ) → IsForm f v P → IsForm (row_of n f) (λ xs. list_value (map v xs)) (λ xs. (length xs ≡ n) × AllByRecursion P xs)
  row_form n F = record {
    takes = λ d xs e.
        let l = bind_ok (elements_of d) (λ ds. cond (eqb (length ds) n) (all_of f ds) (Err Shape)) xs e in
        let w = when_ok (eqb (length l.0) n) Shape (all_of f l.0) xs l.2 in
        let t = all_takes F l.0 xs w.1 in
        let many : length xs ≡ n = sym (length-map xs v) ∙ ap length (sym t.0) ∙ eqb-true (length l.0) n w.0 in
        (elements_takes d l.0 l.1 ∙ ap list_value t.0, (many, t.1));
    again = λ xs h.
        let many : eqb (length (map v xs)) n ≡ true = rw (length-map xs v, h.0) (eq-eqb n n refl) in
        rw (list_of-items_of (map v xs), many) (all_again F xs h.1);
  }

-- ---- null or a form

is_null : (d : Data) → is_some (as_null d) ≡ true → d ≡ null
is_null null e = refl
is_null (boolean b) e = absurd cc
is_null (number n) e = absurd cc
is_null (string s) e = absurd cc
is_null (array ds) e = absurd cc
is_null (object ms) e = absurd cc

module _ {A : Type 0} (f : Data → Reading A) (v : A → Data) (P : A → Type 0) where
  or_null_at : IsForm f v P → (d : Data) (b : Bool) (o : Option A) → is_some (as_null d) ≡ b → cond b (Ok None) (mapped (λ x. Some x) (f d)) ≡ Ok o → (d ≡ null_or v o) × IfSome o P
  or_null_at F d true o n e = subst (λ (o : Option A). (d ≡ null_or v o) × IfSome o P) (ok_is None o e) (is_null d n, tt)
  or_null_at F d false o n e =
      let x = mapped_ok (f d) (λ x. Some x) o e in
      subst (λ (o : Option A). (d ≡ null_or v o) × IfSome o P) x.2 (F.takes d x.0 x.1)

  or_null_again : IsForm f v P → ((x : A) → is_some (as_null (v x)) ≡ false) → (o : Option A) → IfSome o P → or_null f (null_or v o) ≡ Ok o
  or_null_again F some None h = refl
  or_null_again F some (Some x) h = rw (some x, F.again x h) refl

  pub or_null_form : IsForm f v P → ((x : A) → is_some (as_null (v x)) ≡ false) → IsForm (or_null f) (null_or v) (λ o. IfSome o P)
  or_null_form F some = record {
    takes = λ d o e. or_null_at F d (is_some (as_null d)) o refl e;
    again = or_null_again F some;
  }

-- the same range in other words
pub ranged_form : {A : Type 0} (f : Data → Reading A) (v : A → Data) (P Q : A → Type 0) → IsForm f v P → ((x : A) → P x → Q x) → ((x : A) → Q x → P x) → IsForm f v Q
ranged_form f v P Q F there back = record {
  takes = λ d x e. let t = F.takes d x e in (t.0, there x t.1);
  again = λ x h. F.again x (back x h);
}
