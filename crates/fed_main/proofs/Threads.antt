-- What a thread answers, one answer behind another.
use Rattle.std.specs.Prelude.{cond, slice_get, OnOk}
use Rattle.std.specs.Result.{result_and, result_err}
use Rattle.std.specs.List.{concat, cons_option, filter, filter_map}
use Rattle.std.proofs.Common.{◌≡◌, ℕ, ◌+◌, ◌<◌, ◌≤◌, Bool, true, false, List, [], ◌∷◌, ◌++◌, length, get_or, take, drop, map, Option, Some, None, Result, Ok, Err, refl, sym, ap, subst, ◌∙◌, append_assoc, append-nil}
use Rattle.std.proofs.lemmas.List.{drop_more, map-append, take_all, take_more}
use Rattle.std.proofs.lemmas.List.Elements.{filter-append}
use Rattle.std.proofs.lemmas.List.Folds.{concat-append}
use Rattle.fed_threads.specs.Seat.{Known, starts}
use Rattle.fed_main.specs.Thread.{Answers, Each, LogValue}

-- an answer behind those that were given
Each-more : {A : Type 0} (Says : A → Known → Known → List ℕ → Type 0) (xs : List A) (x : A) (a b c : Known) (s t : List ℕ) → Each Says xs a b s → Says x b c t → Each Says (xs ++ x ∷ []) a c (s ++ t)
Each-more Says [] x a b c s t h k = record {
  between = c;
  front = t;
  rest = [];
  first = subst (λ u. Says x u c t) h.0 k;
  next = (refl, refl);
  text_is = ap (λ u. u ++ t) h.1 ∙ sym (append-nil t);
}
Each-more Says (y ∷ xs) x a b c s t h k = record {
  between = h.between;
  front = h.front;
  rest = h.rest ++ t;
  first = h.first;
  next = Each-more Says xs x h.between b c h.rest t h.next k;
  text_is = ap (λ u. u ++ t) h.text_is ∙ append_assoc h.front h.rest t;
}

module _ {A : Type 0} (Says : A → Known → Known → List ℕ → Type 0) where
  pub Answers-none : (a : LogValue) → Answers (Each Says []) a a
  Answers-none a = record { added = []; said = (refl, refl); text_is = sym (append-nil a.text) }

  pub Answers-more : (xs : List A) (x : A) (a b c : LogValue) → Answers (Each Says xs) a b → Answers (Says x) b c → Answers (Each Says (xs ++ x ∷ [])) a c
  Answers-more xs x a b c h k = record {
    added = h.added ++ k.added;
    said = Each-more Says xs x a.known b.known c.known h.added k.added h.said k.said;
    text_is = k.text_is ∙ ap (λ u. u ++ k.added) h.text_is ∙ append_assoc a.text h.added k.added;
  }

  -- a turn of a loop over all
  pub Answers-turn : (all : List A) (i : ℕ) (x : A) (a b c : LogValue) → i < length all → x ≡ get_or all i x → Answers (Each Says (take i all)) a b → Answers (Says x) b c → Answers (Each Says (take (i + 1) all)) a c
  Answers-turn all i x a b c within at h k =
      subst (λ xs. Answers (Each Says xs) a c) (sym (take_more all i x within ∙ ap (λ y. take i all ++ y ∷ []) (sym at))) (Answers-more (take i all) x a b c h k)

  -- the end of a loop over all
  pub Answers-all : (all : List A) (i : ℕ) (a b : LogValue) → length all ≤ i → Answers (Each Says (take i all)) a b → Answers (Each Says all) a b
  Answers-all all i a b done h = subst (λ xs. Answers (Each Says xs) a b) (take_all i all done) h

-- an answer that is added to the text
pub Answers-one : (Says : Known → Known → List ℕ → Type 0) (known next : Known) (text old answer : List ℕ) (after : LogValue) → Says known next answer → old ≡ text
    → after ≡ (let v : LogValue = record { known = next; text = old ++ answer } in v) → Answers Says (let v : LogValue = record { known = known; text = text } in v) after
Answers-one Says known next text old answer after said same is = record {
  added = answer;
  said = subst (λ (v : LogValue). Says known v.known answer) (sym is) said;
  text_is = ap (λ (v : LogValue). v.text) is ∙ ap (λ t. t ++ answer) same;
}

-- what a thread says that began with nothing, and met no fault
pub Answers-whole : {E : Type 0} (Says : Known → Known → List ℕ → Type 0) (ran ended : Result (Unit {0}) E) (before after : LogValue) (known : Known) (text : List ℕ) (fault : Option E)
    → before ≡ (let v : LogValue = record { known = starts; text = [] } in v) → OnOk ran (Answers Says before after) → fault ≡ result_err (result_and ran ended) → known ≡ after.known → text ≡ after.text → fault ≡ None
    → Says starts known text
Answers-whole Says (Err e) ended before after known text fault start h met seat told none = let bad : Some e ≡ None = sym met ∙ none in absurd cc
Answers-whole Says (Ok done) ended before after known text fault start h met seat told none =
    let added : text ≡ h.added = told ∙ h.text_is ∙ ap (λ (v : LogValue). v.text ++ h.added) start in
    subst (λ (v : LogValue). Says v.known known text) start
    (subst (λ k. Says before.known k text) (sym seat)
    (subst (λ t. Says before.known after.known t) (sym added) h.said))

-- ---- the elements at a test, of those that a loop has seen
module _ {L A : Type 0} (f : L → A) (p : A → Bool) (all : List L) (i : ℕ) (x : L) (within : i < length all) (at : x ≡ get_or all i x) where
  seen_more : filter p (map f (take (i + 1) all)) ≡ filter p (map f (take i all)) ++ filter p (f x ∷ [])
  seen_more =
      ap (λ xs. filter p (map f xs)) (take_more all i x within ∙ ap (λ y. take i all ++ y ∷ []) (sym at))
      ∙ ap (filter p) (map-append f (take i all) (x ∷ []))
      ∙ filter-append p (map f (take i all)) (f x ∷ [])

  pub Answers-asked : (Says : A → Known → Known → List ℕ → Type 0) (a b c : LogValue) → p (f x) ≡ true → Answers (Each Says (filter p (map f (take i all)))) a b → Answers (Says (f x)) b c
      → Answers (Each Says (filter p (map f (take (i + 1) all)))) a c
  Answers-asked Says a b c e h k =
      let more : filter p (map f (take (i + 1) all)) ≡ filter p (map f (take i all)) ++ f x ∷ [] =
      seen_more ∙ ap (λ v. filter p (map f (take i all)) ++ cond v (f x ∷ []) []) e in
      subst (λ xs. Answers (Each Says xs) a c) (sym more) (Answers-more Says (filter p (map f (take i all))) (f x) a b c h k)

  pub Answers-passed : (Says : A → Known → Known → List ℕ → Type 0) (a b : LogValue) → p (f x) ≡ false → Answers (Each Says (filter p (map f (take i all)))) a b
      → Answers (Each Says (filter p (map f (take (i + 1) all)))) a b
  Answers-passed Says a b e h =
      let same : filter p (map f (take (i + 1) all)) ≡ filter p (map f (take i all)) =
      seen_more ∙ ap (λ v. filter p (map f (take i all)) ++ cond v (f x ∷ []) []) e ∙ append-nil (filter p (map f (take i all))) in
      subst (λ xs. Answers (Each Says xs) a b) (sym same) h

-- ---- the first of what elements have
module _ {A B : Type 0} (h : A → Option B) (all : List A) (i : ℕ) (x : A) (within : i < length all) (at : x ≡ get_or all i x) where
  first_here : slice_get (filter_map h (drop i all)) 0 ≡ slice_get (cons_option (h x) (filter_map h (drop (i + 1) all))) 0
  first_here = ap (λ xs. slice_get (filter_map h xs) 0) (drop_more all i x within ∙ ap (λ y. y ∷ drop (i + 1) all) (sym at))

  pub first_later : h x ≡ None → slice_get (filter_map h (drop i all)) 0 ≡ slice_get (filter_map h (drop (i + 1) all)) 0
  first_later e = first_here ∙ ap (λ o. slice_get (cons_option o (filter_map h (drop (i + 1) all))) 0) e

  pub first_found : (y : B) → h x ≡ Some y → slice_get (filter_map h (drop i all)) 0 ≡ Some y
  first_found y e = first_here ∙ ap (λ o. slice_get (cons_option o (filter_map h (drop (i + 1) all))) 0) e

-- ---- texts one behind another
pub texts_more : {A : Type 0} (f : A → List ℕ) (all : List A) (i : ℕ) (x : A) → i < length all → x ≡ get_or all i x → concat (map f (take (i + 1) all)) ≡ concat (map f (take i all)) ++ f x
texts_more f all i x within at =
    ap (λ xs. concat (map f xs)) (take_more all i x within ∙ ap (λ y. take i all ++ y ∷ []) (sym at))
    ∙ ap concat (map-append f (take i all) (x ∷ []))
    ∙ concat-append (map f (take i all)) (f x ∷ [])
    ∙ ap (λ t. concat (map f (take i all)) ++ t) (append-nil (f x))
