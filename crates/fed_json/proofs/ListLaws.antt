-- Elements that are read one after another.
use Rattle.std.proofs.Common.{◌≡◌, ℕ, ◌<◌, ◌≤◌, ◌+◌, length, map, drop, slice_index_or, add-one, Bool, true, false, List, [], ◌∷◌, ◌++◌, Ok, Err, refl, sym, ap, ◌∙◌, append_assoc}
use Rattle.std.proofs.Math.Seq.{drop-cons}
use Rattle.std.proofs.lemmas.List.{drop_all, append-nil}
use Rattle.serde_json.specs.Data.{Data}
use Rattle.serde_json.specs.View.{view}
use Rattle.serde_json.specs.declared.value.Value.{Value}
use Rattle.fed_lattice.specs.Results.{mapped}
use Rattle.fed_json.specs.declared.flaws.Flaw.TheVariants.{Shape, Range}
use Rattle.fed_json.specs.Reading.{Reading, both}
use Rattle.fed_json.specs.Values.{all_of}

-- what a list is read as, by whether those read so far are in range, those themselves, and what the rest is read as
abbrev pub after : {A : Type 0} → Bool → List A → Reading (List A) → Reading (List A)
after true before rest = mapped (λ xs. before ++ xs) rest
after false before (Ok xs) = Err Range
after false before (Err e) = Err e

pub after_none : {A : Type 0} (rest : Reading (List A)) → after true [] rest ≡ rest
after_none (Ok xs) = refl
after_none (Err e) = refl

module _ {A : Type 0} (f : Data → Reading A) where
  good : (b : Bool) (before : List A) (x : A) (rest : Reading (List A)) → after b before (mapped (λ p. p.0 ∷ p.1) (both (Ok x) rest)) ≡ after b (before ++ x ∷ []) rest
  good true before x (Ok xs) = ap (λ (ys : List A). Ok ys) (sym (append_assoc before (x ∷ []) xs))
  good true before x (Err e) = refl
  good false before x (Ok xs) = refl
  good false before x (Err e) = refl

  pub after_good : (b : Bool) (before : List A) (d : Data) (x : A) (ds : List Data) → f d ≡ Ok x → after b before (all_of f (d ∷ ds)) ≡ after b (before ++ x ∷ []) (all_of f ds)
  after_good b before d x ds e = rw e (good b before x (all_of f ds))

  bad : (b : Bool) (before others : List A) (rest : Reading (List A)) → after b before (mapped (λ p. p.0 ∷ p.1) (both (Err Range) rest)) ≡ after false others rest
  bad true before others (Ok xs) = refl
  bad true before others (Err e) = refl
  bad false before others (Ok xs) = refl
  bad false before others (Err e) = refl

  pub after_range : (b : Bool) (before others : List A) (d : Data) (ds : List Data) → f d ≡ Err Range → after b before (all_of f (d ∷ ds)) ≡ after false others (all_of f ds)
  after_range b before others d ds e = rw e (bad b before others (all_of f ds))

  shape : (b : Bool) (before : List A) (rest : Reading (List A)) → after b before (mapped (λ p. p.0 ∷ p.1) (both (Err Shape) rest)) ≡ Err Shape
  shape true before rest = refl
  shape false before rest = refl

  pub after_shape : (b : Bool) (before : List A) (d : Data) (ds : List Data) → f d ≡ Err Shape → after b before (all_of f (d ∷ ds)) ≡ Err Shape
  after_shape b before d ds e = rw e (shape b before (all_of f ds))

pub both-mapped : {A B C D : Type 0} (f : A → C) (g : B → D) (r : Reading A) (q : Reading B) → both (mapped f r) (mapped g q) ≡ mapped (λ p. (f p.0, g p.1)) (both r q)
both-mapped f g (Ok x) (Ok y) = refl
both-mapped f g (Ok x) (Err e) = refl
both-mapped f g (Err Shape) q = refl
both-mapped f g (Err Range) (Ok y) = refl
both-mapped f g (Err Range) (Err e) = refl

pub mapped-mapped : {A B C : Type 0} (f : A → B) (g : B → C) (r : Reading A) → mapped g (mapped f r) ≡ mapped (λ x. g (f x)) r
mapped-mapped f g (Ok x) = refl
mapped-mapped f g (Err e) = refl

-- ---- values in memory, one after another

pub first_left : (vs : List Value) (i : ℕ) (v : Value) → i < length vs → v ≡ slice_index_or vs i v → map view (drop i vs) ≡ view v ∷ map view (drop (i + 1) vs)
first_left vs i v h e = rw (drop-cons vs i v h, ← e, add-one) refl

module _ {A : Type 0} (f : Data → Reading A) where
  pub step_good : (vs : List Value) (i : ℕ) (v : Value) (b : Bool) (before : List A) (x : A) → i < length vs → v ≡ slice_index_or vs i v → Ok x ≡ f (view v)
      → after b before (all_of f (map view (drop i vs))) ≡ after b (before ++ x ∷ []) (all_of f (map view (drop (i + 1) vs)))
  step_good vs i v b before x h e r = rw (first_left vs i v h e) (after_good f b before (view v) x (map view (drop (i + 1) vs)) (sym r))

  pub step_range : (vs : List Value) (i : ℕ) (v : Value) (b : Bool) (before others : List A) → i < length vs → v ≡ slice_index_or vs i v → Err Range ≡ f (view v)
      → after b before (all_of f (map view (drop i vs))) ≡ after false others (all_of f (map view (drop (i + 1) vs)))
  step_range vs i v b before others h e r = rw (first_left vs i v h e) (after_range f b before others (view v) (map view (drop (i + 1) vs)) (sym r))

  pub step_shape : (vs : List Value) (i : ℕ) (v : Value) (b : Bool) (before : List A) → i < length vs → v ≡ slice_index_or vs i v → Err Shape ≡ f (view v)
      → after b before (all_of f (map view (drop i vs))) ≡ Err Shape
  step_shape vs i v b before h e r = rw (first_left vs i v h e) (after_shape f b before (view v) (map view (drop (i + 1) vs)) (sym r))

  -- at the end of the list
  pub end_good : (vs : List Value) (i : ℕ) (b : Bool) (xs : List A) (whole : Reading (List A)) → length vs ≤ i → b ≡ true → after b xs (all_of f (map view (drop i vs))) ≡ whole → Ok xs ≡ whole
  end_good vs i b xs whole h t e =
      let none : all_of f (map view (drop i vs)) ≡ Ok [] = rw (drop_all i vs h) refl in
      let last : after true xs (Ok []) ≡ whole = sym (ap (after true xs) none) ∙ ap (λ b. after b xs (all_of f (map view (drop i vs)))) (sym t) ∙ e in
      ap (λ (ys : List A). Ok ys) (sym (append-nil xs)) ∙ last

  pub end_bad : (vs : List Value) (i : ℕ) (b : Bool) (xs : List A) (whole : Reading (List A)) → length vs ≤ i → b ≡ false → after b xs (all_of f (map view (drop i vs))) ≡ whole → Err Range ≡ whole
  end_bad vs i b xs whole h t e =
      let none : all_of f (map view (drop i vs)) ≡ Ok [] = rw (drop_all i vs h) refl in
      sym (ap (after false xs) none) ∙ ap (λ b. after b xs (all_of f (map view (drop i vs)))) (sym t) ∙ e
