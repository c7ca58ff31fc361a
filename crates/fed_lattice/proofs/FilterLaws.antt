-- Laws of the members that pass a test.
use Rattle.std.proofs.Common.{◌≡◌, ℕ, List, [], ◌∷◌, ◌++◌, Bool, true, false, refl, ap, subst, sym, ◌∙◌, inl, inr}
use Rattle.std.specs.Prelude.{if◌then◌else◌, filter}
use Rattle.std.proofs.lemmas.Bool.{both_ways}
use Rattle.std.proofs.lemmas.List.Elements.{filter-append}
use Rattle.fed_stamp.specs.Stamp.{StampValue}
use Rattle.fed_lattice.specs.Sets.{Has, Includes, IsSameSet}
use Rattle.fed_lattice.specs.History.{History, OneEach, Agree}

module _ {A : Type 0} (p : A → Bool) where
  kept : (y : A) (xs : List A) (x : A) (b : Bool) → p y ≡ b → (Has (filter p xs) x → Has xs x × (p x ≡ true)) → Has (if b then y ∷ filter p xs else filter p xs) x → Has (y ∷ xs) x × (p x ≡ true)
  kept y xs x true e rest (inl k) = (inl k, ap p (sym k) ∙ e)
  kept y xs x true e rest (inr k) = let r = rest k in (inr r.0, r.1)
  kept y xs x false e rest k = let r = rest k in (inr r.0, r.1)

  pub Has-filter : (xs : List A) (x : A) → Has (filter p xs) x → Has xs x × (p x ≡ true)
  Has-filter [] x h = absurd h
  Has-filter (y ∷ xs) x h = kept y xs x (p y) refl (Has-filter xs x) h

  keep : (y : A) (xs : List A) (x : A) (b : Bool) → Has (filter p xs) x → Has (if b then y ∷ filter p xs else filter p xs) x
  keep y xs x true k = inr k
  keep y xs x false k = k

  keep_first : (y : A) (xs : List A) (x : A) (b : Bool) → p y ≡ b → y ≡ x → p x ≡ true → Has (if b then y ∷ filter p xs else filter p xs) x
  keep_first y xs x true e k t = inl k
  keep_first y xs x false e k t = absurd (both_ways (p y) e (ap p k ∙ t))

  pub filter-Has : (xs : List A) (x : A) → Has xs x → p x ≡ true → Has (filter p xs) x
  filter-Has [] x h t = absurd h
  filter-Has (y ∷ xs) x (inl k) t = keep_first y xs x (p y) refl k t
  filter-Has (y ∷ xs) x (inr k) t = keep y xs x (p y) (filter-Has xs x k t)

  pub filter_included : (xs ys : List A) → Includes xs ys → Includes (filter p xs) (filter p ys)
  filter_included xs ys more x h = let k = Has-filter ys x h in filter-Has xs x (more x k.0) k.1

  pub same_filter : (xs ys : List A) → IsSameSet xs ys → IsSameSet (filter p xs) (filter p ys)
  same_filter xs ys same = (filter_included xs ys same.0, filter_included ys xs same.1)

-- of histories
module _ {C : Type 0} (p : StampValue × C → Bool) where
  pub one_each_filter : (h : History C) → OneEach h → OneEach (filter p h)
  one_each_filter h one e f i j same = one e f (Has-filter p h e i).0 (Has-filter p h f j).0 same

  -- where histories agree, so do their changes that pass the test
  pub agree_filter : (v w : List ℕ) (g h : History C) → Agree v g w h → Agree v (filter p g) w (filter p h)
  agree_filter v w g h a = record {
    left_covered = λ e k. a.left_covered e (Has-filter p g e k).0;
    right_covered = λ e k. a.right_covered e (Has-filter p h e k).0;
    left_shares = λ e k c. let m = Has-filter p g e k in filter-Has p h e (a.left_shares e m.0 c) m.1;
    right_shares = λ e k c. let m = Has-filter p h e k in filter-Has p g e (a.right_shares e m.0 c) m.1;
    one_each = subst OneEach (filter-append p g h) (one_each_filter (g ++ h) a.one_each);
  }
