-- How loops change tag sets, pair by pair.
use Rattle.std.specs.BTreeSet.{insert_key}
use Rattle.std.specs.Cmp.{IsTotalOrder}
use Rattle.std.specs.List.Sorted.{IsStrictlySortedBy}
use Rattle.std.specs.Ordering.{is_eq, is_ge}
use Rattle.std.proofs.Common.{◌≡◌, ◌↔◌, ℕ, zero, suc, ◌+◌, ◌-◌, ◌<◌, ◌≤◌, Ordering, Less, Equal, Greater, List, [], ◌∷◌, ◌++◌, Bool, true, false, cond, not, ◌||◌, ◌&&◌, length, get_or, drop, filter, append_assoc, arith, refl, sym, ap, ap₂, subst, ◌∙◌, inl, inr}
use Rattle.std.proofs.lemmas.Bool.{cases_Bool, cases_lt, not-true, or_right}
use Rattle.std.proofs.lemmas.List.{get_or_default}
use Rattle.std.proofs.lemmas.Map.Keys.{Less-from_sorted, sorted_from_all_adjacent}
use Rattle.std.proofs.lemmas.Map.Lookups.{CmpEqualImpliesEq}
use Rattle.std.proofs.lemmas.Map.Views.{tells_apart}
use Rattle.std.proofs.Math.Bool.{or-false, or-true}
use Rattle.fed_stamp.specs.Stamp.{StampValue}
use Rattle.fed_stamp.specs.Version.{covers}
use Rattle.fed_lattice.specs.Sets.{Has}
use Rattle.fed_tags.specs.Tags.{has, inserted, stamped, without, lacking, kept, joined_tags}
use Rattle.fed_tags.specs.TagLaws.{sorted_empty, sorted_inserted, sorted_without, sorted_joined, has_inserted, has_without, has_filtered, has_joined, member, has_member, stamped_at}
use Rattle.fed_lattice.specs.KeySetLaws.{same_sets}
use Rattle.fed_lattice.proofs.FilterLaws.{Has-filter}

-- ---- lists
module _ {X : Type 0} where
  filter_twice : (f g h : X → Bool) → ((x : X) → (g x && f x) ≡ h x) → (xs : List X) → filter f (filter g xs) ≡ filter h xs
  filter_twice f g h e [] = refl
  filter_twice f g h e (x ∷ xs) = step (g x) (f x) (h x) refl refl refl (e x) (filter_twice f g h e xs) where
    step : (a b c : Bool) → g x ≡ a → f x ≡ b → h x ≡ c → (g x && f x) ≡ h x → filter f (filter g xs) ≡ filter h xs → filter f (cond (g x) (x ∷ filter g xs) (filter g xs)) ≡ cond (h x) (x ∷ filter h xs) (filter h xs)
    step true true c i j k e r = rw i (rw j (rw (sym e ∙ ap₂ (λ p q. p && q) i j) (ap (λ l. x ∷ l) r)))
    step true false c i j k e r = rw i (rw j (rw (sym e ∙ ap₂ (λ p q. p && q) i j) r))
    step false b c i j k e r = rw i (rw (sym e ∙ ap (λ p. p && f x) i) r)

-- each element below the index is below the next
abbrev pub AscendsBelow : {K : Type 0} → (K → K → Ordering) → List K → ℕ → Type 0
AscendsBelow {K} R xs i = (k : ℕ) (d : K) → k + 1 < i → R (get_or xs k d) (get_or xs (k + 1) d) ≡ Less

module _ {K : Type 0} (R : K → K → Ordering) where
  less_from_not_ge : (r : Ordering) → is_ge r ≡ false → r ≡ Less
  less_from_not_ge Less e = refl
  less_from_not_ge Equal e = cc
  less_from_not_ge Greater e = cc

  -- the two neighbours that a turn of the loop compares, at any default
  neighbours : (xs : List K) (i : ℕ) (d x y : K) → 1 ≤ i → i < length xs → x ≡ get_or xs (i - 1) x → y ≡ get_or xs i y → R (get_or xs (i - 1) d) (get_or xs i d) ≡ R x y
  neighbours xs i d x y a l e f = ap₂ R (sym (e ∙ get_or_default xs (i - 1) x d (omega arith))) (sym (f ∙ get_or_default xs i y d l))

  pub ascends_more : (xs : List K) (i : ℕ) (x y : K) → 1 ≤ i → i < length xs → x ≡ get_or xs (i - 1) x → y ≡ get_or xs i y → is_ge (R x y) ≡ false → AscendsBelow R xs i → AscendsBelow R xs (i + 1)
  ascends_more xs i x y a l e f n inv k d b = elim (cases_lt (k + 1) i) [
    | inl lt ↦ inv k d lt
    | inr ge ↦
        let p : k ≡ i - 1 = omega arith in
        let q : k + 1 ≡ i = omega arith in
        ap₂ (λ u v. R (get_or xs u d) (get_or xs v d)) p q ∙ neighbours xs i d x y a l e f ∙ less_from_not_ge (R x y) n
  ]

  pub ascends_not : (xs : List K) (i : ℕ) (x y : K) → 1 ≤ i → i < length xs → x ≡ get_or xs (i - 1) x → y ≡ get_or xs i y → is_ge (R x y) ≡ true → IsStrictlySortedBy R xs → ⊥
  ascends_not xs i x y a l e f n s =
      let h : R x y ≡ Less = sym (neighbours xs i x x y a l e f) ∙ Less-from_sorted R xs (i - 1) i x s (omega arith) l in
      let k : false ≡ true = sym (ap is_ge h) ∙ n in cc

  pub ascends_all : IsTotalOrder R → (xs : List K) (i : ℕ) → length xs ≤ i → AscendsBelow R xs i → IsStrictlySortedBy R xs
  ascends_all o [] i l inv = sorted_empty R
  ascends_all o (x ∷ xs) i l inv = sorted_from_all_adjacent o (x ∷ xs) x (λ k b. inv k x (omega arith))

module _ {T : Type 0} (R : T × StampValue → T × StampValue → Ordering) where
  -- ---- loops that take pairs out
  without_none : (xs : List (T × StampValue)) → without R xs [] ≡ xs
  without_none [] = refl
  without_none (x ∷ xs) = ap (λ l. x ∷ l) (without_none xs)

  out_bits : (a b : Bool) → (not (a || false) && not b) ≡ not (a || b)
  out_bits true b = refl
  out_bits false b = refl

  without_more : (xs ps : List (T × StampValue)) (p : T × StampValue) → without R (without R xs (p ∷ [])) ps ≡ without R xs (p ∷ ps)
  without_more xs ps p = filter_twice (λ q. not (has R ps q)) (λ q. not (has R (p ∷ []) q)) (λ q. not (has R (p ∷ ps) q)) (λ q. out_bits (is_eq (R q p)) (has R ps q)) xs

  pub removed_more : (self new old ps rest : List (T × StampValue)) (p : T × StampValue) → without R self ps ≡ old → ps ≡ p ∷ rest → new ≡ without R self (p ∷ []) → without R new rest ≡ old
  removed_more self new old ps rest p inv e n = ap (λ xs. without R xs rest) n ∙ without_more self rest p ∙ ap (λ l. without R self l) (sym e) ∙ inv

  pub removed_all : (self old ps : List (T × StampValue)) → without R self ps ≡ old → ps ≡ [] → self ≡ old
  removed_all self old ps inv e = sym (without_none self) ∙ ap (λ l. without R self l) (sym e) ∙ inv

  -- ---- loops that put pairs in
  pub inserted_more : (self new old ps rest : List (T × StampValue)) (p : T × StampValue) → inserted R self ps ≡ old → ps ≡ p ∷ rest → new ≡ insert_key R self p → inserted R new rest ≡ old
  inserted_more self new old ps rest p inv e n = ap (λ xs. inserted R xs rest) n ∙ ap (λ l. inserted R self l) (sym e) ∙ inv

  pub inserted_all : (self old ps : List (T × StampValue)) → inserted R self ps ≡ old → ps ≡ [] → self ≡ old
  inserted_all self old ps inv e = ap (λ l. inserted R self l) (sym e) ∙ inv

module _ {T : Type 0} (R : T × StampValue → T × StampValue → Ordering) (o : IsTotalOrder R) (exact : CmpEqualImpliesEq R) where
  -- a test that says whether a pair is there
  pub has_decided : (k : T × StampValue) (xs : List (T × StampValue)) (r : Bool) → (r ≡ true) ↔ Has xs k → has R xs k ≡ r
  has_decided k xs true d = has_member R o exact k xs (d.0 refl)
  has_decided k xs false d = elim (cases_Bool (has R xs k)) [ inl t ↦ (let u : false ≡ true = d.1 (member R o exact k xs t) in cc) | inr f ↦ f ]

  -- ---- elements that lack a tag
  pub lacking_push : (xs : List (T × StampValue)) (s : StampValue) (ts rest before after all : List T) (t : T) → before ++ lacking R xs s ts ≡ all → ts ≡ t ∷ rest → has R xs (t, s) ≡ false → after ≡ before ++ t ∷ [] → after ++ lacking R xs s rest ≡ all
  lacking_push xs s ts rest before after all t inv e n h =
      ap (λ l. l ++ lacking R xs s rest) h ∙ append_assoc before (t ∷ []) (lacking R xs s rest)
      ∙ ap (λ l. before ++ l) (sym (ap (lacking R xs s) e ∙ ap (λ b. cond (not b) (t ∷ lacking R xs s rest) (lacking R xs s rest)) n)) ∙ inv

  pub lacking_skip : (xs : List (T × StampValue)) (s : StampValue) (ts rest before all : List T) (t : T) → before ++ lacking R xs s ts ≡ all → ts ≡ t ∷ rest → has R xs (t, s) ≡ true → before ++ lacking R xs s rest ≡ all
  lacking_skip xs s ts rest before all t inv e n =
      ap (λ l. before ++ l) (sym (ap (lacking R xs s) e ∙ ap (λ b. cond (not b) (t ∷ lacking R xs s rest) (lacking R xs s rest)) n)) ∙ inv

  lacking_apart : (xs : List (T × StampValue)) (s : StampValue) (ts : List T) (q : T × StampValue) → has R (stamped s (lacking R xs s ts)) q ≡ true → has R xs q ≡ false
  lacking_apart xs s ts q e =
      let m : Has (lacking R xs s ts) q.0 × (q.1 ≡ s) = stamped_at R o exact s (lacking R xs s ts) q (member R o exact q _ e) in
      let t : has R xs (q.0, s) ≡ false = not-true (has R xs (q.0, s)) (Has-filter (λ t. not (has R xs (t, s))) ts q.0 m.0).1 in
      subst (λ (u : StampValue). has R xs (q.0, u) ≡ false) (sym m.1) t

  lacking_bits : (a b : Bool) (t : T) (rest more : List T) (s : StampValue) (q : T × StampValue) → (is_eq (R q (t, s)) ≡ true → a ≡ true → b ≡ true) → (has R (stamped s rest) q || b) ≡ (has R (stamped s more) q || b) → (has R (stamped s (cond (not a) (t ∷ rest) rest)) q || b) ≡ (has R (stamped s (t ∷ more)) q || b)
  lacking_bits true b t rest more s q f e = e ∙ absorbed (is_eq (R q (t, s))) (has R (stamped s more) q) b (λ i. f i refl) where
    absorbed : (x y b : Bool) → (x ≡ true → b ≡ true) → (y || b) ≡ ((x || y) || b)
    absorbed true y b f = ap (λ z. y || z) (f refl) ∙ or-true y
    absorbed false y b f = refl
  lacking_bits false b t rest more s q f e = regroup (is_eq (R q (t, s))) (has R (stamped s rest) q) (has R (stamped s more) q) b e where
    regroup : (x y z b : Bool) → (y || b) ≡ (z || b) → ((x || y) || b) ≡ ((x || z) || b)
    regroup true y z b e = refl
    regroup false y z b e = e

  lacking_same : (xs : List (T × StampValue)) (s : StampValue) (ts : List T) (q : T × StampValue) → (has R (stamped s (lacking R xs s ts)) q || has R xs q) ≡ (has R (stamped s ts) q || has R xs q)
  lacking_same xs s [] q = refl
  lacking_same xs s (t ∷ ts) q = lacking_bits (has R xs (t, s)) (has R xs q) t (lacking R xs s ts) ts s q
      (λ i j. ap (has R xs) (tells_apart exact q (t, s) i) ∙ j) (lacking_same xs s ts q)

  -- it does not matter whether those that have the tag are added too
  pub inserted_lacking : (xs : List (T × StampValue)) (s : StampValue) (ts : List T) → IsStrictlySortedBy R xs → inserted R xs (stamped s (lacking R xs s ts)) ≡ inserted R xs (stamped s ts)
  inserted_lacking xs s ts h = same_sets R o exact _ _ (sorted_inserted R o exact xs (stamped s (lacking R xs s ts)) h) (sorted_inserted R o exact xs (stamped s ts) h)
      (λ q. has_inserted R o exact q xs (stamped s (lacking R xs s ts)) ∙ lacking_same xs s ts q ∙ sym (has_inserted R o exact q xs (stamped s ts)))

  has_drop : (s : StampValue) (i : ℕ) (ts : List T) (q : T × StampValue) → has R (stamped s (drop i ts)) q ≡ true → has R (stamped s ts) q ≡ true
  has_drop s zero ts q e = e
  has_drop s (suc i) [] q e = e
  has_drop s (suc i) (t ∷ ts) q e = or_right (is_eq (R q (t, s))) (has R (stamped s ts) q) (has_drop s i ts q e)

  undo_bits : (d a f b : Bool) → (d || a) ≡ (f || b) → (d ≡ true → f ≡ true) → (f ≡ true → b ≡ false) → (a && not f) ≡ b
  undo_bits d true true b e p n = sym (n refl)
  undo_bits d false true b e p n = sym (n refl)
  undo_bits true a false b e p n = let k : false ≡ true = p refl in cc
  undo_bits false true false b e p n = e
  undo_bits false false false b e p n = e

  -- what was added of them is taken back
  pub taken_back : (self new old : List (T × StampValue)) (s : StampValue) (ts : List T) (i : ℕ) → IsStrictlySortedBy R self → IsStrictlySortedBy R old
      → inserted R self (stamped s (drop i (lacking R old s ts))) ≡ inserted R old (stamped s (lacking R old s ts)) → new ≡ without R self (stamped s (lacking R old s ts)) → new ≡ old
  taken_back self new old s ts i g h inv n =
      let fresh = lacking R old s ts in
      n ∙ same_sets R o exact _ _ (sorted_without R o exact self (stamped s fresh) g) h (λ q.
      has_without R o exact q self (stamped s fresh)
      ∙ undo_bits (has R (stamped s (drop i fresh)) q) (has R self q) (has R (stamped s fresh) q) (has R old q)
      (sym (has_inserted R o exact q self (stamped s (drop i fresh))) ∙ ap (λ l. has R l q) inv ∙ has_inserted R o exact q old (stamped s fresh))
      (has_drop s i fresh q) (lacking_apart old s ts q))

  -- ---- sets from their pairs
  pub inserted_none : (ps : List (T × StampValue)) → IsStrictlySortedBy R ps → inserted R [] ps ≡ ps
  unfolding IsStrictlySortedBy
  inserted_none ps s = same_sets R o exact _ _ (sorted_inserted R o exact [] ps tt) s (λ q. has_inserted R o exact q [] ps ∙ or-false (has R ps q))

  -- ---- joins
  pub kept_push : (ys : List (T × StampValue)) (w : List ℕ) (self new old it rest : List (T × StampValue)) (p : T × StampValue) → inserted R self (kept R ys w it) ≡ old → it ≡ p ∷ rest
      → (has R ys p || not (covers w p.1)) ≡ true → new ≡ insert_key R self p → inserted R new (kept R ys w rest) ≡ old
  kept_push ys w self new old it rest p inv e n h =
      inserted_more R self new old (kept R ys w it) (kept R ys w rest) p inv (ap (kept R ys w) e ∙ ap (λ b. cond b (p ∷ kept R ys w rest) (kept R ys w rest)) n) h

  pub kept_skip : (ys : List (T × StampValue)) (w : List ℕ) (self old it rest : List (T × StampValue)) (p : T × StampValue) → inserted R self (kept R ys w it) ≡ old → it ≡ p ∷ rest
      → (has R ys p || not (covers w p.1)) ≡ false → inserted R self (kept R ys w rest) ≡ old
  kept_skip ys w self old it rest p inv e n =
      ap (inserted R self) (sym (ap (kept R ys w) e ∙ ap (λ b. cond b (p ∷ kept R ys w rest) (kept R ys w rest)) n)) ∙ inv

  keep_bits : (a c b d : Bool) → ((b && (a || not c)) || ((a && (b || not d)) || false)) ≡ ((a && (b || not d)) || (b && not c))
  keep_bits true c true true = refl
  keep_bits true c true false = refl
  keep_bits true true false true = refl
  keep_bits true false false true = refl
  keep_bits true c false false = refl
  keep_bits false true true d = refl
  keep_bits false false true d = refl
  keep_bits false c false d = refl

  -- the pairs of one side that stay, and then those of the other
  pub kept_both : (xs ys : List (T × StampValue)) (v w : List ℕ) → inserted R (inserted R [] (kept R ys w xs)) (kept R xs v ys) ≡ joined_tags R xs v ys w
  unfolding IsStrictlySortedBy
  kept_both xs ys v w = same_sets R o exact _ _ (sorted_inserted R o exact (inserted R [] (kept R ys w xs)) (kept R xs v ys) (sorted_inserted R o exact [] (kept R ys w xs) tt)) (sorted_joined R o exact xs ys v w) (λ q.
      has_inserted R o exact q (inserted R [] (kept R ys w xs)) (kept R xs v ys)
      ∙ ap₂ (λ a b. a || b) (has_filtered R o exact (λ p. has R xs p || not (covers v p.1)) q ys)
      (has_inserted R o exact q [] (kept R ys w xs) ∙ ap (λ a. a || false) (has_filtered R o exact (λ p. has R ys p || not (covers w p.1)) q xs))
      ∙ keep_bits (has R xs q) (covers v q.1) (has R ys q) (covers w q.1)
      ∙ sym (has_joined R o exact q xs ys v w))
