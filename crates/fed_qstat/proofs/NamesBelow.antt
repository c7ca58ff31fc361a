-- The names of a job's sites, one after another.
use Rattle.std.specs.Prelude.{cond, filter, map, nat_lt, Some, None, if◌then◌else◌}
use Rattle.std.specs.List.{join_with_byte, range_with_len}
use Rattle.std.proofs.Common.{◌≡◌, ℕ, zero, suc, ◌+◌, ◌<◌, List, [], ◌∷◌, ◌++◌, Bool, true, false, refl, sym, ap, ap₂, ◌∙◌, arith, append_assoc, append-nil}
use Rattle.std.proofs.lemmas.List.{map-append}
use Rattle.std.proofs.lemmas.List.Elements.{filter-append}
use Rattle.fed_model.specs.JobView.{JobView}
use Rattle.fed_model.specs.Letter.{has_site}
use Rattle.fed_qstat.specs.Identifier.{text_of_site}

-- a range, and the number behind it
pub range_more : (n a : ℕ) → range_with_len a (suc n) ≡ range_with_len a n ++ (a + n) ∷ []
range_more zero a = ap (λ k. k ∷ []) (let e : a ≡ a + 0 = omega arith in e)
range_more (suc n) a =
    ap (λ l. a ∷ l) (range_more n (a + 1) ∙ ap (λ k. range_with_len (a + 1) n ++ k ∷ []) (let e : (a + 1) + n ≡ a + suc n = omega arith in e))

-- no element
abbrev pub is_none_of : {A : Type 0} → List A → Bool
is_none_of [] = true
is_none_of (x ∷ xs) = false

pub join-push : (c : ℕ) (xs : List (List ℕ)) (y : List ℕ) → join_with_byte c (xs ++ y ∷ []) ≡ join_with_byte c xs ++ cond (is_none_of xs) y (c ∷ y)
join-push c [] y = refl
join-push c (x ∷ []) y = refl
join-push c (x ∷ z ∷ xs) y = ap (λ l. x ++ c ∷ l) (join-push c (z ∷ xs) y) ∙ sym (append_assoc x (c ∷ join_with_byte c (z ∷ xs)) (c ∷ y))

none-map : {A B : Type 0} (f : A → B) (xs : List A) → is_none_of (map f xs) ≡ is_none_of xs
none-map f [] = refl
none-map f (x ∷ xs) = refl

none-push : {A : Type 0} (xs : List A) (x : A) → is_none_of (xs ++ x ∷ []) ≡ false
none-push [] x = refl
none-push (y ∷ xs) x = refl

-- a site that was made of a number
pub same_site : (n site : ℕ) → n < 16 → (if nat_lt n 16 then Some n else None) ≡ Some site → site ≡ n
same_site n site below e =
    let within : nat_lt n 16 ≡ true = search arith in
    let some : Some n ≡ Some site = rw within at e in cc

module _ (roster : List (List ℕ × ℕ)) (j : JobView) where
  -- of the sites below n
  abbrev pub sites_below : ℕ → List ℕ
  sites_below n = filter (has_site j) (range_with_len 0 n)

  abbrev pub names_below : ℕ → List ℕ
  names_below n = join_with_byte 43 (map (text_of_site roster) (sites_below n))

  sites_more : (b : Bool) (m n : ℕ) → m ≡ suc n → has_site j n ≡ b → sites_below m ≡ sites_below n ++ cond b (n ∷ []) []
  sites_more b m n e h =
      ap sites_below e ∙ ap (filter (has_site j)) (range_more n 0) ∙ filter-append (has_site j) (range_with_len 0 n) ((0 + n) ∷ [])
      ∙ ap (λ k. sites_below n ++ filter (has_site j) (k ∷ [])) (let z : 0 + n ≡ n = omega arith in z) ∙ ap (λ t. sites_below n ++ cond t (n ∷ []) []) h

  -- so far: the names below n, and whether there is none
  pub record AreNamed (n : ℕ) (text : List ℕ) (is_first : Bool) : Type 0 where
    pub named : text ≡ names_below n
    pub first : is_first ≡ is_none_of (sites_below n)

  -- a site that the job may not run at
  pub skipped : (m n : ℕ) (text : List ℕ) (is_first : Bool) → m ≡ suc n → has_site j n ≡ false → AreNamed n text is_first → AreNamed m text is_first
  skipped m n text is_first e h before =
      let same : sites_below m ≡ sites_below n = sites_more false m n e h ∙ append-nil (sites_below n) in
      record { named = before.named ∙ ap (λ l. join_with_byte 43 (map (text_of_site roster) l)) (sym same); first = before.first ∙ ap is_none_of (sym same) }

  -- a site that it may
  pub added : (m n : ℕ) (old new : List ℕ) (is_first : Bool) → m ≡ suc n → has_site j n ≡ true → AreNamed n old is_first
      → new ≡ old ++ cond is_first (text_of_site roster n) (43 ∷ text_of_site roster n) → AreNamed m new false
  added m n old new is_first e h before more =
      let grown : sites_below m ≡ sites_below n ++ n ∷ [] = sites_more true m n e h in
      let names : map (text_of_site roster) (sites_below m) ≡ map (text_of_site roster) (sites_below n) ++ text_of_site roster n ∷ [] =
      ap (map (text_of_site roster)) grown ∙ map-append (text_of_site roster) (sites_below n) (n ∷ []) in
      record {
        named = more
            ∙ ap₂ (λ (l : List ℕ) (b : Bool). l ++ cond b (text_of_site roster n) (43 ∷ text_of_site roster n)) before.named (before.first ∙ sym (none-map (text_of_site roster) (sites_below n)))
            ∙ sym (join-push 43 (map (text_of_site roster) (sites_below n)) (text_of_site roster n))
            ∙ ap (join_with_byte 43) (sym names);
        first = sym (ap is_none_of grown ∙ none-push (sites_below n) n);
      }
