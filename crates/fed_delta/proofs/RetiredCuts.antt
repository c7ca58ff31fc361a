-- What a table of retirements reads as where only those beyond a version are kept.
use Rattle.std.specs.BTreeMap.{is_at}
use Rattle.std.specs.Cmp.{eq_by_cmp_equiv, nat_cmp_total}
use Rattle.std.specs.List.{IsDistinct}
use Rattle.std.specs.List.Sorted.{IsStrictlySortedBy}
use Rattle.std.specs.Map.{keys_of, lookup}
use Rattle.std.specs.Ordering.{nat_cmp, eq_by_cmp}
use Rattle.std.specs.Prelude.{if◌then◌else◌, ◌&&◌, nat_lt}
use Rattle.std.proofs.Common.{◌≡◌, ℕ, ◌≤◌, List, [], ◌∷◌, length, Bool, true, false, cond, filter, Option, Some, None, IfSome, unwrap_or, refl, sym, ap, subst, ◌∙◌, inl, inr, arith}
use Rattle.std.proofs.lemmas.Bool.{cases_lt, cond-true, cond-false}
use Rattle.std.proofs.lemmas.List.{ext_get_or, get_or_past}
use Rattle.std.proofs.lemmas.List.Elements.{All-filter, All-from_recursion, recursion_from_All}
use Rattle.std.proofs.lemmas.List.FromFn.{get_or-map-range_with_len, length-map-range_with_len}
use Rattle.std.proofs.lemmas.Map.{lookup-none}
use Rattle.std.proofs.lemmas.Map.Entries.{none_past_head, option_filter}
use Rattle.std.proofs.lemmas.Map.Keys.{IsDistinct-from_sorted, IsDistinct-tail}
use Rattle.std.proofs.lemmas.Map.Lookups.{exact_unsigned}
use Rattle.std.proofs.lemmas.Map.Views.{tells_apart}
use Rattle.fed_stamp.specs.Stamp.{StampValue}
use Rattle.fed_stamp.specs.Version.{counter_of}
use Rattle.fed_lattice.specs.Table.{IsAtEach}
use Rattle.fed_ranges.specs.Ranges.{has}
use Rattle.fed_ranges.specs.Retired.{RetiredValue, retired_at, has_retired, latest_retires}
use Rattle.fed_ranges.specs.Retirements.{RetirementsValue, no_retirements}
use Rattle.fed_board.specs.Board.{AreKnownRetirements}
use Rattle.fed_theory.specs.Cut.{is_changed_site, beyond}
use Rattle.fed_theory.proofs.CutLaws.{counter_of_beyond, length-beyond}
use Rattle.fed_delta.specs.Retired.{is_beyond, retired_beyond}

-- ---- entries that pass a test of the site and of what it has retired
module _ {X : Type 0} (p : ℕ × X → Bool) where
  abbrev at : List (ℕ × X) → ℕ → Option X
  at es q = lookup (is_at (nat_cmp q)) es

  lookup-entries : (q : ℕ) (es : List (ℕ × X)) → IsDistinct (eq_by_cmp nat_cmp) (keys_of es) → at (filter p es) q ≡ option_filter (λ x. p (q, x)) (at es q)
  lookup-entries q [] d = refl
  lookup-entries q (e ∷ es) d = go (is_at (nat_cmp q) e.0) refl (p e) refl (lookup-entries q es (IsDistinct-tail (eq_by_cmp nat_cmp) e.0 (keys_of es) d))
    where
      gone : is_at (nat_cmp q) e.0 ≡ true → at (filter p es) q ≡ None
      gone y = lookup-none (is_at (nat_cmp q)) (filter p es) (recursion_from_All _ _ (All-filter p (λ x. is_at (nat_cmp q) x.0 ≡ false) es (All-from_recursion _ es (none_past_head (eq_by_cmp_equiv nat_cmp_total) q e es d y))))

      same : is_at (nat_cmp q) e.0 ≡ true → p (q, e.1) ≡ p e
      same y = ap (λ k. p (k, e.1)) (tells_apart exact_unsigned q e.0 y)

      go : (b : Bool) → is_at (nat_cmp q) e.0 ≡ b → (c : Bool) → p e ≡ c → at (filter p es) q ≡ option_filter (λ x. p (q, x)) (at es q)
          → lookup (is_at (nat_cmp q)) (cond c (e ∷ filter p es) (filter p es)) ≡ option_filter (λ x. p (q, x)) (cond b (Some e.1) (at es q))
      go true y true passes rest = cond-true (is_at (nat_cmp q) e.0) (Some e.1) (at (filter p es) q) y ∙ sym (cond-true (p (q, e.1)) (Some e.1) None (same y ∙ passes))
      go true y false fails rest = gone y ∙ sym (cond-false (p (q, e.1)) (Some e.1) None (same y ∙ fails))
      go false n true passes rest = cond-false (is_at (nat_cmp q) e.0) (Some e.1) (at (filter p es) q) n ∙ rest
      go false n false fails rest = rest

-- ---- what each site has retired
module _ (need v : List ℕ) (r : RetiredValue) (s : IsStrictlySortedBy nat_cmp (keys_of r)) (known : IsAtEach nat_cmp (AreKnownRetirements v) r) where
  found : (site : ℕ) → lookup (is_at (nat_cmp site)) (retired_beyond need r) ≡ option_filter (λ x. is_beyond need (site, x)) (lookup (is_at (nat_cmp site)) r)
  found site = lookup-entries (is_beyond need) site r (IsDistinct-from_sorted nat_cmp (keys_of r) s)

  pub known_beyond : IsAtEach nat_cmp (AreKnownRetirements v) (retired_beyond need r)
  known_beyond site = subst (λ o. IfSome o (AreKnownRetirements v site)) (sym (found site)) (go (lookup (is_at (nat_cmp site)) r) (known site))
    where
      still : (b : Bool) (x : RetirementsValue) → AreKnownRetirements v site x → IfSome (cond b (Some x) None) (AreKnownRetirements v site)
      still true x k = k
      still false x k = tt

      go : (o : Option RetirementsValue) → IfSome o (AreKnownRetirements v site) → IfSome (option_filter (λ x. is_beyond need (site, x)) o) (AreKnownRetirements v site)
      go None k = tt
      go (Some x) k = still (is_beyond need (site, x)) x k

  at_beyond : (site : ℕ) → retired_at (retired_beyond need r) site ≡ (if nat_lt (counter_of need site) (retired_at r site).latest then retired_at r site else no_retirements)
  at_beyond site = ap (λ o. unwrap_or o no_retirements) (found site) ∙ go (lookup (is_at (nat_cmp site)) r)
    where
      either : (b : Bool) (x : RetirementsValue) → unwrap_or (cond b (Some x) None) no_retirements ≡ (if b then x else no_retirements)
      either true x = refl
      either false x = refl

      none : (b : Bool) → no_retirements ≡ (if b then no_retirements else no_retirements)
      none true = refl
      none false = refl

      go : (o : Option RetirementsValue) → unwrap_or (option_filter (λ x. is_beyond need (site, x)) o) no_retirements ≡ (if nat_lt (counter_of need site) (unwrap_or o no_retirements).latest then unwrap_or o no_retirements else no_retirements)
      go None = none (nat_lt (counter_of need site) 0)
      go (Some x) = either (nat_lt (counter_of need site) x.latest) x

  -- no site beyond the 16 has retired anything
  outside : (site : ℕ) → 16 ≤ site → retired_at r site ≡ no_retirements
  outside site high = go (lookup (is_at (nat_cmp site)) r) (known site)
    where
      go : (o : Option RetirementsValue) → IfSome o (AreKnownRetirements v site) → unwrap_or o no_retirements ≡ no_retirements
      go None k = refl
      go (Some x) k = let low = k.placed in absurd (omega arith)

  counter_of_latest : (site : ℕ) → counter_of (latest_retires r) site ≡ (retired_at r site).latest
  unfolding latest_retires
  counter_of_latest site = elim (cases_lt site 16) [
    | inl low ↦ get_or-map-range_with_len (λ i. (retired_at r i).latest) 0 16 site site 0 low (omega arith)
    | inr high ↦ (
        let size : length (latest_retires r) ≡ 16 = length-map-range_with_len (λ i. (retired_at r i).latest) 0 16 in
        get_or_past (latest_retires r) site 0 (omega arith) ∙ sym (ap (λ (x : RetirementsValue). x.latest) (outside site high)))
  ]

  pub latest_beyond : latest_retires (retired_beyond need r) ≡ beyond need (latest_retires r)
  unfolding latest_retires
  latest_beyond =
      let xs : List ℕ = latest_retires (retired_beyond need r) in
      let ys : List ℕ = beyond need (latest_retires r) in
      let a : length xs ≡ 16 = length-map-range_with_len (λ i. (retired_at (retired_beyond need r) i).latest) 0 16 in
      let b : length (latest_retires r) ≡ 16 = length-map-range_with_len (λ i. (retired_at r i).latest) 0 16 in
      let c : length ys ≡ length (latest_retires r) = length-beyond need (latest_retires r) in
      ext_get_or 0 xs ys (omega arith) (λ i less.
      get_or-map-range_with_len (λ j. (retired_at (retired_beyond need r) j).latest) 0 16 i i 0 (omega arith) (omega arith)
      ∙ ap (λ (x : RetirementsValue). x.latest) (at_beyond i)
      ∙ one (nat_lt (counter_of need i) (retired_at r i).latest) (retired_at r i)
      ∙ (λ j. if nat_lt (counter_of need i) (sym (counter_of_latest i) j) then sym (counter_of_latest i) j else 0)
      ∙ sym (counter_of_beyond need (latest_retires r) i))
    where
      one : (b : Bool) (x : RetirementsValue) → (if b then x else no_retirements).latest ≡ (if b then x.latest else 0)
      one true x = refl
      one false x = refl

  pub has_beyond : (id : StampValue) → has_retired (retired_beyond need r) id ≡ (is_changed_site need (latest_retires r) id.site && has_retired r id)
  has_beyond id =
      ap (λ (x : RetirementsValue). has x.ranges id.counter) (at_beyond id.site)
      ∙ one (nat_lt (counter_of need id.site) (retired_at r id.site).latest) (retired_at r id.site)
      ∙ ap (λ k. nat_lt (counter_of need id.site) k && has_retired r id) (sym (counter_of_latest id.site))
    where
      one : (b : Bool) (x : RetirementsValue) → has (if b then x else no_retirements).ranges id.counter ≡ (b && has x.ranges id.counter)
      one true x = refl
      one false x = refl
