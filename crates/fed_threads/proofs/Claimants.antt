-- How the table of who claims each entry grows, a claim and a row at a time.
use Rattle.std.proofs.Common.{◌≡◌, ◌≢◌, ◌<◌, ◌≤◌, ◌+◌, ℕ, zero, suc, List, [], ◌∷◌, ◌++◌, length, get_or, take, Bool, true, false, cond, Option, Some, None, refl, sym, ap, subst, ◌∙◌, arith, inl, inr, eqb}
use Rattle.std.proofs.lemmas.Bool.{eq-eqb, eqb-true}
use Rattle.std.proofs.lemmas.List.{get_or-set_same, get_or-set_other, get_or-take, length-append, length-take-le, get_or_append_left}
use Rattle.std.proofs.lemmas.List.Sums.{sum_by_push}
use Rattle.std.proofs.lemmas.Option.{slice_get-get_or, slice_get_read}
use Rattle.std.proofs.Math.ListN.{length-set, set}
use Rattle.std.proofs.Math.Seq.{get_or-append_seam}
use Rattle.std.specs.List.{slice_get, sum_by, count_by}
use Rattle.fed_threads.specs.declared.claims.Claimant.{Claimant}
use Rattle.fed_threads.specs.declared.claims.Times.{Times}
use Rattle.fed_threads.specs.declared.journal.Claim.{Claim}
use Rattle.fed_threads.specs.declared.journal.Entry.{Entry}
use Rattle.fed_threads.specs.Placing.{is_claim_of}
use Rattle.fed_threads.specs.Claims.{times_claimed}
use Rattle.fed_threads.specs.Claimants.{IsTimes, IsClaimant, IsClaimantIf, AreClaimantsOf, AreClaimants}
use Rattle.fed_threads.proofs.Greedy.{same_or_not, and_left, and_right}

abbrev one_if : Bool → ℕ
one_if b = cond b 1 0

count_more : (p : Claim → Bool) (xs : List Claim) (c : Claim) → count_by p (xs ++ c ∷ []) ≡ count_by p xs + one_if (p c)
count_more p xs c = sum_by_push (λ (x : Claim). cond (p x) 1 0) xs c

times_more : (seats : List (List Claim)) (xs : List Claim) (c : Claim) (site index : ℕ)
    → times_claimed (seats ++ (xs ++ c ∷ []) ∷ []) site index ≡ times_claimed (seats ++ xs ∷ []) site index + one_if (is_claim_of site index c)
times_more seats xs c site index =
    let f : List Claim → ℕ = λ (claims : List Claim). count_by (is_claim_of site index) claims in
    let after : sum_by f (seats ++ (xs ++ c ∷ []) ∷ []) ≡ sum_by f seats + f (xs ++ c ∷ []) = sum_by_push f seats (xs ++ c ∷ []) in
    let before : sum_by f (seats ++ xs ∷ []) ≡ sum_by f seats + f xs = sum_by_push f seats xs in
    let here : f (xs ++ c ∷ []) ≡ f xs + one_if (is_claim_of site index c) = count_more (is_claim_of site index) xs c in
    sums (sum_by f (seats ++ (xs ++ c ∷ []) ∷ [])) (sum_by f (seats ++ xs ∷ [])) (sum_by f seats) (f (xs ++ c ∷ [])) (f xs) (one_if (is_claim_of site index c)) after before here
  where
    sums : (a b s g h o : ℕ) → a ≡ s + g → b ≡ s + h → g ≡ h + o → a ≡ b + o
    sums a b s g h o e f i = omega arith

pub claim_is : (site : ℕ) (c : Claim) → c.site ≡ site → is_claim_of site c.index c ≡ true
claim_is site c e = rw (eq-eqb c.site site e, eq-eqb c.index c.index refl) refl

of_claim : (b : Bool) (site index : ℕ) (c : Claim) → is_claim_of site index c ≡ b → (c.site ≡ site → c.index ≡ index → ⊥) → b ≡ false
of_claim false site index c is refuses = refl
of_claim true site index c is refuses =
    absurd (refuses (eqb-true c.site site (and_left _ _ is)) (eqb-true c.index index (and_right (eqb c.site site) _ is)))

pub claim_is_not : (site index : ℕ) (c : Claim) → (c.site ≡ site → c.index ≡ index → ⊥) → is_claim_of site index c ≡ false
claim_is_not site index c refuses = of_claim (is_claim_of site index c) site index c refl refuses

claims_kept : (p : Claim → Bool) (seats : List (List Claim)) (xs : List Claim) (c : Claim) (k : ℕ)
    → count_by p (get_or (seats ++ xs ∷ []) k []) ≤ count_by p (get_or (seats ++ (xs ++ c ∷ []) ∷ []) k [])
claims_kept p [] xs c zero = omega (arith, count_more p xs c)
claims_kept p [] xs c (suc k) = omega arith
claims_kept p (y ∷ seats) xs c zero = omega arith
claims_kept p (y ∷ seats) xs c (suc k) = claims_kept p seats xs c k

kept_claimant : (seats : List (List Claim)) (xs : List Claim) (c : Claim) (site index : ℕ) (o : Option Claimant)
    → is_claim_of site index c ≡ false
    → IsClaimantIf (seats ++ xs ∷ []) site index o
    → IsClaimantIf (seats ++ (xs ++ c ∷ []) ∷ []) site index o
kept_claimant seats xs c site index None refuses h = h
kept_claimant seats xs c site index (Some m) refuses h =
    let same : times_claimed (seats ++ (xs ++ c ∷ []) ∷ []) site index ≡ times_claimed (seats ++ xs ∷ []) site index =
    more_none _ _ (is_claim_of site index c) (times_more seats xs c site index) refuses in
    record {
      times = subst (λ n. IsTimes m.times n) (sym same) h.times;
      claims = λ some.
          let old = h.claims (subst (λ n. 1 ≤ n) same some) in
          omega (arith, old, claims_kept (is_claim_of site index) seats xs c m.seat);
    }
  where
    more_none : (a b : ℕ) (t : Bool) → a ≡ b + one_if t → t ≡ false → a ≡ b
    more_none a b false e f = omega arith
    more_none a b true e f = cc

new_claimant : (seats : List (List Claim)) (xs : List Claim) (c : Claim) (seat site : ℕ) (m : Claimant) (t : Times)
    → length seats ≡ seat
    → c.site ≡ site
    → ((n : ℕ) → IsTimes m.times n → IsTimes t (n + 1))
    → IsClaimant (seats ++ xs ∷ []) site c.index m
    → IsClaimant (seats ++ (xs ++ c ∷ []) ∷ []) site c.index (record { times = t; seat = seat })
new_claimant seats xs c seat site m t len at more h =
    let is : is_claim_of site c.index c ≡ true = claim_is site c at in
    let one : times_claimed (seats ++ (xs ++ c ∷ []) ∷ []) site c.index ≡ times_claimed (seats ++ xs ∷ []) site c.index + 1 =
    more_one _ _ (is_claim_of site c.index c) (times_more seats xs c site c.index) is in
    let counted : count_by (is_claim_of site c.index) (xs ++ c ∷ []) ≡ count_by (is_claim_of site c.index) xs + 1 =
    more_one _ _ (is_claim_of site c.index c) (count_more (is_claim_of site c.index) xs c) is in
    let here : get_or (seats ++ (xs ++ c ∷ []) ∷ []) seat [] ≡ xs ++ c ∷ [] =
    subst (λ n. get_or (seats ++ (xs ++ c ∷ []) ∷ []) n [] ≡ xs ++ c ∷ []) len (get_or-append_seam seats (xs ++ c ∷ []) [] []) in
    record {
      times = subst (λ n. IsTimes t n) (sym one) (more (times_claimed (seats ++ xs ∷ []) site c.index) h.times);
      claims = λ some.
          subst (λ (ys : List Claim). 1 ≤ count_by (is_claim_of site c.index) ys) (sym here) (omega (arith, counted));
    }
  where
    more_one : (a b : ℕ) (t : Bool) → a ≡ b + one_if t → t ≡ true → a ≡ b + 1
    more_one a b false e f = cc
    more_one a b true e f = e

set_here : (row : List Claimant) (i : ℕ) (m x : Claimant) → i < length row → slice_get (set row i x) i ≡ Some x
set_here row i m x h =
    slice_get-get_or (set row i x) i m (subst (λ n. i < n) (sym (length-set row i x)) h)
    ∙ ap (λ (y : Claimant). Some y) (get_or-set_same row i x m h)

set_there : (row : List Claimant) (i j : ℕ) (m x : Claimant) → j ≢ i → j < length row → slice_get (set row i x) j ≡ slice_get row j
set_there row i j m x ne h =
    slice_get-get_or (set row i x) j m (subst (λ n. j < n) (sym (length-set row i x)) h)
    ∙ (ap (λ (y : Claimant). Some y) (get_or-set_other row i j x m ne) ∙ sym (slice_get-get_or row j m h))

-- a claim more, of an entry of the site
pub with_claim : (row : List Claimant) (seats : List (List Claim)) (xs : List Claim) (c : Claim) (seat site count : ℕ) (m : Claimant) (t : Times)
    → length seats ≡ seat
    → c.site ≡ site
    → c.index < length row
    → m ≡ get_or row c.index m
    → ((n : ℕ) → IsTimes m.times n → IsTimes t (n + 1))
    → AreClaimantsOf (seats ++ xs ∷ []) site count row
    → AreClaimantsOf (seats ++ (xs ++ c ∷ []) ∷ []) site count (set row c.index (record { times = t; seat = seat }))
with_claim row seats xs c seat site count m t len at inside read more h =
    let new : Claimant = record { times = t; seat = seat } in
    let found : slice_get row c.index ≡ Some m = slice_get_read row (length row) c.index m refl inside read in
    let old : IsClaimant (seats ++ xs ∷ []) site c.index m =
    subst (λ (o : Option Claimant). IsClaimantIf (seats ++ xs ∷ []) site c.index o) found (h.claimants c.index (subst (λ n. c.index < n) h.count_is inside)) in
    record {
      count_is = length-set row c.index new ∙ h.count_is;
      claimants = λ index lt. elim (same_or_not index c.index) [
        | inl e ↦
            subst (λ i. IsClaimantIf (seats ++ (xs ++ c ∷ []) ∷ []) site i (slice_get (set row c.index new) i)) (sym e)
            (subst (λ (o : Option Claimant). IsClaimantIf (seats ++ (xs ++ c ∷ []) ∷ []) site c.index o)
            (sym (set_here row c.index m new inside))
            (new_claimant seats xs c seat site m t len at more old))
        | inr ne ↦
            subst (λ (o : Option Claimant). IsClaimantIf (seats ++ (xs ++ c ∷ []) ∷ []) site index o)
            (sym (set_there row c.index index m new ne (subst (λ n. index < n) (sym h.count_is) lt)))
            (kept_claimant seats xs c site index (slice_get row index)
            (claim_is_not site index c (λ e f. absurd (ne (sym f)))) (h.claimants index lt))
      ];
    }

-- a row more
pub with_row : (journals : List (List Entry)) (seats : List (List Claim)) (rows : List (List Claimant)) (k : ℕ) (row : List Claimant)
    → k < length journals
    → AreClaimants (take k journals) seats rows
    → AreClaimantsOf seats k (length (get_or journals k [])) row
    → AreClaimants (take (k + 1) journals) seats (rows ++ row ∷ [])
with_row journals seats rows k row lt h here =
    let shorter : length (take k journals) ≡ k = length-take-le k journals (omega arith) in
    let longer : length (take (k + 1) journals) ≡ k + 1 = length-take-le (k + 1) journals (omega arith) in
    let count : length rows ≡ k = h.count_is ∙ shorter in
    record {
      count_is = length-append rows (row ∷ []) ∙ (ap (λ n. n + 1) count ∙ sym longer);
      of_site = λ site inside. elim (same_or_not site k) [
        | inl e ↦
            subst (λ s. AreClaimantsOf seats s (length (get_or (take (k + 1) journals) s [])) (get_or (rows ++ row ∷ []) s [])) (sym e)
            (rw (get_or-take (k + 1) journals k [] (omega arith))
            (subst (λ (r : List Claimant). AreClaimantsOf seats k (length (get_or journals k [])) r)
            (sym (subst (λ n. get_or (rows ++ row ∷ []) n [] ≡ row) count (get_or-append_seam rows row [] []))) here))
        | inr ne ↦
            let below : site < k = omega (arith, longer, inside) in
            let old = h.of_site site (subst (λ n. site < n) (sym shorter) below) in
            subst (λ (r : List Claimant). AreClaimantsOf seats site (length (get_or (take (k + 1) journals) site [])) r)
            (sym (get_or_append_left rows (row ∷ []) [] site (subst (λ n. site < n) (sym count) below)))
            (subst (λ (j : List Entry). AreClaimantsOf seats site (length j) (get_or rows site []))
            (get_or-take k journals site [] below ∙ sym (get_or-take (k + 1) journals site [] (omega arith))) old)
      ];
    }
