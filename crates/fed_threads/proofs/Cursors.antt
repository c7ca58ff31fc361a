-- Where each seat stands: whether the entry that a seat claims may be placed is told by the seat's next claim.
use Rattle.std.proofs.Common.{◌≡◌, ◌≢◌, ◌<◌, ◌≤◌, ◌+◌, ℕ, List, [], length, get_or, take, Bool, true, false, Option, Some, None, refl, sym, ap, subst, ◌∙◌, arith, inl, inr, eqb}
use Rattle.std.proofs.lemmas.Bool.{eqb-true, eq-eqb, lt-ltb, le-ltb, ltb-false, cases_lt}
use Rattle.std.proofs.lemmas.Option.{slice_get-get_or, slice_get_within}
use Rattle.std.specs.List.{slice_get, count_by, list_all}
use Rattle.std.specs.Option.{unwrap_or}
use lib.Dec.{ltb}
use Rattle.fed_threads.specs.declared.claims.Claimant.{Claimant}
use Rattle.fed_threads.specs.declared.journal.Claim.{Claim}
use Rattle.fed_threads.specs.Claims.{times_claimed}
use Rattle.fed_threads.specs.Claimants.{IsClaimantIf, seat_if}
use Rattle.fed_threads.specs.Placing.{is_placed, is_claim_of, first_of, seat_allows, with_next}
use Rattle.fed_threads.specs.Cursors.{is_claim_if, IsPlacedBelow, AreCursors}
use Rattle.fed_threads.proofs.Firsts.{passes, counts, counts_twice, StandsFirst, first_of_some, position_is, position_none, all_taken, not_all_taken, all_but_one, counted_in, counted_in_two, counted_inside, found_inside}
use Rattle.fed_threads.proofs.Greedy.{same_or_not, next_same, next_other, and_left, and_right}

claim_if_is : (site index : ℕ) (o : Option Claim) → is_claim_if site index o ≡ passes (is_claim_of site index) false o
claim_if_is site index None = refl
claim_if_is site index (Some c) = refl

abbrev placed_claim : List ℕ → Claim → Bool
placed_claim placed c = is_placed placed c.site c.index

passes_below : (placed : List ℕ) (cursor place : ℕ) (o : Option Claim) → IsPlacedBelow placed cursor place o → ltb place cursor ≡ true
    → passes (placed_claim placed) true o ≡ true
passes_below placed cursor place None h lt = refl
passes_below placed cursor place (Some c) h lt = h ∙ lt

fails_past : (placed : List ℕ) (cursor place : ℕ) (o : Option Claim) (d : Claim) → o ≡ Some d → IsPlacedBelow placed cursor place o → ltb place cursor ≡ false
    → passes (placed_claim placed) true o ≡ false
fails_past placed cursor place None d is h ge = cc
fails_past placed cursor place (Some c) d is h ge = h ∙ ge

same_entry : (placed : List ℕ) (site index : ℕ) (c : Claim) → is_claim_of site index c ≡ true → is_placed placed c.site c.index ≡ is_placed placed site index
same_entry placed site index c is =
    let s : c.site ≡ site = eqb-true c.site site (and_left _ _ is) in
    let i : c.index ≡ index = eqb-true c.index index (and_right (eqb c.site site) _ is) in
    rw (s, i) refl

not_before : (placed : List ℕ) (cursor place site index : ℕ) (o : Option Claim)
    → is_placed placed site index ≡ false
    → passes (is_claim_of site index) false o ≡ true
    → IsPlacedBelow placed cursor place o
    → ltb place cursor ≡ false
not_before placed cursor place site index None left is h = cc
not_before placed cursor place site index (Some c) left is h = sym h ∙ (same_entry placed site index c is ∙ left)

-- the seat that claims an entry which is not placed allows it where its next claim is of it
owner_allows : (placed : List ℕ) (claims : List Claim) (cursor site index : ℕ)
    → ((p : ℕ) → IsPlacedBelow placed cursor p (slice_get claims p))
    → is_placed placed site index ≡ false
    → 1 ≤ count_by (is_claim_of site index) claims
    → seat_allows placed site index claims ≡ is_claim_if site index (slice_get claims cursor)
owner_allows placed claims cursor site index stands left some =
    let first : StandsFirst (is_claim_of site index) claims = first_of_some (is_claim_of site index) claims some in
    let taken : seat_allows placed site index claims ≡ list_all (placed_claim placed) (take first.place claims) =
    ap (λ (o : Option ℕ). list_all (placed_claim placed) (first_of o claims)) (position_is (is_claim_of site index) claims first) in
    let past : cursor ≤ first.place =
    ltb-false first.place cursor (not_before placed cursor first.place site index (slice_get claims first.place) left first.passes_there (stands first.place)) in
    elim (same_or_not cursor first.place) [
      | inl e ↦
          taken
          ∙ (all_taken (placed_claim placed) claims first.place
          (λ r lt. passes_below placed cursor r (slice_get claims r) (stands r) (lt-ltb r cursor (omega arith)))
          ∙ sym (claim_if_is site index (slice_get claims cursor)
          ∙ subst (λ n. passes (is_claim_of site index) false (slice_get claims n) ≡ true) (sym e) first.passes_there))
      | inr ne ↦
          let below : cursor < first.place = omega arith in
          taken
          ∙ (not_all_taken (placed_claim placed) claims first.place cursor below
          (found_past below (slice_get claims first.place) refl first.passes_there)
          ∙ sym (claim_if_is site index (slice_get claims cursor) ∙ first.before cursor below))
    ]
  where
    found_past : {q : ℕ} → cursor < q → (o : Option Claim) → slice_get claims q ≡ o → passes (is_claim_of site index) false o ≡ true
        → passes (placed_claim placed) true (slice_get claims cursor) ≡ false
    found_past below None is there = cc
    found_past {q} below (Some d) is there =
        fails_past placed cursor cursor (slice_get claims cursor) (get_or claims cursor d)
        (slice_get-get_or claims cursor d (let h : q < length claims = slice_get_within claims q d is in omega arith)) (stands cursor)
        (le-ltb cursor cursor (omega arith))

-- a seat that does not claim an entry allows it
other_allows : (placed : List ℕ) (claims : List Claim) (site index : ℕ)
    → count_by (is_claim_of site index) claims ≡ 0
    → seat_allows placed site index claims ≡ true
other_allows placed claims site index zero_is =
    ap (λ (o : Option ℕ). list_all (placed_claim placed) (first_of o claims)) (position_none (is_claim_of site index) claims zero_is)

-- where a seat claims the next entry of a site, and no claim is of an entry that another is of
pub all_allow : (seats : List (List Claim)) (placed cursors : List ℕ) (site seat : ℕ)
    → AreCursors seats placed cursors
    → times_claimed seats site (get_or placed site 0) ≤ 1
    → 1 ≤ count_by (is_claim_of site (get_or placed site 0)) (get_or seats seat [])
    → list_all (seat_allows placed site (get_or placed site 0)) seats
    ≡ is_claim_if site (get_or placed site 0) (slice_get (get_or seats seat []) (get_or cursors seat 0))
all_allow seats placed cursors site seat stand once some =
    let index = get_or placed site 0 in
    all_but_one (seat_allows placed site index) seats seat (counted_inside (is_claim_of site index) seats seat some)
    (λ j ne. other_allows placed (get_or seats j []) site index
    (let two = counted_in_two (is_claim_of site index) seats seat j (λ e. ne (sym e)) in omega (arith, two, once, some)))
    ∙ owner_allows placed (get_or seats seat []) (get_or cursors seat 0) site index (stand seat) (le-ltb index index (omega arith)) some

-- the seat that the table tells of an entry claims it
pub seat_claims : (seats : List (List Claim)) (site index k : ℕ) (o : Option Claimant)
    → IsClaimantIf seats site index o
    → seat_if o ≡ Some k
    → 1 ≤ times_claimed seats site index
    → 1 ≤ count_by (is_claim_of site index) (get_or seats k [])
seat_claims seats site index k None h is some = absurd h
seat_claims seats site index k (Some m) h is some =
    subst (λ n. 1 ≤ count_by (is_claim_of site index) (get_or seats n [])) (ap (λ (o : Option ℕ). unwrap_or o 0) is) (h.claims some)

-- ---- an entry more

lt_next : (a n : ℕ) → a ≢ n → ltb a (n + 1) ≡ ltb a n
lt_next a n ne =
    elim (cases_lt a n) [
      | inl lt ↦ lt-ltb a (n + 1) (omega arith) ∙ sym (lt-ltb a n lt)
      | inr ge ↦ le-ltb a (n + 1) (omega arith) ∙ sym (le-ltb a n ge)
    ]

placed_same : (placed : List ℕ) (s a b : ℕ) → s < length placed → (a ≡ s → b ≡ get_or placed s 0 → ⊥)
    → is_placed (with_next placed s) a b ≡ is_placed placed a b
placed_same placed s a b h other =
    elim (same_or_not a s) [
      | inl e ↦
          subst (λ n. is_placed (with_next placed s) n b ≡ is_placed placed n b) (sym e)
          (ap (λ n. ltb b n) (next_same placed s h) ∙ lt_next b (get_or placed s 0) (other e))
      | inr ne ↦ ap (λ n. ltb b n) (next_other placed s a ne)
    ]

placed_now : (placed : List ℕ) (s : ℕ) → s < length placed → is_placed (with_next placed s) s (get_or placed s 0) ≡ true
placed_now placed s h = ap (λ n. ltb (get_or placed s 0) n) (next_same placed s h) ∙ lt-ltb (get_or placed s 0) (get_or placed s 0 + 1) (omega arith)

module _ (seats : List (List Claim)) (placed cursors : List ℕ) (site seat : ℕ)
    (once : times_claimed seats site (get_or placed site 0) ≤ 1)
    (next : is_claim_if site (get_or placed site 0) (slice_get (get_or seats seat []) (get_or cursors seat 0)) ≡ true) where
  next_passes : passes (is_claim_of site (get_or placed site 0)) false (slice_get (get_or seats seat []) (get_or cursors seat 0)) ≡ true
  next_passes = sym (claim_if_is site (get_or placed site 0) (slice_get (get_or seats seat []) (get_or cursors seat 0))) ∙ next

  -- no other claim is of the entry
  only_seat : (j q : ℕ) → j ≢ seat → passes (is_claim_of site (get_or placed site 0)) false (slice_get (get_or seats j []) q) ≡ true → ⊥
  only_seat j q ne is =
      let p = is_claim_of site (get_or placed site 0) in
      omega (arith, once, counted_in_two p seats j seat ne, counts p (get_or seats j []) q is, counts p (get_or seats seat []) (get_or cursors seat 0) next_passes)

  only_place : (q : ℕ) → q ≢ get_or cursors seat 0 → passes (is_claim_of site (get_or placed site 0)) false (slice_get (get_or seats seat []) q) ≡ true → ⊥
  only_place q ne is =
      let p = is_claim_of site (get_or placed site 0) in
      omega (arith, once, counted_in p seats seat, counts_twice p (get_or seats seat []) q (get_or cursors seat 0) ne is next_passes)

  only : (j q : ℕ) → passes (is_claim_of site (get_or placed site 0)) false (slice_get (get_or seats j []) q) ≡ true
      → (j ≡ seat) × (q ≡ get_or cursors seat 0)
  only j q is =
      elim (same_or_not j seat) [
        | inl e ↦
            elim (same_or_not q (get_or cursors seat 0)) [
              | inl f ↦ (e, f)
              | inr ne ↦ absurd (only_place q ne (subst (λ n. passes (is_claim_of site (get_or placed site 0)) false (slice_get (get_or seats n []) q) ≡ true) e is))
            ]
        | inr ne ↦ absurd (only_seat j q ne is)
      ]

  step : site < length placed → seat < length cursors → (j q : ℕ) (c : Claim) (b : Bool)
      → is_claim_of site (get_or placed site 0) c ≡ b
      → slice_get (get_or seats j []) q ≡ Some c
      → is_placed placed c.site c.index ≡ is_placed cursors j q
      → is_placed (with_next placed site) c.site c.index ≡ is_placed (with_next cursors seat) j q
  step hs hk j q c true is there old =
      let same = only j q (subst (λ (o : Option Claim). passes (is_claim_of site (get_or placed site 0)) false o ≡ true) (sym there) is) in
      same_entry (with_next placed site) site (get_or placed site 0) c is
      ∙ (placed_now placed site hs
      ∙ sym (subst (λ n. is_placed (with_next cursors seat) n q ≡ true) (sym same.0)
      (subst (λ n. is_placed (with_next cursors seat) seat n ≡ true) (sym same.1) (placed_now cursors seat hk))))
  step hs hk j q c false is there old =
      placed_same placed site c.site c.index hs (λ e f. true_false (claim_there c e f) is)
      ∙ (old
      ∙ sym (placed_same cursors seat j q hk (λ e f. true_false (passes_here j q c there e f) is)))
    where
      true_false : {b : Bool} → b ≡ true → b ≡ false → ⊥
      true_false {b} t f = cc

      claim_there : (c : Claim) → c.site ≡ site → c.index ≡ get_or placed site 0 → is_claim_of site (get_or placed site 0) c ≡ true
      claim_there c e f = rw (eq-eqb c.site site e, eq-eqb c.index (get_or placed site 0) f) refl

      passes_here : (j q : ℕ) (c : Claim) → slice_get (get_or seats j []) q ≡ Some c → j ≡ seat → q ≡ get_or cursors seat 0 → is_claim_of site (get_or placed site 0) c ≡ true
      passes_here j q c there e f =
          subst (λ (o : Option Claim). passes (is_claim_of site (get_or placed site 0)) false o ≡ true) there
          (subst (λ n. passes (is_claim_of site (get_or placed site 0)) false (slice_get (get_or seats n []) q) ≡ true) (sym e)
          (subst (λ n. passes (is_claim_of site (get_or placed site 0)) false (slice_get (get_or seats seat []) n) ≡ true) (sym f) next_passes))

  step_if : site < length placed → seat < length cursors → (j q : ℕ) (o : Option Claim)
      → slice_get (get_or seats j []) q ≡ o
      → IsPlacedBelow placed (get_or cursors j 0) q o
      → IsPlacedBelow (with_next placed site) (get_or (with_next cursors seat) j 0) q o
  step_if hs hk j q None there old = tt
  step_if hs hk j q (Some c) there old = step hs hk j q c (is_claim_of site (get_or placed site 0) c) refl there old

  -- the entry is placed, and its seat goes on
  pub cursors_next : site < length placed → seat < length cursors → AreCursors seats placed cursors
      → AreCursors seats (with_next placed site) (with_next cursors seat)
  cursors_next hs hk stand j q = step_if hs hk j q (slice_get (get_or seats j []) q) refl (stand j q)

pub next_inside : (seats : List (List Claim)) (placed cursors : List ℕ) (site seat : ℕ)
    → is_claim_if site (get_or placed site 0) (slice_get (get_or seats seat []) (get_or cursors seat 0)) ≡ true
    → seat < length seats
next_inside seats placed cursors site seat next =
    found_inside (is_claim_of site (get_or placed site 0)) seats seat (get_or cursors seat 0)
    (sym (claim_if_is site (get_or placed site 0) (slice_get (get_or seats seat []) (get_or cursors seat 0))) ∙ next)
