-- A site that is ready stays ready whatever else is placed.
use Rattle.std.proofs.Common.{◌≡◌, ◌<◌, ◌≤◌, ℕ, List, [], ◌∷◌, length, get_or, Bool, true, false, ◌&&◌, Option, Some, None, refl, ap, subst, arith, zero, suc}
use Rattle.std.specs.Global.{Vec}
use Rattle.std.specs.List.{list_all}
use Rattle.std.proofs.lemmas.Grind.{common_steps}
use Rattle.std.proofs.lemmas.Option.{slice_get_within}
use Rattle.std.proofs.lemmas.Bool.{and_from}
use Rattle.fed_threads.specs.declared.journal.Asked.{Asked}
use Rattle.fed_threads.specs.declared.journal.Asked.TheVariants.{Do, Ship, Take}
use Rattle.fed_threads.specs.declared.journal.Claim.{Claim}
use Rattle.fed_threads.specs.declared.journal.Entry.{Entry}
use Rattle.fed_threads.specs.Placing.{entry_at, is_placed, take_allows, claims_before, seat_allows, may_follow, is_ready, entries_of}
use Rattle.fed_threads.proofs.Courses.{entry_found}
use Rattle.fed_threads.proofs.Greedy.{IsWithin, StaysReady, and_left, and_right}

stays_placed : (a b : List ℕ) (site index : ℕ) → IsWithin a b → is_placed a site index ≡ true → is_placed b site index ≡ true
stays_placed a b site index le is = let h = le site in grind (arith, common_steps)

stays_all : (a b : List ℕ) (claims : List Claim) → IsWithin a b
    → list_all (λ c. is_placed a c.site c.index) claims ≡ true
    → list_all (λ c. is_placed b c.site c.index) claims ≡ true
stays_all a b [] le is = refl
stays_all a b (c ∷ claims) le is =
    and_from _ _ (stays_placed a b c.site c.index le (and_left _ _ is)) (stays_all a b claims le (and_right (is_placed a c.site c.index) _ is))

stays_seats : (a b : List ℕ) (site index : ℕ) (seats : List (List Claim)) → IsWithin a b
    → list_all (seat_allows a site index) seats ≡ true
    → list_all (seat_allows b site index) seats ≡ true
stays_seats a b site index [] le is = refl
stays_seats a b site index (claims ∷ seats) le is =
    and_from _ _ (stays_all a b (claims_before site index claims) le (and_left _ _ is))
    (stays_seats a b site index seats le (and_right (seat_allows a site index claims) _ is))

stays_take : (journals : List (List Entry)) (a b : List ℕ) (asked : Asked) → IsWithin a b
    → take_allows journals a asked ≡ true
    → take_allows journals b asked ≡ true
stays_take journals a b (Do site who command) le is = refl
stays_take journals a b (Ship site to) le is = refl
stays_take journals a b (Take site sender place) le is =
    and_from _ _ (stays_placed a b sender place le (and_left _ _ is)) (and_right (is_placed a sender place) _ is)

stays_follow : (journals : List (List Entry)) (seats : List (List Claim)) (a b : List ℕ) (site index : ℕ) (e : Option Entry) → IsWithin a b
    → may_follow journals seats a site index e ≡ true
    → may_follow journals seats b site index e ≡ true
stays_follow journals seats a b site index None le is = is
stays_follow journals seats a b site index (Some e) le is =
    and_from _ _ (stays_take journals a b e.asked le (and_left _ _ is))
    (stays_seats a b site index seats le (and_right (take_allows journals a e.asked) _ is))

follow_inside : (journals : List (List Entry)) (seats : List (List Claim)) (placed : List ℕ) (site index : ℕ)
    → (e : Option Entry)
    → entry_at journals site index ≡ e
    → may_follow journals seats placed site index e ≡ true
    → index < length (get_or journals site [])
follow_inside journals seats placed site index None at is = cc
follow_inside journals seats placed site index (Some e) at is = slice_get_within (get_or journals site []) index e at

-- a site that is ready has an entry left
pub ready_inside : (journals : List (List Entry)) (seats : List (List Claim)) (placed : List ℕ) (site : ℕ)
    → is_ready journals seats placed site ≡ true
    → get_or placed site 0 < length (get_or journals site [])
ready_inside journals seats placed site is =
    follow_inside journals seats placed site (get_or placed site 0) (entry_at journals site (get_or placed site 0)) refl is

-- past the journals there is no entry
past_empty : (journals : List (List Entry)) (site : ℕ) → 0 < length (get_or journals site []) → site < length journals
past_empty [] site h = absurd (omega arith)
past_empty (j ∷ journals) zero h = omega arith
past_empty (j ∷ journals) (suc site) h = omega (arith, past_empty journals site h)

pub stays_ready : (journals : List (List Entry)) (seats : List (List Claim)) → StaysReady (is_ready journals seats) (length journals)
stays_ready journals seats =
    record {
      stays = λ a b s le same is.
          subst (λ n. may_follow journals seats b s n (entry_at journals s n) ≡ true) same
          (stays_follow journals seats a b s (get_or a s 0) (entry_at journals s (get_or a s 0)) le is);
      inside = λ a s len is. past_empty journals s (let h = ready_inside journals seats a s is in omega arith);
    }

past_site : (journals : List (List Entry)) (seats : List (List Claim)) (placed : List ℕ) (site : ℕ) → length journals ≤ site
    → (b : Bool)
    → is_ready journals seats placed site ≡ b
    → b ≡ false
past_site journals seats placed site past false is = refl
past_site journals seats placed site past true is =
    absurd (let h : site < length journals = past_empty journals site (let k = ready_inside journals seats placed site is in omega arith) in omega arith)

-- what the test of a site comes to where it has an entry left
pub ready_is : (journals : List (Vec Entry)) (seats : List (List Claim)) (placed : List ℕ) (site : ℕ) (v : Vec Entry) (e : Entry)
    → site < length journals
    → v ≡ get_or journals site v
    → get_or placed site 0 < length v.items
    → e ≡ get_or v.items (get_or placed site 0) e
    → is_ready (entries_of journals) seats placed site
    ≡ (take_allows (entries_of journals) placed e.asked && list_all (seat_allows placed site (get_or placed site 0)) seats)
ready_is journals seats placed site v e h is inside item =
    let found : entry_at (entries_of journals) site (get_or placed site 0) ≡ Some e =
    entry_found journals site (get_or placed site 0) v h is e inside item in
    ap (λ (o : Option Entry). may_follow (entries_of journals) seats placed site (get_or placed site 0) o) found
