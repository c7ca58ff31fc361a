-- The next entry of a site, as the table and the seats' cursors tell of it.
use Rattle.std.proofs.Common.{◌≡◌, ◌<◌, ◌≤◌, ℕ, List, [], length, get_or, Bool, true, ◌&&◌, Some, sym, ap, subst, ◌∙◌}
use Rattle.std.proofs.lemmas.List.{length-map}
use Rattle.std.specs.Global.{Vec}
use Rattle.std.specs.List.{slice_get, count_by, list_all}
use Rattle.fed_threads.specs.declared.claims.Claimant.{Claimant}
use Rattle.fed_threads.specs.declared.journal.Claim.{Claim}
use Rattle.fed_threads.specs.declared.journal.Entry.{Entry}
use Rattle.fed_threads.specs.Claimants.{AreClaimants, seat_at}
use Rattle.fed_threads.specs.Placing.{entries_of, is_claim_of, take_allows, seat_allows, is_ready}
use Rattle.fed_threads.specs.Cursors.{is_claim_if, AreCursors}
use Rattle.fed_threads.specs.Settle.{AreClaimed}
use Rattle.fed_threads.proofs.Cursors.{all_allow, seat_claims}
use Rattle.fed_threads.proofs.Firsts.{counted_inside}
use Rattle.fed_threads.proofs.Ready.{ready_is}
use Rattle.fed_threads.proofs.Rows.{items_are}

module _ (journals : List (Vec Entry)) (seats : List (List Claim)) (rows : List (List Claimant)) (placed : List ℕ) (site seat : ℕ) (v : Vec Entry)
    (claimed : AreClaimed (entries_of journals) seats)
    (table : AreClaimants (entries_of journals) seats rows)
    (told : seat_at rows site (get_or placed site 0) ≡ Some seat)
    (inside : site < length journals)
    (journal : v ≡ get_or journals site v)
    (left : get_or placed site 0 < length v.items) where
  entry_inside : get_or placed site 0 < length (get_or (entries_of journals) site [])
  entry_inside = subst (λ (es : List Entry). get_or placed site 0 < length es) (sym (items_are journals site v inside journal)) left

  site_inside : site < length (entries_of journals)
  site_inside = subst (λ n. site < n) (sym (length-map journals (λ (w : Vec Entry). w.items))) inside

  pub claims_it : 1 ≤ count_by (is_claim_of site (get_or placed site 0)) (get_or seats seat [])
  claims_it =
      seat_claims seats site (get_or placed site 0) seat (slice_get (get_or rows site []) (get_or placed site 0))
      ((table.of_site site site_inside).claimants (get_or placed site 0) entry_inside) told
      (claimed.once_at_least site (get_or placed site 0) entry_inside)

  pub seat_inside : seat < length seats
  seat_inside = counted_inside (is_claim_of site (get_or placed site 0)) seats seat claims_it

  -- where a take's ship is placed, the entry may be placed if it is the seat's next
  pub ready_by : (cursors : List ℕ) (e : Entry) (b : Bool)
      → e ≡ get_or v.items (get_or placed site 0) e
      → AreCursors seats placed cursors
      → true ≡ take_allows (entries_of journals) placed e.asked
      → b ≡ is_claim_if site (get_or placed site 0) (slice_get (get_or seats seat []) (get_or cursors seat 0))
      → is_ready (entries_of journals) seats placed site ≡ b
  ready_by cursors e b item stand allows next =
      ready_is journals seats placed site v e inside journal left item
      ∙ (ap (λ t. t && list_all (seat_allows placed site (get_or placed site 0)) seats) (sym allows)
      ∙ (all_allow seats placed cursors site seat stand (claimed.once_at_most site (get_or placed site 0) entry_inside) claims_it ∙ sym next))
