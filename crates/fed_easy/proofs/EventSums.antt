-- The events of bookings.
use Rattle.std.specs.Prelude.{max}
use Rattle.std.specs.List.Sorted.{IsPermutation}
use Rattle.std.proofs.Common.{◌≡◌, ℕ, ◌+◌, ◌≤◌, ◌<◌, cond, leb, ltb, List, [], ◌∷◌, ◌++◌, refl, arith, inl, inr}
use Rattle.std.proofs.lemmas.Bool.{and_right, cases_lt, le-leb, lt-leb, lt-ltb, le-ltb}
use Rattle.std.proofs.lemmas.List.Elements.{All-push}
use Rattle.std.proofs.lemmas.List.Sums.{sum_by_push}
use Rattle.std.proofs.lemmas.List.Sorted.{All-permutation, sum_by-IsPermutation}
use Rattle.fed_easy.specs.declared.bookings.Booking.{Booking}
use Rattle.fed_easy.specs.declared.use_changes.UseChange.{UseChange}
use Rattle.fed_easy.specs.Events.{AreEvents, closed_after, opened_after}
use Rattle.fed_easy.specs.Use.{is_during, use_at}

-- the nodes of a booking at second u
abbrev part : Booking → ℕ → ℕ
part b u = cond (is_during b.from b.until u) b.nodes 0

part_during : (b : Booking) (u : ℕ) → b.from ≤ u → u < b.until → part b u ≡ b.nodes
part_during b u from until = rw (le-leb b.from u from, lt-ltb u b.until until) refl

part_early : (b : Booking) (u : ℕ) → u < b.from → part b u ≡ 0
part_early b u early = rw (lt-leb b.from u early) refl

part_late : (b : Booking) (u : ℕ) → b.until ≤ u → part b u ≡ 0
part_late b u late = rw (and_right (leb b.from u) (ltb u b.until) (le-ltb u b.until late)) refl

use_push : (bs : List Booking) (b : Booking) (u : ℕ) → use_at (bs ++ b ∷ []) u ≡ use_at bs u + part b u
use_push [] b u = omega arith
use_push (x ∷ bs) b u = let rest = use_push bs b u in omega arith

-- nodes of an event that stands after second u or not
abbrev if_after : ℕ → ℕ → ℕ → ℕ
if_after u second nodes = cond (ltb u second) nodes 0

before_it : (u second nodes : ℕ) → u < second → if_after u second nodes ≡ nodes
before_it u second nodes lt = rw (lt-ltb u second lt) refl

from_it : (u second nodes : ℕ) → second ≤ u → if_after u second nodes ≡ 0
from_it u second nodes le = rw (le-ltb u second le) refl

opened_push : (u : ℕ) (es : List UseChange) (e : UseChange) → opened_after u (es ++ e ∷ []) ≡ opened_after u es + if_after u e.second e.opened
opened_push u es e = sum_by_push (λ (e : UseChange). if_after u e.second e.opened) es e

closed_push : (u : ℕ) (es : List UseChange) (e : UseChange) → closed_after u (es ++ e ∷ []) ≡ closed_after u es + if_after u e.second e.closed
closed_push u es e = sum_by_push (λ (e : UseChange). if_after u e.second e.closed) es e

module _ (start : ℕ) (bs : List Booking) (b : Booking) (es : List UseChange) (are : AreEvents start bs es) where
  pub over_events : b.until ≤ max b.from start → AreEvents start (bs ++ b ∷ []) es
  over_events over = record {
    after = are.after;
    tells = λ u from.
        let so_far = are.tells u from in
        let more = use_push bs b u in
        let none : part b u ≡ 0 = elim (cases_lt u b.from) [ inl early ↦ part_early b u early | inr late ↦ part_late b u (omega arith) ] in
        omega arith;
  }

  -- the event of the end
  abbrev pub end_event : UseChange
  end_event = record { second = b.until; opened = 0; closed = b.nodes }

  -- the event of the beginning
  abbrev pub begin_event : UseChange
  begin_event = record { second = b.from; opened = b.nodes; closed = 0 }

  pub begun_events : b.from ≤ start → start < b.until → AreEvents start (bs ++ b ∷ []) (es ++ end_event ∷ [])
  begun_events begun lasts = record {
    after = All-push (λ (e : UseChange). start < e.second) es end_event are.after lasts;
    tells = λ u from.
        let so_far = are.tells u from in
        let more = use_push bs b u in
        let opened = opened_push u es end_event in
        let closed = closed_push u es end_event in
        elim (cases_lt u b.until) [
          | inl during ↦
              let used = part_during b u (omega arith) during in
              let o = before_it u b.until 0 during in
              let c = before_it u b.until b.nodes during in
              omega arith
          | inr late ↦
              let used = part_late b u late in
              let o = from_it u b.until 0 late in
              let c = from_it u b.until b.nodes late in
              omega arith
        ];
  }

  pub later_events : start < b.from → b.from < b.until → AreEvents start (bs ++ b ∷ []) ((es ++ begin_event ∷ []) ++ end_event ∷ [])
  later_events later lasts = record {
    after = All-push (λ (e : UseChange). start < e.second) (es ++ begin_event ∷ []) end_event (All-push (λ (e : UseChange). start < e.second) es begin_event are.after later) (omega arith);
    tells = λ u from.
        let so_far = are.tells u from in
        let more = use_push bs b u in
        let opened = opened_push u es begin_event in
        let closed = closed_push u es begin_event in
        let opened_too = opened_push u (es ++ begin_event ∷ []) end_event in
        let closed_too = closed_push u (es ++ begin_event ∷ []) end_event in
        elim (cases_lt u b.from) [
          | inl early ↦
              let used = part_early b u early in
              let o = before_it u b.from b.nodes early in
              let c = before_it u b.from 0 early in
              let o' = before_it u b.until 0 (omega arith) in
              let c' = before_it u b.until b.nodes (omega arith) in
              omega arith
          | inr begun ↦
              let o = from_it u b.from b.nodes begun in
              let c = from_it u b.from 0 begun in
              elim (cases_lt u b.until) [
                | inl during ↦
                    let used = part_during b u begun during in
                    let o' = before_it u b.until 0 during in
                    let c' = before_it u b.until b.nodes during in
                    omega arith
                | inr late ↦
                    let used = part_late b u late in
                    let o' = from_it u b.until 0 late in
                    let c' = from_it u b.until b.nodes late in
                    omega arith
              ]
        ];
  }

-- the order of events does not matter
pub permuted_events : (start : ℕ) (bs : List Booking) (es fs : List UseChange) → IsPermutation es fs → AreEvents start bs es → AreEvents start bs fs
permuted_events start bs es fs same are = record {
  after = All-permutation (λ (e : UseChange). start < e.second) es fs same are.after;
  tells = λ u from.
      let opened : opened_after u fs ≡ opened_after u es = sum_by-IsPermutation (λ (e : UseChange). if_after u e.second e.opened) es fs same in
      let closed : closed_after u fs ≡ closed_after u es = sum_by-IsPermutation (λ (e : UseChange). if_after u e.second e.closed) es fs same in
      rw (opened, closed) (are.tells u from);
}
