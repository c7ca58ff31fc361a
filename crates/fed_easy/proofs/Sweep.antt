-- Profiles made of events, from the last event back.
use Rattle.std.proofs.Common.{◌≡◌, ℕ, suc, ◌+◌, ◌≤◌, ◌<◌, cond, ltb, List, [], ◌∷◌, refl, sym, ap, ◌∙◌, arith, inl, inr, ◌-◌, ◌++◌, length, drop, drop-cons, reverse}
use Rattle.std.specs.List.Sorted.{IsNonDecreasingBy}
use Rattle.std.specs.Prelude.{min, slice_index_or}
use Rattle.std.proofs.lemmas.Grind.{common_steps}
use Rattle.std.proofs.lemmas.Bool.{cases_lt, lt-ltb, le-ltb}
use Rattle.std.proofs.lemmas.List.{reverse-append}
use Rattle.std.proofs.lemmas.List.Sums.{sum_by-cons}
use Rattle.fed_easy.specs.declared.bookings.Booking.{Booking}
use Rattle.fed_easy.specs.declared.use_changes.UseChange.{UseChange}
use Rattle.fed_easy.specs.declared.profiles.Step.{Step}
use Rattle.fed_easy.specs.Events.{AreEvents, closed_after, opened_after}
use Rattle.fed_easy.specs.Profile.{IsAfter, level_at, last_level}
use Rattle.fed_easy.specs.Use.{use_at}
use Rattle.fed_easy.proofs.Levels.{level_from, level_until}

-- ---- sums behind a second, with one event more
abbrev opened_at : ℕ → UseChange → ℕ
opened_at u e = cond (ltb u e.second) e.opened 0

abbrev closed_at : ℕ → UseChange → ℕ
closed_at u e = cond (ltb u e.second) e.closed 0

opened_before : (u : ℕ) (e : UseChange) (es : List UseChange) → u < e.second → opened_after u (e ∷ es) ≡ e.opened + opened_after u es
opened_before u e es lt = sum_by-cons (opened_at u) e es ∙ rw (lt-ltb u e.second lt) refl

closed_before : (u : ℕ) (e : UseChange) (es : List UseChange) → u < e.second → closed_after u (e ∷ es) ≡ e.closed + closed_after u es
closed_before u e es lt = sum_by-cons (closed_at u) e es ∙ rw (lt-ltb u e.second lt) refl

opened_from : (u : ℕ) (e : UseChange) (es : List UseChange) → e.second ≤ u → opened_after u (e ∷ es) ≡ opened_after u es
opened_from u e es le = sum_by-cons (opened_at u) e es ∙ rw (le-ltb u e.second le) (omega arith)

closed_from : (u : ℕ) (e : UseChange) (es : List UseChange) → e.second ≤ u → closed_after u (e ∷ es) ≡ closed_after u es
closed_from u e es le = sum_by-cons (closed_at u) e es ∙ rw (le-ltb u e.second le) (omega arith)

-- ---- from the last event back
-- the second of the first event, and that of the first step, or 0
abbrev pub first_second : List UseChange → ℕ
first_second [] = 0
first_second (e ∷ es) = e.second

abbrev pub first_step : List Step → ℕ
first_step [] = 0
first_step (s ∷ ss) = s.from

-- the second u stands before the first event, if there is one
abbrev IsBefore : ℕ → List UseChange → Type 0
IsBefore u [] = Unit {0}
IsBefore u (e ∷ es) = u < e.second

-- the nodes in use before events that close and open so many
abbrev pub before : ℕ → ℕ → ℕ → ℕ
before capacity closed opened = min (closed - opened) (suc capacity)

module _ (capacity now : ℕ) where
  -- the sums and the steps are those of the events
  pub record IsSwept (es : List UseChange) (closed opened nodes : ℕ) (ss : List Step) : Type 0 where
    pub tells : (u : ℕ) → now ≤ u → level_at nodes ss u ≡ before capacity (closed_after u es) (opened_after u es)
    pub closed_is : (u : ℕ) → IsBefore u es → closed_after u es ≡ closed
    pub opened_is : (u : ℕ) → IsBefore u es → opened_after u es ≡ opened
    pub after : IsAfter now ss
    pub ends : last_level nodes ss ≡ 0
    pub first : first_step ss ≡ first_second es

  -- one event more, in front of the others
  module _ (e : UseChange) (es : List UseChange) (closed opened nodes : ℕ) (ss : List Step) (s : IsSwept es closed opened nodes ss) (order : (u : ℕ) → u < e.second → IsBefore u es) where
    closed_more : (u : ℕ) → u < e.second → closed_after u (e ∷ es) ≡ closed + e.closed
    closed_more u lt =
        let rest = s.closed_is u (order u lt) in
        let more = closed_before u e es lt in
        omega arith

    opened_more : (u : ℕ) → u < e.second → opened_after u (e ∷ es) ≡ opened + e.opened
    opened_more u lt =
        let rest = s.opened_is u (order u lt) in
        let more = opened_before u e es lt in
        omega arith

    level_more : (u : ℕ) → u < e.second → before capacity (closed + e.closed) (opened + e.opened) ≡ before capacity (closed_after u (e ∷ es)) (opened_after u (e ∷ es))
    level_more u lt = rw (closed_more u lt, opened_more u lt) refl

    -- where its second has a step already
    pub swept_same : first_second es ≡ e.second → now < e.second → IsSwept (e ∷ es) (closed + e.closed) (opened + e.opened) (before capacity (closed + e.closed) (opened + e.opened)) ss
    swept_same same behind = go ss s.first s.tells s.after s.ends
      where
        go : (ss : List Step) → first_step ss ≡ first_second es → ((u : ℕ) → now ≤ u → level_at nodes ss u ≡ before capacity (closed_after u es) (opened_after u es)) → IsAfter now ss → last_level nodes ss ≡ 0
            → IsSwept (e ∷ es) (closed + e.closed) (opened + e.opened) (before capacity (closed + e.closed) (opened + e.opened)) ss
        go [] first tells after ends = absurd (omega arith)
        go (x ∷ xs) first tells after ends = record {
          tells = λ u from. elim (cases_lt u x.from) [
            | inl early ↦ level_until u (before capacity (closed + e.closed) (opened + e.opened)) x xs early ∙ level_more u (omega arith)
            | inr late ↦
                level_from u (before capacity (closed + e.closed) (opened + e.opened)) x xs late ∙ sym (level_from u nodes x xs late) ∙ tells u from
                ∙ (let c = closed_from u e es (omega arith) in let o = opened_from u e es (omega arith) in rw (c, o) refl)
          ];
          closed_is = λ u lt. closed_more u lt;
          opened_is = λ u lt. opened_more u lt;
          after = after;
          ends = ends;
          first = first ∙ same;
        }

    -- where it has none
    pub swept_more : (x : Step) → x.from ≡ e.second → x.nodes ≡ nodes → now < e.second → IsAfter e.second ss
        → IsSwept (e ∷ es) (closed + e.closed) (opened + e.opened) (before capacity (closed + e.closed) (opened + e.opened)) (x ∷ ss)
    swept_more x here level behind after = record {
      tells = λ u from. elim (cases_lt u x.from) [
        | inl early ↦ level_until u (before capacity (closed + e.closed) (opened + e.opened)) x ss early ∙ level_more u (omega arith)
        | inr late ↦
            level_from u (before capacity (closed + e.closed) (opened + e.opened)) x ss late
            ∙ rw level (s.tells u from ∙ (let c = closed_from u e es (omega arith) in let o = opened_from u e es (omega arith) in rw (c, o) refl))
      ];
      closed_is = λ u lt. closed_more u lt;
      opened_is = λ u lt. opened_more u lt;
      after = (omega arith, rw here after);
      ends = rw level s.ends;
      first = here;
    }

-- the steps stand behind an event that comes before them
stands_behind : (now : ℕ) (e : UseChange) (es : List UseChange) (ss : List Step) → first_step ss ≡ first_second es → IsAfter now ss
    → ((u : ℕ) → u < e.second → IsBefore u es) → (e.second ≡ first_second es → ⊥) → IsAfter e.second ss
stands_behind now e es [] first after order apart = tt
stands_behind now e [] (s ∷ ss) first after order apart = absurd (omega (arith, after.0))
stands_behind now e (f ∷ es) (s ∷ ss) first after order apart =
    elim (cases_lt f.second e.second) [
      | inl back ↦ absurd (omega (arith, order f.second back))
      | inr le ↦ elim (cases_lt e.second f.second) [ inl lt ↦ (omega arith, after.1) | inr same ↦ absurd (apart (omega arith)) ]
    ]

-- ---- one event more, from the back of a list
module _ (xs : List UseChange) (i : ℕ) (e : UseChange) (lt : i < length xs) (is : e ≡ slice_index_or xs (length xs - 1 - i) e) where
  more_left : drop (length xs - (i + 1)) xs ≡ e ∷ drop (length xs - i) xs
  more_left =
      let k : ℕ = length xs - (i + 1) in
      let place : length xs - 1 - i ≡ k = omega arith in
      let next : suc k ≡ length xs - i = omega arith in
      let here : e ≡ slice_index_or xs k e = rw place at is in
      drop-cons xs k e (omega arith) ∙ rw (← here, next) refl

  pub first_more : first_second (drop (length xs - (i + 1)) xs) ≡ e.second
  first_more = ap first_second more_left

  module _ (up : IsNonDecreasingBy (λ e. e.second) xs) where
    -- what comes before the event comes before the next
    next_before : (u : ℕ) → u < e.second → IsBefore u (drop (length xs - i) xs)
    next_before u early =
        let k : ℕ = length xs - (i + 1) in
        let place : length xs - 1 - i ≡ k = omega arith in
        let next : suc k ≡ length xs - i = omega arith in
        let here : e ≡ slice_index_or xs k e = rw place at is in
        elim (cases_lt (suc k) (length xs)) [
          | inl more ↦
              let rest : drop (suc k) xs ≡ slice_index_or xs (suc k) e ∷ drop (suc (suc k)) xs = drop-cons xs (suc k) e more in
              let le : (slice_index_or xs k e).second ≤ (slice_index_or xs (suc k) e).second = up k (suc k) e (omega arith) more in
              let le' : e.second ≤ (slice_index_or xs (suc k) e).second = rw (← here) at le in
              rw (← next, rest) (omega arith)
          | inr last ↦
              let none : drop (suc k) xs ≡ [] = grind (arith, common_steps) in
              rw (← next, none) tt
        ]

    module _ (capacity now closed opened nodes first : ℕ) (steps : List Step) (behind : now < e.second)
        (swept : IsSwept capacity now (drop (length xs - i) xs) closed opened nodes (reverse steps)) (first_is : first ≡ first_second (drop (length xs - i) xs)) where
      pub event_same : e.second ≡ first → IsSwept capacity now (drop (length xs - (i + 1)) xs) (closed + e.closed) (opened + e.opened) (before capacity (closed + e.closed) (opened + e.opened)) (reverse steps)
      event_same same = rw more_left (swept_same capacity now e (drop (length xs - i) xs) closed opened nodes (reverse steps) swept next_before (sym (same ∙ first_is)) behind)

      pub event_more : (e.second ≡ first → ⊥) → (new : List Step) → new ≡ steps ++ (record { from = e.second; nodes = nodes }) ∷ []
          → IsSwept capacity now (drop (length xs - (i + 1)) xs) (closed + e.closed) (opened + e.opened) (before capacity (closed + e.closed) (opened + e.opened)) (reverse new)
      event_more apart new pushed =
          let s : Step = record { from = e.second; nodes = nodes } in
          let turned : reverse new ≡ s ∷ reverse steps = ap (λ (ss : List Step). reverse ss) pushed ∙ reverse-append steps (s ∷ []) in
          let after = stands_behind now e (drop (length xs - i) xs) (reverse steps) swept.first swept.after next_before (λ same. apart (same ∙ sym first_is)) in
          rw (more_left, turned) (swept_more capacity now e (drop (length xs - i) xs) closed opened nodes (reverse steps) swept next_before s refl refl behind after)

-- all events are swept
pub swept_all : (capacity now i closed opened nodes : ℕ) (bs : List Booking) (es : List UseChange) (steps new : List Step) → IsSwept capacity now (drop (length es - i) es) closed opened nodes (reverse steps) → length es ≤ i
    → AreEvents now bs es → new ≡ reverse steps → (u : ℕ) → now ≤ u → min (level_at nodes new u) (suc capacity) ≡ min (use_at bs u) (suc capacity)
swept_all capacity now i closed opened nodes bs es steps new swept done are turned u from =
    let none : length es - i ≡ 0 = omega arith in
    let whole : IsSwept capacity now es closed opened nodes (reverse steps) = rw none at swept in
    let told = whole.tells u from in
    let same = are.tells u from in
    rw (turned, told) (omega arith)
