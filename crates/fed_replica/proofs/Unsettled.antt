-- What keeps a range from being retired is found among a board's entries, and how many ranges there would be.
use Rattle.std.specs.Prelude.{cond, not, ◌&&◌, ◌||◌, ◌==◌, IfSome, unwrap_or}
use Rattle.std.specs.BTreeMap.{is_at}
use Rattle.std.specs.List.{list_any}
use Rattle.std.specs.List.Sorted.{IsStrictlySortedBy}
use Rattle.std.specs.Map.{keys_of, lookup}
use Rattle.std.proofs.Common.{◌≡◌, ℕ, suc, ◌≤◌, List, [], ◌∷◌, Bool, true, false, Option, Some, None, refl, sym, ap, subst, ◌∙◌, inl, inr, arith}
use Rattle.std.proofs.lemmas.Bool.{and_parts, and_from, eqb-true, eq-eqb, leb-true, or_cases, or_left, or_right}
use Rattle.std.proofs.lemmas.Map.Views.{tells_apart}
use Rattle.fed_stamp.specs.Stamp.{StampValue}
use Rattle.fed_stamp.specs.Version.{counter_of, covers}
use Rattle.fed_lattice.specs.ExactLaws.{exact_stamp}
use Rattle.fed_lattice.specs.Latest.{stamp_cmp}
use Rattle.fed_lattice.specs.Sets.{Has}
use Rattle.fed_lattice.specs.SetLaws.{found, any_from}
use Rattle.fed_model.specs.Letter.{is_submitted}
use Rattle.fed_model.specs.JobView.{JobView}
use Rattle.fed_model.specs.Reservation.{ReservationView}
use Rattle.fed_model.specs.Refusals.{has_unsettled, is_settled, is_standing, is_unsettled}
use Rattle.fed_model.specs.Retired.{is_within}
use Rattle.fed_theory.proofs.PresenceLaws.{any_below_from, any_below_found}
use Rattle.fed_ranges.specs.RangeLaws.{same_bits}
use Rattle.fed_record.specs.JobRecord.{JobRecordValue, job_reads}
use Rattle.fed_board.specs.Board.{BoardValue, IsBoard, IsKnownJob, IsKnownReservation, no_operation, board_reads}
use Rattle.fed_board.proofs.FoundEntries.{entry_found}
use Rattle.fed_replica.specs.Retiring.{is_named, is_open_job, is_open_reservation}

-- ---- a loop over entries, up to the first that passes
any_now : {X : Type 0} (p : StampValue × X → Bool) (it rest : List (StampValue × X)) (e : StampValue × X) → it ≡ e ∷ rest → list_any p it ≡ (p e || list_any p rest)
any_now p it rest e first = ap (list_any p) first

pub any_first : {X : Type 0} (p : StampValue × X → Bool) (it rest all : List (StampValue × X)) (e : StampValue × X) → list_any p it ≡ list_any p all → it ≡ e ∷ rest → p e ≡ true → true ≡ list_any p all
any_first p it rest all e left first passes = sym (ap (λ b. b || list_any p rest) passes) ∙ sym (any_now p it rest e first) ∙ left

pub any_rest : {X : Type 0} (p : StampValue × X → Bool) (it rest all : List (StampValue × X)) (e : StampValue × X) → list_any p it ≡ list_any p all → it ≡ e ∷ rest → p e ≡ false → list_any p rest ≡ list_any p all
any_rest p it rest all e left first fails = sym (ap (λ b. b || list_any p rest) fails) ∙ sym (any_now p it rest e first) ∙ left

-- what a look-up finds is an entry
has_found : {X : Type 0} (es : List (StampValue × X)) (id : StampValue) (x : X) → lookup (is_at (stamp_cmp id)) es ≡ Some x → Has es (id, x)
has_found [] id x e = cc
has_found {X} (f ∷ es) id x e = go (is_at (stamp_cmp id) f.0) refl (has_found es id x) e
  where
    go : (b : Bool) → is_at (stamp_cmp id) f.0 ≡ b → (lookup (is_at (stamp_cmp id)) es ≡ Some x → Has es (id, x)) → cond b (Some f.1) (lookup (is_at (stamp_cmp id)) es) ≡ Some x → Has (f ∷ es) (id, x)
    go true at ih same =
        let value : f.1 ≡ x = cc in
        let key : id ≡ f.0 = tells_apart exact_stamp id f.0 at in
        inl (λ i. (sym key i, value i))
    go false at ih same = inr (ih same)

module _ (b : BoardValue) (i : IsBoard b) (here first last : ℕ) (s : IsStrictlySortedBy stamp_cmp (keys_of b.jobs)) (t : IsStrictlySortedBy stamp_cmp (keys_of b.reservations)) where
  named_at : (id : StampValue) → is_named here first last id ≡ true → (id.site ≡ here) × (is_within first last id.counter ≡ true)
  named_at id e = let p = and_parts (id.site == here) (is_within first last id.counter) e in (eqb-true id.site here p.0, p.1)

  raised : (id : StampValue) → is_named here first last id ≡ true → covers b.version id ≡ true → is_unsettled (board_reads b) here id ≡ true → has_unsettled (board_reads b) here first last ≡ true
  raised id named covered unsettled =
      let p = named_at id named in
      let is : id ≡ record { counter = id.counter; site = here } = (λ j. record { counter = id.counter; site = p.0 j }) in
      let low : id.counter ≤ counter_of b.version here = subst (λ n. id.counter ≤ counter_of b.version n) p.0 (leb-true id.counter (counter_of b.version id.site) covered) in
      any_below_from (suc (counter_of b.version here)) (λ counter. is_within first last counter && is_unsettled (board_reads b) here (record { counter = counter; site = here })) id.counter (omega arith)
      (and_from (is_within first last id.counter) _ p.1 (subst (λ (x : StampValue). is_unsettled (board_reads b) here x ≡ true) is unsettled))

  job_raises : list_any (is_open_job here first last) b.jobs ≡ true → has_unsettled (board_reads b) here first last ≡ true
  job_raises e =
      let f = found (is_open_job here first last) b.jobs e in
      let there = entry_found b.jobs f.0 s f.1 in
      let read : (board_reads b).job f.0.0 ≡ job_reads f.0.1 = ap (λ (o : Option JobRecordValue). job_reads (unwrap_or o no_operation)) there in
      let known : IsKnownJob b.version f.0.0 f.0.1 = subst (λ (o : Option JobRecordValue). IfSome o (IsKnownJob b.version f.0.0)) there (i.jobs f.0.0) in
      let p = and_parts (is_named here first last f.0.0) (not (is_settled here (job_reads f.0.1))) f.2 in
      raised f.0.0 p.0 known.named
      (or_left (is_submitted ((board_reads b).job f.0.0) && not (is_settled here ((board_reads b).job f.0.0))) (is_standing ((board_reads b).reservation f.0.0))
      (and_from _ _ (ap is_submitted read ∙ known.submitted) (ap (λ (j : JobView). not (is_settled here j)) read ∙ p.1)))

  reservation_raises : list_any (is_open_reservation here first last) b.reservations ≡ true → has_unsettled (board_reads b) here first last ≡ true
  reservation_raises e =
      let f = found (is_open_reservation here first last) b.reservations e in
      let there = entry_found b.reservations f.0 t f.1 in
      let read : (board_reads b).reservation f.0.0 ≡ f.0.1 = ap (λ (o : Option ReservationView). unwrap_or o None) there in
      let known : IsKnownReservation b.version f.0.0 f.0.1 = subst (λ (o : Option ReservationView). IfSome o (IsKnownReservation b.version f.0.0)) there (i.reservations f.0.0) in
      let p = and_parts (is_named here first last f.0.0) (is_standing f.0.1) f.2 in
      raised f.0.0 p.0 known.named
      (or_right (is_submitted ((board_reads b).job f.0.0) && not (is_settled here ((board_reads b).job f.0.0))) (is_standing ((board_reads b).reservation f.0.0)) (ap is_standing read ∙ p.1))

  job_open : (id : StampValue) → is_named here first last id ≡ true → (a : Option JobRecordValue) → lookup (is_at (stamp_cmp id)) b.jobs ≡ a
      → (is_submitted (job_reads (unwrap_or a no_operation)) && not (is_settled here (job_reads (unwrap_or a no_operation)))) ≡ true → list_any (is_open_job here first last) b.jobs ≡ true
  job_open id named None at e = cc
  job_open id named (Some r) at e =
      any_from (is_open_job here first last) b.jobs (id, r) (has_found b.jobs id r at) (and_from (is_named here first last id) _ named (and_parts (is_submitted (job_reads r)) _ e).1)

  reservation_open : (id : StampValue) → is_named here first last id ≡ true → (a : Option ReservationView) → lookup (is_at (stamp_cmp id)) b.reservations ≡ a
      → is_standing (unwrap_or a None) ≡ true → list_any (is_open_reservation here first last) b.reservations ≡ true
  reservation_open id named None at e = cc
  reservation_open id named (Some r) at e =
      any_from (is_open_reservation here first last) b.reservations (id, r) (has_found b.reservations id r at) (and_from (is_named here first last id) _ named e)

  opened : has_unsettled (board_reads b) here first last ≡ true → (list_any (is_open_job here first last) b.jobs || list_any (is_open_reservation here first last) b.reservations) ≡ true
  opened e =
      let f = any_below_found (suc (counter_of b.version here)) (λ counter. is_within first last counter && is_unsettled (board_reads b) here (record { counter = counter; site = here })) e in
      let id : StampValue = record { counter = f.0; site = here } in
      let p = and_parts (is_within first last f.0) (is_unsettled (board_reads b) here id) f.2 in
      let named : is_named here first last id ≡ true = and_from (here == here) (is_within first last f.0) (eq-eqb here here refl) p.0 in
      elim (or_cases (is_submitted ((board_reads b).job id) && not (is_settled here ((board_reads b).job id))) (is_standing ((board_reads b).reservation id)) p.1) [
        | inl j ↦ or_left (list_any (is_open_job here first last) b.jobs) _ (job_open id named (lookup (is_at (stamp_cmp id)) b.jobs) refl j)
        | inr r ↦ or_right (list_any (is_open_job here first last) b.jobs) _ (reservation_open id named (lookup (is_at (stamp_cmp id)) b.reservations) refl r)
      ]

  pub unsettled_entries : (list_any (is_open_job here first last) b.jobs || list_any (is_open_reservation here first last) b.reservations) ≡ has_unsettled (board_reads b) here first last
  unsettled_entries = same_bits _ _
      (λ e. elim (or_cases (list_any (is_open_job here first last) b.jobs) (list_any (is_open_reservation here first last) b.reservations) e) [ inl j ↦ job_raises j | inr r ↦ reservation_raises r ])
      opened
