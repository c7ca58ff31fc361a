-- The lines of what was heard restore it.
use Rattle.std.specs.Prelude.{nat_eq, nat_le, nat_lt, not, ◌&&◌, ◌||◌, codes, drop, if◌then◌else◌, Some, None, Ok}
use Rattle.std.specs.List.{AllByRecursion, list_any, starts_with}
use Rattle.std.specs.Option.{option_map_or}
use Rattle.std.proofs.Common.{◌≡◌, ◌<◌, ◌≤◌, ◌+◌, ℕ, zero, suc, max, Bool, true, false, List, [], ◌∷◌, ◌++◌, length, replicate, refl, sym, ap, ap₂, ◌∙◌, inl, inr, arith}
use Rattle.std.proofs.lemmas.Bool.{and_parts, both_ways, cases_Bool, cases_eq, cases_lt, cond-true, cond-false, eq-eqb, le-ltb, leb-true, lt-ltb, lt-leb, ltb-false, ne_eqb, or_from, or_parts}
use mathlib.Core.Bool.{or-false}
use Rattle.fed_stamp.specs.Indexes.{put}
use Rattle.fed_stamp.specs.Version.{counter_of, is_below, joined}
use Rattle.fed_stamp.proofs.LeastIndex.{least_index_none}
use Rattle.fed_stamp.proofs.VersionLaws.{below_itself, each_from_below, joined-comm}
use Rattle.fed_lattice.specs.History.{History}
use Rattle.fed_lattice.specs.VersionOf.{version_of}
use Rattle.fed_lattice.proofs.VersionOfLaws.{joined_zeros, length-version_of, version_of-most}
use Rattle.fed_board.specs.Board.{board_reads}
use Rattle.fed_model.specs.Body.{Body, of_job, of_reservation}
use Rattle.fed_model.specs.JobView.{job_view, unknown}
use Rattle.fed_model.specs.Limits.{IsWithinLimits}
use Rattle.fed_model.specs.Ranges.{IsFrom}
use Rattle.fed_model.specs.Reservation.{ReservationView, reservation_view}
use Rattle.fed_model.specs.Retired.{is_retired, retires_in}
use Rattle.fed_model.specs.View.{View, view}
use Rattle.fed_ranges.specs.Retired.{latest_retires}
use Rattle.fed_theory.specs.ValueOrders.{option_window_cmp}
use Rattle.fed_theory.specs.ViewSteps.{join_records}
use Rattle.fed_lattice.specs.Register.{joined_registers}
use Rattle.fed_delta.specs.Packet.{PacketValue}
use Rattle.fed_job_json.specs.declared.formats.Format.TheVariants.{Two}
use Rattle.fed_job_json.specs.Stamps.{IsVersion}
use Rattle.serde_json.specs.Written.{compact_text}
use Rattle.fed_wire.specs.Packet.{IsPacket, packet_value}
use Rattle.fed_wire.specs.Reading.{packet_in}
use Rattle.fed_wire.proofs.PacketLaws.{again}
use Rattle.fed_replica.specs.State.{State, after_packet_unless, hearing, lacking}
use Rattle.fed_qstat.specs.Outcome.{answer_line}
use Rattle.fed_script.specs.Line.{words_in}
use Rattle.fed_site.specs.declared.complaints.Complaint.{Complaint}
use Rattle.fed_site.specs.Journal.{after_lines}
use Rattle.fed_site.specs.Known.{IsHeardOf, heard_lines, unheard}
use Rattle.fed_site.specs.Line.{packet_text}
use Rattle.fed_site.specs.OwnLine.{carries, own_line_of, own_words, says}
use Rattle.fed_site.specs.Packets.{is_foreign, is_forgotten}
use Rattle.fed_site.specs.Rosters.{roster_after, roster_told}
use Rattle.fed_site.specs.Says.{after_own, after_reading, after_receipt, site_says, undone}
use Rattle.fed_site.proofs.HeardTexts.{heard_feedless, heard_read}
use Rattle.fed_site.proofs.RosterLines.{packet_tells_none}

abbrev zeros : List ℕ
zeros = replicate 16 0

-- ---- versions
-- a version that is below another adds nothing to it
joined_below : (v w : List ℕ) → length v ≡ length w → is_below w v ≡ true → joined v w ≡ v
unfolding is_below joined
joined_below [] [] e b = refl
joined_below [] (y ∷ w) e b = absurd (omega arith)
joined_below (x ∷ v) [] e b = refl
joined_below (x ∷ v) (y ∷ w) e b =
    let p = and_parts (nat_le y x) (is_below w v) b in
    let l : y ≤ x = leb-true y x p.0 in
    let first : max x y ≡ x = omega arith in
    let lengths : length v ≡ length w = omega arith in ap₂ (λ (a : ℕ) (u : List ℕ). a ∷ u) first (joined_below v w lengths p.1)

-- what is below a version without counters behind a place has none there
none_behind : (v w : List ℕ) (m : ℕ) → is_below v w ≡ true → list_any (λ counter. nat_lt 0 counter) (drop m w) ≡ false → list_any (λ counter. nat_lt 0 counter) (drop m v) ≡ false
unfolding is_below
none_behind [] w zero b e = refl
none_behind [] w (suc m) b e = refl
none_behind (x ∷ v) [] zero b e =
    let p = and_parts (nat_le x 0) (is_below v []) b in
    let l : x ≤ 0 = leb-true x 0 p.0 in or_from (nat_lt 0 x) _ (le-ltb 0 x l) (none_behind v [] zero p.1 refl)
none_behind (x ∷ v) [] (suc m) b e = none_behind v [] m (and_parts (nat_le x 0) (is_below v []) b).1 (empty m)
  where
    empty : (m : ℕ) → list_any (λ counter. nat_lt 0 counter) (drop m []) ≡ false
    empty zero = refl
    empty (suc m) = refl
none_behind (x ∷ v) (y ∷ w) zero b e =
    let p = and_parts (nat_le x y) (is_below v w) b in
    let l : x ≤ y = leb-true x y p.0 in
    let parts = or_parts (nat_lt 0 y) (list_any (λ counter. nat_lt 0 counter) w) e in
    let small : y ≤ 0 = ltb-false 0 y parts.0 in
    or_from (nat_lt 0 x) _ (le-ltb 0 x (omega arith)) (none_behind v w zero p.1 parts.1)
none_behind (x ∷ v) (y ∷ w) (suc m) b e = none_behind v w m (and_parts (nat_le x y) (is_below v w) b).1 e

all_zeros : (v : List ℕ) (n : ℕ) → length v ≡ n → is_below v (replicate n 0) ≡ true → v ≡ replicate n 0
unfolding is_below
all_zeros [] zero e b = refl
all_zeros [] (suc n) e b = absurd (omega arith)
all_zeros (x ∷ v) zero e b = absurd (omega arith)
all_zeros (x ∷ v) (suc n) e b =
    let p = and_parts (nat_le x 0) (is_below v (replicate n 0)) b in
    let l : x ≤ 0 = leb-true x 0 p.0 in
    let first : x ≡ 0 = omega arith in
    let lengths : length v ≡ n = omega arith in ap₂ (λ (a : ℕ) (u : List ℕ). a ∷ u) first (all_zeros v n lengths p.1)

-- ---- views
hide_again : {T : Type 0} (none x : T) (b : Bool) → (if b || false then none else (if b then none else x)) ≡ (if b then none else x)
hide_again none x true = refl
hide_again none x false = refl

no_register : (x : ReservationView) → joined_registers option_window_cmp x None ≡ x
no_register None = refl
no_register (Some x) = refl

latest_none : latest_retires [] ≡ zeros
unfolding latest_retires
latest_none = refl

-- a site with what it has heard of the sites below a number
abbrev pub heard_upto : State → ℕ → State
heard_upto s k = record { site = s.site; view = s.view; heard = λ from. if nat_lt from k then s.heard from else zeros }

module _ (roster : List (List ℕ × ℕ)) (few : length roster ≤ 16) (s : State) (ops : History Body) (within : IsWithinLimits ops) (is : s.view ≡ view ops)
    (known : list_any (λ counter. nat_lt 0 counter) (drop (length roster) s.view.version) ≡ false) (h : IsHeardOf roster s) where
  -- nothing that a packet tells which has no records
  joined_nothing : (v : List ℕ) → is_below v (version_of ops) ≡ true → length v ≡ 16 → join_records (view ops) (board_reads (record { version = v; retired = []; jobs = []; reservations = [] })) ≡ view ops
  unfolding join_records
  joined_nothing v below long =
      let version : joined (version_of ops) v ≡ version_of ops = joined_below (version_of ops) v (length-version_of ops ∙ sym long) below in
      let retirements : joined (version_of (retires_in ops)) (latest_retires []) ≡ version_of (retires_in ops) =
      ap (joined (version_of (retires_in ops))) latest_none ∙ joined-comm (version_of (retires_in ops)) zeros ∙ joined_zeros 16 (version_of (retires_in ops)) (length-version_of (retires_in ops)) in
      (λ i. record {
        version = version i;
        retirements = retirements i;
        retired = λ job. or-false (is_retired ops job) i;
        job = λ job. hide_again unknown (job_view (of_job job ops)) (is_retired ops job) i;
        reservation = λ id. ((λ j. if is_retired ops id || false then None else no_register (if is_retired ops id then None else reservation_view (of_reservation id ops)) j)
            ∙ hide_again None (reservation_view (of_reservation id ops)) (is_retired ops id)) i;
      })

  module _ (k : ℕ) where
    below : is_below (s.heard k) s.view.version ≡ true
    below = h.known k

    version : IsVersion (s.heard k)
    version = (
      h.counters k,
      counters (s.heard k) (λ i.
          let a = each_from_below (s.heard k) (version_of ops) (ap (λ (v : View). is_below (s.heard k) v.version) (sym is) ∙ below) i in
          let b = version_of-most ops i 1_000_000_000 (λ e there at. (within.stamps e there).0.1) in omega arith),
    )
      where
        counters : (v : List ℕ) → ((i : ℕ) → counter_of v i ≤ 1_000_000_000) → AllByRecursion (IsFrom 0 1_000_000_000) v
        counters [] f = tt
        counters (c ∷ v) f = ((omega arith, f 0), counters v (λ i. f (suc i)))

    abbrev p : PacketValue
    p = hearing s k

    abbrev text : List ℕ
    text = compact_text (packet_value Two p)

    module _ (small : k < length roster) where
      low : k < 16
      low = omega arith

      limits : IsPacket Two p
      limits = record {
        sender = (omega arith, omega (arith, low));
        need = version;
        reached = version;
        below = below_itself (s.heard k);
        jobs = tt;
        jobs_stand = tt;
        reservations = tt;
        reservations_stand = tt;
        said = tt;
        retired = tt;
        retired_stand = tt;
      }

      is_read : packet_in text ≡ Ok p
      is_read = again Two text p limits (heard_read s k low version)

      is_packet : packet_text (codes "take " ++ text) ≡ Some text
      is_packet = ap (λ b. if starts_with nat_eq (codes "take " ++ text) (codes "take ") && not b then Some (drop 5 (codes "take " ++ text)) else None) (heard_feedless s k low version)

      line_is : own_line_of roster s.site (codes "take " ++ text) ≡ carries text
      line_is = ap (λ o. option_map_or carries o (option_map_or (own_words roster s.site) (words_in (codes "take " ++ text)) (says None))) is_packet

      pub same_roster : roster_after roster (codes "take " ++ text) ≡ roster
      same_roster = ap (roster_told roster) (packet_tells_none (codes "take " ++ text) text is_packet)

      not_foreign : is_foreign roster p ≡ false
      not_foreign = or_from (nat_le (length roster) k) _ (lt-leb (length roster) k small) (none_behind (s.heard k) s.view.version (length roster) below known)

      not_forgotten : is_forgotten (heard_upto s k) p ≡ false
      not_forgotten = le-ltb (counter_of s.view.version s.site) (counter_of (s.heard k) s.site) (each_from_below (s.heard k) s.view.version below s.site)

      none_lacking : lacking (heard_upto s k) p ≡ None
      none_lacking = sym (least_index_none (λ site. nat_lt (counter_of s.view.version site) (counter_of (s.heard k) site)) 16 (λ site _.
          le-ltb (counter_of s.view.version site) (counter_of (s.heard k) site) (each_from_below (s.heard k) s.view.version below site)))

      view_same : join_records s.view (board_reads p.delta.changes) ≡ s.view
      view_same =
          ap (λ v. join_records v (board_reads p.delta.changes)) is
          ∙ joined_nothing (s.heard k) (ap (λ (v : View). is_below (s.heard k) v.version) (sym is) ∙ below) (h.counters k)
          ∙ sym is

      heard_same : (from : ℕ) → put (heard_upto s k).heard k (joined ((heard_upto s k).heard k) (s.heard k)) from ≡ (heard_upto s (suc k)).heard from
      heard_same from = elim (cases_eq from k) [
        | inl same ↦ (
            let at : put (heard_upto s k).heard k (joined ((heard_upto s k).heard k) (s.heard k)) from ≡ joined ((heard_upto s k).heard k) (s.heard k) = cond-true (nat_eq from k) (joined ((heard_upto s k).heard k) (s.heard k)) ((heard_upto s k).heard from) (eq-eqb from k same) in
            let none : (heard_upto s k).heard k ≡ zeros = cond-false (nat_lt k k) (s.heard k) zeros (le-ltb k k (omega arith)) in
            at ∙ ap (λ v. joined v (s.heard k)) none ∙ joined_zeros 16 (s.heard k) (h.counters k)
            ∙ ap s.heard (sym same) ∙ sym (cond-true (nat_lt from (suc k)) (s.heard from) zeros (lt-ltb from (suc k) (omega arith))))
        | inr apart ↦ (
            let at : put (heard_upto s k).heard k (joined ((heard_upto s k).heard k) (s.heard k)) from ≡ (heard_upto s k).heard from = cond-false (nat_eq from k) (joined ((heard_upto s k).heard k) (s.heard k)) ((heard_upto s k).heard from) (ne_eqb from k apart) in
            at ∙ ap (λ b. if b then s.heard from else zeros) (later from apart))
      ]
        where
          later : (from : ℕ) → (from ≡ k → ⊥) → nat_lt from k ≡ nat_lt from (suc k)
          later from apart = elim (cases_lt from k) [
            | inl l ↦ lt-ltb from k l ∙ sym (lt-ltb from (suc k) (omega arith))
            | inr g ↦ le-ltb from k g ∙ sym (le-ltb from (suc k) (omega arith))
          ]

      pub taken : (site_says roster (heard_upto s k) (codes "take " ++ text)).after ≡ heard_upto s (suc k)
      taken =
          ap (λ l. (after_own roster (heard_upto s k) l).after) line_is
          ∙ ap (λ r. (after_reading roster (heard_upto s k) r).after) is_read
          ∙ ap (λ d. d.after) (cond-false (is_foreign roster p) (undone (heard_upto s k) (answer_line (codes "foreign")) Complaint.Foreign) (if is_forgotten (heard_upto s k) p then undone (heard_upto s k) (answer_line (codes "forgotten")) Complaint.Forgotten else after_receipt roster (heard_upto s k) p) not_foreign)
          ∙ ap (λ d. d.after) (cond-false (is_forgotten (heard_upto s k) p) (undone (heard_upto s k) (answer_line (codes "forgotten")) Complaint.Forgotten) (after_receipt roster (heard_upto s k) p) not_forgotten)
          ∙ ap (λ o. after_packet_unless o (heard_upto s k) p) none_lacking
          ∙ (λ i. record { site = s.site; view = view_same i; heard = λ from. heard_same from i })

    -- a site of which nothing was heard
    pub passed : is_below (s.heard k) zeros ≡ true → heard_upto s k ≡ heard_upto s (suc k)
    passed e = (λ i. record { site = s.site; view = s.view; heard = λ from. same from i })
      where
        same : (from : ℕ) → (if nat_lt from k then s.heard from else zeros) ≡ (if nat_lt from (suc k) then s.heard from else zeros)
        same from = elim (cases_lt from k) [
          | inl l ↦ ap (λ b. if b then s.heard from else zeros) (lt-ltb from k l ∙ sym (lt-ltb from (suc k) (omega arith)))
          | inr g ↦ elim (cases_eq from k) [
            | inl at ↦ (
                let none : s.heard from ≡ zeros = ap s.heard at ∙ all_zeros (s.heard k) 16 (h.counters k) e in
                cond-false (nat_lt from k) (s.heard from) zeros (le-ltb from k g) ∙ sym none ∙ sym (cond-true (nat_lt from (suc k)) (s.heard from) zeros (lt-ltb from (suc k) (omega arith))))
            | inr apart ↦ ap (λ b. if b then s.heard from else zeros) (le-ltb from k g ∙ sym (le-ltb from (suc k) (omega arith)))
          ]
        ]

  from_here : (k n : ℕ) → after_lines roster (heard_upto s k) (heard_lines s k n) ≡ heard_upto s (k + n)
  from_here k zero = ap (heard_upto s) (let e : k ≡ k + 0 = omega arith in e)
  from_here k (suc n) = elim (cases_Bool (is_below (s.heard k) zeros)) [
    | inl none ↦
        ap (λ b. after_lines roster (heard_upto s k) (option_map_or (λ line. line ∷ heard_lines s (suc k) n) (if b then None else Some (codes "take " ++ text k)) (heard_lines s (suc k) n))) none
        ∙ ap (λ t. after_lines roster t (heard_lines s (suc k) n)) (passed k none) ∙ from_here (suc k) n ∙ ap (heard_upto s) (let e : suc k + n ≡ k + suc n = omega arith in e)
    | inr some ↦ (
        let small : k < length roster = elim (cases_lt k (length roster)) [
          | inl l ↦ l
          | inr g ↦ absurd (both_ways (is_below (s.heard k) zeros) some (ap (λ v. is_below v zeros) (h.others k g) ∙ below_itself zeros))
        ] in
        ap (λ b. after_lines roster (heard_upto s k) (option_map_or (λ line. line ∷ heard_lines s (suc k) n) (if b then None else Some (codes "take " ++ text k)) (heard_lines s (suc k) n))) some
        ∙ ap (λ r. after_lines r (site_says roster (heard_upto s k) (codes "take " ++ text k)).after (heard_lines s (suc k) n)) (same_roster k small)
        ∙ ap (λ t. after_lines roster t (heard_lines s (suc k) n)) (taken k small)
        ∙ from_here (suc k) n ∙ ap (heard_upto s) (let e : suc k + n ≡ k + suc n = omega arith in e))
  ]

  pub heard_upto_none : unheard s ≡ heard_upto s 0
  heard_upto_none = (λ i. record { site = s.site; view = s.view; heard = λ from. sym (cond-false (nat_lt from 0) (s.heard from) zeros (le-ltb from 0 (omega arith))) i })

  pub heard_upto_all : (n : ℕ) → length roster ≤ n → heard_upto s n ≡ s
  heard_upto_all n whole = (λ i. record { site = s.site; view = s.view; heard = λ from. each from i })
    where
      each : (from : ℕ) → (if nat_lt from n then s.heard from else zeros) ≡ s.heard from
      each from = elim (cases_lt from n) [
        | inl l ↦ cond-true (nat_lt from n) (s.heard from) zeros (lt-ltb from n l)
        | inr g ↦ cond-false (nat_lt from n) (s.heard from) zeros (le-ltb from n g) ∙ sym (h.others from (omega arith))
      ]

  pub restored : (n : ℕ) → length roster ≤ n → after_lines roster (unheard s) (heard_lines s 0 n) ≡ s
  restored n whole =
      ap (λ t. after_lines roster t (heard_lines s 0 n)) heard_upto_none ∙ from_here 0 n ∙ ap (heard_upto s) (let e : 0 + n ≡ n = omega arith in e) ∙ heard_upto_all n whole
