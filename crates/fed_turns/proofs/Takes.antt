-- A packet that a site takes by its text is the one that it takes in the run.
use Rattle.std.specs.Prelude.{is_none, nat_lt, drop, Option, Some, None}
use Rattle.std.specs.List.{list_any}
use Rattle.std.proofs.Common.{◌≡◌, ◌≤◌, ◌<◌, ℕ, zero, suc, List, [], ◌∷◌, true, false, not, length, refl, sym, subst, ap, ◌∙◌, inl, inr, arith}
use Rattle.std.proofs.lemmas.Bool.{cases_lt, cond-false, le-ltb, lt-leb, ltb-false, or_from}
use Rattle.std.proofs.lemmas.List.{get_or_past}
use Rattle.fed_stamp.specs.Indexes.{put}
use Rattle.fed_stamp.specs.Version.{counter_of, is_below, joined}
use Rattle.fed_stamp.proofs.LeastIndex.{none_below}
use Rattle.fed_stamp.proofs.VersionLaws.{below_from_each, each_from_below}
use Rattle.fed_lattice.specs.Sets.{Has}
use Rattle.fed_lattice.specs.VersionOf.{version_of}
use Rattle.fed_lattice.proofs.VersionOfLaws.{length-version_of, version_of-Has, version_of-origin}
use Rattle.fed_board.specs.Board.{board_reads}
use Rattle.fed_model.specs.Lawful.{AreKin}
use Rattle.fed_model.specs.View.{View, view}
use Rattle.fed_theory.specs.ViewSteps.{join_records}
use Rattle.fed_theory.specs.Cut.{cut}
use Rattle.fed_delta.proofs.CutLaws.{stands_absorbed}
use Rattle.fed_delta.specs.Packet.{PacketValue}
use Rattle.fed_wire.specs.Reading.{packet_in}
use Rattle.fed_model.specs.Packet.{Packet, missing, taken, takes_unless}
use Rattle.fed_replica.specs.State.{State, after_packet_unless, lacking}
use Rattle.fed_model.specs.declared.outcomes.Outcome.{Outcome}
use Rattle.fed_world.specs.Kept.{IsTextOf}
use Rattle.fed_replica.specs.Outcome.{outcome_of_packet_unless}
use Rattle.fed_model.specs.Run.{World, receives, takes}
use Rattle.fed_theory.proofs.Cuts.{cuts_kin}
use Rattle.fed_theory.proofs.Runs.{IsSent, put_same}
use Rattle.fed_theory.proofs.RunSteps.{receives_others}
use Rattle.fed_qstat.specs.Outcome.{answer_line, text_of_outcome}
use Rattle.fed_site.specs.Packets.{is_foreign, is_forgotten}
use Rattle.fed_site.specs.Says.{Done, after_reading, after_receipt}
use Rattle.fed_site.specs.declared.complaints.Complaint.{Complaint}
use Rattle.std.specs.Option.{option_map}
use Rattle.fed_turns.specs.Run.{state_at}
use Rattle.fed_turns.proofs.Acts.{IsStepped}
use Rattle.fed_turns.proofs.Packets.{shipped_read}
use Rattle.fed_turns.proofs.Reached.{Reached, good, lawful, of_sites}

-- from a place on no counter is above 0
pub none_told : (v : List ℕ) (n : ℕ) → ((i : ℕ) → n ≤ i → counter_of v i ≡ 0) → list_any (λ counter. nat_lt 0 counter) (drop n v) ≡ false
none_told [] zero zeros = refl
none_told [] (suc n) zeros = refl
none_told (x ∷ v) zero zeros =
    let here : x ≡ 0 = zeros 0 (omega arith) in
    or_from (nat_lt 0 x) (list_any (λ counter. nat_lt 0 counter) v) (le-ltb 0 x (omega arith)) (rest v (λ i. zeros (suc i) (omega arith)))
  where
    rest : (u : List ℕ) → ((i : ℕ) → counter_of u i ≡ 0) → list_any (λ counter. nat_lt 0 counter) u ≡ false
    rest [] all = refl
    rest (y ∷ u) all =
        let first : y ≡ 0 = all 0 in
        or_from (nat_lt 0 y) (list_any (λ counter. nat_lt 0 counter) u) (le-ltb 0 y (omega arith)) (rest u (λ i. all (suc i)))
none_told (x ∷ v) (suc n) zeros = none_told v n (λ i h. zeros (suc i) (omega arith))

module _ (n : ℕ) (few : n ≤ 16) (w : World) (r : Reached n w) (i : ℕ)
    (p : Packet) (posted : Has w.packets p) (text : List ℕ) (t : IsTextOf p text) where
  abbrev c : PacketValue
  c = t.sent

  abbrev here : State
  here = state_at i (w.site i)

  sent : IsSent (good n few w r).0 w p
  sent = (good n few w r).1.sent p posted

  reached : c.delta.changes.version ≡ version_of p.gives
  unfolding cut
  reached = ap (λ (v : View). v.version) t.stands.cut

  -- ---- it is no stranger's to a site that knows all sites
  beyond : (j : ℕ) → n ≤ j → counter_of (version_of p.gives) j ≡ 0
  beyond j far = elim (version_of-origin p.gives j) [
    | inl z ↦ z
    | inr o ↦ (let own : o.0.0.site < n = (of_sites n few w r).gives p posted o.0 o.1 in let at = o.2 in absurd (omega arith))
  ]

  pub is_known : (roster : List (List ℕ × ℕ)) → n ≤ length roster → is_foreign roster t.sent ≡ false
  is_known roster all =
      let from : c.sender ≡ p.sender = t.stands.sender in
      let known : p.sender < n = (of_sites n few w r).senders p posted in
      or_from _ _ (lt-leb (length roster) c.sender (omega arith))
      (ap (λ (v : List ℕ). list_any (λ counter. nat_lt 0 counter) (drop (length roster) v)) reached ∙ none_told (version_of p.gives) (length roster) (λ j far. beyond j (omega arith)))

  -- ---- nothing was forgotten
  own_seen : counter_of (version_of p.gives) i ≤ counter_of (version_of (w.site i).set) i
  own_seen = elim (version_of-origin p.gives i) [
    | inl z ↦ omega arith
    | inr o ↦ (
        let g = good n few w r in
        let mine = g.1.own i o.0 (sent.cut.within o.0 o.1) o.2 in
        let small : o.0.0.site < 16 = (lawful n few w r i).sites o.0 mine in
        let le : o.0.0.counter ≤ counter_of (version_of (w.site i).set) o.0.0.site = version_of-Has (w.site i).set o.0 mine small in
        let at : o.0.0.counter ≤ counter_of (version_of (w.site i).set) i = subst (λ (j : ℕ). o.0.0.counter ≤ counter_of (version_of (w.site i).set) j) o.2 le in
        let is = o.3 in omega arith)
  ]

  pub is_remembered : is_forgotten here t.sent ≡ false
  is_remembered =
      ap (λ (v : List ℕ). nat_lt (counter_of (version_of (w.site i).set) i) (counter_of v i)) reached
      ∙ le-ltb (counter_of (version_of (w.site i).set) i) (counter_of (version_of p.gives) i) own_seen

  -- ---- it does what it does in the run
  -- nothing lacks: the site has all that is needed
  enough : missing p.need (version_of (w.site i).set) ≡ None → is_below p.need (version_of (w.site i).set) ≡ true
  enough e = below_from_each p.need (version_of (w.site i).set) (λ j. elim (cases_lt j 16) [
    | inl small ↦ ltb-false _ _ (none_below (λ site. nat_lt (counter_of (version_of (w.site i).set) site) (counter_of p.need site)) 16 e j small)
    | inr far ↦ (
        let counters : length p.reached ≡ 16 = ap length sent.exact ∙ length-version_of p.gives in
        let none : counter_of p.reached j ≡ 0 = get_or_past p.reached j 0 (omega arith) in
        let below = each_from_below p.need p.reached sent.need j in omega arith)
  ])

  kin : AreKin (w.site i).set p.gives
  kin =
      let g = good n few w r in
      cuts_kin g.0 (w.site i).set p.gives g.1.lawful (g.1.cuts i) sent.cut

  -- by a roster that has all sites of which it tells
  module _ (roster : List (List ℕ × ℕ)) (known : is_foreign roster c ≡ false) where
    -- what is done where something or nothing is lacked
    abbrev receipt : Option ℕ → Done
    receipt lacks = record {
      after = after_packet_unless lacks here c;
      text = answer_line (text_of_outcome roster (outcome_of_packet_unless lacks here c));
      kept = is_none lacks;
      complaint = option_map Complaint.Gap lacks;
      begun = None;
    }

    received : (lacks : Option ℕ) → missing p.need (version_of (w.site i).set) ≡ lacks → IsStepped roster i w (receives w i (takes_unless lacks (w.site i) p)) (receipt lacks)
    received (Some from) e = record { after = refl; others = λ j apart. refl; packets = refl; text = refl }
    received None e =
        let joins = stands_absorbed (w.site i).set p.gives kin p.need (enough e) (view (w.site i).set) (board_reads c.delta.changes) (join_records (view (w.site i).set) (board_reads c.delta.changes)) refl refl t.stands.cut in
        let seen : c.delta.changes.version ≡ p.reached = reached ∙ sym sent.exact in
        record {
          after =
              (λ k. record {
                site = i;
                view = joins k;
                heard = put (w.site i).heard (t.stands.sender k) (joined ((w.site i).heard (t.stands.sender k)) (seen k));
              })
              ∙ ap (state_at i) (sym (put_same w.site i (taken (w.site i) p)));
          others = receives_others w i p None;
          packets = refl;
          text = ap (λ (v : List ℕ). answer_line (text_of_outcome roster (Outcome.Taken (record { grew = not (is_below v (version_of (w.site i).set)) })))) seen;
        }

    -- the text is taken as the packet
    pub reads_receipt : after_reading roster here (packet_in text) ≡ after_receipt roster here t.sent
    reads_receipt = ap (after_reading roster here) (shipped_read p text t) ∙ cond-false (is_foreign roster c) _ _ known ∙ cond-false (is_forgotten here c) _ _ is_remembered

    pub is_taken : IsStepped roster i w (takes w i (Some p)) (after_reading roster here (packet_in text))
    is_taken =
        let need : lacking here c ≡ missing p.need (version_of (w.site i).set) = ap (λ (v : List ℕ). missing v (version_of (w.site i).set)) t.stands.need in
        let receives_it : IsStepped roster i w (takes w i (Some p)) (after_receipt roster here c) =
        subst (λ lacks. IsStepped roster i w (takes w i (Some p)) (receipt lacks)) (sym need) (received (missing p.need (version_of (w.site i).set)) refl) in
        subst (IsStepped roster i w (takes w i (Some p))) (sym reads_receipt) receives_it
