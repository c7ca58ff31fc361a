-- The sets of a settled run are read as the replays of the journals.
use Rattle.std.specs.Prelude.{cond, nat_lt, Option, Some, None}
use Rattle.std.proofs.Common.{◌≡◌, ◌≢◌, ℕ, ◌+◌, ◌<◌, ◌≤◌, ◌==◌, List, [], ◌∷◌, ◌++◌, true, ◌&&◌, length, get_or, take, refl, sym, ap, ap₂, subst, ◌∙◌, inl, inr, arith, zero, suc}
use Rattle.std.proofs.lemmas.Bool.{cases_eq, cases_lt, ltb-false}
use Rattle.std.proofs.lemmas.List.{get_or_past, get_or-set_same, get_or-set_other, length-set, length-replicate, take_more, take_all}
use Rattle.std.proofs.lemmas.Option.{slice_get_within, get_or_from_slice_get}
use Rattle.fed_stamp.specs.Version.{counter_of, is_below, joined}
use Rattle.fed_stamp.specs.Indexes.{put}
use Rattle.fed_stamp.proofs.LeastIndex.{none_below}
use Rattle.fed_stamp.proofs.VersionLaws.{below_from_each, each_from_below}
use Rattle.fed_lattice.specs.VersionOf.{version_of}
use Rattle.fed_lattice.proofs.VersionOfLaws.{length-version_of}
use Rattle.fed_model.specs.declared.askers.Who.{Who}
use Rattle.fed_model.specs.declared.commands.Command.{Command}
use Rattle.fed_board.specs.Board.{board_reads}
use Rattle.fed_model.specs.Lawful.{IsLawful}
use Rattle.fed_model.specs.View.{View, view}
use Rattle.fed_theory.specs.ViewSteps.{add_to_view, join_records}
use Rattle.fed_theory.proofs.ViewLaws.{view_push}
use Rattle.fed_theory.specs.Cut.{cut}
use Rattle.fed_delta.proofs.CutLaws.{stands_absorbed}
use Rattle.fed_delta.specs.Packet.{PacketValue}
use Rattle.fed_model.specs.Answer.{Answer, Answer.Refuses, Answer.Replies, answer, answer_to}
use Rattle.fed_model.specs.Packet.{Site, Packet, missing, taken, takes_unless, take as take_packet}
use Rattle.fed_theory.proofs.Allowed.{answer_allowed}
use Rattle.fed_theory.proofs.NextStamps.{next_uncovered}
use Rattle.fed_model.specs.declared.events.Event.{Event}
use Rattle.fed_model.specs.declared.outcomes.Outcome.{Outcome}
use Rattle.fed_world.specs.Kept.{IsSentOf}
use Rattle.fed_model.specs.Run.{World, Step, stays, does, ships, receives, takes, packet, step, run, with_operation}
use Rattle.fed_theory.proofs.RunSteps.{does_others, do_here, site_lawful, take_here, receives_others}
use Rattle.fed_theory.proofs.Promises.{packets_kin}
use Rattle.fed_theory.proofs.Runs.{either, packet_Has, put_same, run-push, run_good}
use Rattle.fed_threads.specs.declared.journal.Asked.{Asked}
use Rattle.fed_threads.specs.declared.journal.Asked.TheVariants.{Do, Ship, Take}
use Rattle.fed_threads.specs.declared.journal.Claim.{Claim}
use Rattle.fed_threads.specs.declared.journal.Entry.{Entry}
use Rattle.fed_threads.specs.Placing.{entry_at, with_next, placed_after}
use Rattle.fed_replica.specs.State.{State, empty_at, after_answer, after_packet_unless, lacking}
use Rattle.fed_threads.specs.Replay.{after_event, replay_from}
use Rattle.fed_threads.specs.Settle.{IsSettled, AreReplays}
use Rattle.fed_threads.specs.Settled.{Point, starts, event_of, site_of, number_of, IsSentIf, HoldsPacket, Agrees, AgreesIf, AllAgree, with_entry, with_entry_if, after_next, point_after}
use Rattle.fed_threads.proofs.Filling.{zeros_low}
use Rattle.fed_threads.proofs.Journals.{replay_from_push}

-- what the site with this number holds is read as the state
pub record StandsAs (number : ℕ) (held : Site) (state : State) : Type 0 where
  pub site : state.site ≡ number
  pub board : view held.set ≡ state.view
  pub heard : (from : ℕ) → held.heard from ≡ state.heard from

-- ---- a command
answered : (w : World) (i : ℕ) (t : State) → IsLawful (w.site i).set → (who : Who) (command : Command) (a : Answer) → answer (w.site i).set i who command ≡ a
    → StandsAs i (w.site i) t → StandsAs i ((does w i a).after.site i) (after_answer t a)
answered w i t lawful who command (Refuses refusal) is old = old
answered w i t lawful who command (Replies reply None) is old = old
answered w i t lawful who command (Replies reply (Some new)) is old =
    let allowed = answer_allowed (w.site i).set lawful i who command reply new is in
    subst (λ s. StandsAs i s (after_answer t (Replies reply (Some new)))) (sym (put_same w.site i (with_operation (w.site i) new))) (record {
      site = old.site;
      board = view_push (w.site i).set new lawful (next_uncovered (version_of (w.site i).set) i new.0 allowed.0)
          ∙ ap (λ v. add_to_view v new) old.board;
      heard = old.heard;
    })

did : (n : ℕ) (events : List Event) → n ≤ 16 → (i : ℕ) → i < n → (t : State) (who : Who) (command : Command) → StandsAs i ((run n events).site i) t
    → StandsAs i ((step n (run n events) (Event.Do i who command)).after.site i) (after_answer t (answer_to t.view t.site who command))
did n events few i small t who command old =
    let w : World = run n events in
    let a : Answer = answer (w.site i).set i who command in
    let same : a ≡ answer_to t.view t.site who command = ap₂ (λ (v : View) (k : ℕ). answer_to v k who command) old.board (sym old.site) in
    subst (λ (u : Step). StandsAs i (u.after.site i) (after_answer t (answer_to t.view t.site who command))) (sym (do_here n w i who command small))
    (subst (λ (b : Answer). StandsAs i ((does w i a).after.site i) (after_answer t b)) same (answered w i t (site_lawful n events few i) who command a refl old))

-- ---- a shipment, and a take of no packet
shipped_at : (n : ℕ) (w : World) (i to t : ℕ) → (step n w (Event.Ship i to)).after.site t ≡ w.site t
shipped_at n w i to t = either (λ v. v.site t ≡ w.site t) (nat_lt i n && nat_lt to n) (ships w i to) (stays w Outcome.NoSite) refl refl

took_none : (n : ℕ) (w : World) (i k t : ℕ) → packet w k ≡ None → (step n w (Event.Take i k)).after.site t ≡ w.site t
took_none n w i k t is =
    either (λ v. v.site t ≡ w.site t) (nat_lt i n) (takes w i (packet w k)) (stays w Outcome.NoSite) (ap (λ o. (takes w i o).after.site t) is) refl

-- ---- a packet that is taken
module _ (n : ℕ) (events : List Event) (few : n ≤ 16) (i : ℕ) (small : i < n) (number : ℕ) (p : Packet) (posted : packet (run n events) number ≡ Some p)
    (c : PacketValue) (sent : IsSentOf p c) (t : State) (old : StandsAs i ((run n events).site i) t) where
  abbrev w : World
  w = run n events

  abbrev seen : List ℕ
  seen = version_of (w.site i).set

  reached : c.delta.changes.version ≡ p.reached
  unfolding cut
  reached = ap (λ (v : View). v.version) sent.cut ∙ sym ((run_good n events few).1.sent p (packet_Has w number p posted)).exact

  -- nothing is needed of more than the 16 sites
  needed : (k : ℕ) → 16 ≤ k → counter_of p.need k ≡ 0
  needed k far =
      let posts = (run_good n events few).1.sent p (packet_Has w number p posted) in
      let counters : length p.reached ≡ 16 = ap length posts.exact ∙ length-version_of p.gives in
      let none : counter_of p.reached k ≡ 0 = get_or_past p.reached k 0 (omega arith) in
      let below = each_from_below p.need p.reached posts.need k in omega arith

  enough : missing p.need seen ≡ None → is_below p.need seen ≡ true
  enough e = below_from_each p.need seen (λ k. elim (cases_lt k 16) [
    | inl near ↦ ltb-false (counter_of seen k) (counter_of p.need k) (none_below (λ site. nat_lt (counter_of seen site) (counter_of p.need site)) 16 e k near)
    | inr far ↦ (let none = needed k far in omega arith)
  ])

  lacks_same : missing p.need seen ≡ lacking t c
  lacks_same = ap₂ missing (sym sent.need) (ap (λ (v : View). v.version) old.board)

  heard_same : (from : ℕ) → put (w.site i).heard p.sender (joined ((w.site i).heard p.sender) p.reached) from ≡ put t.heard c.sender (joined (t.heard c.sender) c.delta.changes.version) from
  heard_same from =
      (λ j. cond (from == p.sender) (joined (old.heard p.sender j) (sym reached j)) (old.heard from j))
      ∙ ap (λ (s : ℕ). put t.heard s (joined (t.heard s) c.delta.changes.version) from) (sym sent.sender)

  received : (l : Option ℕ) → missing p.need seen ≡ l → StandsAs i ((receives w i (takes_unless l (w.site i) p)).after.site i) (after_packet_unless l t c)
  received (Some from) is = old
  received None is =
      subst (λ s. StandsAs i s (after_packet_unless None t c)) (sym (put_same w.site i (taken (w.site i) p))) (record {
        site = old.site;
        board = sym (stands_absorbed (w.site i).set p.gives (packets_kin n events few i number p posted) p.need (enough is)
            t.view (board_reads c.delta.changes) (join_records t.view (board_reads c.delta.changes)) refl (sym old.board) sent.cut);
        heard = heard_same;
      })

  took : StandsAs i ((step n w (Event.Take i number)).after.site i) (after_packet_unless (lacking t c) t c)
  took =
      subst (λ (u : Step). StandsAs i (u.after.site i) (after_packet_unless (lacking t c) t c)) (sym (take_here n w i number small ∙ ap (takes w i) posted))
      (subst (λ l. StandsAs i ((receives w i (take_packet (w.site i) p)).after.site i) (after_packet_unless l t c)) lacks_same (received (missing p.need seen) refl))

none_sent : (o : Option Packet) → IsSentIf o None → o ≡ None
none_sent None h = refl
none_sent (Some p) h = absurd h

some_sent : (o : Option Packet) (c : PacketValue) → IsSentIf o (Some c) → (p : Packet) × (o ≡ Some p) × IsSentOf p c
some_sent None c h = absurd h
some_sent (Some p) c h = (p, refl, h)

-- ---- an entry: its own site follows, and the others stay
entry_same : (n : ℕ) (events : List Event) → n ≤ 16 → (ships_made : List (ℕ × ℕ)) (s : ℕ) (asked : Asked) (held : Option PacketValue) (t : State) → s < n → site_of asked ≡ s
    → HoldsPacket (run n events) (event_of ships_made asked) held → StandsAs s ((run n events).site s) t
    → StandsAs s ((step n (run n events) (event_of ships_made asked)).after.site s) (after_event t asked held)
entry_same n events few ships_made s (Do site who command) held t small here holds old =
    subst (λ (k : ℕ). StandsAs s ((step n (run n events) (Event.Do k who command)).after.site s) (after_answer t (answer_to t.view t.site who command))) (sym here)
    (did n events few s small t who command old)
entry_same n events few ships_made s (Ship site to) held t small here holds old =
    subst (λ x. StandsAs s x t) (sym (shipped_at n (run n events) site to s)) old
entry_same n events few ships_made s (Take site sender place) None t small here holds old =
    let none = none_sent (packet (run n events) (number_of ships_made sender place)) holds in
    subst (λ x. StandsAs s x t) (sym (took_none n (run n events) site (number_of ships_made sender place) s none)) old
entry_same n events few ships_made s (Take site sender place) (Some c) t small here holds old =
    let k : ℕ = number_of ships_made sender place in
    let p = some_sent (packet (run n events) k) c holds in
    subst (λ (j : ℕ). StandsAs s ((step n (run n events) (Event.Take j k)).after.site s) (after_packet_unless (lacking t c) t c)) (sym here)
    (took n events few s small k p.0 p.1 c p.2 t old)

takes_others : (w : World) (i : ℕ) (o : Option Packet) (j : ℕ) → j ≢ i → (takes w i o).after.site j ≡ w.site j
takes_others w i None j apart = refl
takes_others w i (Some p) j apart = receives_others w i p (missing p.need (version_of (w.site i).set)) j apart

entry_other : (n : ℕ) (w : World) (ships_made : List (ℕ × ℕ)) (s t : ℕ) (asked : Asked) → t ≢ s → site_of asked ≡ s → (step n w (event_of ships_made asked)).after.site t ≡ w.site t
entry_other n w ships_made s t (Do site who command) apart here =
    let a : Answer = answer (w.site site).set site who command in
    either (λ v. v.site t ≡ w.site t) (nat_lt site n) (does w site a) (stays w Outcome.NoSite) (does_others w site a t (λ e. apart (e ∙ here))) refl
entry_other n w ships_made s t (Ship site to) apart here = shipped_at n w site to t
entry_other n w ships_made s t (Take site sender place) apart here =
    let o : Option Packet = packet w (number_of ships_made sender place) in
    either (λ v. v.site t ≡ w.site t) (nat_lt site n) (takes w site o) (stays w Outcome.NoSite) (takes_others w site o t (λ e. apart (e ∙ here))) refl

-- ---- a whole order
-- each site's set is read as the replay of what was run of its journal
pub record Tracks (journals : List (List Entry)) (p : Point) : Type 0 where
  pub count : length p.placed ≡ length journals
  pub each : (t : ℕ) → t < length journals
      → StandsAs t ((run (length journals) p.events).site t) (replay_from (empty_at t) (take (get_or p.placed t 0) (get_or journals t [])))

pub entry_inside : (journals : List (List Entry)) (site index : ℕ) (e : Entry) → entry_at journals site index ≡ Some e → site < length journals
entry_inside [] site index e at = cc
entry_inside (j ∷ journals) zero index e at = omega arith
entry_inside (j ∷ journals) (suc site) index e at = omega (arith, entry_inside journals site index e at)

module _ (journals : List (List Entry)) (few : length journals ≤ 16) where
  abbrev n : ℕ
  n = length journals

  module _ (p : Point) (s : ℕ) (e : Entry) (old : Tracks journals p) (at : entry_at journals s (get_or p.placed s 0) ≡ Some e) (agrees : Agrees n p s e) where
    abbrev next : Event
    next = event_of p.ships e.asked

    inside : s < n
    inside = entry_inside journals s (get_or p.placed s 0) e at

    abbrev mine : List Entry
    mine = get_or journals s []

    abbrev i : ℕ
    i = get_or p.placed s 0

    more : take (i + 1) mine ≡ take i mine ++ e ∷ []
    more = take_more mine i e (slice_get_within mine i e at) ∙ ap (λ (x : Entry). take i mine ++ x ∷ []) (get_or_from_slice_get mine i e e at)

    here : StandsAs s ((step n (run n p.events) next).after.site s) (replay_from (empty_at s) (take (i + 1) mine))
    here =
        subst (λ (t : State). StandsAs s ((step n (run n p.events) next).after.site s) t) (sym (replay_from_push (empty_at s) (take i mine) e) ∙ ap (replay_from (empty_at s)) (sym more))
        (entry_same n p.events few p.ships s e.asked e.packet (replay_from (empty_at s) (take i mine)) inside agrees.here agrees.holds (old.each s inside))

    abbrev IsTracked : ℕ → Type 0
    IsTracked t = StandsAs t ((step n (run n p.events) next).after.site t) (replay_from (empty_at t) (take (get_or (with_next p.placed s) t 0) (get_or journals t [])))

    same_tracked : IsTracked s
    same_tracked =
        subst (λ (k : ℕ). StandsAs s ((step n (run n p.events) next).after.site s) (replay_from (empty_at s) (take k mine)))
        (sym (get_or-set_same p.placed s (i + 1) 0 (let c = old.count in let l = inside in omega arith))) here

    other_tracked : (t : ℕ) → t < n → t ≢ s → IsTracked t
    other_tracked t l apart =
        subst (λ (k : ℕ). StandsAs t ((step n (run n p.events) next).after.site t) (replay_from (empty_at t) (take k (get_or journals t []))))
        (sym (get_or-set_other p.placed s t (i + 1) 0 apart))
        (subst (λ x. StandsAs t x (replay_from (empty_at t) (take (get_or p.placed t 0) (get_or journals t [])))) (sym (entry_other n (run n p.events) p.ships s t e.asked apart agrees.here)) (old.each t l))

    tracked : (t : ℕ) → t < n → IsTracked t
    tracked t l = elim (cases_eq t s) [
      | inl is ↦ subst IsTracked (sym is) same_tracked
      | inr apart ↦ other_tracked t l apart
    ]

    tracks_entry : Tracks journals (with_entry p s e)
    tracks_entry = record {
      count = length-set p.placed s (i + 1) ∙ old.count;
      each = λ t l.
          subst (λ (u : World). StandsAs t (u.site t) (replay_from (empty_at t) (take (get_or (with_next p.placed s) t 0) (get_or journals t []))))
          (sym (run-push n p.events next)) (tracked t l);
    }

  tracks_if : (p : Point) (s : ℕ) (o : Option Entry) → Tracks journals p → entry_at journals s (get_or p.placed s 0) ≡ o → AgreesIf n p s o → Tracks journals (with_entry_if p s o)
  tracks_if p s None old at agrees = absurd agrees
  tracks_if p s (Some e) old at agrees = tracks_entry p s e old at agrees

  pub tracks_after : (p : Point) (sites : List ℕ) → Tracks journals p → AllAgree journals p sites → Tracks journals (point_after journals p sites)
  tracks_after p [] old all = old
  tracks_after p (s ∷ sites) old all =
      tracks_after (after_next journals p s) sites (tracks_if p s (entry_at journals s (get_or p.placed s 0)) old refl all.0) all.1

pub starts_tracked : (journals : List (List Entry)) → Tracks journals (starts journals)
starts_tracked journals = record {
  count = length-replicate (length journals) 0;
  each = λ t l.
      subst (λ (k : ℕ). StandsAs t ((run (length journals) []).site t) (replay_from (empty_at t) (take k (get_or journals t [])))) (sym (zeros_low (length journals) t))
      (record { site = refl; board = refl; heard = λ from. refl });
}

placed_if : (n : ℕ) (p : Point) (s : ℕ) (o : Option Entry) → AgreesIf n p s o → (with_entry_if p s o).placed ≡ with_next p.placed s
placed_if n p s None agrees = absurd agrees
placed_if n p s (Some e) agrees = refl

-- the run of an order places what the order places
pub placed_is : (journals : List (List Entry)) (p : Point) (sites : List ℕ) → AllAgree journals p sites → (point_after journals p sites).placed ≡ placed_after p.placed sites
placed_is journals p [] all = refl
placed_is journals p (s ∷ sites) all =
    placed_is journals (after_next journals p s) sites all.1
    ∙ ap (λ (a : List ℕ). placed_after a sites) (placed_if (length journals) p s (entry_at journals s (get_or p.placed s 0)) all.0)

-- at each site the replay of its journal
pub settled_boards : (journals : List (List Entry)) (seats : List (List Claim)) (events : List Event) → length journals ≤ 16 → IsSettled journals seats events → AreReplays journals (run (length journals) events)
settled_boards journals seats events few settled t l =
    let all = settled.agree in
    let last = tracks_after journals few (starts journals) settled.sites (starts_tracked journals) all in
    let placed : get_or (point_after journals (starts journals) settled.sites).placed t 0 ≡ length (get_or journals t []) =
    ap (λ (a : List ℕ). get_or a t 0) (placed_is journals (starts journals) settled.sites all) ∙ settled.whole t l in
    let whole : take (get_or (point_after journals (starts journals) settled.sites).placed t 0) (get_or journals t []) ≡ get_or journals t [] =
    take_all _ (get_or journals t []) (omega arith) in
    subst (λ (es : List Event). view ((run (length journals) es).site t).set ≡ (replay_from (empty_at t) (get_or journals t [])).view) (sym settled.events_are)
    ((last.each t l).board ∙ ap (λ (es : List Entry). (replay_from (empty_at t) es).view) whole)
