-- Turns do what their events do in a run.
use Rattle.std.specs.Prelude.{◌||◌, codes, is_some, map, nat_lt, suc, Option, Some, None, IfSome, option_map, Result, Ok, Err, if◌then◌else◌}
use Rattle.std.specs.List.{position_or_len}
use Rattle.std.proofs.Common.{◌≡◌, ◌≢◌, ◌≤◌, ◌<◌, ℕ, List, [], ◌∷◌, ◌++◌, All, Bool, true, false, length, append-nil, refl, sym, subst, ap, ◌∙◌, inl, inr, arith}
use Rattle.std.proofs.lemmas.Bool.{cases_eq, lt-ltb, ltb-true}
use Rattle.std.proofs.lemmas.List.Elements.{All-append, All-cons, All-head, All-map, All-nil}
use Rattle.fed_stamp.specs.Indexes.{put}
use Rattle.fed_stamp.specs.Stamp.{StampValue}
use Rattle.fed_model.specs.declared.askers.Who.{Who}
use Rattle.fed_model.specs.declared.commands.Command.{Command}
use Rattle.fed_words.specs.declared.faults.UsageFault.{UsageFault}
use Rattle.fed_wire.specs.declared.faults.WireFault.{WireFault}
use Rattle.fed_delta.specs.Packet.{PacketValue}
use Rattle.fed_wire.specs.Reading.{packet_in}
use Rattle.fed_model.specs.Packet.{shipped}
use Rattle.fed_model.specs.Ranges.{IsRanged}
use Rattle.fed_replica.specs.State.{State}
use Rattle.fed_script.specs.Line.{Line, skips, acts, lists, misuses, ships, takes as takes_line, plans, own_line}
use Rattle.fed_model.specs.declared.events.Event.TheVariants.{Do, Ship, Take}
use Rattle.fed_model.specs.RangedEvents.{AreRanged, IsRangedEvent}
use Rattle.fed_model.specs.Run.{World, Step, run_from, outcomes_from, ships as ships_in, step, takes}
use Rattle.fed_theory.proofs.RunSteps.{put_other, ship_here, take_here}
use Rattle.fed_theory.proofs.Runs.{packet_Has, put_same, run-append}
use Rattle.fed_qstat.specs.Listed.{listed}
use Rattle.fed_qstat.specs.Outcome.{answer_line, line_of_usage, text_of_outcome}
use Rattle.fed_machine.specs.Planned.{plan_if_any, plan_or_none}
use Rattle.fed_looks.specs.Look.{Look}
use Rattle.fed_site.specs.LookText.{text_of_look}
use Rattle.fed_site.specs.Journal.{kept_line}
use Rattle.fed_site.specs.OwnLine.{asks, says, own_line_of}
use Rattle.fed_site.specs.Handed.{complaint_of_name, named_in, packet_of}
use Rattle.fed_site.specs.Packets.{is_foreign, is_forgotten}
use Rattle.fed_site.specs.Rosters.{next_roster, roster_after}
use Rattle.fed_site.specs.declared.complaints.Complaint.{Complaint}
use Rattle.fed_site.proofs.ReadLines.{read_is}
use Rattle.fed_site.proofs.Replays.{next_unkept, text_unkept}
use Rattle.fed_site.proofs.RosterLines.{begins_length}
use Rattle.fed_site.specs.Says.{Done, IsReply, Said, after_commands, after_handing, after_line, after_next, after_own, after_plan, after_reading, after_receipt, after_text, only, said_of, site_says, undone}
use Rattle.fed_turns.specs.Turn.{Course, IsCarried, MayTurn, MayTurns, Turn, WasShipped, after_said, after_turn, after_turns, said_to}
use Rattle.fed_turns.specs.Run.{AreAnswered, AreShipments, Deed, IsDeedAnswer, StandsFor, declines, deed_by, deed_of, does, events_at, events_done, events_from, hears, is_declined, is_read_in, is_stranger, looks, state_at, taken_as}
use Rattle.fed_turns.proofs.Acts.{IsStepped, acted}
use Rattle.fed_turns.proofs.OwnLines.{own_line_is}
use Rattle.fed_turns.proofs.Packets.{found, placed, shipment, shipments_push, shipped_read}
use Rattle.fed_turns.proofs.Reached.{Reached, run_reached}
use Rattle.fed_turns.proofs.Takes.{is_taken}

-- ---- one site changes
settled : (c : Course) (w v : World) (i : ℕ) (s : State) → StandsFor c w → s ≡ state_at i (v.site i) → ((j : ℕ) → j ≢ i → v.site j ≡ w.site j) → (j : ℕ) → put c.site i s j ≡ state_at j (v.site j)
settled c w v i s stands here others j = elim (cases_eq j i) [
  | inl at ↦ subst (λ (k : ℕ). put c.site i s k ≡ state_at k (v.site k)) (sym at) (put_same c.site i s ∙ here)
  | inr apart ↦ put_other c.site i s j apart ∙ stands.sites j ∙ ap (state_at j) (sym (others j apart))
]

-- and nothing is shipped
unshipped : (c : Course) (w v : World) → StandsFor c w → v.packets ≡ w.packets → AreShipments v.packets (c.shipped ++ [])
unshipped c w v stands e =
    subst (AreShipments v.packets) (sym (append-nil c.shipped)) (subst (λ ps. AreShipments ps c.shipped) (sym e) stands.shipped)

-- the turn says this, its site knows this roster then, and it does the same in the run of n sites
pub record IsPlayed (n : ℕ) (roster next : List (List ℕ × ℕ)) (c : Course) (w : World) (t : Turn) (said : Said) (deed : Deed) : Type 0 where
  pub answered : IsDeedAnswer roster w t.site deed (outcomes_from n w (events_done deed)) t.answer
  pub stands : StandsFor (after_said c t.site next said t.answer) (run_from n w (events_done deed))
  pub ranged : AreRanged (events_done deed)

-- a text that tells of a site which the roster hasn't changes nothing
stranger_still : (roster : List (List ℕ × ℕ)) (s : State) (o : Result PacketValue WireFault) → is_stranger roster o ≡ true → (after_reading roster s o).after ≡ s
stranger_still roster s (Err fault) e = cc
stranger_still roster s (Ok p) e = go (is_foreign roster p) e
  where
    go : (b : Bool) → b ≡ true
        → (if b then undone s (answer_line (codes "foreign")) Complaint.Foreign else (if is_forgotten s p then undone s (answer_line (codes "forgotten")) Complaint.Forgotten else after_receipt roster s p)).after ≡ s
    go true e = refl
    go false e = cc

-- nor does one that another site hands in
handing_still : (roster : List (List ℕ × ℕ)) (s : State) (complaint : Option Complaint) (o : Result PacketValue WireFault) → (is_some complaint || is_stranger roster o) ≡ true → (after_handing roster s complaint o).after ≡ s
handing_still roster s None o e = stranger_still roster s o e
handing_still roster s (Some complaint) o e = refl

unnamed : (roster : List (List ℕ × ℕ)) (complaint : Option Complaint) (o : Result PacketValue WireFault) → (is_some complaint || is_stranger roster o) ≡ false → (complaint ≡ None) × (is_stranger roster o ≡ false)
unnamed roster None o e = (refl, e)
unnamed roster (Some complaint) o e = cc

module _ (n : ℕ) (few : n ≤ 16) (roster next : List (List ℕ × ℕ)) (part : length roster ≤ n) (c : Course) (w : World) (t : Turn) (stands : StandsFor c w) (r : Reached n w) (small : t.site < length roster) where
  abbrev here : State
  here = state_at t.site (w.site t.site)

  own : t.site < n
  own = omega (arith, small, part)

  few_here : length roster ≤ 16
  few_here = omega (arith, few, part)

  -- nothing changes
  quiet : (text : List ℕ) → StandsFor (after_said c t.site next (said_of (only here text)) t.answer) w
  quiet text = record { sites = settled c w w t.site here stands refl (λ j apart. refl); shipped = unshipped c w w stands refl }

  -- what is played of a line that can be read
  abbrev Plays : Line → Type 0
  Plays line = IsReply here (after_line roster here line).reply t.answer → IsPlayed n roster next c w t (after_line roster here line) (does (Some line))

  skip_played : Plays skips
  skip_played e = record { answered = e; stands = quiet []; ranged = All-nil IsRangedEvent }

  list_played : (full : Bool) (jobs : List StampValue) → Plays (lists t.site full jobs)
  list_played full jobs e = record { answered = e; stands = quiet (listed full roster here.view jobs); ranged = All-nil IsRangedEvent }

  misuse_played : (fault : UsageFault) → Plays (misuses t.site fault)
  misuse_played fault e = record { answered = e; stands = quiet (line_of_usage fault); ranged = All-nil IsRangedEvent }

  plan_said : (plan : Option (List ℕ)) → IsReply here (said_of (after_plan here plan)).reply t.answer
      → (t.answer ≡ plan_or_none plan) × StandsFor (after_said c t.site next (said_of (after_plan here plan)) t.answer) w
  plan_said (Some text) e = (e, quiet text)
  plan_said None e = (e, quiet (plan_or_none None))

  plan_played : (moment : ℕ) → Plays (plans t.site moment)
  plan_played moment e =
      let said = plan_said (plan_if_any roster here.view t.site moment) e in
      record { answered = said.0; stands = said.1; ranged = All-nil IsRangedEvent }

  act_played : (who : Who) (commands : List Command) → All (IsRanged who) commands → Plays (acts t.site who commands)
  act_played who commands ranged e =
      let done = acted n few roster t.site own who commands 0 w r ranged in
      let v : World = run_from n w (map (Do t.site who) commands) in
      record {
        answered = e ∙ done.text;
        stands = record {
          sites = settled c w v t.site (after_commands roster here who 0 commands).after stands done.after done.others;
          shipped = unshipped c w v stands done.packets;
        };
        ranged = All-map IsRangedEvent (Do t.site who) commands ranged;
      }

  ship_played : (to : ℕ) → to < length roster → Plays (ships t.site to)
  ship_played to known reply =
      let one = shipment n few w r t.site to own t.answer reply in
      let does = ship_here n w t.site to own (omega (arith, known, part)) in
      record {
        answered = (ap (λ (s : Step). s.outcome ∷ []) does, one);
        stands = subst (λ (s : Step). StandsFor (after_said c t.site next (after_line roster here (ships t.site to)) t.answer) s.after) (sym does) (record {
          sites = settled c w (ships_in w t.site to).after t.site here stands refl (λ j apart. refl);
          shipped = shipments_push w.packets c.shipped (shipped t.site (w.site t.site) to) t.answer stands.shipped one;
        });
        ranged = All-cons IsRangedEvent (Ship t.site to) [] tt (All-nil IsRangedEvent);
      }

  -- the text of a packet that was shipped, taken or not
  carried_played : (text : List ℕ) → is_stranger roster (packet_in (packet_of text)) ≡ false → position_or_len (is_read_in text) c.shipped < length c.shipped → t.answer ≡ (after_reading roster here (packet_in (packet_of text))).text
      → IsPlayed n roster next c w t (said_of (after_reading roster here (packet_in (packet_of text)))) (does (Some (takes_line t.site (suc (position_or_len (is_read_in text) c.shipped)))))
  carried_played text known within e =
      let k = position_or_len (is_read_in text) c.shipped in
      let it = found text w.packets c.shipped stands.shipped within in
      let does : step n w (Take t.site (suc k)) ≡ takes w t.site (Some it.packet) = take_here n w t.site (suc k) own ∙ ap (takes w t.site) it.is in
      let posted = packet_Has w (suc k) it.packet it.is in
      let friend = sym (ap (is_stranger roster) (it.reads ∙ shipped_read it.packet it.shipped it.of)) ∙ known in
      let taken = is_taken n few w r t.site it.packet posted it.shipped it.of roster friend in
      let read = subst (λ o. IsStepped roster t.site w (takes w t.site (Some it.packet)) (after_reading roster here o)) (sym it.reads) taken in
      let one = subst (λ (s : Step). IsStepped roster t.site w s (after_reading roster here (packet_in (packet_of text)))) (sym does) read in
      let s : Step = step n w (Take t.site (suc k)) in
      record {
        answered = e ∙ one.text ∙ sym (append-nil (answer_line (text_of_outcome roster s.outcome)));
        stands = record {
          sites = settled c w s.after t.site (after_reading roster here (packet_in (packet_of text))).after stands one.after one.others;
          shipped = unshipped c w s.after stands one.packets;
        };
        ranged = All-cons IsRangedEvent (Take t.site (suc k)) [] tt (All-nil IsRangedEvent);
      }

  -- a text that isn't taken, and is of no packet shipped
  declined_played : (text : List ℕ) → (after_text roster here text).after ≡ here → t.answer ≡ (after_text roster here text).text
      → IsPlayed n roster next c w t (said_of (after_text roster here text)) (declines text)
  declined_played text still e = record {
    answered = e;
    stands = record {
      sites = settled c w w t.site (after_text roster here text).after stands still (λ j apart. refl);
      shipped = unshipped c w w stands refl;
    };
    ranged = All-nil IsRangedEvent;
  }

  -- a text that was not shipped isn't kept
  declined : (text : List ℕ) → ((after_text roster here text).kept ≡ true → WasShipped c.shipped text) → nat_lt (position_or_len (is_read_in text) c.shipped) (length c.shipped) ≡ false
      → (kept : Bool) → (after_text roster here text).kept ≡ kept → kept ≡ false
  declined text carried beyond true is =
      let was = carried is in
      let within = placed text w.packets c.shipped was.0 stands.shipped was.1 was.2 in
      absurd (true_false (sym (lt-ltb (position_or_len (is_read_in text) c.shipped) (length c.shipped) within) ∙ beyond))
    where
      true_false : true ≡ false → ⊥
      true_false e = cc
  declined text carried beyond false is = refl

  take_played : (text : List ℕ) → ((after_text roster here text).kept ≡ true → WasShipped c.shipped text) → t.answer ≡ (after_text roster here text).text
      → (far : Bool) → is_declined roster text ≡ far → (within : Bool) → nat_lt (position_or_len (is_read_in text) c.shipped) (length c.shipped) ≡ within
      → IsPlayed n roster next c w t (said_of (after_text roster here text))
      (if far then declines text else taken_as t.site text (option_map suc (if within then Some (position_or_len (is_read_in text) c.shipped) else None)))
  take_played text carried e true far within at =
      declined_played text (handing_still roster here (complaint_of_name roster (named_in text) (packet_in (packet_of text))) (packet_in (packet_of text)) far) e
  take_played text carried e false far true at =
      let o = packet_in (packet_of text) in
      let both = unnamed roster (complaint_of_name roster (named_in text) o) o far in
      let same : after_text roster here text ≡ after_reading roster here o = ap (λ complaint. after_handing roster here complaint o) both.0 in
      subst (λ (done : Done). IsPlayed n roster next c w t (said_of done) (does (Some (takes_line t.site (suc (position_or_len (is_read_in text) c.shipped)))))) (sym same)
      (carried_played text both.1 (ltb-true (position_or_len (is_read_in text) c.shipped) (length c.shipped) at) (e ∙ ap (λ (done : Done). done.text) same))
  take_played text carried e false far false at =
      declined_played text (text_unkept roster here text (declined text carried at (after_text roster here text).kept refl)) e

  unread_played : IsReply here (after_own roster here (says None)).reply t.answer → IsPlayed n roster next c w t (after_own roster here (says None)) (does None)
  unread_played e = record { answered = e; stands = quiet (answer_line (codes "cannot be read")); ranged = All-nil IsRangedEvent }

  -- a line that can be read, or can't
  line_played : (words : List (List ℕ)) (o : Option Line) → own_line roster t.site words ≡ o → IsReply here (after_own roster here (says o)).reply t.answer → IsPlayed n roster next c w t (after_own roster here (says o)) (does o)
  line_played words None is reply = unread_played reply
  line_played words (Some line) is reply =
      own_line_is roster few_here t.site Plays skip_played act_played list_played misuse_played ship_played plan_played line words is reply

  look_played : (look : Look) → t.answer ≡ text_of_look roster here look → IsPlayed n roster next c w t (after_own roster here (asks look)) (looks look)
  look_played look reply = record { answered = reply; stands = quiet (text_of_look roster here look); ranged = All-nil IsRangedEvent }

  told_played : (told : Option (List (List ℕ × ℕ))) → t.answer ≡ (after_next roster here (next_roster roster told)).text
      → IsPlayed n roster next c w t (said_of (after_next roster here (next_roster roster told))) (hears told)
  told_played told e = record {
    answered = e;
    stands = record {
      sites = settled c w w t.site (after_next roster here (next_roster roster told)).after stands (next_unkept roster here (next_roster roster told)) (λ j apart. refl);
      shipped = unshipped c w w stands refl;
    };
    ranged = All-nil IsRangedEvent;
  }

  -- whatever the line says
  own_played : ((site_says roster here t.line).kept ≡ true → IsCarried c.shipped t.line) → IsReply here (site_says roster here t.line).reply t.answer
      → IsPlayed n roster next c w t (site_says roster here t.line) (deed_by roster c.shipped t.site (own_line_of roster t.site t.line))
  own_played = read_is roster t.site t.line
      (λ o. ((after_own roster here o).kept ≡ true → IsCarried c.shipped t.line) → IsReply here (after_own roster here o).reply t.answer → IsPlayed n roster next c w t (after_own roster here o) (deed_by roster c.shipped t.site o))
      (λ text is carried reply. take_played text (λ kept. subst (λ o. IfSome o (WasShipped c.shipped)) is (carried kept)) reply (is_declined roster text) refl
      (nat_lt (position_or_len (is_read_in text) c.shipped) (length c.shipped)) refl)
      (λ words is told names carried reply. told_played told reply)
      (λ words is none look carried reply. look_played look reply)
      (λ words is none carried reply. line_played words (own_line roster t.site words) refl reply)
      (λ is carried reply. unread_played reply)

-- ---- turns
-- a line that is kept took what was shipped
kept_carried : (answers : List (List ℕ)) (line : List ℕ) (kept : Bool) → All (IsCarried answers) (kept_line kept line ++ []) → kept ≡ true → IsCarried answers line
kept_carried answers line true all e = All-head (IsCarried answers) line [] all
kept_carried answers line false all e = cc

module _ (whole : List (List ℕ × ℕ)) (few : length whole ≤ 16) where
  abbrev sites : ℕ
  sites = length whole

  pub turn_played : (c : Course) (w : World) (t : Turn) → StandsFor c w → Reached sites w → MayTurn whole c t
      → IsPlayed sites (c.roster t.site) (roster_after (c.roster t.site) t.line) c w t (said_to c t) (deed_of c t)
  turn_played c w t stands r may =
      let roster = c.roster t.site in
      let next = roster_after roster t.line in
      let took = kept_carried c.shipped t.line (said_to c t).kept may.carried in
      subst (λ (s : State). ((site_says roster s t.line).kept ≡ true → IsCarried c.shipped t.line) → IsReply s (site_says roster s t.line).reply t.answer
      → IsPlayed sites roster next c w t (site_says roster s t.line) (deed_of c t)) (sym (stands.sites t.site))
      (own_played sites few roster next (begins_length roster whole may.part) c w t stands r may.site) took may.said

  pub record ArePlayed (c : Course) (w : World) (ts : List Turn) : Type 0 where
    pub answered : AreAnswered sites c w ts
    pub stands : StandsFor (after_turns c ts) (run_from sites w (events_from c ts))
    pub ranged : AreRanged (events_from c ts)

  pub turns_played : (ts : List Turn) (c : Course) (w : World) → StandsFor c w → Reached sites w → MayTurns whole c ts → ArePlayed c w ts
  turns_played [] c w stands r may = record { answered = tt; stands = stands; ranged = All-nil IsRangedEvent }
  turns_played (t ∷ ts) c w stands r may =
      let one = turn_played c w t stands r may.0 in
      let v : World = run_from sites w (events_at c t) in
      let rest = turns_played ts (after_turn c t) v one.stands (run_reached sites (events_at c t) w one.ranged r) may.1 in
      let all = sym (run-append sites w (events_at c t) (events_from (after_turn c t) ts)) in
      record {
        answered = (one.answered, rest.answered);
        stands = subst (StandsFor (after_turns (after_turn c t) ts)) all rest.stands;
        ranged = All-append IsRangedEvent (events_at c t) (events_from (after_turn c t) ts) one.ranged rest.ranged;
      }
