-- What the code of a world ships and takes is what is shipped and taken in the run.
use Rattle.std.specs.Prelude.{cond, slice_get, Option, Some, None, Result, Ok}
use Rattle.std.proofs.Common.{◌≡◌, ℕ, zero, suc, ◌+◌, ◌<◌, ◌≤◌, ◌==◌, ◌⊎◌, List, [], ◌∷◌, ◌++◌, true, not, length, get_or, set, refl, sym, ap, ap₂, subst, ◌∙◌, inl, inr, arith}
use Rattle.std.proofs.lemmas.List.{take-append-le, take_all}
use Rattle.std.proofs.lemmas.List.Elements.{All-push}
use Rattle.std.proofs.Math.ListN.{take as list_take, drop}
use Rattle.serde_json.specs.Written.{compact_text}
use Rattle.fed_stamp.specs.Indexes.{put}
use Rattle.fed_stamp.specs.Version.{is_below, joined, met}
use Rattle.fed_lattice.specs.History.{History}
use Rattle.fed_lattice.specs.VersionOf.{version_of}
use Rattle.fed_lattice.proofs.VersionOfLaws.{length-version_of}
use Rattle.fed_model.specs.Body.{Body}
use Rattle.fed_board.specs.Board.{board_reads}
use Rattle.fed_model.specs.Lawful.{AreKin, IsLawful}
use Rattle.fed_model.specs.View.{View, view}
use Rattle.fed_theory.specs.Cut.{cut}
use Rattle.fed_job_json.specs.declared.formats.Format.TheVariants.{Two}
use Rattle.fed_wire.specs.declared.faults.WireFault.{WireFault}
use Rattle.fed_wire.specs.Faults.{Gives}
use Rattle.fed_model.specs.Limits.{IsWithinLimits}
use Rattle.fed_wire.specs.Packet.{IsPacket, packet_value}
use Rattle.fed_delta.specs.Packet.{PacketValue}
use Rattle.fed_wire.specs.Reading.{text_value}
use Rattle.fed_model.specs.Packet.{Packet, missing, shipped, taken, takes_unless}
use Rattle.fed_replica.proofs.Lefts.{heard_in}
use Rattle.fed_replica.specs.Outcome.{outcome_of_packet_unless}
use Rattle.fed_replica.specs.Replica.{ReplicaValue, heard_from}
use Rattle.fed_replica.specs.State.{State, after_packet_unless, lacking, state_of}
use Rattle.fed_model.specs.declared.events.Event.{Event}
use Rattle.fed_model.specs.declared.events.Event.TheVariants.{Ship, Take}
use Rattle.fed_model.specs.declared.outcomes.Outcome.{Outcome}
use Rattle.fed_world.specs.Kept.{IsReplica, AreReplicas, IsSentOf, IsTextOf, AreTexts, IsKept}
use Rattle.fed_model.specs.RangedEvents.{AreRanged, IsRangedEvent}
use Rattle.fed_model.specs.Run.{World, Step, ships, receives, takes, packet, step, run}
use Rattle.fed_theory.proofs.HeardLaws.{heard_counters, met_below}
use Rattle.fed_world.proofs.KeptLaws.{IsStep, replica_set}
use Rattle.fed_theory.proofs.RunSteps.{site_lawful, ship_here, take_here, receives_others}
use Rattle.fed_theory.proofs.PacketLimits.{site_within}
use Rattle.fed_theory.proofs.Promises.{packets_kin}
use Rattle.fed_theory.proofs.Runs.{packet_Has, put_same, run-push, run_good}

-- ---- lists of texts
pub texts_push : (ps : List Packet) (ts : List (List ℕ)) (p : Packet) (t : List ℕ) → AreTexts ps ts → IsTextOf p t → AreTexts (ps ++ p ∷ []) (ts ++ t ∷ [])
texts_push [] [] p t h s = (s, tt)
texts_push [] (u ∷ ts) p t h s = absurd h
texts_push (q ∷ ps) [] p t h s = absurd h
texts_push (q ∷ ps) (u ∷ ts) p t h s = (h.0, texts_push ps ts p t h.1 s)

pub texts_length : (ps : List Packet) (ts : List (List ℕ)) → AreTexts ps ts → length ps ≡ length ts
texts_length [] [] h = refl
texts_length [] (u ∷ ts) h = absurd h
texts_length (q ∷ ps) [] h = absurd h
texts_length (q ∷ ps) (u ∷ ts) h = let e = texts_length ps ts h.1 in omega arith

pub text_at : (ps : List Packet) (ts : List (List ℕ)) (k : ℕ) (t : List ℕ) → AreTexts ps ts → k < length ts → (p : Packet) × (slice_get ps k ≡ Some p) × IsTextOf p (get_or ts k t)
text_at [] [] k t h l = absurd (omega arith)
text_at [] (u ∷ ts) k t h l = absurd h
text_at (q ∷ ps) [] k t h l = absurd h
text_at (q ∷ ps) (u ∷ ts) zero t h l = (q, refl, h.0)
text_at (q ∷ ps) (u ∷ ts) (suc k) t h l = text_at ps ts k t h.1 (omega arith)

past : (ps : List Packet) (k : ℕ) → length ps ≤ k → slice_get ps k ≡ None
past [] k l = refl
past (q ∷ ps) zero l = absurd (omega arith)
past (q ∷ ps) (suc k) l = past ps k (omega arith)

-- packets are counted from 1
pub none_at : (u : World) (ts : List (List ℕ)) (number : ℕ) → AreTexts u.packets ts → (number ≡ 0) ⊎ (length ts < number) → packet u number ≡ None
none_at u ts zero all far = refl
none_at u ts (suc k) all (inl e) = absurd (omega arith)
none_at u ts (suc k) all (inr l) = past u.packets k (let e = texts_length u.packets ts all in omega arith)

-- what is read of the text of a packet is sent of the packet
pub read_sent : (p : Packet) (bytes : List ℕ) (t : IsTextOf p bytes) (r : Result PacketValue WireFault) (c : PacketValue) → r ≡ Ok c → Gives (Ok t.sent) r → IsSentOf p c
read_sent p bytes t r c e g =
    let told : Gives (Ok t.sent) (Ok c) = subst (Gives (Ok t.sent)) e g in
    let same : c ≡ t.sent = cc in subst (IsSentOf p) (sym same) t.stands

-- ---- shipments
-- what an outcome and the packets are of a step
abbrev pub IsShipped : Step → Outcome → List (List ℕ) → Type 0
IsShipped s o ts = (o ≡ s.outcome) × AreTexts s.after.packets ts

-- a packet of what a board tells is within limits, where the board stands for a lawful set within limits
abbrev pub IsTold : PacketValue → Type 0
IsTold c = (ops : History Body) (seen : List ℕ) → IsLawful ops → IsWithinLimits ops → c.delta.need ≡ met seen (version_of ops) →
    board_reads c.delta.changes ≡ cut (view ops) c.delta.need → IsPacket Two c

module _ (n : ℕ) (events : List Event) (few : n ≤ 16) where
  abbrev w : World
  w = run n events

  known : (i from : ℕ) → is_below ((w.site i).heard from) (version_of (w.site i).set) ≡ true
  known = (run_good n events few).1.known

  pub sent_of : (i to : ℕ) → i < n → to < n → (r : ReplicaValue) → IsReplica i (w.site i) r → (c : PacketValue) → c.sender ≡ r.site → c.delta.need ≡ met (heard_from r to) r.board.version
      → board_reads c.delta.changes ≡ cut (board_reads r.board) c.delta.need → IsSentOf (shipped i (w.site i) to) c
  sent_of i to small there r held c sender need cuts =
      let heard : heard_from r to ≡ (w.site i).heard to = held.heard to (omega arith) in
      let seen : r.board.version ≡ version_of (w.site i).set = ap (λ (v : View). v.version) held.board in
      let needed : c.delta.need ≡ (w.site i).heard to =
      need ∙ ap₂ met heard seen ∙ met_below ((w.site i).heard to) (version_of (w.site i).set) (heard_counters n events few i to ∙ sym (length-version_of (w.site i).set)) (known i to) in
      record {
        small = omega arith;
        sender = sender ∙ held.site;
        need = needed;
        cut = cuts ∙ ap₂ cut held.board needed;
      }

  pub sent_within : (i to : ℕ) → AreRanged events → (r : ReplicaValue) → IsReplica i (w.site i) r → (c : PacketValue) → IsTold c → c.delta.need ≡ met (heard_from r to) r.board.version
      → board_reads c.delta.changes ≡ cut (board_reads r.board) c.delta.need → IsPacket Two c
  sent_within i to ranged r held c told need cuts =
      let seen : r.board.version ≡ version_of (w.site i).set = ap (λ (v : View). v.version) held.board in
      told (w.site i).set (heard_from r to) (site_lawful n events few i) (site_within n events few ranged i)
      (need ∙ ap (met (heard_from r to)) seen) (cuts ∙ ap (λ v. cut v c.delta.need) held.board)

  -- the replica that ships stands at k, the number of the site
  pub ship_done : (i k to : ℕ) → k ≡ i → k < n → to < n → AreRanged events → (r : ReplicaValue) → IsReplica k (w.site k) r → (c : PacketValue) → IsTold c → c.sender ≡ r.site → c.delta.need ≡ met (heard_from r to) r.board.version
      → board_reads c.delta.changes ≡ cut (board_reads r.board) c.delta.need → (text : List ℕ) → text ≡ compact_text (packet_value Two c) → text_value text ≡ Some (packet_value Two c)
      → (ts after : List (List ℕ)) (number : ℕ) → AreTexts w.packets ts → after ≡ ts ++ text ∷ [] → number ≡ length ts + 1 → IsShipped (step n w (Ship i to)) (Outcome.Packet number) after
  ship_done i k to at small there ranged r held c told sender need cuts text written again ts after number all pushed count =
      let made : IsTextOf (shipped k (w.site k) to) text = record {
        sent = c;
        stands = sent_of k to small there r held c sender need cuts;
        limits = sent_within k to ranged r held c told need cuts;
        written = written;
        again = again;
      } in
      let here : IsShipped (ships w k to) (Outcome.Packet number) after = (
        ap (λ m. Outcome.Packet m) (count ∙ ap (λ m. m + 1) (sym (texts_length w.packets ts all))),
        subst (AreTexts (w.packets ++ shipped k (w.site k) to ∷ [])) (sym pushed) (texts_push w.packets ts (shipped k (w.site k) to) text all made),
      ) in
      subst (λ (j : ℕ). IsShipped (step n w (Ship j to)) (Outcome.Packet number) after) at
      (subst (λ s. IsShipped s (Outcome.Packet number) after) (sym (ship_here n w k to small there)) here)

-- ---- packets that are taken
module _ (n : ℕ) (events : List Event) (few : n ≤ 16) (rs : List ReplicaValue) (held : AreReplicas n (run n events) rs) where
  abbrev u : World
  u = run n events

  pub no_packet : (i number : ℕ) (ts : List (List ℕ)) → AreTexts u.packets ts → i < n → (number ≡ 0) ⊎ (length ts < number) → IsStep n (step n u (Take i number)) Outcome.NoPacket rs
  no_packet i number ts all small far =
      subst (λ s. IsStep n s Outcome.NoPacket rs) (sym (take_here n u i number small ∙ ap (takes u i) (none_at u ts number all far))) (refl, held)

  -- the replica that takes it stands at k, the number of the site
  module _ (i k : ℕ) (at : k ≡ i) (small : k < n) (number : ℕ) (p : Packet) (c : PacketValue) (posted : packet u number ≡ Some p) (sent : IsSentOf p c)
      (old new : ReplicaValue) (before : IsReplica k (u.site k) old) where
    seen : old.board.version ≡ version_of (u.site k).set
    seen = ap (λ (v : View). v.version) before.board

    reached : c.delta.changes.version ≡ p.reached
    unfolding cut
    reached = ap (λ (v : View). v.version) sent.cut ∙ sym ((run_good n events few).1.sent p (packet_Has u number p posted)).exact

    in_place : (lacks : Option ℕ) → missing p.need (version_of (u.site k).set) ≡ lacks → (o : Outcome) → o ≡ (receives u k (takes_unless lacks (u.site k) p)).outcome
        → IsReplica k ((receives u k (takes_unless lacks (u.site k) p)).after.site k) new → IsStep n (step n u (Take i number)) o (set rs k new)
    in_place lacks e o said r =
        let here : IsStep n (receives u k (takes_unless lacks (u.site k) p)) o (set rs k new) =
        (said, replica_set n u (receives u k (takes_unless lacks (u.site k) p)).after rs k new small held (receives_others u k p lacks) r) in
        let is : step n u (Take k number) ≡ receives u k (takes_unless lacks (u.site k) p) =
        take_here n u k number small ∙ ap (takes u k) posted ∙ ap (λ l. receives u k (takes_unless l (u.site k) p)) e in
        subst (λ (j : ℕ). IsStep n (step n u (Take j number)) o (set rs k new)) at (subst (λ s. IsStep n s o (set rs k new)) (sym is) here)

    -- what it lacks is what the site lacks in the run
    need : lacking (state_of old) c ≡ missing p.need (version_of (u.site k).set)
    need = ap₂ missing sent.need seen

    heard_before : (from : ℕ) → from < 16 → (state_of old).heard from ≡ (u.site k).heard from
    heard_before from h = sym (heard_in old from h) ∙ before.heard from h

    stayed : state_of new ≡ state_of old → IsReplica k (u.site k) new
    stayed left = record {
      site = ap (λ (s : State). s.site) left ∙ before.site;
      board = ap (λ (s : State). s.view) left ∙ before.board;
      heard = λ from h. heard_in new from h ∙ ap (λ (s : State). s.heard from) left ∙ heard_before from h;
    }

    module _ (stands : (ops others : History Body) → lacking (state_of old) c ≡ None → AreKin ops others → board_reads old.board ≡ view ops
        → board_reads c.delta.changes ≡ cut (view others) c.delta.need → board_reads new.board ≡ view (ops ++ others)) where
      joined_heard : (from : ℕ) → from < 16 → put (state_of old).heard c.sender (joined ((state_of old).heard c.sender) c.delta.changes.version) from ≡ put (u.site k).heard p.sender (joined ((u.site k).heard p.sender) p.reached) from
      joined_heard from h =
          ap (λ (s : ℕ). put (state_of old).heard s (joined ((state_of old).heard s) c.delta.changes.version) from) sent.sender
          ∙ (λ j. cond (from == p.sender) (joined (heard_before p.sender sent.small j) (reached j)) (heard_before from h j))

      then : IsReplica k (taken (u.site k) p) new → IsReplica k (put u.site k (taken (u.site k) p) k) new
      then r = subst (λ s. IsReplica k s new) (sym (put_same u.site k (taken (u.site k) p))) r

      received : (lacks : Option ℕ) → lacking (state_of old) c ≡ lacks → (o : Outcome) → o ≡ outcome_of_packet_unless lacks (state_of old) c → state_of new ≡ after_packet_unless lacks (state_of old) c
          → IsStep n (step n u (Take i number)) o (set rs k new)
      received (Some from) e o said left = in_place (Some from) (sym need ∙ e) o said (stayed left)
      received None e o said left = in_place None (sym need ∙ e) o
          (said ∙ (λ j. Outcome.Taken (record { grew = not (is_below (reached j) (seen j)) })))
          (then (record {
            site = ap (λ (s : State). s.site) left ∙ before.site;
            board = stands (u.site k).set p.gives e (packets_kin n events few k number p posted) before.board (sent.cut ∙ ap (cut (view p.gives)) (sym sent.need));
            heard = λ from h. heard_in new from h ∙ ap (λ (s : State). s.heard from) left ∙ joined_heard from h;
          }))

      pub packet_done : (o : Outcome) → o ≡ outcome_of_packet_unless (lacking (state_of old) c) (state_of old) c
          → state_of new ≡ after_packet_unless (lacking (state_of old) c) (state_of old) c → IsStep n (step n u (Take i number)) o (set rs k new)
      packet_done o said left = received (lacking (state_of old) c) refl o said left

-- ---- one event more
pub kept_after : (n : ℕ) (events all : List Event) (event : Event) (rs new : List ReplicaValue) (before texts : List (List ℕ)) → IsKept n events rs before → IsRangedEvent event → all ≡ events ++ event ∷ []
    → AreReplicas n (step n (run n events) event).after new → AreTexts (step n (run n events) event).after.packets texts → IsKept n all new texts
kept_after n events all event rs new before texts kept ranged grown replicas packets =
    let same : (step n (run n events) event).after ≡ run n all = sym (run-push n events event) ∙ ap (run n) (sym grown) in
    record {
      few = kept.few;
      ranged = subst AreRanged (sym grown) (All-push IsRangedEvent events event kept.ranged ranged);
      replicas = subst (λ v. AreReplicas n v new) same replicas;
      texts = subst (λ (v : World). AreTexts v.packets texts) same packets;
    }

-- a list that was lent whole and written back
pub lent_whole : {T : Type 0} (len : ℕ) (xs ys : List T) → len ≡ length ys → length xs ≡ length ys → list_take len (xs ++ drop (length xs) ys) ≡ xs
lent_whole {T} len xs ys e f = take-append-le len xs (drop (length xs) ys) (omega arith) ∙ take_all len xs (omega arith)
