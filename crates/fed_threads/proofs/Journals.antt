-- What one entry more does to a journal.
use Rattle.std.specs.Prelude.{Option, Some, None}
use Rattle.std.proofs.Common.{◌≡◌, ℕ, ◌+◌, List, [], ◌∷◌, ◌++◌, length, true, refl, ap, sym, subst, ◌∙◌, arith, add-zero, zero-add}
use Rattle.fed_stamp.specs.Version.{is_below}
use Rattle.fed_stamp.proofs.VersionLaws.{below_itself, below_joined_left}
use Rattle.fed_theory.specs.ViewSteps.{add_to_view, join_records}
use Rattle.fed_theory.proofs.VersionGrowth.{below_raised}
use Rattle.fed_delta.specs.Packet.{PacketValue}
use Rattle.fed_model.specs.Answer.{Answer, Answer.Refuses, Answer.Replies, answer_to}
use Rattle.fed_replica.specs.Replica.{ReplicaValue}
use Rattle.fed_model.specs.declared.outcomes.Outcome.{Outcome}
use Rattle.fed_threads.specs.declared.journal.Asked.{Asked}
use Rattle.fed_threads.specs.declared.journal.Asked.TheVariants.{Do, Ship, Take}
use Rattle.fed_threads.specs.declared.journal.Entry.{Entry}
use Rattle.fed_replica.specs.State.{State, IsState, empty_at, after_answer, after_packet_unless, lacking}
use Rattle.fed_threads.specs.Replay.{after_event, outcome_at, replay_from, OutcomesHold, IsReplayed, Appends}

answer_grows : (s : State) (a : Answer) → is_below s.view.version (after_answer s a).view.version ≡ true
unfolding add_to_view
answer_grows s (Refuses refusal) = below_itself s.view.version
answer_grows s (Replies reply None) = below_itself s.view.version
answer_grows s (Replies reply (Some new)) = below_raised s.view.version new.0

packet_grows : (o : Option ℕ) (s : State) (p : PacketValue) → is_below s.view.version (after_packet_unless o s p).view.version ≡ true
unfolding join_records
packet_grows (Some lacks) s p = below_itself s.view.version
packet_grows None s p = below_joined_left s.view.version p.delta.changes.version

pub event_grows : (s : State) (asked : Asked) (packet : Option PacketValue) → is_below s.view.version (after_event s asked packet).view.version ≡ true
event_grows s (Do site who command) packet = answer_grows s (answer_to s.view s.site who command)
event_grows s (Ship site to) packet = below_itself s.view.version
event_grows s (Take site sender place) None = below_itself s.view.version
event_grows s (Take site sender place) (Some p) = packet_grows (lacking s p) s p

-- ---- one entry more
pub replay_from_push : (s : State) (es : List Entry) (e : Entry) → replay_from s (es ++ e ∷ []) ≡ after_event (replay_from s es) e.asked e.packet
replay_from_push s [] e = refl
replay_from_push s (d ∷ es) e = replay_from_push (after_event s d.asked d.packet) es e

outcomes_push : (s : State) (place : ℕ) (es : List Entry) (e : Entry) → OutcomesHold s place es → e.outcome ≡ outcome_at (replay_from s es) (place + length es) e.asked e.packet
    → OutcomesHold s place (es ++ e ∷ [])
outcomes_push s place [] e held is = (is ∙ ap (λ n. outcome_at s n e.asked e.packet) (add-zero place), tt)
outcomes_push s place (d ∷ es) e held is =
    let n : place + length (d ∷ es) ≡ (place + 1) + length es = omega arith in
    (held.0, outcomes_push (after_event s d.asked d.packet) (place + 1) es e held.1 (is ∙ ap (λ m. outcome_at (replay_from s (d ∷ es)) m e.asked e.packet) n))

-- what a replica does to an entry: whatever state it reads as, it then reads as the state that the entry leaves, and the outcome is the one of that state
pub record Does (r r' : ReplicaValue) (place : ℕ) (asked : Asked) (packet : Option PacketValue) (outcome : Outcome) : Type 0 where
  pub same : r'.site ≡ r.site
  pub then : (s : State) → IsState r s → IsState r' (after_event s asked packet)
  pub says : (s : State) → IsState r s → outcome ≡ outcome_at s place asked packet

module _ (r r' : ReplicaValue) (es all : List Entry) (asked : Asked) (packet : Option PacketValue) (outcome : Outcome) (kept : IsReplayed r es)
    (does : Does r r' (length es) asked packet outcome) (more : all ≡ es ++ record { asked = asked; packet = packet; outcome = outcome } ∷ []) where
  abbrev e : Entry
  e = record { asked = asked; packet = packet; outcome = outcome }

  abbrev before : State
  before = replay_from (empty_at r.site) es

  state : IsState r' (replay_from (empty_at r.site) (es ++ e ∷ []))
  state = subst (IsState r') (sym (replay_from_push (empty_at r.site) es e)) (does.then before kept.state)

  outcomes : OutcomesHold (empty_at r.site) 0 (es ++ e ∷ [])
  outcomes = outcomes_push (empty_at r.site) 0 es e kept.outcomes (does.says before kept.state ∙ ap (λ n. outcome_at before n asked packet) (sym (zero-add (length es))))

  pub replayed_more : IsReplayed r' all
  replayed_more = subst (IsReplayed r') (sym more) (record {
    state = subst (λ (n : ℕ). IsState r' (replay_from (empty_at n) (es ++ e ∷ []))) (sym does.same) state;
    outcomes = subst (λ (n : ℕ). OutcomesHold (empty_at n) 0 (es ++ e ∷ [])) (sym does.same) outcomes;
  })

  -- the same as what a caller sees of the site
  pub appends : Appends (record { site = r.site; entries = es }) (record { site = r'.site; entries = all }) asked packet outcome
  appends = record {
    site = does.same;
    entries = more;
    answer = does.says before kept.state;
    state = (λ j. replay_from (empty_at (does.same j)) (more j)) ∙ replay_from_push (empty_at r.site) es e;
  }
