-- What one entry does to the seat that asked for it.
use Rattle.std.specs.Prelude.{Option, Some, None, Result, Ok, Err}
use Rattle.std.proofs.Common.{◌≡◌, ℕ, List, length, true, ap, sym, subst, ◌∙◌, arith}
use Rattle.fed_stamp.specs.declared.versions.ClockFull.{ClockFull}
use Rattle.fed_stamp.specs.Stamp.{StampValue}
use Rattle.fed_stamp.specs.Version.{IsVersion, is_below, next_stamp}
use Rattle.fed_stamp.proofs.VersionLaws.{below_trans}
use Rattle.fed_model.specs.declared.askers.Who.{Who}
use Rattle.fed_model.specs.declared.commands.Command.{Command}
use Rattle.fed_model.specs.declared.refusals.Refusal.{Refusal}
use Rattle.fed_model.specs.Body.{Body}
use Rattle.fed_theory.specs.ViewSteps.{add_to_view}
use Rattle.fed_theory.proofs.VersionGrowth.{own_raised}
use Rattle.fed_delta.specs.Packet.{PacketValue}
use Rattle.fed_model.specs.Desk.{first_of}
use Rattle.fed_model.specs.Answer.{answer_unless, replies, effect, answer_to}
use Rattle.fed_model.specs.Refusals.{refusals}
use Rattle.fed_model.specs.declared.outcomes.Outcome.{Outcome}
use Rattle.fed_threads.specs.declared.journal.Asked.{Asked}
use Rattle.fed_threads.specs.declared.journal.Asked.TheVariants.{Do, Ship, Take}
use Rattle.fed_replica.specs.declared.answers.Received.{Received}
use Rattle.fed_threads.specs.Calls.{Steps}
use Rattle.fed_replica.specs.State.{State, after_answer, lacking, after_packet_unless}
use Rattle.fed_model.specs.Outcome.{outcome_of_answer}
use Rattle.fed_replica.specs.Outcome.{outcome_of_packet_unless, outcome_of_received}
use Rattle.fed_threads.specs.Replay.{after_event, outcome_at, Kept, replay, Appends}
use Rattle.fed_threads.specs.Seat.{Known, claimed, version_of, IsUpToDate, Covers, NamesSite}
use Rattle.fed_threads.proofs.Journals.{event_grows}

-- ---- an identifier that is answered is covered by the version left
covers_added : (s : State) (t : StampValue) (command : Command) (body : Body) → length s.view.version ≡ 16
    → let a = replies (Ok t) command (Some body) in NamesSite (outcome_of_answer a) → Covers (after_answer s a).view.version (outcome_of_answer a)
unfolding add_to_view
covers_added s t (Command.Submit values held) body len small = own_raised s.view.version t (omega (arith, len, small))
covers_added s t (Command.Reserve window) body len small = own_raised s.view.version t (omega (arith, len, small))
covers_added s t _ body len small = tt

covers_nothing : (s : State) (next : Result StampValue ClockFull) (command : Command)
    → let a = replies next command None in Covers (after_answer s a).view.version (outcome_of_answer a)
covers_nothing s next (Command.Grant job asker) = tt
covers_nothing s next _ = tt

covers_replies : (s : State) (next : Result StampValue ClockFull) (command : Command) (body : Option Body) → length s.view.version ≡ 16
    → let a = replies next command body in NamesSite (outcome_of_answer a) → Covers (after_answer s a).view.version (outcome_of_answer a)
covers_replies s next command None len small = covers_nothing s next command
covers_replies s (Err full) command (Some body) len small = tt
covers_replies s (Ok t) command (Some body) len small = covers_added s t command body len small

covers_unless : (s : State) (first : Option Refusal) (next : Result StampValue ClockFull) (command : Command) (body : Option Body) → length s.view.version ≡ 16
    → let a = answer_unless first (replies next command body) in NamesSite (outcome_of_answer a) → Covers (after_answer s a).view.version (outcome_of_answer a)
covers_unless s None next command body len small = covers_replies s next command body len small
covers_unless s (Some refusal) next command body len small = tt

covers_answer : (s : State) (who : Who) (command : Command) → length s.view.version ≡ 16
    → let a = answer_to s.view s.site who command in NamesSite (outcome_of_answer a) → Covers (after_answer s a).view.version (outcome_of_answer a)
unfolding answer_to
covers_answer s who command len small =
    covers_unless s (first_of (refusals s.view s.site who command)) (next_stamp s.view.version s.site) command (effect s.view who command) len small

covers_packet : (o : Option ℕ) (s : State) (p : PacketValue) → Covers (after_packet_unless o s p).view.version (outcome_of_packet_unless o s p)
covers_packet None s p = tt
covers_packet (Some lacks) s p = tt

covers_event : (s : State) (place : ℕ) (asked : Asked) (packet : Option PacketValue) → length s.view.version ≡ 16 → NamesSite (outcome_at s place asked packet)
    → Covers (after_event s asked packet).view.version (outcome_at s place asked packet)
covers_event s place (Do site who command) packet len small = covers_answer s who command len small
covers_event s place (Ship site to) packet len small = tt
covers_event s place (Take site sender at) None len small = tt
covers_event s place (Take site sender at) (Some p) len small = covers_packet (lacking s p) s p

pub named_received : (received : Received) → NamesSite (outcome_of_received received)
named_received (Received.Taken taken) = tt
named_received (Received.Gap lacks) = tt

-- ---- the entry is added to the journal and claimed, where what was found before and after is as the calls say
pub steps : (old new : Kept) (before kept after : Known) (site index : ℕ) (found left : List ℕ) (asked : Asked) (packet : Option PacketValue) (outcome : Outcome)
    → Appends old new asked packet outcome → NamesSite outcome → index ≡ length old.entries → found ≡ (replay old).view.version → IsVersion found → left ≡ (replay new).view.version
    → IsUpToDate before site index found → kept ≡ before → after ≡ claimed kept (record { site = site; index = index; outcome = outcome }) left asked
    → Steps old new before after site asked packet outcome
steps old new before kept after site index found left asked packet outcome entry named index_is found_is counters left_is fresh kept_is seat =
    let s : State = replay old in
    let grown : is_below found left ≡ true =
    subst (λ v. is_below v left ≡ true) (sym found_is) (subst (λ v. is_below s.view.version v ≡ true) (sym left_is)
    (subst (λ (t : State). is_below s.view.version t.view.version ≡ true) (sym entry.state) (event_grows s asked packet))) in
    let len : length s.view.version ≡ 16 = ap length (sym found_is) ∙ counters.0 in
    let covered : Covers (replay new).view.version outcome =
    subst (λ (t : State). Covers t.view.version outcome) (sym entry.state)
    (subst (λ (o : Outcome). Covers (after_event s asked packet).view.version o) (sym entry.answer)
    (covers_event s (length old.entries) asked packet len (subst NamesSite entry.answer named))) in
    record {
      entry = entry;
      fresh = subst (λ n. IsUpToDate before site n s.view.version) index_is (subst (λ v. IsUpToDate before site index v) found_is fresh);
      later = subst (λ v. is_below (version_of before site) v ≡ true) left_is (below_trans _ found left fresh.board grown);
      answered = covered;
      seat = seat ∙ ap (λ (k : Known). claimed k (record { site = site; index = index; outcome = outcome }) left asked) kept_is
          ∙ ap (λ n. claimed before (record { site = site; index = n; outcome = outcome }) left asked) index_is
          ∙ ap (λ v. claimed before (record { site = site; index = length old.entries; outcome = outcome }) v asked) left_is;
    }
