-- What a replica does, it does to each state that it reads as.
use Rattle.std.specs.Prelude.{cond, not, Option, Some, None, Result}
use Rattle.std.proofs.Common.{◌≡◌, ℕ, ◌<◌, ◌==◌, get_or, replicate, refl, ap, sym, ◌∙◌}
use Rattle.fed_stamp.specs.Indexes.{put}
use Rattle.fed_stamp.specs.Version.{is_below, joined}
use Rattle.fed_model.specs.declared.askers.Who.{Who}
use Rattle.fed_model.specs.declared.commands.Command.{Command}
use Rattle.fed_model.specs.declared.outcomes.Outcome.{Outcome}
use Rattle.fed_model.specs.declared.refusals.Refusal.{Refusal}
use Rattle.fed_model.specs.declared.replies.Reply.{Reply}
use Rattle.fed_model.specs.Answer.{Answer, Answer.Refuses, Answer.Replies, answer_to}
use Rattle.fed_model.specs.Outcome.{outcome_of_answer, outcome_of}
use Rattle.fed_model.specs.Packet.{missing}
use Rattle.fed_model.specs.View.{View}
use Rattle.fed_board.specs.Board.{board_reads}
use Rattle.fed_theory.specs.ViewSteps.{add_to_view, join_records}
use Rattle.fed_delta.specs.Packet.{PacketValue}
use Rattle.fed_replica.proofs.Lefts.{heard_in}
use Rattle.fed_replica.specs.Outcome.{outcome_of_packet_unless, said_by}
use Rattle.fed_replica.specs.Replica.{ReplicaValue, heard_from}
use Rattle.fed_replica.specs.State.{State, IsState, after_answer, after_packet_unless, lacking, state_of}
use Rattle.fed_threads.specs.declared.journal.Asked.TheVariants.{Do, Ship, Take}
use Rattle.fed_threads.proofs.Journals.{Does}

-- ---- a command
module _ (old new : ReplicaValue) (who : Who) (command : Command) (site : new.site ≡ old.site) (heard : new.heard ≡ old.heard) (s : State) (is : IsState old s) where
  heard_still : (from : ℕ) → from < 16 → heard_from new from ≡ s.heard from
  heard_still from h = ap (λ hs. get_or hs from (replicate 16 0)) heard ∙ is.heard from h

  reads_as : (v : View) → board_reads new.board ≡ v → IsState new (record { site = s.site; view = v; heard = s.heard })
  reads_as v e = record { site = site ∙ is.site; board = e; heard = heard_still }

  -- the state that an answer comes to
  went : (a : Answer) → board_reads new.board ≡ (after_answer (state_of old) a).view → IsState new (after_answer s a)
  went (Refuses refusal) e = reads_as s.view (e ∙ is.board)
  went (Replies reply None) e = reads_as s.view (e ∙ is.board)
  went (Replies reply (Some new_op)) e = reads_as (add_to_view s.view new_op) (e ∙ ap (λ v. add_to_view v new_op) is.board)

  same_answer : answer_to (board_reads old.board) old.site who command ≡ answer_to s.view s.site who command
  same_answer = λ j. answer_to (is.board j) (is.site j) who command

  pub command_went : state_of new ≡ after_answer (state_of old) (answer_to (board_reads old.board) old.site who command) → IsState new (after_answer s (answer_to s.view s.site who command))
  command_went left = went (answer_to s.view s.site who command) (ap (λ (t : State). t.view) (left ∙ ap (after_answer (state_of old)) same_answer))

  -- the outcome is that of the answer
  outcome_said : (a : Answer) → outcome_of (said_by a) ≡ outcome_of_answer a
  outcome_said (Refuses refusal) = refl
  outcome_said (Replies reply new_op) = refl

  pub command_said : (said : Result Reply Refusal) → said ≡ said_by (answer_to (board_reads old.board) old.site who command) → outcome_of said ≡ outcome_of_answer (answer_to s.view s.site who command)
  command_said said told = ap outcome_of (told ∙ ap said_by same_answer) ∙ outcome_said (answer_to s.view s.site who command)

pub does_command : (old new : ReplicaValue) (place site : ℕ) (who : Who) (command : Command) → new.site ≡ old.site → new.heard ≡ old.heard → (said : Result Reply Refusal)
    → said ≡ said_by (answer_to (board_reads old.board) old.site who command) → state_of new ≡ after_answer (state_of old) (answer_to (board_reads old.board) old.site who command)
    → Does old new place (Do site who command) None (outcome_of said)
does_command old new place site who command same heard said told left = record {
  same = same;
  then = λ s is. command_went old new who command same heard s is left;
  says = λ s is. command_said old new who command same heard s is said told;
}

-- ---- a shipment
pub does_ship : (r : ReplicaValue) (place site to : ℕ) → Does r r place (Ship site to) None (Outcome.Packet place)
does_ship r place site to = record { same = refl; then = λ s is. is; says = λ s is. refl }

-- ---- a packet
module _ (old new : ReplicaValue) (p : PacketValue) (sent : p.sender < 16) (s : State) (is : IsState old s) where
  abbrev before : State
  before = state_of old

  heard_is : (from : ℕ) → from < 16 → before.heard from ≡ s.heard from
  heard_is from h = sym (heard_in old from h) ∙ is.heard from h

  joined_heard : (from : ℕ) → from < 16 → put before.heard p.sender (joined (before.heard p.sender) p.delta.changes.version) from ≡ put s.heard p.sender (joined (s.heard p.sender) p.delta.changes.version) from
  joined_heard from h = λ j. cond (from == p.sender) (joined (heard_is p.sender sent j) p.delta.changes.version) (heard_is from h j)

  same_lacks : lacking before p ≡ lacking s p
  same_lacks = ap (λ (v : View). missing p.delta.need v.version) is.board

  then_at : (lacks : Option ℕ) → state_of new ≡ after_packet_unless lacks before p → IsState new (after_packet_unless lacks s p)
  then_at (Some site) left = record {
    site = ap (λ (t : State). t.site) left ∙ is.site;
    board = ap (λ (t : State). t.view) left ∙ is.board;
    heard = λ from h. heard_in new from h ∙ ap (λ (t : State). t.heard from) left ∙ heard_is from h;
  }
  then_at None left = record {
    site = ap (λ (t : State). t.site) left ∙ is.site;
    board = ap (λ (t : State). t.view) left ∙ ap (λ v. join_records v (board_reads p.delta.changes)) is.board;
    heard = λ from h. heard_in new from h ∙ ap (λ (t : State). t.heard from) left ∙ joined_heard from h;
  }

  says_at : (lacks : Option ℕ) → outcome_of_packet_unless lacks before p ≡ outcome_of_packet_unless lacks s p
  says_at (Some site) = refl
  says_at None = λ j. Outcome.Taken (record { grew = not (is_below p.delta.changes.version (is.board j).version) })

  pub packet_went : state_of new ≡ after_packet_unless (lacking before p) before p → IsState new (after_packet_unless (lacking s p) s p)
  packet_went left = then_at (lacking s p) (left ∙ ap (λ o. after_packet_unless o before p) same_lacks)

  pub packet_said : (o : Outcome) → o ≡ outcome_of_packet_unless (lacking before p) before p → o ≡ outcome_of_packet_unless (lacking s p) s p
  packet_said o said = said ∙ ap (λ l. outcome_of_packet_unless l before p) same_lacks ∙ says_at (lacking s p)

pub does_packet : (old new : ReplicaValue) (place at sender from : ℕ) (p : PacketValue) → p.sender < 16 → new.site ≡ old.site → (o : Outcome) → o ≡ outcome_of_packet_unless (lacking (state_of old) p) (state_of old) p
    → state_of new ≡ after_packet_unless (lacking (state_of old) p) (state_of old) p → Does old new place (Take at sender from) (Some p) o
does_packet old new place at sender from p small same o said left = record {
  same = same;
  then = λ s is. packet_went old new p small s is left;
  says = λ s is. packet_said old new p small s is o said;
}
