-- What is said to a packet, and what is left, by what the replica lacks.
use Rattle.std.specs.Prelude.{not, Some, None, nat_lt, if◌then◌else◌}
use Rattle.std.proofs.Common.{◌≡◌, ℕ, ◌<◌, ◌==◌, Bool, true, false, List, replicate, refl, sym, ap, ◌∙◌, arith}
use Rattle.std.proofs.lemmas.Bool.{eqb-true, ltb-false, ltb-true, lt-ltb}
use Rattle.fed_stamp.specs.Indexes.{put}
use Rattle.fed_stamp.specs.Version.{is_below, joined, IsFirstAbove}
use Rattle.fed_model.specs.declared.outcomes.Outcome.{Outcome}
use Rattle.fed_model.specs.declared.taken.Taken.{Taken}
use Rattle.fed_board.specs.Board.{board_reads}
use Rattle.fed_theory.proofs.Posts.{none_missing, first_missing}
use Rattle.fed_theory.specs.ViewSteps.{join_records}
use Rattle.fed_delta.specs.Packet.{PacketValue}
use Rattle.fed_replica.specs.Outcome.{outcome_of_packet_unless}
use Rattle.fed_replica.specs.Replica.{ReplicaValue, heard_from}
use Rattle.fed_replica.specs.State.{State, lacking, after_packet_unless, state_of}

module _ (old new : ReplicaValue) (p : PacketValue) where
  abbrev s : State
  s = state_of old

  -- ---- something is lacked
  pub lacks : (missing : ℕ) → missing < 16 → IsFirstAbove p.delta.need old.board.version missing → lacking s p ≡ Some missing
  lacks missing small first = first_missing p.delta.need old.board.version missing small first

  pub gap_said : (missing : ℕ) → lacking s p ≡ Some missing → Outcome.Gap missing ≡ outcome_of_packet_unless (lacking s p) s p
  gap_said missing e = sym (ap (λ o. outcome_of_packet_unless o s p) e)

  pub gap_left : (missing : ℕ) → lacking s p ≡ Some missing → new ≡ old → state_of new ≡ after_packet_unless (lacking s p) s p
  gap_left missing e same = ap state_of same ∙ sym (ap (λ o. after_packet_unless o s p) e)

  -- ---- it is taken
  pub lacks_nothing : is_below p.delta.need old.board.version ≡ true → lacking s p ≡ None
  lacks_nothing below = none_missing p.delta.need old.board.version below

  pub taken_said : (told : Taken) → told.grew ≡ not (is_below p.delta.changes.version old.board.version) → lacking s p ≡ None → Outcome.Taken told ≡ outcome_of_packet_unless (lacking s p) s p
  taken_said told grew e = (λ i. Outcome.Taken (record { grew = grew i })) ∙ sym (ap (λ o. outcome_of_packet_unless o s p) e)

  module _ (site : new.site ≡ old.site) (board : board_reads new.board ≡ join_records (board_reads old.board) (board_reads p.delta.changes)) (sent : p.sender < 16)
      (heard : (from : ℕ) → from < 16 → heard_from new from ≡ put (heard_from old) p.sender (joined (heard_from old p.sender) p.delta.changes.version) from) where
    abbrev within : (ℕ → List ℕ) → ℕ → Bool → List ℕ
    within f from b = if b then f from else replicate 16 0

    sender_heard : s.heard p.sender ≡ heard_from old p.sender
    sender_heard = ap (within (heard_from old) p.sender) (lt-ltb p.sender 16 sent)

    not_sender : (from : ℕ) (b : Bool) → (from == p.sender) ≡ b → nat_lt from 16 ≡ false → b ≡ false
    not_sender from false e f = refl
    not_sender from true e f =
        let same : from ≡ p.sender = eqb-true from p.sender e in
        let far = ltb-false from 16 f in absurd (omega arith)

    heard_at : (from : ℕ) (b : Bool) → nat_lt from 16 ≡ b → within (heard_from new) from b ≡ (if from == p.sender then joined (s.heard p.sender) p.delta.changes.version else within (heard_from old) from b)
    heard_at from true e = heard from (ltb-true from 16 e) ∙ ap (λ h. if from == p.sender then joined h p.delta.changes.version else heard_from old from) (sym sender_heard)
    heard_at from false e = sym (ap (λ b. if b then joined (s.heard p.sender) p.delta.changes.version else replicate 16 0) (not_sender from (from == p.sender) refl e))

    after : state_of new ≡ after_packet_unless None s p
    after = λ i. record { site = site i; view = board i; heard = λ from. heard_at from (nat_lt from 16) refl i }

    pub taken_left : lacking s p ≡ None → state_of new ≡ after_packet_unless (lacking s p) s p
    taken_left e = after ∙ sym (ap (λ o. after_packet_unless o s p) e)
