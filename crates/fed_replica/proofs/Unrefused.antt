-- What holds where a command is not refused.
use Rattle.std.specs.BTreeMap.{is_at}
use Rattle.std.specs.Map.{lookup}
use Rattle.std.specs.Prelude.{cond, nat_le, nat_lt, not, IsSome, unwrap_or, Ok}
use Rattle.std.proofs.Common.{◌≡◌, ◌≤◌, ℕ, Bool, true, false, Option, Some, None, refl, subst, arith}
use Rattle.std.proofs.lemmas.Bool.{le-leb, leb-false, ltb-false, not-false, or_parts}
use Rattle.fed_stamp.specs.Stamp.{StampValue}
use Rattle.fed_stamp.specs.Version.{counter_of, greatest, next_stamp}
use Rattle.fed_stamp.proofs.VersionLaws.{covered_counter_le_greatest}
use Rattle.fed_lattice.specs.Latest.{stamp_cmp}
use Rattle.fed_model.specs.declared.askers.Who.{Who}
use Rattle.fed_model.specs.declared.commands.Command.{Command}
use Rattle.fed_model.specs.Body.{Body}
use Rattle.fed_record.specs.JobRecord.{JobRecordValue, job_reads}
use Rattle.fed_model.specs.Letter.{is_submitted}
use Rattle.fed_model.specs.Reservation.{ReservationView}
use Rattle.fed_board.specs.Board.{BoardValue, HasJob, HasNamed, HasReservation, no_operation, board_reads}
use Rattle.fed_model.specs.Answer.{effect}
use Rattle.fed_model.specs.Refusals.{has_unsettled, is_bad_range, is_standing, refusals}
use Rattle.fed_theory.proofs.Allowed.{AreClear}
use Rattle.fed_theory.proofs.NextStamps.{next_is}

-- ---- what the operation is of is on the board
has_job : (b : BoardValue) (job : StampValue) → not (is_submitted ((board_reads b).job job)) ≡ false → HasJob b job
has_job b job = go (lookup (is_at (stamp_cmp job)) b.jobs)
  where
    go : (a : Option JobRecordValue) → not (is_submitted (job_reads (unwrap_or a no_operation))) ≡ false → IsSome a
    go None e = cc
    go (Some r) e = refl

has_reservation : (b : BoardValue) (id : StampValue) → is_standing ((board_reads b).reservation id) ≡ true → HasReservation b id
has_reservation b id = go (lookup (is_at (stamp_cmp id)) b.reservations)
  where
    go : (a : Option ReservationView) → is_standing (unwrap_or a None) ≡ true → IsSome a
    go None e = cc
    go (Some r) e = refl

-- of an operation that is the one that a command adds
is_body : (P : Body → Type 0) (a b : Body) → Some a ≡ Some b → P a → P b
is_body P a b e p = let q : a ≡ b = cc in subst P q p

body_if : (P : Body → Type 0) (t : Bool) (a b : Body) → cond t (Some a) None ≡ Some b → P a → P b
body_if P true a b e p = is_body P a b e p
body_if P false a b e p = cc

body_unless : (P : Body → Type 0) (t : Bool) (a b : Body) → cond t None (Some a) ≡ Some b → P a → P b
body_unless P true a b e p = cc
body_unless P false a b e p = is_body P a b e p

-- where no refusal of the table applies to the command, the job or the reservation of what it adds is on the board, and
-- what it retires was named before
pub named : (b : BoardValue) (here : ℕ) (who : Who) (command : Command) (at : StampValue) (body : Body) → AreClear (refusals (board_reads b) here who command) → next_stamp b.version here ≡ Ok at → effect (board_reads b) who command ≡ Some body → HasNamed b at body
named b here who (Command.Submit values held) at body c n e = is_body (HasNamed b at) _ body e tt
named b here who (Command.Alter job changes) at body c n e = is_body (HasNamed b at) _ body e (has_job b job c.0)
named b here who (Command.Hold job kinds) at body c n e = is_body (HasNamed b at) _ body e (has_job b job c.0)
named b here who (Command.Release job kinds) at body c n e = body_if (HasNamed b at) _ _ body e (has_job b job c.0)
named b here who (Command.Delete job) at body c n e = is_body (HasNamed b at) _ body e (has_job b job c.0)
named b here who (Command.Grant job asker) at body c n e = body_unless (HasNamed b at) _ _ body e (has_job b job c.0)
named b here who (Command.HandBack job) at body c n e = is_body (HasNamed b at) _ body e (has_job b job c.0)
named b here who (Command.Decline job) at body c n e = is_body (HasNamed b at) _ body e (has_job b job c.0)
named b here who (Command.Begin job moment) at body c n e = is_body (HasNamed b at) _ body e (has_job b job c.0)
named b here who (Command.Finish job moment status) at body c n e = is_body (HasNamed b at) _ body e (has_job b job c.0)
named b here who (Command.Reserve window) at body c n e = is_body (HasNamed b at) _ body e tt
named b here who (Command.Cancel id) at body c n e = is_body (HasNamed b at) _ body e (has_reservation b id (not-false _ c.1.0))
named b here who (Command.Retire first last) at body c n e =
    let bad = or_parts (is_bad_range (board_reads b) here first last) (has_unsettled (board_reads b) here first last) c.1.1.0 in
    let p = or_parts (nat_le first 0) _ bad.0 in
    let q = or_parts (nat_lt last first) _ p.1 in
    let one = leb-false first 0 p.0 in
    let some = ltb-false last first q.0 in
    let far : last ≤ counter_of b.version here = ltb-false (counter_of b.version here) last q.1 in
    let most : counter_of b.version here ≤ greatest b.version = covered_counter_le_greatest b.version (record { counter = counter_of b.version here; site = here }) (le-leb _ _ (omega arith)) in
    let up = (next_is b.version here at n).counter in
    is_body (HasNamed b at) _ body e (omega arith, omega arith, omega arith)
