use Rattle.std.proofs.Common.{◌≡◌, ◌≤◌, List, sym, ◌∙◌, subst}
use Rattle.std.specs.List.{AllByRecursion}
use Rattle.std.proofs.lemmas.List.Elements.{All-weaker, recursion_from_All}
use Rattle.fed_board.specs.Board.{board_reads}
use Rattle.fed_easy.specs.declared.bookings.Booking.{Booking}
use Rattle.fed_easy.specs.declared.queues.QueuedJob.{QueuedJob}
use Rattle.fed_easy.specs.Plan.{plan_reads}
use Rattle.fed_easy.specs.Machine.{MachineValue}
use Rattle.fed_easy.specs.Promises.{IsSized, NoDelay, StaysWithin}
use Rattle.fed_easy.specs.Profile.{Tells}
use Rattle.fed_easy.specs.SitePlan.{bookings_in, plan_beside}
use Rattle.fed_easy.specs.Use.{last_end, use_at}
use Rattle.fed_easy.proofs.PlanFacts.{not_delayed, stays_within}
use Rattle.fed_easy.proofs.Started.{idle_bookings}
use Rattle.fed_easy.proofs.site_planning.plan_of.Goals as goal

pub plan_queue-requires-clause-narrow : goal.plan_queue-requires-clause-narrow
plan_queue-requires-clause-narrow c =
    let same : c.in_ok-profile.profile.capacity ≡ c.args.machine.now.nodes = c.in_ok-profile.ensures.capacity ∙ c.nodes.ensures.same in
    rw same (All-weaker (IsSized c.args.machine.now.nodes) (λ (j : QueuedJob). j.nodes ≤ c.args.machine.now.nodes) (λ j s. s.narrow) c.args.queue.now c.requires.sized)

-- what is in use before any job starts
abbrev bookings_of : (c : goal.After-drop-bookings-2) → List Booking
bookings_of c = bookings_in c.args.site (board_reads c.args.board.now) c.args.moment c.args.machine.now

told : (c : goal.After-drop-bookings-2) → Tells c.in_ok-profile.profile (use_at (bookings_of c))
told c = rw (c.deref.ensures.value, c.in_ok-bookings.ensures) at c.in_ok-profile.ensures.tells

plan_is : (c : goal.After-drop-bookings-2) → plan_reads c.in_ok-plan.plan ≡ plan_beside (board_reads c.args.board.now) c.args.site c.args.moment c.args.machine.now c.args.queue.now
plan_is c =
    let profile = c.in_ok-profile.ensures in
    let capacity : c.in_ok-profile.profile.capacity ≡ c.args.machine.now.nodes = profile.capacity ∙ c.nodes.ensures.same in
    let plan = c.in_ok-plan.ensures (use_at (bookings_of c)) (last_end (bookings_of c)) (told c) (idle_bookings (bookings_of c)) in
    rw (capacity, profile.start) at plan

-- each job of the queue takes nodes and time
sized : (c : goal.After-drop-bookings-2) → AllByRecursion (IsSized c.args.machine.now.nodes) c.args.queue.now
sized c = recursion_from_All (IsSized c.args.machine.now.nodes) c.args.queue.now c.requires.sized

pub returns-clause-plan : goal.returns-clause-plan
returns-clause-plan c = plan_is c

pub returns-clause-no_delay : goal.returns-clause-no_delay
returns-clause-no_delay c =
    let m : MachineValue = c.args.machine.now in
    subst (NoDelay m.nodes c.args.moment (use_at (bookings_of c)) c.args.queue.now) (sym (plan_is c))
    (not_delayed m.nodes c.args.moment (last_end (bookings_of c)) (use_at (bookings_of c)) c.args.queue.now (idle_bookings (bookings_of c)) (sized c))

pub returns-clause-within : goal.returns-clause-within
returns-clause-within c =
    let m : MachineValue = c.args.machine.now in
    subst (StaysWithin m.nodes c.args.moment (use_at (bookings_of c)) c.args.queue.now) (sym (plan_is c))
    (stays_within m.nodes c.args.moment (last_end (bookings_of c)) (use_at (bookings_of c)) c.args.queue.now (idle_bookings (bookings_of c)) (sized c))
