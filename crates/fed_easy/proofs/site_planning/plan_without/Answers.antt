use Rattle.std.proofs.Common.{◌≡◌, List, ◌∙◌, subst}
use Rattle.fed_board.specs.Board.{board_reads}
use Rattle.fed_easy.specs.declared.bookings.Booking.{Booking}
use Rattle.fed_easy.specs.declared.queues.QueuedJob.{QueuedJob}
use Rattle.fed_easy.specs.Plan.{plan_reads}
use Rattle.fed_easy.specs.Promises.{NoDelay, StaysWithin}
use Rattle.fed_easy.specs.Queue.{queue_without}
use Rattle.fed_easy.specs.SitePlan.{bookings_in}
use Rattle.fed_easy.specs.Use.{use_at}
use Rattle.fed_easy.proofs.site_planning.plan_without.Goals as goal

abbrev bookings_of : (c : goal.After-drop-queue-2) → List Booking
bookings_of c = bookings_in c.args.site (board_reads c.args.board.now) c.args.moment c.args.machine.now

queue_is : (c : goal.After-drop-queue-2) → c.deref.result.now ≡ queue_without c.args.jobs.now c.args.site c.args.machine.now.nodes (board_reads c.args.board.now)
queue_is c = c.deref.ensures.value ∙ (rw c.nodes.ensures.same at c.in_ok-queue.ensures.queue)

pub returns-clause-no_delay : goal.returns-clause-no_delay
returns-clause-no_delay c =
    subst (λ (queue : List QueuedJob). NoDelay c.args.machine.now.nodes c.args.moment (use_at (bookings_of c)) queue (plan_reads c.in_ok-plan.plan)) (queue_is c) c.in_ok-plan.ensures.no_delay

pub returns-clause-within : goal.returns-clause-within
returns-clause-within c =
    subst (λ (queue : List QueuedJob). StaysWithin c.args.machine.now.nodes c.args.moment (use_at (bookings_of c)) queue (plan_reads c.in_ok-plan.plan)) (queue_is c) c.in_ok-plan.ensures.within
