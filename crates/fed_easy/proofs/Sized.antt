-- The jobs of a queue take nodes and time where the jobs that wait do.
use Rattle.std.specs.List.{AllByRecursion, cons_option, filter_map}
use Rattle.std.specs.Prelude.{IfSome}
use Rattle.std.proofs.Common.{◌≡◌, ℕ, List, [], ◌∷◌, All, Option, Some, None, not, inl, inr}
use Rattle.std.proofs.lemmas.List.Elements.{recursion_from_All}
use Rattle.fed_stamp.specs.Stamp.{StampValue}
use Rattle.fed_lattice.proofs.FilterLaws.{Has-filter}
use Rattle.fed_record.specs.JobRecord.{JobRecordValue}
use Rattle.fed_model.specs.View.{View}
use Rattle.fed_easy.specs.declared.bookings.Booking.{Booking}
use Rattle.fed_easy.specs.declared.queues.QueuedJob.{QueuedJob}
use Rattle.fed_easy.specs.Extra.{extra_plan}
use Rattle.fed_easy.specs.Machine.{MachineValue}
use Rattle.fed_easy.specs.Promises.{IsOver, IsSized}
use Rattle.fed_easy.specs.Queue.{is_among, queue_in, queue_without, waiting_in}
use Rattle.fed_easy.specs.SitePlan.{bookings_in, plan_beside, reserved_in}
use Rattle.fed_easy.specs.Use.{last_end, use_at}
use Rattle.fed_easy.proofs.BoardEntries.{entry_waiting}
use Rattle.fed_easy.proofs.ByExtra.{by_extra_nodes}
use Rattle.fed_easy.proofs.Falls.{falls_site}
use Rattle.fed_board.proofs.FoundEntries.{all_has}
use Rattle.fed_easy.proofs.Ordered.{all_from_has}
use Rattle.fed_easy.proofs.QueueMembers.{order_from}
use Rattle.fed_easy.proofs.Started.{idle_bookings}

abbrev AreSized : ℕ → List QueuedJob → Type 0
AreSized capacity queue = AllByRecursion (IsSized capacity) queue

-- ---- entry by entry
sized_cons : (capacity : ℕ) (o : Option QueuedJob) (queue : List QueuedJob) → IfSome o (IsSized capacity) → AreSized capacity queue → AreSized capacity (cons_option o queue)
sized_cons capacity None queue one rest = rest
sized_cons capacity (Some j) queue one rest = (one, rest)

pub sized_more : (site capacity : ℕ) (es : List (StampValue × JobRecordValue)) (e : StampValue × JobRecordValue) (rest : List (StampValue × JobRecordValue)) (o : Option QueuedJob)
    → es ≡ e ∷ rest → o ≡ entry_waiting site capacity e → IfSome o (IsSized capacity)
    → AllByRecursion (IsSized capacity) (filter_map (entry_waiting site capacity) rest) → AllByRecursion (IsSized capacity) (filter_map (entry_waiting site capacity) es)
sized_more site capacity es e rest o left is one sized = rw (left, ← is) (sized_cons capacity o (filter_map (entry_waiting site capacity) rest) one sized)

-- ---- the queue of a site
module _ (v : View) (site : ℕ) (m : MachineValue) (sized : All (IsSized m.nodes) (waiting_in site m.nodes v)) where
  sized_queue : AreSized m.nodes (queue_in site m.nodes v)
  sized_queue = all_from_has (IsSized m.nodes) (queue_in site m.nodes v) (λ j h. elim (order_from [] (waiting_in site m.nodes v) j h) [
    | inl none ↦ absurd none
    | inr waits ↦ all_has (IsSized m.nodes) (waiting_in site m.nodes v) j (recursion_from_All (IsSized m.nodes) (waiting_in site m.nodes v) sized) waits
  ])

  sized_without : (jobs : List StampValue) → AreSized m.nodes (queue_without jobs site m.nodes v)
  sized_without jobs = all_from_has (IsSized m.nodes) (queue_without jobs site m.nodes v)
      (λ j h. all_has (IsSized m.nodes) (queue_in site m.nodes v) j sized_queue (Has-filter (λ j. not (is_among jobs j)) (queue_in site m.nodes v) j h).0)

  module _ (moment : ℕ) (over : All (IsOver moment) (reserved_in site v)) where
    abbrev bookings : List Booking
    bookings = bookings_in site v moment m

    by_extra : (queue : List QueuedJob) → AreSized m.nodes queue → plan_beside v site moment m queue ≡ extra_plan m.nodes moment (use_at bookings) (last_end bookings) queue
    by_extra queue some =
        by_extra_nodes m.nodes moment (last_end bookings) (use_at bookings) queue
        (falls_site moment m.running (reserved_in site v) (recursion_from_All (IsOver moment) (reserved_in site v) over)) (idle_bookings bookings) some

    pub whole_by_extra : plan_beside v site moment m (queue_in site m.nodes v) ≡ extra_plan m.nodes moment (use_at bookings) (last_end bookings) (queue_in site m.nodes v)
    whole_by_extra = by_extra (queue_in site m.nodes v) sized_queue

    pub without_by_extra : (jobs : List StampValue) → plan_beside v site moment m (queue_without jobs site m.nodes v) ≡ extra_plan m.nodes moment (use_at bookings) (last_end bookings) (queue_without jobs site m.nodes v)
    without_by_extra jobs = by_extra (queue_without jobs site m.nodes v) (sized_without jobs)
