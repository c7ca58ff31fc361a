-- What the entries of a board say of a site's machine, one after another.
use Rattle.std.specs.List.{filter_map}
use Rattle.std.specs.List.Sorted.{IsStrictlySortedBy}
use Rattle.std.specs.Map.{keys_of}
use Rattle.std.proofs.Common.{◌≡◌, ℕ, List, [], Option, None, unwrap_or, sym, ap, ◌∙◌}
use Rattle.fed_stamp.specs.Stamp.{StampValue}
use Rattle.fed_lattice.specs.Latest.{stamp_cmp}
use Rattle.fed_record.specs.JobRecord.{JobRecordValue, job_reads}
use Rattle.fed_model.specs.Reservation.{ReservationView}
use Rattle.fed_board.specs.Board.{BoardValue, no_operation, board_reads}
use Rattle.fed_model.specs.Identifiers.{jobs_in, reservations_in}
use Rattle.fed_board.proofs.FoundEntries.{entry_found}
use Rattle.fed_easy.proofs.BoardEntries.{ids_read}
use Rattle.fed_machine.specs.declared.machines.Reserved.{Reserved}
use Rattle.fed_machine.specs.declared.machines.RunningJob.{RunningJob}
use Rattle.fed_machine.specs.Machine.{in_order, reserved_cmp, reserved_from, reserved_in, run_cmp, run_from, runs_in}

abbrev pub runs_of_entries : ℕ → List (StampValue × JobRecordValue) → List RunningJob
runs_of_entries here es = filter_map (λ e. run_from here e.0 (job_reads e.1)) es

abbrev pub reserved_of_entries : ℕ → ℕ → List (StampValue × ReservationView) → List Reserved
reserved_of_entries here moment es = filter_map (λ e. reserved_from here moment e.0 e.1) es

pub runs_done : (here : ℕ) (b : BoardValue) → IsStrictlySortedBy stamp_cmp (keys_of b.jobs) → keys_of b.jobs ≡ jobs_in (board_reads b)
    → (sorted : List RunningJob) (rest : List (StampValue × JobRecordValue)) → in_order run_cmp sorted (runs_of_entries here rest) ≡ in_order run_cmp [] (runs_of_entries here b.jobs) → rest ≡ [] → sorted ≡ runs_in here (board_reads b)
runs_done here b ascending ids sorted rest under none =
    ap (λ l. in_order run_cmp sorted (runs_of_entries here l)) (sym none) ∙ under
    ∙ sym (ap (in_order run_cmp []) (ids_read (λ job. run_from here job ((board_reads b).job job)) (λ e. run_from here e.0 (job_reads e.1)) b.jobs
    (λ e h. ap (λ (o : Option JobRecordValue). run_from here e.0 (job_reads (unwrap_or o no_operation))) (entry_found b.jobs e ascending h))))
    ∙ ap (λ l. in_order run_cmp [] (filter_map (λ job. run_from here job ((board_reads b).job job)) l)) ids

pub reserved_done : (here moment : ℕ) (b : BoardValue) → IsStrictlySortedBy stamp_cmp (keys_of b.reservations) → keys_of b.reservations ≡ reservations_in (board_reads b)
    → (sorted : List Reserved) (rest : List (StampValue × ReservationView)) → in_order reserved_cmp sorted (reserved_of_entries here moment rest) ≡ in_order reserved_cmp [] (reserved_of_entries here moment b.reservations) → rest ≡ [] → sorted ≡ reserved_in here moment (board_reads b)
reserved_done here moment b ascending ids sorted rest under none =
    ap (λ l. in_order reserved_cmp sorted (reserved_of_entries here moment l)) (sym none) ∙ under
    ∙ sym (ap (in_order reserved_cmp []) (ids_read (λ id. reserved_from here moment id ((board_reads b).reservation id)) (λ e. reserved_from here moment e.0 e.1) b.reservations
    (λ e h. ap (λ (o : Option ReservationView). reserved_from here moment e.0 (unwrap_or o None)) (entry_found b.reservations e ascending h))))
    ∙ ap (λ l. in_order reserved_cmp [] (filter_map (λ id. reserved_from here moment id ((board_reads b).reservation id)) l)) ids
