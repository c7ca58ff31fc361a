-- Which jobs and reservations a set knows.
use Rattle.std.specs.Prelude.{is_some, if◌then◌else◌}
use Rattle.std.proofs.Common.{◌≡◌, [], Bool, true, false, Some, None, refl, sym, ap, subst, ◌∙◌, inl, inr}
use Rattle.std.proofs.lemmas.Bool.{both_ways, cases_Bool, cond-true, cond-false}
use Rattle.fed_stamp.specs.Stamp.{StampValue, same_stamp}
use Rattle.fed_lattice.specs.Sets.{Has}
use Rattle.fed_lattice.specs.SetLaws.{empty_from_none}
use Rattle.fed_lattice.specs.History.{History}
use Rattle.fed_lattice.proofs.FilterLaws.{Has-filter, filter-Has}
use Rattle.fed_model.specs.Body.{Body, Body.Submit, Body.OfJob, Body.Reserve, Body.Cancel, is_of_job, of_job, is_of_reservation, of_reservation}
use Rattle.fed_model.specs.Field.{window_in, field}
use Rattle.fed_model.specs.JobView.{job_view, unknown}
use Rattle.fed_model.specs.Letter.{is_submitted}
use Rattle.fed_theory.proofs.FoundLaws.{some_found, field_found, said_found, submit_found, submitted_from}
use Rattle.fed_lattice.specs.ExactLaws.{same_stamp_itself, same_stamp_is}
use Rattle.fed_model.specs.Reservation.{reservation_view}
use Rattle.fed_model.specs.Retired.{is_retired}
use Rattle.fed_model.specs.View.{view, HasSubmit, HasReserve}
use Rattle.fed_model.specs.Lawful.{IsSubmitted, IsGrounded, IsLawful}

module _ (ops : History Body) (job : StampValue) where
  -- a job that reads as submitted is not retired
  pub unretired : is_submitted ((view ops).job job) ≡ true → is_retired ops job ≡ false
  unretired e = go (is_retired ops job) e
    where
      go : (b : Bool) → is_submitted (if b then unknown else job_view (of_job job ops)) ≡ true → b ≡ false
      go true f = cc
      go false f = refl

  -- a job that is not retired is read of all its operations
  pub read_whole : is_retired ops job ≡ false → (view ops).job job ≡ job_view (of_job job ops)
  read_whole e = cond-false (is_retired ops job) unknown (job_view (of_job job ops)) e

  pub read_retired : is_retired ops job ≡ true → (view ops).job job ≡ unknown
  read_retired e = cond-true (is_retired ops job) unknown (job_view (of_job job ops)) e

  pub submit_of : is_submitted ((view ops).job job) ≡ true → HasSubmit ops job
  submit_of e =
      let s = submit_found (of_job job ops) (subst (λ j. is_submitted j ≡ true) (read_whole (unretired e)) e) in
      let m = Has-filter (is_of_job job) ops _ s.4 in
      (s.1, s.2, s.3, subst (λ (t : StampValue). Has ops (t, Submit s.1 s.2 s.3)) (same_stamp_is s.0 job m.1) m.0)

  pub submitted_whole : HasSubmit ops job → is_submitted (job_view (of_job job ops)) ≡ true
  submitted_whole s = submitted_from (of_job job ops) job s.0 s.1 s.2 (filter-Has (is_of_job job) ops (job, Submit s.0 s.1 s.2) s.3 (same_stamp_itself job))

  pub submitted_by : HasSubmit ops job → is_retired ops job ≡ false → is_submitted ((view ops).job job) ≡ true
  submitted_by s e = subst (λ j. is_submitted j ≡ true) (sym (read_whole e)) (submitted_whole s)

  named : (t id : StampValue) → IsSubmitted ops t id → same_stamp id job ≡ true → HasSubmit ops job
  named t id s of = (s.0, s.1, s.2, subst (λ (n : StampValue). Has ops (n, Submit s.0 s.1 s.2)) (same_stamp_is id job of) s.3.0)

  -- the job of an operation of a lawful set was submitted in it
  pub job_submitted : (t : StampValue) (body : Body) → Has ops (t, body) → IsGrounded ops t body → is_of_job job (t, body) ≡ true → HasSubmit ops job
  job_submitted t (Submit owner values held) h g of = (owner, values, held, subst (λ (n : StampValue). Has ops (n, Submit owner values held)) (same_stamp_is t job of) h)
  job_submitted t (OfJob id what) h g of = named t id g.0 of
  job_submitted t _ h g of = cc

  -- a lawful set has no operation of a job that is neither submitted in it nor retired
  pub unknown_job : IsLawful ops → is_retired ops job ≡ false → is_submitted ((view ops).job job) ≡ false → of_job job ops ≡ []
  unknown_job l r e = empty_from_none (of_job job ops) (λ f h.
      let m = Has-filter (is_of_job job) ops f h in
      both_ways _ e (submitted_by (job_submitted f.0 f.1 m.0 (l.grounded f m.0) m.1) r))

  pub unknown_view : IsLawful ops → is_submitted ((view ops).job job) ≡ false → (view ops).job job ≡ job_view []
  unknown_view l e = elim (cases_Bool (is_retired ops job)) [
    | inl r ↦ read_retired r
    | inr r ↦ read_whole r ∙ ap job_view (unknown_job l r e)
  ]

module _ (ops : History Body) (id : StampValue) where
  -- the reservation of an operation of a lawful set was made in it
  made_by : (t : StampValue) (body : Body) → Has ops (t, body) → IsGrounded ops t body → is_of_reservation id (t, body) ≡ true → HasReserve ops id
  made_by t (Reserve window) h g of = (window, subst (λ (n : StampValue). Has ops (n, Reserve window)) (same_stamp_is t id of) h)
  made_by t (Cancel other) h g of = (g.0, subst (λ (n : StampValue). Has ops (n, Reserve g.0)) (same_stamp_is other id of) g.1.0)
  made_by t _ h g of = cc

  pub standing_whole : is_some ((view ops).reservation id) ≡ true → (is_retired ops id ≡ false) × (is_some (reservation_view (of_reservation id ops)) ≡ true)
  standing_whole e = go (is_retired ops id) e
    where
      go : (b : Bool) → is_some (if b then None else reservation_view (of_reservation id ops)) ≡ true → (b ≡ false) × (is_some (reservation_view (of_reservation id ops)) ≡ true)
      go true f = cc
      go false f = (refl, f)

  pub reservation_whole : is_retired ops id ≡ false → (view ops).reservation id ≡ reservation_view (of_reservation id ops)
  reservation_whole e = cond-false (is_retired ops id) None (reservation_view (of_reservation id ops)) e

  pub reserve_of : IsLawful ops → is_some ((view ops).reservation id) ≡ true → HasReserve ops id
  reserve_of l e =
      let o = some_found (field window_in (of_reservation id ops)) (standing_whole e).1 in
      let f = field_found window_in (of_reservation id ops) o.0 o.1 in
      let m = Has-filter (is_of_reservation id) ops (o.0.0, f.0) f.1 in
      made_by o.0.0 f.0 m.0 (l.grounded (o.0.0, f.0) m.0) m.1

  pub made_whole : HasReserve ops id → is_some (reservation_view (of_reservation id ops)) ≡ true
  made_whole r = said_found window_in (Some r.0) (of_reservation id ops) id (Reserve r.0) (filter-Has (is_of_reservation id) ops (id, Reserve r.0) r.1 (same_stamp_itself id)) refl

  pub made_from : HasReserve ops id → is_retired ops id ≡ false → is_some ((view ops).reservation id) ≡ true
  made_from r e = subst (λ o. is_some o ≡ true) (sym (reservation_whole e)) (made_whole r)
