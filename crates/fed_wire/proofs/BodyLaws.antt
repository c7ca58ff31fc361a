-- Members of a packet that are read one after another.
use Rattle.std.specs.Prelude.{codes, is_some, option_map, IfSome}
use Rattle.std.specs.Borrow.{Bor}
use Rattle.std.specs.List.{AllByRecursion}
use Rattle.std.specs.Map.{keys_of}
use Rattle.std.proofs.Common.{◌≡◌, ◌+◌, ℕ, zero, suc, leb, Bool, true, false, List, [], ◌∷◌, Option, Some, None, Result, Ok, Err, refl, sym, ap, subst, ◌∙◌, arith}
use Rattle.std.proofs.lemmas.Bool.{le-leb, lt-leb}
use Rattle.serde_json.specs.Data.{Data}
use Rattle.serde_json.specs.Find.{get}
use Rattle.serde_json.specs.View.{view}
use Rattle.serde_json.specs.declared.value.Value.{Value}
use Rattle.fed_stamp.specs.Version.{IsFirstAbove}
use Rattle.fed_lattice.specs.Results.{◌>>=◌}
use Rattle.fed_lattice.proofs.ResultLaws.{ok_is}
use Rattle.fed_ranges.specs.Retired.{RetiredValue}
use Rattle.fed_board.specs.Board.{IsBoard}
use Rattle.fed_job_json.specs.declared.formats.Format.{Format}
use Rattle.fed_job_json.specs.Stamps.{site_of}
use Rattle.fed_job_json.specs.Job.{Job, job_of, job_value, IsJob}
use Rattle.fed_job_json.proofs.JobLaws.{job_form}
use Rattle.fed_parts_json.specs.Retirements.{AreRetirements}
use Rattle.fed_wire.specs.declared.faults.Part.TheVariants.{Sender, Need, Reached, Jobs, Reservations}
use Rattle.fed_wire.specs.declared.faults.WireFault.{WireFault}
use Rattle.fed_wire.specs.declared.faults.WireFault.TheVariants.{Range}
use Rattle.fed_wire.specs.declared.members.PacketMembers.{PacketMembers}
use Rattle.fed_wire.specs.Members.{AreMembers}
use Rattle.fed_wire.specs.Packet.{job_stands, reservation_stands, site_stands, AllStand}
use Rattle.fed_delta.specs.Packet.{PacketValue}
use Rattle.fed_wire.specs.Reading.{place, at, array_in, version_in, least_above, unless_above, sender_in, need_in, reached_in, jobs_in, reservations_in, retired_from, retired_in, body_in}
use Rattle.fed_wire.specs.Reservations.{Reserved, reservation_of, reservation_value, IsReservation}
use Rattle.fed_wire.proofs.BoardLaws.{board_of}
use Rattle.fed_wire.proofs.PacketLaws.{array_takes, all_take}
use Rattle.fed_wire.proofs.ReservationLaws.{reservation_form}

-- ---- the least site that is above

pub above_some : (site : ℕ) (v w : List ℕ) (j : ℕ) → IsFirstAbove v w j → least_above site v w ≡ Some (site + j)
above_some site [] w j h = absurd (let above = h.above in omega arith)
above_some site (a ∷ v) [] zero h =
    let over : leb a 0 ≡ false = lt-leb a 0 h.above in
    rw over (ap (λ n. Some n) (omega arith))
above_some site (a ∷ v) [] (suc j) h =
    let fits : leb a 0 ≡ true = le-leb a 0 (h.least 0 (omega arith)) in
    rw fits (above_some (suc site) v [] j (record { above = h.above; least = λ i l. h.least (suc i) (omega arith) }) ∙ ap (λ n. Some n) (omega arith))
above_some site (a ∷ v) (b ∷ w) zero h =
    let over : leb a b ≡ false = lt-leb a b h.above in
    rw over (ap (λ n. Some n) (omega arith))
above_some site (a ∷ v) (b ∷ w) (suc j) h =
    let fits : leb a b ≡ true = le-leb a b (h.least 0 (omega arith)) in
    rw fits (above_some (suc site) v w j (record { above = h.above; least = λ i l. h.least (suc i) (omega arith) }) ∙ ap (λ n. Some n) (omega arith))

-- ---- steps

bind_fault : {A B : Type 0} (r : Result A WireFault) (f : A → Result B WireFault) (e : WireFault) → Err e ≡ r → Err e ≡ (r >>= f)
bind_fault {A} {B} r f e p = subst (λ (r : Result A WireFault). ◌≡◌ {A = Result B WireFault} (Err e) (r >>= f)) p refl

bind_step : {A B : Type 0} (r : Result A WireFault) (f : A → Result B WireFault) (x : A) (y : Result B WireFault) → Ok x ≡ r → y ≡ f x → y ≡ (r >>= f)
bind_step {A} r f x y p q = subst (λ (r : Result A WireFault). y ≡ (r >>= f)) p q

module _ (format : Format) (d : Data) (m : PacketMembers) (are : AreMembers d m) where
  -- whether what is retired is a member
  abbrev told : Bool
  told = is_some m.retired

  -- what is read of each member is read of the object
  abbrev sender_read : Result ℕ WireFault
  sender_read = at (place Sender 0) (place Sender 0) (site_of (view m.sender.now))

  sender_is : sender_read ≡ sender_in d
  sender_is = rw are.sender refl

  abbrev need_read : Result (List ℕ) WireFault
  need_read = version_in Need (view m.need.now)

  need_is : need_read ≡ need_in d
  need_is = rw are.need refl

  abbrev reached_read : Result (List ℕ) WireFault
  reached_read = version_in Reached (view m.reached.now)

  reached_is : reached_read ≡ reached_in d
  reached_is = rw are.reached refl

  abbrev jobs_read : List ℕ → Result (List Job) WireFault
  jobs_read reached = array_in Jobs (job_of format) (job_stands reached) (view m.jobs.now)

  jobs_are : (reached : List ℕ) → jobs_read reached ≡ jobs_in format reached d
  jobs_are reached = rw are.jobs refl

  abbrev reservations_read : List ℕ → Result (List Reserved) WireFault
  reservations_read reached = array_in Reservations reservation_of (reservation_stands reached) (view m.reservations.now)

  reservations_are : (reached : List ℕ) → reservations_read reached ≡ reservations_in reached d
  reservations_are reached = rw are.reservations refl

  abbrev retired_read : List ℕ → List Job → List Reserved → Result RetiredValue WireFault
  retired_read = retired_from (option_map (λ (v : Bor Value). view v.now) m.retired)

  retired_is : (reached : List ℕ) (jobs : List Job) (reservations : List Reserved) → retired_read reached jobs reservations ≡ retired_in told reached jobs reservations d
  retired_is reached jobs reservations = go m.retired are.retired where
    go : (o : Option (Bor Value)) → IfSome o (λ v. get (codes "retired") d ≡ Some (view v.now)) → retired_from (option_map (λ (v : Bor Value). view v.now) o) reached jobs reservations ≡ retired_in (is_some o) reached jobs reservations d
    go None h = refl
    go (Some v) h = rw h refl

  pub sender_fault : (e : WireFault) → Err e ≡ sender_read → Err e ≡ body_in format told d
  unfolding body_in
  sender_fault e p = bind_fault (sender_in d) _ e (p ∙ sender_is)

  module _ (sender : ℕ) (s : Ok sender ≡ sender_read) where
    pub need_fault : (e : WireFault) → Err e ≡ need_read → Err e ≡ body_in format told d
    unfolding body_in
    need_fault e p = bind_step (sender_in d) _ sender _ (s ∙ sender_is) (bind_fault (need_in d) _ e (p ∙ need_is))

    module _ (need : List ℕ) (n : Ok need ≡ need_read) where
      pub reached_fault : (e : WireFault) → Err e ≡ reached_read → Err e ≡ body_in format told d
      unfolding body_in
      reached_fault e p = bind_step (sender_in d) _ sender _ (s ∙ sender_is) (bind_step (need_in d) _ need _ (n ∙ need_is) (bind_fault (reached_in d) _ e (p ∙ reached_is)))

      module _ (reached : List ℕ) (r : Ok reached ≡ reached_read) where
        to_below : (y : Result PacketValue WireFault) → y ≡ (unless_above (least_above 0 need reached) >>= λ _. jobs_in format reached d >>= λ jobs. reservations_in reached d >>= λ reservations. retired_in told reached jobs reservations d >>= λ retired.
            Ok (record { sender = sender; delta = record { need = need; changes = record { version = reached; retired = retired; jobs = jobs; reservations = reservations } } })) → y ≡ body_in format told d
        unfolding body_in
        to_below y p = bind_step (sender_in d) _ sender _ (s ∙ sender_is) (bind_step (need_in d) _ need _ (n ∙ need_is) (bind_step (reached_in d) _ reached _ (r ∙ reached_is) p))

        pub above_fault : (site : ℕ) → Some site ≡ least_above 0 need reached → Err (Range (place Need site)) ≡ body_in format told d
        above_fault site p = to_below _ (bind_fault (unless_above (least_above 0 need reached)) _ _ (ap unless_above p))

        module _ (below : None ≡ least_above 0 need reached) where
          pub jobs_fault : (e : WireFault) → Err e ≡ jobs_read reached → Err e ≡ body_in format told d
          jobs_fault e p = to_below _ (bind_step (unless_above (least_above 0 need reached)) _ None _ (ap unless_above below) (bind_fault (jobs_in format reached d) _ e (p ∙ jobs_are reached)))

          module _ (jobs : List Job) (j : Ok jobs ≡ jobs_read reached) where
            pub reservations_fault : (e : WireFault) → Err e ≡ reservations_read reached → Err e ≡ body_in format told d
            reservations_fault e p = to_below _ (bind_step (unless_above (least_above 0 need reached)) _ None _ (ap unless_above below)
                (bind_step (jobs_in format reached d) _ jobs _ (j ∙ jobs_are reached) (bind_fault (reservations_in reached d) _ e (p ∙ reservations_are reached))))

            module _ (reservations : List Reserved) (w : Ok reservations ≡ reservations_read reached) where
              to_retired : (y : Result PacketValue WireFault) → y ≡ (retired_in told reached jobs reservations d >>= λ retired.
                  Ok (record { sender = sender; delta = record { need = need; changes = record { version = reached; retired = retired; jobs = jobs; reservations = reservations } } })) → y ≡ body_in format told d
              to_retired y p = to_below _ (bind_step (unless_above (least_above 0 need reached)) _ None _ (ap unless_above below)
                  (bind_step (jobs_in format reached d) _ jobs _ (j ∙ jobs_are reached) (bind_step (reservations_in reached d) _ reservations _ (w ∙ reservations_are reached) p)))

              pub retired_fault : (e : WireFault) → Err e ≡ retired_read reached jobs reservations → Err e ≡ body_in format told d
              retired_fault e p = to_retired _ (bind_fault (retired_in told reached jobs reservations d) _ e (p ∙ retired_is reached jobs reservations))

              pub packet_is : (retired : RetiredValue) → Ok retired ≡ retired_read reached jobs reservations
                  → Ok (record { sender = sender; delta = record { need = need; changes = record { version = reached; retired = retired; jobs = jobs; reservations = reservations } } }) ≡ body_in format told d
              packet_is retired t = to_retired _ (bind_step (retired_in told reached jobs reservations d) _ retired _ (t ∙ retired_is reached jobs reservations) refl)

-- ---- what was read are records of a board

what_is_retired : (o : Option Data) (reached : List ℕ) (jobs : List Job) (reservations : List Reserved) (retired : RetiredValue) → Ok retired ≡ retired_from o reached jobs reservations
    → AllByRecursion AreRetirements retired × AllStand (site_stands reached (keys_of jobs) (keys_of reservations)) [] retired
what_is_retired None reached jobs reservations retired e =
    let none : [] ≡ retired = ok_is [] retired (sym e) in
    subst (λ (rs : RetiredValue). AllByRecursion AreRetirements rs × AllStand (site_stands reached (keys_of jobs) (keys_of reservations)) [] rs) none (tt, tt)
what_is_retired (Some d) reached jobs reservations retired e = let t = all_take reached jobs reservations d retired (sym e) in (t.1, t.2)

pub board_read : (format : Format) (d e : Data) (o : Option Data) (reached : List ℕ) (jobs : List Job) (reservations : List Reserved) (retired : RetiredValue) → Ok jobs ≡ array_in Jobs (job_of format) (job_stands reached) d
    → Ok reservations ≡ array_in Reservations reservation_of (reservation_stands reached) e → Ok retired ≡ retired_from o reached jobs reservations → IsBoard (record { version = reached; retired = retired; jobs = jobs; reservations = reservations })
board_read format d e o reached jobs reservations retired j w r =
    let s = array_takes Jobs (job_of format) (job_value format) (IsJob format) (job_stands reached) (job_form format) d jobs (sym j) in
    let t = array_takes Reservations reservation_of reservation_value IsReservation (reservation_stands reached) reservation_form e reservations (sym w) in
    let u = what_is_retired o reached jobs reservations retired r in
    board_of format reached jobs reservations retired s.1 s.2 t.1 t.2 u.0 u.1
