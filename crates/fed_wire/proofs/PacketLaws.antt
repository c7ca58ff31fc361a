-- Packets are read as what they are the values of.
use Rattle.std.proofs.Common.{◌≡◌, ℕ, suc, eqb, leb, Bool, true, false, cond, List, [], ◌∷◌, ◌++◌, length, map, Option, Some, None, Result, Ok, Err, refl, sym, ap, subst, ◌∙◌, append_assoc, ap₂}
use Rattle.std.specs.Prelude.{codes, is_some, option_and_then, ◌&&◌}
use Rattle.std.specs.List.{AllByRecursion}
use Rattle.std.specs.Map.{keys_of}
use Rattle.std.proofs.lemmas.Bool.{and_parts, eqb-true}
use Rattle.std.proofs.lemmas.List.{append-nil}
use Rattle.serde_json.specs.Data.{Data, null, boolean, number, string, array, object, unsigned, negative, float}
use Rattle.serde_json.specs.Find.{get, as_number, as_u64}
use Rattle.fed_stamp.specs.Version.{is_below}
use Rattle.fed_lattice.specs.Results.{◌>>=◌}
use Rattle.fed_ranges.specs.Retired.{RetiredValue}
use Rattle.fed_lattice.proofs.ResultLaws.{bind_ok, when_ok, ok_is}
use Rattle.fed_json.specs.declared.flaws.Flaw.TheVariants.{Shape as Misshapen, Range as OutOfRange}
use Rattle.fed_json.specs.Reading.{Reading, where_true}
use Rattle.fed_json.specs.Numbers.{natural_value}
use Rattle.fed_json.specs.Values.{list_value, elements_of}
use Rattle.fed_json.specs.Objects.{Named, has_names, object_value}
use Rattle.fed_json.proofs.Forms.{HasMembers, IsForm}
use Rattle.fed_json.proofs.Steps.{where_true_ok}
use Rattle.fed_json.proofs.FormLaws.{elements_takes, list_of-items_of}
use Rattle.fed_json.proofs.ObjectLaws.{are_distinct, names_in, object_is, object_has}
use Rattle.fed_job_json.specs.declared.formats.Format.{Format}
use Rattle.fed_job_json.specs.declared.formats.Format.TheVariants.{One, Two}
use Rattle.fed_job_json.specs.Stamps.{site_of, version_value, version_of, IsVersion}
use Rattle.fed_job_json.specs.Job.{Job, job_of, job_value, IsJob}
use Rattle.fed_job_json.proofs.StampLaws.{site_form, version_form}
use Rattle.fed_job_json.proofs.JobLaws.{job_form}
use Rattle.fed_parts_json.specs.Retirements.{retirements_of, retirements_value, AreRetirements}
use Rattle.fed_parts_json.proofs.RetirementLaws.{retirements_form}
use Rattle.fed_wire.specs.declared.faults.Part.{Part}
use Rattle.fed_wire.specs.declared.faults.Part.TheVariants.{Whole, Sender, Need, Reached, Jobs, Reservations, Retired}
use Rattle.fed_wire.specs.declared.faults.Place.{Place}
use Rattle.fed_wire.specs.declared.faults.WireFault.{WireFault}
use Rattle.fed_wire.specs.declared.faults.WireFault.TheVariants.{NotJson, Version, Shape}
use Rattle.fed_wire.specs.Reservations.{Reserved, reservation_of, reservation_value, IsReservation}
use Rattle.fed_wire.specs.Packet.{tells_retired, number_from, with_retired, members_before, sender_member, packet_members, packet_value, job_stands, reservation_stands, site_stands, MaySay, AllStand, IsPacket}
use Rattle.fed_delta.specs.Packet.{PacketValue}
use Rattle.fed_wire.specs.Reading.{place, or_fault, at, each_in, array_in, first_bad_in, version_in, least_above, unless_above, member_in, some_retired, all_retired, retired_in, body_in, format_from, format_in, packet_names, packet_of, text_value, packet_in}
use Rattle.fed_wire.proofs.ReservationLaws.{reservation_form}

-- ---- steps

bind_again : {A B : Type 0} (r : Result A WireFault) (f : A → Result B WireFault) (x : A) (y : B) → r ≡ Ok x → f x ≡ Ok y → (r >>= f) ≡ Ok y
bind_again r f x y p q = rw p q

or_fault_ok : {A : Type 0} (d : WireFault) (o : Option A) (y : A) → or_fault d o ≡ Ok y → o ≡ Some y
or_fault_ok d (Some x) y e = cc
or_fault_ok d None y e = absurd cc

at_ok : {A : Type 0} (p q : Place) (r : Reading A) (y : A) → at p q r ≡ Ok y → r ≡ Ok y
at_ok p q (Ok x) y e = ap (λ x. Ok x) (ok_is x y e)
at_ok p q (Err Misshapen) y e = absurd cc
at_ok p q (Err OutOfRange) y e = absurd cc

-- ---- elements one after another

module _ {A : Type 0} (part : Part) (read : Data → Reading A) (value : A → Data) (P : A → Type 0) (stands : List A → A → Bool) where
  one : IsForm read value P → (before : List A) (d : Data) (x : A) → (read d >>= where_true (stands before)) ≡ Ok x → (d ≡ value x) × P x × (stands before x ≡ true)
  one F before d x e =
      let y = bind_ok (read d) (where_true (stands before)) x e in
      let t = where_true_ok (stands before) y.0 x (stands before y.0) refl y.2 in
      let r = F.takes d y.0 y.1 in
      let fits : stands before x ≡ true = ap (stands before) (sym t.0) ∙ t.1 in
      (subst (λ (x : A). d ≡ value x) t.0 r.0, subst P t.0 r.1, fits)

  each_takes : IsForm read value P → (before : List A) (ds : List Data) (xs : List A) → each_in part read stands before ds ≡ Ok xs
      → (ys : List A) × (xs ≡ before ++ ys) × (ds ≡ map value ys) × AllByRecursion P ys × AllStand stands before ys
  each_takes F before [] xs e = ([], sym (ok_is before xs e) ∙ sym (append-nil before), refl, tt, tt)
  each_takes F before (d ∷ ds) xs e =
      let here : Place = place part (length before) in
      let s = bind_ok (at here here (read d >>= where_true (stands before))) (λ x. each_in part read stands (before ++ x ∷ []) ds) xs e in
      let x = one F before d s.0 (at_ok here here (read d >>= where_true (stands before)) s.0 s.1) in
      let rest = each_takes F (before ++ s.0 ∷ []) ds xs s.2 in
      (s.0 ∷ rest.0, rest.1 ∙ append_assoc before (s.0 ∷ []) rest.0, ap₂ (λ (b : Data) (bs : List Data). b ∷ bs) x.0 rest.2, (x.1, rest.3), (x.2, rest.4))

  each_again : IsForm read value P → (before xs : List A) → AllByRecursion P xs → AllStand stands before xs → each_in part read stands before (map value xs) ≡ Ok (before ++ xs)
  each_again F before [] h i = ap (λ (ys : List A). Ok ys) (sym (append-nil before))
  each_again F before (x ∷ xs) h i = rw (F.again x h.0, i.0) (each_again F (before ++ x ∷ []) xs h.1 i.1 ∙ ap (λ (ys : List A). Ok ys) (append_assoc before (x ∷ []) xs))

  pub array_takes : IsForm read value P → (d : Data) (xs : List A) → array_in part read stands d ≡ Ok xs → (d ≡ list_value (map value xs)) × AllByRecursion P xs × AllStand stands [] xs
  array_takes F d xs e =
      let l = bind_ok (at (place part 0) (place part 0) (elements_of d)) (each_in part read stands []) xs e in
      let t = each_takes F [] l.0 xs l.2 in
      let same : xs ≡ t.0 = t.1 in
      subst (λ (xs : List A). (d ≡ list_value (map value xs)) × AllByRecursion P xs × AllStand stands [] xs) (sym same)
      (elements_takes d l.0 (at_ok (place part 0) (place part 0) (elements_of d) l.0 l.1) ∙ ap list_value t.2, t.3, t.4)

  pub array_again : IsForm read value P → (xs : List A) → AllByRecursion P xs → AllStand stands [] xs → array_in part read stands (list_value (map value xs)) ≡ Ok xs
  array_again F xs h i = rw (list_of-items_of (map value xs)) (each_again F [] xs h i)

-- ---- versions

version_takes : (part : Part) (d : Data) (v : List ℕ) → version_in part d ≡ Ok v → (d ≡ version_value v) × IsVersion v
version_takes part d v e = (version_form).takes d v (at_ok (place part 0) (place part (first_bad_in d)) (version_of d) v e)

version_again : (part : Part) (v : List ℕ) → IsVersion v → version_in part (version_value v) ≡ Ok v
version_again part v h = rw ((version_form).again v h) refl

above_at : (t : Bool) (rest : Option ℕ) (site : ℕ) → cond t rest (Some site) ≡ None → (t ≡ true) × (rest ≡ None)
above_at true rest site e = (refl, e)
above_at false rest site e = absurd cc

none_above : (site : ℕ) (v w : List ℕ) → least_above site v w ≡ None → is_below v w ≡ true
unfolding is_below
none_above site [] w e = refl
none_above site (a ∷ v) [] e =
    let t = above_at (leb a 0) (least_above (suc site) v []) site e in
    rw (t.0, none_above (suc site) v [] t.1) refl
none_above site (a ∷ v) (b ∷ w) e =
    let t = above_at (leb a b) (least_above (suc site) v w) site e in
    rw (t.0, none_above (suc site) v w t.1) refl

pub above_none : (site : ℕ) (v w : List ℕ) → is_below v w ≡ true → least_above site v w ≡ None
unfolding is_below
above_none site [] w e = refl
above_none site (a ∷ v) [] e =
    let t = and_parts (leb a 0) (is_below v []) e in
    rw t.0 (above_none (suc site) v [] t.1)
above_none site (a ∷ v) (b ∷ w) e =
    let t = and_parts (leb a b) (is_below v w) e in
    rw t.0 (above_none (suc site) v w t.1)

none_site : (o x : Option ℕ) → unless_above o ≡ Ok x → o ≡ None
none_site None x e = refl
none_site (Some site) x e = absurd cc

-- ---- the packet

member_step : {A : Type 0} (name : List ℕ) (f : Data → Result A WireFault) (d : Data) (x : A) → (member_in name d >>= f) ≡ Ok x → (v : Data) × (get name d ≡ Some v) × (f v ≡ Ok x)
member_step name f d x e =
    let m = bind_ok (member_in name d) f x e in
    (m.0, or_fault_ok (Shape (place Whole 0)) (get name d) m.0 m.1, m.2)

found_as : (name : List ℕ) (d v w : Data) → get name d ≡ Some v → v ≡ w → get name d ≡ Some w
found_as name d v w e f = e ∙ ap (λ (d : Data). Some d) f

member_again : {A : Type 0} (name : List ℕ) (f : Data → Result A WireFault) (d v : Data) (x : A) → get name d ≡ Some v → f v ≡ Ok x → (member_in name d >>= f) ≡ Ok x
member_again name f d v x e g = rw (e, g) refl

-- ---- what is retired

some_takes : (r : RetiredValue) (rs : RetiredValue) → some_retired r ≡ Ok rs → (r ≡ rs) × (tells_retired rs ≡ true)
some_takes [] rs e = absurd cc
some_takes (r ∷ rs) ss e =
    let same : r ∷ rs ≡ ss = ok_is (r ∷ rs) ss e in
    (same, sym (ap tells_retired same))

some_again : (rs : RetiredValue) → tells_retired rs ≡ true → some_retired rs ≡ Ok rs
some_again [] e = absurd cc
some_again (r ∷ rs) e = refl

-- what is read of it: what is in range and may stand, and the member is there just where something is retired
record AreTaken (tells : Bool) (reached : List ℕ) (jobs : List Job) (reservations : List Reserved) (d : Data) (rs : RetiredValue) : Type 0 where
  pub told : tells_retired rs ≡ tells
  pub member : (ms : Named) → HasMembers ms d → HasMembers (with_retired tells rs ms) d
  pub ranged : AllByRecursion AreRetirements rs
  pub stand : AllStand (site_stands reached (keys_of jobs) (keys_of reservations)) [] rs

module _ (reached : List ℕ) (jobs : List Job) (reservations : List Reserved) where
  pub all_take : (d : Data) (rs : RetiredValue) → all_retired reached jobs reservations d ≡ Ok rs
      → (d ≡ list_value (map retirements_value rs)) × AllByRecursion AreRetirements rs × AllStand (site_stands reached (keys_of jobs) (keys_of reservations)) [] rs × (tells_retired rs ≡ true)
  all_take d rs e =
      let stands = site_stands reached (keys_of jobs) (keys_of reservations) in
      let r = bind_ok (array_in Retired retirements_of stands d) some_retired rs e in
      let s = some_takes r.0 rs r.2 in
      let t = array_takes Retired retirements_of retirements_value AreRetirements stands retirements_form d rs (r.1 ∙ ap (λ (rs : RetiredValue). Ok rs) s.0) in
      (t.0, t.1, t.2, s.1)

  all_again : (rs : RetiredValue) → AllByRecursion AreRetirements rs → AllStand (site_stands reached (keys_of jobs) (keys_of reservations)) [] rs → tells_retired rs ≡ true
      → all_retired reached jobs reservations (list_value (map retirements_value rs)) ≡ Ok rs
  all_again rs h i e =
      let stands = site_stands reached (keys_of jobs) (keys_of reservations) in
      bind_again (array_in Retired retirements_of stands (list_value (map retirements_value rs))) some_retired rs rs
      (array_again Retired retirements_of retirements_value AreRetirements stands retirements_form rs h i) (some_again rs e)

  retired_takes : (told : Bool) (d : Data) (rs : RetiredValue) → retired_in told reached jobs reservations d ≡ Ok rs → AreTaken told reached jobs reservations d rs
  retired_takes false d rs e = subst (AreTaken false reached jobs reservations d) (ok_is [] rs e) (record { told = refl; member = λ ms h. h; ranged = tt; stand = tt })
  retired_takes true d rs e =
      let m = member_step (codes "retired") (all_retired reached jobs reservations) d rs e in
      let t = all_take m.0 rs m.2 in
      record {
        told = t.3;
        member = λ ms h. (found_as (codes "retired") d m.0 (list_value (map retirements_value rs)) m.1 t.0, h);
        ranged = t.1;
        stand = t.2;
      }

  retired_again : (told : Bool) (d : Data) (rs : RetiredValue) (ms : Named) → tells_retired rs ≡ told → HasMembers (with_retired told rs ms) d → AllByRecursion AreRetirements rs
      → AllStand (site_stands reached (keys_of jobs) (keys_of reservations)) [] rs → retired_in told reached jobs reservations d ≡ Ok rs
  retired_again false d [] ms e h i k = refl
  retired_again false d (r ∷ rs) ms e h i k = absurd cc
  retired_again true d rs ms e h i k = member_again (codes "retired") (all_retired reached jobs reservations) d (list_value (map retirements_value rs)) rs h.0 (all_again rs i k e)

-- what stands behind it
others_told : (told : Bool) (rs : RetiredValue) (ms : Named) (d : Data) → HasMembers (with_retired told rs ms) d → HasMembers ms d
others_told false rs ms d h = h
others_told true rs ms d h = h.1

distinct : (told : Bool) (n : ℕ) (format : Format) (p : PacketValue) → are_distinct (names_in (members_before n format p (with_retired told p.delta.changes.retired (sender_member p)))) ≡ true
distinct false n format p = refl
distinct true n format p = refl

named_so : (told : Bool) (n : ℕ) (format : Format) (p : PacketValue) → names_in (members_before n format p (with_retired told p.delta.changes.retired (sender_member p))) ≡ packet_names told
named_so false n format p = refl
named_so true n format p = refl

-- the formats that there are
abbrev HasFormat : Format → Bool → Type 0
HasFormat One told = told ≡ false
HasFormat Two told = Unit {0}

may_say : (format : Format) (told : Bool) (rs : RetiredValue) → HasFormat format told → tells_retired rs ≡ told → MaySay format rs
may_say One told [] h e = refl
may_say One told (r ∷ rs) h e = absurd (let f : true ≡ false = e ∙ h in cc)
may_say Two told rs h e = tt

body_takes : (format : Format) (told : Bool) (d : Data) (p : PacketValue) → HasFormat format told → has_names (packet_names told) d ≡ true
    → get (codes "format") d ≡ Some (natural_value (number_from format told)) → body_in format told d ≡ Ok p → (d ≡ packet_value format p) × IsPacket format p
unfolding body_in
body_takes format told d p there named f e =
    let sender = bind_ok (member_in (codes "sender") d >>= λ v. at (place Sender 0) (place Sender 0) (site_of v)) _ p e in
    let need = bind_ok (member_in (codes "need") d >>= version_in Need) _ p sender.2 in
    let reached = bind_ok (member_in (codes "reached") d >>= version_in Reached) _ p need.2 in
    let below = bind_ok (unless_above (least_above 0 need.0 reached.0)) _ p reached.2 in
    let jobs = bind_ok (member_in (codes "jobs") d >>= array_in Jobs (job_of format) (job_stands reached.0)) _ p below.2 in
    let reservations = bind_ok (member_in (codes "reservations") d >>= array_in Reservations reservation_of (reservation_stands reached.0)) _ p jobs.2 in
    let retired = bind_ok (retired_in told reached.0 jobs.0 reservations.0 d) _ p reservations.2 in
    let s = member_step (codes "sender") (λ v. at (place Sender 0) (place Sender 0) (site_of v)) d sender.0 sender.1 in
    let n = member_step (codes "need") (version_in Need) d need.0 need.1 in
    let r = member_step (codes "reached") (version_in Reached) d reached.0 reached.1 in
    let j = member_step (codes "jobs") (array_in Jobs (job_of format) (job_stands reached.0)) d jobs.0 jobs.1 in
    let w = member_step (codes "reservations") (array_in Reservations reservation_of (reservation_stands reached.0)) d reservations.0 reservations.1 in
    let s' = (site_form).takes s.0 sender.0 (at_ok (place Sender 0) (place Sender 0) (site_of s.0) sender.0 s.2) in
    let n' = version_takes Need n.0 need.0 n.2 in
    let r' = version_takes Reached r.0 reached.0 r.2 in
    let b' = none_above 0 need.0 reached.0 (none_site (least_above 0 need.0 reached.0) below.0 below.1) in
    let j' = array_takes Jobs (job_of format) (job_value format) (IsJob format) (job_stands reached.0) (job_form format) j.0 jobs.0 j.2 in
    let w' = array_takes Reservations reservation_of reservation_value IsReservation (reservation_stands reached.0) reservation_form w.0 reservations.0 w.2 in
    let t' = retired_takes reached.0 jobs.0 reservations.0 told d retired.0 retired.1 in
    let made : PacketValue = record { sender = sender.0; delta = record { need = need.0; changes = record { version = reached.0; retired = retired.0; jobs = jobs.0; reservations = reservations.0 } } } in
    let same : made ≡ p = ok_is made p retired.2 in
    let members : HasMembers (members_before (number_from format told) format made (with_retired told retired.0 (sender_member made))) d = (
      f,
      (
        found_as (codes "jobs") d j.0 (list_value (map (job_value format) jobs.0)) j.1 j'.0,
        (
          found_as (codes "need") d n.0 (version_value need.0) n.1 n'.0,
          (
            found_as (codes "reached") d r.0 (version_value reached.0) r.1 r'.0,
            (
              found_as (codes "reservations") d w.0 (list_value (map reservation_value reservations.0)) w.1 w'.0,
              t'.member (sender_member made) (found_as (codes "sender") d s.0 (natural_value sender.0) s.1 s'.0, tt),
            ),
          ),
        ),
      ),
    ) in
    let ms : Named = members_before (number_from format told) format made (with_retired told retired.0 (sender_member made)) in
    let names : has_names (names_in ms) d ≡ true = ap (λ l. has_names l d) (named_so told (number_from format told) format made) ∙ named in
    let value : d ≡ object_value ms = object_is d ms (distinct told (number_from format told) format made) names members in
    subst (λ (p : PacketValue). (d ≡ packet_value format p) × IsPacket format p) same (
      subst (λ (b : Bool). d ≡ object_value (members_before (number_from format b) format made (with_retired b retired.0 (sender_member made)))) (sym t'.told) value,
      record {
        sender = s'.1;
        need = n'.1;
        reached = r'.1;
        below = b';
        jobs = j'.1;
        jobs_stand = j'.2;
        reservations = w'.1;
        reservations_stand = w'.2;
        said = may_say format told retired.0 there t'.told;
        retired = t'.ranged;
        retired_stand = t'.stand;
      },
    )

body_again : (format : Format) (p : PacketValue) → IsPacket format p → body_in format (tells_retired p.delta.changes.retired) (packet_value format p) ≡ Ok p
unfolding body_in
body_again format p h =
    let d = packet_value format p in
    let told = tells_retired p.delta.changes.retired in
    let m = object_has (packet_members format p) (distinct told (number_from format told) format p) in
    let sent = others_told told p.delta.changes.retired (sender_member p) d m.1.1.1.1.1 in
    bind_again (member_in (codes "sender") d >>= λ v. at (place Sender 0) (place Sender 0) (site_of v)) _ p.sender p
    (member_again (codes "sender") (λ v. at (place Sender 0) (place Sender 0) (site_of v)) d (natural_value p.sender) p.sender sent.0 (rw ((site_form).again p.sender h.sender) refl))
    (bind_again (member_in (codes "need") d >>= version_in Need) _ p.delta.need p
    (member_again (codes "need") (version_in Need) d (version_value p.delta.need) p.delta.need m.1.1.0 (version_again Need p.delta.need h.need))
    (bind_again (member_in (codes "reached") d >>= version_in Reached) _ p.delta.changes.version p
    (member_again (codes "reached") (version_in Reached) d (version_value p.delta.changes.version) p.delta.changes.version m.1.1.1.0 (version_again Reached p.delta.changes.version h.reached))
    (bind_again (unless_above (least_above 0 p.delta.need p.delta.changes.version)) _ None p (rw (above_none 0 p.delta.need p.delta.changes.version h.below) refl)
    (bind_again (member_in (codes "jobs") d >>= array_in Jobs (job_of format) (job_stands p.delta.changes.version)) _ p.delta.changes.jobs p
    (member_again (codes "jobs") (array_in Jobs (job_of format) (job_stands p.delta.changes.version)) d (list_value (map (job_value format) p.delta.changes.jobs)) p.delta.changes.jobs m.1.0
    (array_again Jobs (job_of format) (job_value format) (IsJob format) (job_stands p.delta.changes.version) (job_form format) p.delta.changes.jobs h.jobs h.jobs_stand))
    (bind_again (member_in (codes "reservations") d >>= array_in Reservations reservation_of (reservation_stands p.delta.changes.version)) _ p.delta.changes.reservations p
    (member_again (codes "reservations") (array_in Reservations reservation_of (reservation_stands p.delta.changes.version)) d (list_value (map reservation_value p.delta.changes.reservations)) p.delta.changes.reservations m.1.1.1.1.0
    (array_again Reservations reservation_of reservation_value IsReservation (reservation_stands p.delta.changes.version) reservation_form p.delta.changes.reservations h.reservations h.reservations_stand))
    (bind_again (retired_in told p.delta.changes.version p.delta.changes.jobs p.delta.changes.reservations d) _ p.delta.changes.retired p
    (retired_again p.delta.changes.version p.delta.changes.jobs p.delta.changes.reservations told d p.delta.changes.retired (sender_member p) refl m.1.1.1.1.1 h.retired h.retired_stand)
    refl))))))

whole_takes : (d : Data) (n : ℕ) → option_and_then as_u64 (as_number d) ≡ Some n → d ≡ natural_value n
whole_takes (number (unsigned m)) n e = cc
whole_takes (number (negative z)) n e = absurd cc
whole_takes (number (float x)) n e = absurd cc
whole_takes null n e = absurd cc
whole_takes (boolean b) n e = absurd cc
whole_takes (string s) n e = absurd cc
whole_takes (array ds) n e = absurd cc
whole_takes (object ms) n e = absurd cc

abbrev Said : Type 0
Said = Format × Bool

abbrev IsSaid : ℕ → Said → Type 0
IsSaid n said = (n ≡ number_from said.0 said.1) × HasFormat said.0 said.1

format_number : (told : Bool) (n : ℕ) (b c e : Bool) (said : Said) → eqb n 1 ≡ b → eqb n 2 ≡ c → (eqb n 3 && told) ≡ e → cond b (Ok (One, false)) (cond c (Ok (Two, false)) (cond e (Ok (Two, true)) (Err (Version n)))) ≡ Ok said → IsSaid n said
format_number told n true c e said is_one is_two is_three h = subst (IsSaid n) (ok_is (One, false) said h) (eqb-true n 1 is_one, refl)
format_number told n false true e said is_one is_two is_three h = subst (IsSaid n) (ok_is (Two, false) said h) (eqb-true n 2 is_two, tt)
format_number told n false false true said is_one is_two is_three h = subst (IsSaid n) (ok_is (Two, true) said h) (eqb-true n 3 (and_parts (eqb n 3) told is_three).0, tt)
format_number told n false false false said is_one is_two is_three h = absurd cc

member_number : (o : Option Data) (n : ℕ) → option_and_then as_u64 (option_and_then as_number o) ≡ Some n → o ≡ Some (natural_value n)
member_number (Some d) n e = ap (λ (d : Data). Some d) (whole_takes d n e)
member_number None n e = absurd cc

format_takes : (d : Data) (said : Said) → format_in d ≡ Ok said → (get (codes "format") d ≡ Some (natural_value (number_from said.0 said.1))) × HasFormat said.0 said.1
format_takes d said e =
    let told : Bool = is_some (get (codes "retired") d) in
    let n = bind_ok (or_fault (Shape (place Whole 0)) (option_and_then as_u64 (option_and_then as_number (get (codes "format") d)))) (format_from told) said e in
    let is = format_number told n.0 (eqb n.0 1) (eqb n.0 2) (eqb n.0 3 && told) said refl refl refl n.2 in
    (member_number (get (codes "format") d) n.0 (or_fault_ok (Shape (place Whole 0)) _ n.0 n.1) ∙ ap (λ (n : ℕ). Some (natural_value n)) is.0, is.1)

pub packet_takes : (d : Data) (p : PacketValue) → packet_of d ≡ Ok p → (format : Format) × (d ≡ packet_value format p) × IsPacket format p
unfolding packet_of
packet_takes d p e =
    let f = bind_ok (format_in d) _ p e in
    let named = when_ok (has_names (packet_names f.0.1) d) (Shape (place Whole 0)) (body_in f.0.0 f.0.1 d) p f.2 in
    let said = format_takes d f.0 f.1 in
    let t = body_takes f.0.0 f.0.1 d p said.1 named.0 said.0 named.1 in
    (f.0.0, t.0, t.1)

-- the text begins with the number of its format, and has its names
begun : (format : Format) (told : Bool) (p : PacketValue) → HasFormat format told → body_in format told (object_value (members_before (number_from format told) format p (with_retired told p.delta.changes.retired (sender_member p)))) ≡ Ok p
    → packet_of (object_value (members_before (number_from format told) format p (with_retired told p.delta.changes.retired (sender_member p)))) ≡ Ok p
unfolding packet_of
begun One false p h e = e
begun One true p h e = absurd cc
begun Two false p h e = e
begun Two true p h e = e

has_format : (format : Format) (rs : RetiredValue) → MaySay format rs → HasFormat format (tells_retired rs)
has_format One rs e = ap tells_retired e
has_format Two rs e = tt

pub packet_again : (format : Format) (p : PacketValue) → IsPacket format p → packet_of (packet_value format p) ≡ Ok p
packet_again format p h = begun format (tells_retired p.delta.changes.retired) p (has_format format p.delta.changes.retired h.said) (body_again format p h)

-- ---- bytes

pub found : (bytes : List ℕ) (p : PacketValue) → packet_in bytes ≡ Ok p → (format : Format) × IsPacket format p × (text_value bytes ≡ Some (packet_value format p))
found bytes p e =
    let text = bind_ok (or_fault NotJson (text_value bytes)) packet_of p e in
    let read = packet_takes text.0 p text.2 in
    (read.0, read.2, or_fault_ok NotJson (text_value bytes) text.0 text.1 ∙ ap (λ (d : Data). Some d) read.1)

pub again : (format : Format) (bytes : List ℕ) (p : PacketValue) → IsPacket format p → text_value bytes ≡ Some (packet_value format p) → packet_in bytes ≡ Ok p
again format bytes p h e = bind_again (or_fault NotJson (text_value bytes)) packet_of (packet_value format p) p (rw e refl) (packet_again format p h)
