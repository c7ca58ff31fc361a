-- Reservations are read as what they are the values of.
use Rattle.std.proofs.Common.{◌≡◌, ltb, true, List, [], ◌∷◌, Ok, refl, ap, subst, ◌∙◌}
use Rattle.std.specs.Prelude.{codes, IfSome}
use Rattle.std.proofs.lemmas.Bool.{ltb-true, lt-ltb}
use Rattle.serde_json.specs.Data.{Data}
use Rattle.fed_stamp.specs.declared.rosters.TheConstants.{MAX_NODES}
use Rattle.fed_lattice.specs.Results.{mapped}
use Rattle.fed_lattice.proofs.ResultLaws.{bind_ok, mapped_ok, when_ok}
use Rattle.fed_model.specs.declared.moments.TheConstants.{MAX_MOMENT}
use Rattle.fed_model.specs.declared.windows.Window.{Window}
use Rattle.fed_json.specs.declared.flaws.Flaw.TheVariants.{Shape}
use Rattle.fed_json.specs.Reading.{both, where_true}
use Rattle.fed_json.specs.Numbers.{natural_in}
use Rattle.fed_json.specs.Values.{list_value, elements_of}
use Rattle.fed_json.specs.Objects.{has_names, member_of}
use Rattle.fed_json.proofs.Forms.{IsForm, IsPartForm}
use Rattle.fed_json.proofs.Steps.{both_ok, where_true_ok}
use Rattle.fed_json.proofs.NumberLaws.{natural_form}
use Rattle.fed_json.proofs.FormLaws.{elements_takes, or_null_form}
use Rattle.fed_json.proofs.ObjectLaws.{member_part, both_part, object_is, object_has}
use Rattle.fed_job_json.specs.Stamps.{stamp_value, stamp_of, site_of}
use Rattle.fed_model.specs.Ranges.{IsStamp, IsWindow}
use Rattle.fed_job_json.specs.Fields.{field_value, field_of, IsField}
use Rattle.fed_job_json.proofs.StampLaws.{site_form, stamp_form}
use Rattle.fed_job_json.proofs.FieldLaws.{field_form}
use Rattle.fed_job_json.proofs.GrantLaws.{four}
use Rattle.fed_wire.specs.Reservations.{times_value, ends_later, times_from, times_of, window_value, window_of, reservation_members, reservation_value, reservation_names, reservation_of, IsReservation}

four_take : (a b c d : Data) (w : Window) → times_from (a ∷ b ∷ c ∷ d ∷ []) ≡ Ok w → (list_value (a ∷ b ∷ c ∷ d ∷ []) ≡ times_value w) × IsWindow w
four_take a b c d w e =
    let i = bind_ok (mapped (λ p. record { site = p.0; start = p.1.0; end = p.1.1.0; nodes = p.1.1.1 }) (both (site_of a) (both (natural_in 0 MAX_MOMENT b) (both (natural_in 0 MAX_MOMENT c) (natural_in 1 MAX_NODES d))))) (where_true ends_later) w e in
    let u = where_true_ok ends_later i.0 w (ends_later i.0) refl i.2 in
    let m = mapped_ok (both (site_of a) (both (natural_in 0 MAX_MOMENT b) (both (natural_in 0 MAX_MOMENT c) (natural_in 1 MAX_NODES d)))) (λ p. record { site = p.0; start = p.1.0; end = p.1.1.0; nodes = p.1.1.1 }) i.0 i.1 in
    let r = both_ok (site_of a) (both (natural_in 0 MAX_MOMENT b) (both (natural_in 0 MAX_MOMENT c) (natural_in 1 MAX_NODES d))) m.0 m.1 in
    let q = both_ok (natural_in 0 MAX_MOMENT b) (both (natural_in 0 MAX_MOMENT c) (natural_in 1 MAX_NODES d)) m.0.1 r.1 in
    let t = both_ok (natural_in 0 MAX_MOMENT c) (natural_in 1 MAX_NODES d) m.0.1.1 q.1 in
    let s = (site_form).takes a m.0.0 r.0 in
    let k = (natural_form 0 MAX_MOMENT).takes b m.0.1.0 q.0 in
    let n = (natural_form 0 MAX_MOMENT).takes c m.0.1.1.0 t.0 in
    let l = (natural_form 1 MAX_NODES).takes d m.0.1.1.1 t.1 in
    let after : ltb m.0.1.0 m.0.1.1.0 ≡ true = ap ends_later m.2 ∙ u.1 in
    subst (λ (w : Window). (list_value (a ∷ b ∷ c ∷ d ∷ []) ≡ times_value w) × IsWindow w) (m.2 ∙ u.0)
    (four a b c d _ _ _ _ s.0 k.0 n.0 l.0, (s.1, k.1, n.1, l.1, ltb-true m.0.1.0 m.0.1.1.0 after))

from_takes : (ds : List Data) (w : Window) → times_from ds ≡ Ok w → (list_value ds ≡ times_value w) × IsWindow w
from_takes (a ∷ b ∷ c ∷ d ∷ []) w e = four_take a b c d w e
from_takes [] w e = absurd cc
from_takes (a ∷ []) w e = absurd cc
from_takes (a ∷ b ∷ []) w e = absurd cc
from_takes (a ∷ b ∷ c ∷ []) w e = absurd cc
from_takes (a ∷ b ∷ c ∷ d ∷ f ∷ ds) w e = absurd cc

times_form : IsForm times_of times_value IsWindow
times_form = record {
  takes = λ d w e.
      let l = bind_ok (elements_of d) times_from w e in
      let t = from_takes l.0 w l.2 in
      (elements_takes d l.0 l.1 ∙ t.0, t.1);
  again = λ w h. rw ((site_form).again w.site h.0, (natural_form 0 MAX_MOMENT).again w.start h.1, (natural_form 0 MAX_MOMENT).again w.end h.2, (natural_form 1 MAX_NODES).again w.nodes h.3, lt-ltb w.start w.end h.4) refl;
}

window_form : IsForm window_of window_value (λ w. IfSome w IsWindow)
window_form = or_null_form times_of times_value IsWindow times_form (λ w. refl)

both_parts : IsPartForm (λ d. both (member_of (codes "id") stamp_of d) (member_of (codes "window") (field_of window_of) d)) reservation_members IsReservation
both_parts = both_part _ _ _ _ _ _ (member_part (codes "id") stamp_of stamp_value IsStamp stamp_form)
    (member_part (codes "window") (field_of window_of) (field_value window_value) (IsField (λ w. IfSome w IsWindow)) (field_form window_of window_value (λ w. IfSome w IsWindow) window_form))

-- just the values of reservations in range are read
pub reservation_form : IsForm reservation_of reservation_value IsReservation
unfolding reservation_of
reservation_form = record {
  takes = λ d r e.
      let w = when_ok (has_names reservation_names d) Shape (both (member_of (codes "id") stamp_of d) (member_of (codes "window") (field_of window_of) d)) r e in
      let t = (both_parts).takes d r w.1 in
      (object_is d (reservation_members r) refl w.0 t.0, t.1);
  again = λ r h. (both_parts).again (reservation_value r) r (object_has (reservation_members r) refl) h;
}
