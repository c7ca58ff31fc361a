-- Reservations as JSON values: an identifier, and the window beside the stamp of the operation that set it.
use Rattle.std.specs.Prelude.{ℕ, Bool, nat_lt, List, [], ◌∷◌, codes, if◌then◌else◌, Option, IfSome, Err}
use Rattle.serde_json.specs.Data.{Data}
use Rattle.fed_stamp.specs.Stamp.{StampValue}
use Rattle.fed_stamp.specs.declared.rosters.TheConstants.{MAX_NODES}
use Rattle.fed_lattice.specs.Results.{◌>>=◌, mapped}
use Rattle.fed_model.specs.Reservation.{ReservationView}
use Rattle.fed_model.specs.declared.moments.TheConstants.{MAX_MOMENT}
use Rattle.fed_model.specs.declared.windows.Window.{Window}
use Rattle.fed_json.specs.declared.flaws.Flaw.TheVariants.{Shape}
use Rattle.fed_json.specs.Reading.{Reading, both, where_true}
use Rattle.fed_json.specs.Numbers.{natural_value, natural_in}
use Rattle.fed_model.specs.Ranges.{IsStamp, IsWindow}
use Rattle.fed_json.specs.Values.{list_value, elements_of, or_null, null_or}
use Rattle.fed_json.specs.Objects.{Named, object_value, has_names, member_of}
use Rattle.fed_job_json.specs.Stamps.{stamp_value, stamp_of, site_of}
use Rattle.fed_job_json.specs.Fields.{field_value, field_of, IsField}

abbrev pub times_value : Window → Data
times_value w = list_value (natural_value w.site ∷ natural_value w.start ∷ natural_value w.end ∷ natural_value w.nodes ∷ [])

-- it ends after it starts
abbrev pub ends_later : Window → Bool
ends_later w = nat_lt w.start w.end

abbrev pub times_from : List Data → Reading Window
times_from (site ∷ start ∷ end ∷ nodes ∷ []) = mapped (λ p. record { site = p.0; start = p.1.0; end = p.1.1.0; nodes = p.1.1.1 })
    (both (site_of site) (both (natural_in 0 MAX_MOMENT start) (both (natural_in 0 MAX_MOMENT end) (natural_in 1 MAX_NODES nodes)))) >>= where_true ends_later
times_from _ = Err Shape

abbrev pub times_of : Data → Reading Window
times_of d = elements_of d >>= times_from

abbrev pub window_value : Option Window → Data
window_value w = null_or times_value w

abbrev pub window_of : Data → Reading (Option Window)
window_of d = or_null times_of d

-- ---- the object

abbrev pub Reserved : Type 0
Reserved = StampValue × ReservationView

abbrev pub reservation_members : Reserved → Named
reservation_members r = (codes "id", stamp_value r.0) ∷ (codes "window", field_value window_value r.1) ∷ []

abbrev pub reservation_value : Reserved → Data
reservation_value r = object_value (reservation_members r)

abbrev pub reservation_names : List (List ℕ)
reservation_names = codes "id" ∷ codes "window" ∷ []

unfoldable pub reservation_of : Data → Reading Reserved
reservation_of d = if has_names reservation_names d then both (member_of (codes "id") stamp_of d) (member_of (codes "window") (field_of window_of) d) else Err Shape

abbrev pub IsReservation : Reserved → Type 0
IsReservation r = IsStamp r.0 × IsField (λ w. IfSome w IsWindow) r.1
