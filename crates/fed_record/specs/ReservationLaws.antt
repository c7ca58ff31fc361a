-- The laws of reservations.
use Rattle.std.specs.Prelude.{ℕ, Bool, ◌&&◌, nat_eq, option_map}
use Rattle.std.specs.List.{cons_option}
use Rattle.std.specs.Option.{option_eq}
use Rattle.std.proofs.Common.{◌≡◌, Option, Some, None, refl, sym, ap, subst}
use Rattle.std.proofs.lemmas.Map.Lookups.{CmpEqualImpliesEq}
use Rattle.fed_stamp.specs.Stamp.{StampValue, same_stamp}
use Rattle.fed_lattice.specs.Exact.{TellsApart}
use Rattle.fed_lattice.specs.ExactLaws.{tells_options, tells_pairs, tells_stamps, tells_numbers}
use Rattle.fed_lattice.specs.GreatestLaws.{exact_option, option_max_assoc, option_max_comm, option_max_itself}
use Rattle.fed_lattice.specs.Laws.{IsAssociative, IsCommutative, IsIdempotent, AddsChange, JoinsHistories, StandsForSets}
use Rattle.fed_lattice.specs.Part.{part}
use Rattle.fed_lattice.specs.PartLaws.{part-append, same_part}
use Rattle.fed_lattice.specs.Register.{stamped_cmp, joined_registers, register_stands_for}
use Rattle.fed_lattice.specs.RegisterLaws.{stamped_total, exact_stamped, register_applied_stands, register_joined_stands, register_stands_same}
use Rattle.fed_lattice.specs.Stamped.{with_stamp}
use Rattle.fed_model.specs.declared.windows.Window.{Window}
use Rattle.fed_model.specs.Reservation.{ReservationView}
use Rattle.fed_record.specs.Reservation.{window_change, applied_reservation, joined_reservations, reservation_stands_for}
use Rattle.fed_model.specs.ValueLaws.{exact_window}
use Rattle.fed_theory.specs.ValueOrders.{window_cmp, option_window_cmp}
use Rattle.fed_theory.specs.ValueOrderLaws.{option_window_total}

-- windows are equal where their parts are
abbrev pub same_window : Window → Window → Bool
same_window a b = nat_eq a.site b.site && (nat_eq a.start b.start && (nat_eq a.end b.end && nat_eq a.nodes b.nodes))

abbrev pub same_reservation : ReservationView → ReservationView → Bool
same_reservation = option_eq (λ (p q : StampValue × Option Window). same_stamp p.0 q.0 && option_eq same_window p.1 q.1)

-- the parts of a window tell it
pub tells_windows : TellsApart same_window
tells_windows a b =
    let parts : Window → ℕ × (ℕ × (ℕ × ℕ)) = λ w. (w.site, (w.start, (w.end, w.nodes))) in
    let t = tells_pairs nat_eq _ tells_numbers (tells_pairs nat_eq _ tells_numbers (tells_pairs nat_eq nat_eq tells_numbers tells_numbers)) (parts a) (parts b) in (
      λ e. ap (λ (q : ℕ × (ℕ × (ℕ × ℕ))). let r : Window = record { site = q.0; start = q.1.0; end = q.1.1.0; nodes = q.1.1.1 } in r) (t.0 e),
      λ e. t.1 (ap parts e),
    )

pub tells_reservations : TellsApart same_reservation
tells_reservations = tells_options _ (tells_pairs _ (option_eq same_window) tells_stamps (tells_options same_window tells_windows))

-- ---- joins
exact_option_window : CmpEqualImpliesEq option_window_cmp
exact_option_window = exact_option window_cmp exact_window

-- the laws hold of every reservation and of every history
abbrev any : {X : Type 0} → X → Type 0
any x = Unit {0}

pub joined_reservations_assoc : IsAssociative any joined_reservations
joined_reservations_assoc x y z u v w p q r =
    option_max_assoc (stamped_cmp option_window_cmp) (stamped_total option_window_cmp option_window_total) (exact_stamped option_window_cmp exact_option_window) x y z

pub joined_reservations_comm : IsCommutative any joined_reservations
joined_reservations_comm x y v w p q =
    option_max_comm (stamped_cmp option_window_cmp) (stamped_total option_window_cmp option_window_total) (exact_stamped option_window_cmp exact_option_window) x y

pub joined_reservations_itself : IsIdempotent any joined_reservations
joined_reservations_itself x v p = option_max_itself (stamped_cmp option_window_cmp) x

-- ---- what a reservation stands for
-- an operation that sets no window leaves the reservation
same_where_none : (x : ReservationView) (s : StampValue) → joined_registers option_window_cmp x (with_stamp s None) ≡ x
same_where_none None s = refl
same_where_none (Some p) s = refl

pub reservation_adds_change : AddsChange any any reservation_stands_for applied_reservation
reservation_adds_change x h s c p r k f i = go (window_change c)
  where
    go : (w : Option (Option Window)) → register_stands_for (joined_registers option_window_cmp x (with_stamp s w)) (cons_option (option_map (λ (d : Option Window). (s, d)) w) (part window_change h))
    go None = subst (λ y. register_stands_for y (part window_change h)) (sym (same_where_none x s)) r
    go (Some w) = register_applied_stands option_window_cmp option_window_total exact_option_window x (part window_change h) s w r

pub reservation_joins_histories : JoinsHistories any any reservation_stands_for joined_reservations
reservation_joins_histories x y v w g h p q rx ry a i j =
    subst (register_stands_for (joined_registers option_window_cmp x y)) (sym (part-append window_change g h))
    (register_joined_stands option_window_cmp option_window_total x y (part window_change g) (part window_change h) rx ry)

pub reservation_stands_for_sets : StandsForSets reservation_stands_for
reservation_stands_for_sets x g h e p = register_stands_same x (part window_change g) (part window_change h) (same_part window_change g h e) p
