-- What is said of the entries of a board.
use Rattle.std.specs.Prelude.{flat_map}
use Rattle.std.specs.List.Sorted.{IsStrictlySortedBy}
use Rattle.std.specs.Map.{keys_of}
use Rattle.std.proofs.Common.{◌≡◌, ℕ, false, List, [], ◌∷◌, ◌++◌, Option, Some, None, unwrap_or, refl, sym, ap, ap₂, ◌∙◌, inl, inr, append-nil}
use Rattle.fed_stamp.specs.Stamp.{StampValue}
use Rattle.fed_lattice.specs.Latest.{stamp_cmp}
use Rattle.fed_lattice.specs.Sets.{Has}
use Rattle.fed_model.specs.Reservation.{ReservationView}
use Rattle.fed_model.specs.Identifiers.{reservations_in}
use Rattle.fed_board.specs.Board.{BoardValue, board_reads}
use Rattle.fed_board.proofs.FoundEntries.{entry_found}
use Rattle.fed_model.specs.declared.windows.Window.{Window}
use Rattle.serde_json.specs.Written.{has_float}
use Rattle.fed_model.specs.View.{View}
use Rattle.fed_json.specs.Values.{list_value}
use Rattle.fed_looks.specs.Reserved.{if_standing, of_standing, of_window, window_object}
use Rattle.fed_looks.proofs.Plain.{ArePlain, gathered_plain}

-- what is said of entries
abbrev pub said_of : {X : Type 0} → (StampValue → Window → List X) → List (StampValue × ReservationView) → List X
said_of said es = flat_map (λ e. if_standing (said e.0) e.1) es

-- what the identifiers say is what the entries say
pub ids_said : {X Y : Type 0} (f : StampValue → List Y) (g : StampValue × X → List Y) (es : List (StampValue × X)) → ((e : StampValue × X) → Has es e → f e.0 ≡ g e) → flat_map f (keys_of es) ≡ flat_map g es
ids_said f g [] h = refl
ids_said f g (e ∷ es) h = ap₂ (λ l m. l ++ m) (h e (inl refl)) (ids_said f g es (λ x k. h x (inr k)))

-- it is what is said of the view, once all is said
pub standing_done : {X : Type 0} (said : StampValue → Window → List X) (b : BoardValue) → IsStrictlySortedBy stamp_cmp (keys_of b.reservations) → keys_of b.reservations ≡ reservations_in (board_reads b)
    → (written : List X) (rest : List (StampValue × ReservationView)) → written ++ said_of said rest ≡ said_of said b.reservations → rest ≡ [] → written ≡ of_standing said (board_reads b)
standing_done said b sorted ids written rest under none =
    sym (append-nil written) ∙ ap (λ l. written ++ said_of said l) (sym none) ∙ under
    ∙ sym (ids_said (λ id. if_standing (said id) ((board_reads b).reservation id)) (λ e. if_standing (said e.0) e.1) b.reservations
    (λ e h. ap (λ (o : Option ReservationView). if_standing (said e.0) (unwrap_or o None)) (entry_found b.reservations e sorted h)))
    ∙ ap (flat_map (λ id. if_standing (said id) ((board_reads b).reservation id))) ids

-- ---- no object has a float
window_plain : (roster : List (List ℕ × ℕ)) (id : StampValue) (o : Option Window) → ArePlain (of_window (window_object roster id) o)
window_plain roster id None = refl
window_plain roster id (Some window) = refl

standing_plain : (roster : List (List ℕ × ℕ)) (id : StampValue) (r : ReservationView) → ArePlain (if_standing (window_object roster id) r)
standing_plain roster id None = refl
standing_plain roster id (Some latest) = window_plain roster id latest.1

pub reserved_plain : (roster : List (List ℕ × ℕ)) (v : View) → has_float (list_value (of_standing (window_object roster) v)) ≡ false
reserved_plain roster v = gathered_plain (λ id. if_standing (window_object roster id) (v.reservation id)) (λ id. standing_plain roster id (v.reservation id)) (reservations_in v)
