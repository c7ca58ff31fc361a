-- The members of a reservation's object.
use Rattle.std.proofs.Common.{◌≡◌, false, List, [], ◌∷◌, Err, length, map, slice_index_or, refl, sym, ap, subst}
use Rattle.std.specs.Borrow.{Bor}
use Rattle.std.specs.List.{zip}
use Rattle.std.proofs.lemmas.List.FromFn.{fill_by_all}
use Rattle.serde_json.specs.Data.{Data}
use Rattle.serde_json.specs.View.{view}
use Rattle.serde_json.specs.declared.value.Value.{Value}
use Rattle.fed_json.specs.declared.flaws.Flaw.TheVariants.{Shape}
use Rattle.fed_json.specs.Objects.{has_names, object_value}
use Rattle.fed_json.specs.Reading.{Reading, both}
use Rattle.fed_job_json.specs.Fields.{field_of}
use Rattle.fed_job_json.specs.Stamps.{stamp_of}
use Rattle.fed_wire.specs.Reservations.{Reserved, reservation_names, reservation_of, window_of}

abbrev Values : Type 0
Values = List (Bor Value)

two : {A : Type 0} (P : List A → Type 0) (xs : List A) (x : A) → length xs ≡ 2 → ((a b : A) → P (a ∷ b ∷ [])) → P xs
two P xs x many each = subst P (sym (fill_by_all (λ k. slice_index_or xs k x) xs 2 x many (λ k less. refl))) (each _ _)

pub misnamed : (d : Data) → has_names reservation_names d ≡ false → ◌≡◌ {A = Reading Reserved} (Err Shape) (reservation_of d)
unfolding reservation_of
misnamed d e = rw e refl

abbrev IsReserved : Data → Values → Type 0
IsReserved whole vs = whole ≡ object_value (zip reservation_names (map (λ v. view v.now) vs))

abbrev read_both : Bor Value → Bor Value → Reading Reserved
read_both id window = both (stamp_of (view id.now)) (field_of window_of (view window.now))

-- with a and b for values beyond the end
pub reservation_is : (whole : Data) (vs : Values) (a b : Bor Value) → length vs ≡ 2 → IsReserved whole vs → read_both (slice_index_or vs 0 a) (slice_index_or vs 1 b) ≡ reservation_of whole
unfolding reservation_of
reservation_is whole vs a b many is =
    two (λ vs. IsReserved whole vs → read_both (slice_index_or vs 0 a) (slice_index_or vs 1 b) ≡ reservation_of whole) vs a many (λ id window is. ap reservation_of (sym is)) is
