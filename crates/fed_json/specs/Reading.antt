-- What a piece of JSON is read as: a value, or the kind of its fault.
use Rattle.std.specs.Prelude.{Bool, if◌then◌else◌, Option, Some, None, Result, Ok, Err}
use Rattle.fed_json.specs.declared.flaws.Flaw.{Flaw}
use Rattle.fed_json.specs.declared.flaws.Flaw.TheVariants.{Shape, Range}

abbrev pub Reading : Type 0 → Type 0
Reading A = Result A Flaw

-- two pieces beside each other: a fault of shape of either comes before one of range
abbrev pub both : {A B : Type 0} → Reading A → Reading B → Reading (A × B)
both (Ok x) (Ok y) = Ok (x, y)
both (Ok x) (Err e) = Err e
both (Err Shape) q = Err Shape
both (Err Range) (Ok y) = Err Range
both (Err Range) (Err e) = Err e

-- what is there, or a fault of shape
abbrev pub or_shape : {A : Type 0} → Option A → Reading A
or_shape (Some x) = Ok x
or_shape None = Err Shape

-- what is there, or a fault of range
abbrev pub or_range : {A : Type 0} → Option A → Reading A
or_range (Some x) = Ok x
or_range None = Err Range

-- what passes the test, or a fault of range
abbrev pub where_true : {A : Type 0} → (A → Bool) → A → Reading A
where_true test x = if test x then Ok x else Err Range
