-- Kinds of holds.
use Rattle.std.specs.Prelude.{ℕ, List, [], ◌∷◌, Bool, true, false, if◌then◌else◌, ◌+◌, ◌==◌, bit_and}
use Rattle.std.specs.declared.cmp.Ordering.{Ordering}
use Rattle.std.specs.Ordering.{nat_cmp}
use Rattle.fed_model.specs.declared.holds.HoldKind.{HoldKind}
use Rattle.fed_model.specs.declared.holds.HoldKind.TheVariants.{User, Operator, System}
use Rattle.fed_model.specs.declared.holds.HoldKinds.{HoldKinds}

-- the bit that stands for the kind
abbrev pub bit_of : HoldKind → ℕ
bit_of User = 1
bit_of Operator = 2
bit_of System = 4

-- the bit of a kind that is present, and 0 for one that is not
abbrev pub bit_where : Bool → HoldKind → ℕ
bit_where present kind = if present then bit_of kind else 0

-- the number of the set of the kinds for which the argument is true: the sum of their bits, and no other bit
abbrev pub sum_of_bits : Bool → Bool → Bool → ℕ
sum_of_bits user operator system = bit_where user User + bit_where operator Operator + bit_where system System

-- the kind is in the set
abbrev pub has_kind : HoldKinds → HoldKind → Bool
has_kind kinds kind = bit_and kinds.0 (bit_of kind) == bit_of kind

-- kinds are ordered by their bits
abbrev pub kind_cmp : HoldKind → HoldKind → Ordering
kind_cmp a b = nat_cmp (bit_of a) (bit_of b)

abbrev pub same_kind : HoldKind → HoldKind → Bool
same_kind User User = true
same_kind Operator Operator = true
same_kind System System = true
same_kind _ _ = false

abbrev pub all_kinds : List HoldKind
all_kinds = User ∷ Operator ∷ System ∷ []
