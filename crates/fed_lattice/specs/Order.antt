-- Words on an order.
use Rattle.std.specs.Prelude.{◌≡◌, false}
use Rattle.std.specs.declared.cmp.Ordering.{Ordering}
use Rattle.std.specs.Ordering.{is_gt}

-- t is not above u
abbrev pub IsUpTo : {T : Type 0} → (T → T → Ordering) → T → T → Type 0
IsUpTo cmp t u = is_gt (cmp t u) ≡ false
