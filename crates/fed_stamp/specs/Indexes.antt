-- Values by number: the least number that passes a test, and a function that is changed at one number.
use Rattle.std.specs.Prelude.{ℕ, Bool, ◌==◌, Option, if◌then◌else◌}
use Rattle.std.specs.List.{find, range_with_len}

-- the least index below n that passes
abbrev pub least_index : (ℕ → Bool) → ℕ → Option ℕ
least_index test n = find test (range_with_len 0 n)

-- the function with another value at i
abbrev pub put : {T : Type 0} → (ℕ → T) → ℕ → T → ℕ → T
put f i t j = if j == i then t else f j
