-- The calls on a file, and what a crash may leave by them. The newest call comes first.
use Rattle.std.specs.Prelude.{◌≡◌, ◌⊎◌, ◌≤◌, ℕ, ◌+◌, List, [], ◌∷◌, ◌++◌, length, take, drop, Option, Some, Result, Ok, Err}
use Rattle.std.proofs.Common.{inl, inr, arith}
use Rattle.std.specs.declared.io.Error.{Error}
use Rattle.fed_journal.specs.Device.{LeavesJust, Shortened, Torn}
use Rattle.fed_journal.specs.declared.calls.Call.{Call}
use Rattle.fed_journal.specs.declared.calls.Call.TheVariants.{Found, Wrote, Resized, Flushed, Replaced, Refused}

-- what a call answers: an error where it failed
abbrev pub CallAnswer : Type 0
CallAnswer = Result (Unit {0}) Error

-- a call with its answer
abbrev pub AnsweredCall : Type 0
AnsweredCall = Call × CallAnswer

abbrev pub overlaid : ℕ → List ℕ → List ℕ → List ℕ
overlaid at bytes file = take at file ++ (bytes ++ drop (at + length bytes) file)

-- what a read gives after a call that succeeded, by what it gave before
abbrev pub seen_after : Call → List ℕ → List ℕ
seen_after (Found bytes) file = bytes.items
seen_after (Wrote at bytes) file = overlaid at bytes.items file
seen_after (Resized len) file = take len file
seen_after Flushed file = file
seen_after (Replaced bytes) file = bytes.items
seen_after Refused file = file

-- and after any call: one that failed is taken as not seen
abbrev pub seen_next : Call → CallAnswer → List ℕ → List ℕ
seen_next call (Ok done) file = seen_after call file
seen_next call (Err error) file = file

abbrev pub seen_by : List AnsweredCall → List ℕ
seen_by [] = []
seen_by (event ∷ earlier) = seen_next event.0 event.1 (seen_by earlier)

-- What a crash may leave after a call, by what a read gave before it and by what a crash might leave then. Of a write or a cut of a
-- file that the disk didn't have, that is anything. A write or a cut that failed may leave as much as one that succeeded. Where a file was
-- to take the place of this one, it is there whole, and where that failed it isn't there or it is there whole.
abbrev pub left_after : Call → CallAnswer → List ℕ → (List ℕ → Type 0) → List ℕ → Type 0
left_after (Found bytes) answer file left c = c ≡ bytes.items
left_after (Wrote at bytes) answer file left c = LeavesJust file left → Torn at bytes.items file c
left_after (Resized len) answer file left c = LeavesJust file left → Shortened len file c
left_after Flushed (Ok done) file left c = left c × (c ≡ file)
left_after Flushed (Err error) file left c = left c
left_after (Replaced bytes) (Ok done) file left c = c ≡ bytes.items
left_after (Replaced bytes) (Err error) file left c = left c ⊎ (c ≡ bytes.items)
left_after Refused answer file left c = left c

abbrev pub left_by : List AnsweredCall → List ℕ → Type 0
left_by [] c = c ≡ []
left_by (event ∷ earlier) c = left_after event.0 event.1 (seen_by earlier) (left_by earlier) c

-- what the disk may have of a call that no sync has followed, by what it had before
abbrev pub IsTornBy : Call → List ℕ → List ℕ → Type 0
IsTornBy (Wrote at bytes) before c = Torn at bytes.items before c
IsTornBy (Resized len) before c = len ≤ length before → Shortened len before c
IsTornBy (Replaced bytes) before c = (c ≡ before) ⊎ (c ≡ bytes.items)
IsTornBy _ before c = c ≡ before

-- Of a file that has these bytes and whose disk has that: a crash may leave the bytes, and any part of the last change.
pub record IsCached (events : List AnsweredCall) (disk bytes : List ℕ) (change : Option Call) : Type 0 where
  pub whole : left_by events bytes
  pub part : (call : Call) (c : List ℕ) → change ≡ Some call → IsTornBy call disk c → left_by events c

-- what a crash might have left at one of the moments from the one with this count of calls on
abbrev pub left_since : List AnsweredCall → ℕ → List ℕ → Type 0
left_since [] t c = left_by [] c
left_since (event ∷ earlier) t c = left_by (event ∷ earlier) c ⊎ ((t ≤ length earlier) × left_since earlier t c)

abbrev pub errors_next : CallAnswer → List Error → List Error
errors_next (Ok done) errors = errors
errors_next (Err error) errors = error ∷ errors

-- the errors of the calls that failed
abbrev pub errors_by : List AnsweredCall → List Error
errors_by [] = []
errors_by (event ∷ earlier) = errors_next event.1 (errors_by earlier)

-- a moment is one of those since an earlier one
pub counts_now : (events : List AnsweredCall) (t : ℕ) (c : List ℕ) → t ≤ length events → left_by events c → left_since events t c
counts_now [] t c le left = left
counts_now (event ∷ earlier) t c le left = inl left

-- and the only one since itself
pub only_now : (events : List AnsweredCall) (c : List ℕ) → left_since events (length events) c → left_by events c
only_now [] c left = left
only_now (event ∷ earlier) c (inl left) = left
only_now (event ∷ earlier) c (inr since) = absurd (omega (arith, since.0))
