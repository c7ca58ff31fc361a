-- What the calls of a device do to its file, and what a crash may leave of it.
use Rattle.std.specs.Prelude.{◌≡◌, ◌⊎◌, ◌≤◌, ℕ, ◌+◌, max, List, ◌++◌, length, take, drop}

-- these bytes stand at this offset, over what was there, and the others are the same
abbrev pub Holds : ℕ → List ℕ → List ℕ → List ℕ → Type 0
Holds at bytes old new = new ≡ take at old ++ (bytes ++ drop (at + length bytes) old)

-- What a crash may leave of a write: in its range any bytes, of which those past the old end may be missing, and elsewhere
-- the same. A write of a single byte is done or it isn't.
pub record Torn (at : ℕ) (bytes old new : List ℕ) : Type 0 where
  pub front : take at new ≡ take at old
  pub back : drop (at + length bytes) new ≡ drop (at + length bytes) old
  pub at_least : length old ≤ length new
  pub at_most : length new ≤ max (length old) (at + length bytes)
  pub single : length bytes ≡ 1 → (new ≡ old) ⊎ Holds at bytes old new

-- What a crash may leave of a cut: the file to that length or to a greater one.
pub record Shortened (len : ℕ) (old new : List ℕ) : Type 0 where
  pub at_least : len ≤ length new
  pub front : take (length new) old ≡ new

-- a crash leaves only what has this
abbrev pub Leaves : (List ℕ → Type 0) → (List ℕ → Type 0) → Type 0
Leaves P may_leave = (c : List ℕ) → may_leave c → P c

-- a crash leaves this file and no other
abbrev pub LeavesJust : List ℕ → (List ℕ → Type 0) → Type 0
LeavesJust file may_leave = (c : List ℕ) → may_leave c → c ≡ file

-- Between two moments: what a crash since t might have left is what it might have left by the first, or what it may leave at the second.
pub record Passes (before now : ℕ) (left_before left_now : ℕ → List ℕ → Type 0) (may_leave : List ℕ → Type 0) : Type 0 where
  pub later : before ≤ now
  pub no_more : (t : ℕ) (c : List ℕ) → t ≤ before → left_now t c → left_before t c ⊎ may_leave c
  pub no_less : (t : ℕ) (c : List ℕ) → t ≤ before → left_before t c → left_now t c

-- A crash at any moment from old to new leaves a file of which P holds.
pub record LeavesOnly {D : Type 0} (moment : D → ℕ) (left_since : D → ℕ → List ℕ → Type 0) (old new : D) (P : List ℕ → Type 0) : Type 0 where
  pub later : moment old ≤ moment new
  pub each : (c : List ℕ) → left_since new (moment old) c → P c
  -- the same for a stretch that began before old
  pub joined : (t : ℕ) (c : List ℕ) → t ≤ moment old → left_since new t c → left_since old t c ⊎ P c
