-- The use of a machine at each second, and where there is room in it.
use Rattle.std.specs.Prelude.{ℕ, zero, suc, ◌+◌, ◌-◌, ◌≤◌, ◌<◌, ◌&&◌, List, [], ◌∷◌, Bool, true, max, nat_le, nat_lt, Option, Some, None, if◌then◌else◌}
use Rattle.fed_easy.specs.declared.bookings.Booking.{Booking}
use Rattle.fed_easy.specs.declared.queues.QueuedJob.{QueuedJob}

-- the second u is one from `from` to before `until`
abbrev pub is_during : ℕ → ℕ → ℕ → Bool
is_during from until u = nat_le from u && nat_lt u until

-- the use with so many nodes more at these seconds
abbrev pub with_nodes : ℕ → ℕ → ℕ → (ℕ → ℕ) → ℕ → ℕ
with_nodes from until nodes used u = (if is_during from until u then nodes else 0) + used u

-- the nodes that the bookings use at second u
abbrev pub use_at : List Booking → ℕ → ℕ
use_at [] u = 0
use_at (b ∷ bs) u = with_nodes b.from b.until b.nodes (use_at bs) u

-- those that a booking uses, if there is one
abbrev pub use_by : Option Booking → ℕ → ℕ
use_by None u = 0
use_by (Some b) u = if is_during b.from b.until u then b.nodes else 0

-- the last end of the bookings, from which on they use nothing
abbrev pub last_end : List Booking → ℕ
last_end [] = 0
last_end (b ∷ bs) = max b.until (last_end bs)

-- the use with the job's time from second t on
abbrev pub with_job : ℕ → QueuedJob → (ℕ → ℕ) → ℕ → ℕ
with_job t j used = with_nodes t (t + j.limit) j.nodes used

-- the use with the jobs' times from now on
abbrev pub with_jobs : ℕ → List QueuedJob → (ℕ → ℕ) → ℕ → ℕ
with_jobs now [] used = used
with_jobs now (j ∷ js) used = with_jobs now js (with_job now j used)

-- the last end, of `end` and the ends of the jobs' times from now on
abbrev pub end_with : ℕ → List QueuedJob → ℕ → ℕ
end_with now [] end = end
end_with now (j ∷ js) end = max (now + j.limit) (end_with now js end)

-- at every second from `from` to before `until` there is room for so many nodes more
abbrev pub HasRoom : ℕ → (ℕ → ℕ) → ℕ → ℕ → ℕ → Type 0
HasRoom capacity used nodes from until = (u : ℕ) → from ≤ u → u < until → used u + nodes ≤ capacity

-- the least second, from now on, from which on there is room for so many nodes more for so many seconds
pub record IsLeastRoom (capacity : ℕ) (used : ℕ → ℕ) (nodes limit now s : ℕ) : Type 0 where
  pub from_now : now ≤ s
  pub room : HasRoom capacity used nodes s (s + limit)
  pub least : (t : ℕ) → now ≤ t → HasRoom capacity used nodes t (t + limit) → s ≤ t

-- the job's shadow: the least second, from now on, at which it fits
abbrev pub IsShadow : ℕ → (ℕ → ℕ) → ℕ → QueuedJob → ℕ → Type 0
IsShadow capacity used now j s = IsLeastRoom capacity used j.nodes j.limit now s

-- whether there is room for so many nodes in each of so many seconds from t on
abbrev pub has_room : ℕ → (ℕ → ℕ) → ℕ → ℕ → ℕ → Bool
has_room capacity used nodes zero t = true
has_room capacity used nodes (suc k) t = nat_le (used t + nodes) capacity && has_room capacity used nodes k (suc t)

-- whether the job fits at second t
abbrev pub fits : ℕ → (ℕ → ℕ) → QueuedJob → ℕ → Bool
fits capacity used j t = has_room capacity used j.nodes j.limit t

-- the first of so many seconds from t on at which the job fits, or the second behind them
abbrev pub first_fit : ℕ → (ℕ → ℕ) → QueuedJob → ℕ → ℕ → ℕ
first_fit capacity used j zero t = t
first_fit capacity used j (suc k) t = if fits capacity used j t then t else first_fit capacity used j k (suc t)

-- the job's shadow, where nothing is in use from second `end` on
abbrev pub shadow : ℕ → (ℕ → ℕ) → ℕ → ℕ → QueuedJob → ℕ
shadow capacity used end now j = first_fit capacity used j (end - now) now
