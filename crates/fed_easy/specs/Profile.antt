-- The use of a machine as a step function.
use Rattle.std.specs.Prelude.{◌≡◌, ℕ, suc, ◌+◌, ◌<◌, ◌≤◌, Bool, List, [], ◌∷◌, min, nat_eq, nat_le, if◌then◌else◌}
use Rattle.std.specs.List.{list_any}
use Rattle.fed_stamp.specs.declared.rosters.TheConstants.{MAX_NODES}
use Rattle.fed_easy.specs.declared.profiles.Step.{Step}
use Rattle.fed_easy.specs.declared.profiles.Profile.{Profile}
use Rattle.fed_easy.specs.Use.{is_during}

-- the nodes in use at second u, where n are in use before the first step
abbrev pub level_at : ℕ → List Step → ℕ → ℕ
level_at n [] u = n
level_at n (s ∷ ss) u = if nat_le s.from u then level_at s.nodes ss u else n

-- the nodes in use behind the last step
abbrev pub last_level : ℕ → List Step → ℕ
last_level n [] = n
last_level n (s ∷ ss) = last_level s.nodes ss

-- each step stands after second t and after the step before it
abbrev pub IsAfter : ℕ → List Step → Type 0
IsAfter t [] = Unit {0}
IsAfter t (s ∷ ss) = (t < s.from) × IsAfter s.from ss

-- a step stands at the second
abbrev pub is_step : ℕ → List Step → Bool
is_step second ss = list_any (λ s. nat_eq s.from second) ss

-- the step with so many nodes more, if it stands at these seconds; what is beyond the capacity counts as one
abbrev pub raised : ℕ → ℕ → ℕ → ℕ → Step → Step
raised capacity from until nodes s =
    record { from = s.from; nodes = if is_during from until s.from then min (s.nodes + nodes) (suc capacity) else s.nodes }

-- the nodes in use at a second
abbrev pub nodes_in : Profile → ℕ → ℕ
nodes_in p u = level_at p.nodes p.steps.items u

-- the steps ascend from the start on, and behind the last of them nothing is in use
pub record IsProfile (p : Profile) : Type 0 where
  pub capacity : p.capacity ≤ MAX_NODES
  pub ascending : IsAfter p.start p.steps.items
  pub ends : last_level p.nodes p.steps.items ≡ 0

-- the profile tells the use from its start on until a second
abbrev pub TellsUntil : Profile → ℕ → (ℕ → ℕ) → Type 0
TellsUntil p until used = (u : ℕ) → p.start ≤ u → u < until →
    min (nodes_in p u) (suc p.capacity) ≡ min (used u) (suc p.capacity)

-- and for ever
abbrev pub Tells : Profile → (ℕ → ℕ) → Type 0
Tells p used = (u : ℕ) → p.start ≤ u → min (nodes_in p u) (suc p.capacity) ≡ min (used u) (suc p.capacity)
