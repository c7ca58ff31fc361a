-- A run of an order's entries, as the program keeps it.
use Rattle.std.specs.Prelude.{◌≡◌, ℕ, List, [], map, length, slice_index, slice_index_or}
use Rattle.std.specs.Global.{Vec}
use Rattle.fed_threads.specs.Settled.{Point, number_of}

-- of how many sites, and as far as it has come
pub record CourseValue : Type 0 where
  pub sites : ℕ
  pub point : Point

-- the numbers of the entries that were run, for each site: that of a ship is its packet's, and all others are 0
abbrev pub numbers_of : List (Vec ℕ) → List (List ℕ)
numbers_of numbers = map (λ (v : Vec ℕ). v.items) numbers

-- how many entries were run of each site
abbrev pub placed_in : List (List ℕ) → List ℕ
placed_in numbers = map length numbers

abbrev pub number_in : List (List ℕ) → ℕ → ℕ → ℕ
number_in numbers sender place = slice_index (slice_index_or numbers sender []) place

-- a ship's number is found at its place
abbrev pub IsIndexed : List (ℕ × ℕ) → List (List ℕ) → Type 0
IsIndexed ships numbers = (sender place : ℕ) → number_in numbers sender place ≡ number_of ships sender place

-- there are numbers for each site, those of the ships
pub record AreNumbers (sites : ℕ) (ships : List (ℕ × ℕ)) (numbers : List (List ℕ)) : Type 0 where
  pub count : length numbers ≡ sites
  pub indexed : IsIndexed ships numbers
