-- Counts of identifiers by site.
use Rattle.std.specs.Prelude.{◌≡◌, ◌<◌, ◌==◌, ◌+◌, ℕ, List, count_by, slice_index}
use Rattle.fed_stamp.specs.declared.sites.TheConstants.{SITES}
use Rattle.fed_stamp.specs.Stamp.{StampValue}

-- how many of the identifiers the site gave
abbrev pub ids_of : ℕ → List StampValue → ℕ
ids_of site ids = count_by (λ (id : StampValue). id.site == site) ids

-- at each of the 16 sites the number of the identifiers that it gave
abbrev pub AreCounts : List ℕ → List StampValue → Type 0
AreCounts counts ids = (site : ℕ) → site < SITES → slice_index counts site ≡ ids_of site ids

-- at each of the 16 sites, what was counted and the identifiers that are left make up the identifiers
abbrev pub AreCounting : List ℕ → List StampValue → List StampValue → Type 0
AreCounting counts left ids =
    (site : ℕ) → site < SITES → slice_index counts site + ids_of site left ≡ ids_of site ids
