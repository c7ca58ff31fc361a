-- Orders of the entries of several journals, and the one that is chosen.
use Rattle.std.specs.Prelude.{◌≡◌, ◌<◌, ◌≤◌, ◌+◌, ◌⊎◌, ℕ, List, [], ◌∷◌, length, slice_index, slice_index_or, slice_set, take, map, replicate, Bool, true, false, ◌&&◌, ◌==◌, nat_lt, Option, Some, None}
use Rattle.std.specs.List.{slice_get, list_all, position}
use Rattle.std.specs.Global.{Vec}
use Rattle.fed_threads.specs.declared.journal.Asked.{Asked}
use Rattle.fed_threads.specs.declared.journal.Asked.TheVariants.{Do, Ship, Take}
use Rattle.fed_threads.specs.declared.journal.Claim.{Claim}
use Rattle.fed_threads.specs.declared.journal.Entry.{Entry}

-- the entry at this index of the site's journal
abbrev pub entry_at : List (List Entry) → ℕ → ℕ → Option Entry
entry_at journals site index = slice_get (slice_index_or journals site []) index

-- an entry is placed where more than its index are placed of its site's journal
abbrev pub is_placed : List ℕ → ℕ → ℕ → Bool
is_placed placed site index = nat_lt index (slice_index placed site)

abbrev pub asks_ship : Asked → Bool
asks_ship (Do site who command) = false
asks_ship (Ship site to) = true
asks_ship (Take site sender place) = false

abbrev pub is_ship : Option Entry → Bool
is_ship None = false
is_ship (Some e) = asks_ship e.asked

-- a take stands after the ship that it names
abbrev pub take_allows : List (List Entry) → List ℕ → Asked → Bool
take_allows journals placed (Do site who command) = true
take_allows journals placed (Ship site to) = true
take_allows journals placed (Take site sender place) =
    is_placed placed sender place && is_ship (entry_at journals sender place)

abbrev pub is_claim_of : ℕ → ℕ → Claim → Bool
is_claim_of site index c = (c.site == site) && (c.index == index)

abbrev pub first_of : Option ℕ → List Claim → List Claim
first_of None claims = []
first_of (Some k) claims = take k claims

-- the claims that a seat made before it claimed this entry; none where it does not claim it
abbrev pub claims_before : ℕ → ℕ → List Claim → List Claim
claims_before site index claims = first_of (position (is_claim_of site index) claims) claims

-- an entry stands after those of all earlier claims of its seat
abbrev pub seat_allows : List ℕ → ℕ → ℕ → List Claim → Bool
seat_allows placed site index claims = list_all (λ c. is_placed placed c.site c.index) (claims_before site index claims)

abbrev pub may_follow : List (List Entry) → List (List Claim) → List ℕ → ℕ → ℕ → Option Entry → Bool
may_follow journals seats placed site index None = false
may_follow journals seats placed site index (Some e) =
    take_allows journals placed e.asked && list_all (seat_allows placed site index) seats

-- the next entry of the site's journal may be placed
abbrev pub is_ready : List (List Entry) → List (List Claim) → List ℕ → ℕ → Bool
is_ready journals seats placed site =
    may_follow journals seats placed site (slice_index placed site) (entry_at journals site (slice_index placed site))

abbrev pub with_next : List ℕ → ℕ → List ℕ
with_next placed site = slice_set placed site (slice_index placed site + 1)

-- An order is given by the sites of its entries, since those of a site stand as in its journal.
-- It is orderly, after those placed already, where each entry may be placed when its turn comes.
abbrev pub is_orderly : (List ℕ → ℕ → Bool) → List ℕ → List ℕ → Bool
is_orderly ready placed [] = true
is_orderly ready placed (s ∷ sites) = ready placed s && is_orderly ready (with_next placed s) sites

-- how many entries of each site are placed after these
abbrev pub placed_after : List ℕ → List ℕ → List ℕ
placed_after placed [] = placed
placed_after placed (s ∷ sites) = placed_after (with_next placed s) sites

-- compared from the front, the first list is not above the second, or the second ends first
abbrev pub ComesFirst : List ℕ → List ℕ → Type 0
ComesFirst [] ys = Unit {0}
ComesFirst (x ∷ xs) [] = Unit {0}
ComesFirst (x ∷ xs) (y ∷ ys) = (x < y) ⊎ ((x ≡ y) × ComesFirst xs ys)

-- the longest orderly list, and of several the one whose sites, compared from the front, are least
pub record IsPlacing (ready : List ℕ → ℕ → Bool) (start sites : List ℕ) : Type 0 where
  pub orderly : is_orderly ready start sites ≡ true
  pub longest : (others : List ℕ) → is_orderly ready start others ≡ true → length others ≤ length sites
  pub least : (others : List ℕ) → is_orderly ready start others ≡ true → length others ≡ length sites →
      ComesFirst sites others

-- no entry is placed yet
abbrev pub none_placed : List (List Entry) → List ℕ
none_placed journals = replicate (length journals) 0

-- the journals and the claims as the program holds them
abbrev pub entries_of : List (Vec Entry) → List (List Entry)
entries_of journals = map (λ (v : Vec Entry). v.items) journals

abbrev pub claims_of : List (Vec Claim) → List (List Claim)
claims_of seats = map (λ (v : Vec Claim). v.items) seats
