-- What a seat has seen of each site, and what it claims.
use Rattle.std.specs.Prelude.{◌≡◌, ◌<◌, ◌≤◌, ◌+◌, ◌⊎◌, ℕ, true, replicate, List, [], ◌∷◌, ◌++◌, slice_index, slice_index_or, slice_set}
use Rattle.fed_stamp.specs.declared.sites.TheConstants.{SITES}
use Rattle.fed_stamp.specs.Version.{covers, is_below}
use Rattle.fed_model.specs.declared.replies.Reply.{Reply}
use Rattle.fed_model.specs.declared.outcomes.Outcome.{Outcome}
use Rattle.fed_threads.specs.declared.fault.CallFault.{CallFault}
use Rattle.fed_threads.specs.declared.fault.CallFault.TheVariants.{NoSite, Behind, NoMemory}
use Rattle.fed_threads.specs.declared.journal.Asked.{Asked}
use Rattle.fed_threads.specs.declared.journal.Claim.{Claim}
use Rattle.fed_threads.specs.declared.seat.Seat.{Seat}

-- of each site the length of its journal and the version of its board; the claims, and what was asked in each
pub record Known : Type 0 where
  pub seen : List ℕ
  pub versions : List (List ℕ)
  pub claims : List Claim
  pub asked : List Asked

abbrev pub known_by : Seat → Known
known_by s = record { seen = s.seen; versions = s.versions; claims = s.claims.items; asked = s.asked.items }

-- nothing seen, and no claims
abbrev pub starts : Known
starts = record { seen = replicate SITES 0; versions = replicate SITES (replicate SITES 0); claims = []; asked = [] }

abbrev pub seen_of : Known → ℕ → ℕ
seen_of k site = slice_index k.seen site

abbrev pub version_of : Known → ℕ → List ℕ
version_of k site = slice_index_or k.versions site (replicate SITES 0)

-- a claim more: the journal was seen as far as its entry
abbrev pub claimed : Known → Claim → List ℕ → Asked → Known
claimed k claim version asked = record {
  seen = slice_set k.seen claim.site (claim.index + 1);
  versions = slice_set k.versions claim.site version;
  claims = k.claims ++ claim ∷ [];
  asked = k.asked ++ asked ∷ [];
}

-- a site was looked at
abbrev pub looked : Known → ℕ → ℕ → List ℕ → Known
looked k site found version = record {
  seen = slice_set k.seen site found;
  versions = slice_set k.versions site version;
  claims = k.claims;
  asked = k.asked;
}

-- a journal of this length and a board of this version are not behind what was seen
pub record IsUpToDate (k : Known) (site found : ℕ) (version : List ℕ) : Type 0 where
  pub journal : seen_of k site ≤ found
  pub board : is_below (version_of k site) version ≡ true

-- Behind is answered with what was seen and what was found, where the journal or the board found is behind
abbrev pub IsBehind : Known → ℕ → ℕ → List ℕ → CallFault → Type 0
IsBehind k site found version NoSite = ⊥
IsBehind k site found version (Behind seen length_found version_found) =
    (seen ≡ seen_of k site) × (length_found ≡ found) × (version_found ≡ version)
    × ((found < seen_of k site) ⊎ (is_below (version_of k site) version ≡ true → ⊥))
IsBehind k site found version NoMemory = ⊥

-- an identifier that was answered is covered by the version
abbrev pub Covers : List ℕ → Outcome → Type 0
Covers version (Outcome.Replied (Reply.Submitted job)) = covers version job ≡ true
Covers version (Outcome.Replied (Reply.Reserved id)) = covers version id ≡ true
Covers version _ = Unit {0}

-- an identifier that was answered is of one of the 16 sites
abbrev pub NamesSite : Outcome → Type 0
NamesSite (Outcome.Replied (Reply.Submitted job)) = job.site < SITES
NamesSite (Outcome.Replied (Reply.Reserved id)) = id.site < SITES
NamesSite _ = Unit {0}
