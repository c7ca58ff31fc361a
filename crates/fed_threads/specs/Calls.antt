-- What a call of a federation does to the site whose lock it holds, and to the seat.
use Rattle.std.specs.Prelude.{◌≡◌, ℕ, true, length, Option}
use Rattle.fed_stamp.specs.Version.{is_below}
use Rattle.fed_model.specs.View.{View}
use Rattle.fed_delta.specs.Packet.{PacketValue}
use Rattle.fed_model.specs.declared.outcomes.Outcome.{Outcome}
use Rattle.fed_threads.specs.declared.fault.CallFault.{CallFault}
use Rattle.fed_threads.specs.declared.fault.CallFault.TheVariants.{NoSite, Behind, NoMemory}
use Rattle.fed_threads.specs.declared.federation.Next.{Next}
use Rattle.fed_threads.specs.declared.journal.Asked.{Asked}
use Rattle.fed_threads.specs.declared.journal.Asked.TheVariants.{Take}
use Rattle.fed_threads.specs.Replay.{Kept, replay, Appends}
use Rattle.fed_threads.specs.Seat.{Known, IsBehind, IsUpToDate, Covers, claimed, looked, version_of}

-- a call at a site of the roster answers no NoSite, and Behind only where what the lock keeps is behind what the seat has
-- seen; want of memory only where it is not
abbrev pub IsFaultOf : Kept → Known → ℕ → CallFault → Type 0
IsFaultOf kept k site NoSite = ⊥
IsFaultOf kept k site (Behind seen found version) =
    IsBehind k site (length kept.entries) (replay kept).view.version (Behind seen found version)
IsFaultOf kept k site NoMemory = IsUpToDate k site (length kept.entries) (replay kept).view.version

-- a fault of a call, for what some lock kept
pub record OnlyBehind (k : Known) (site : ℕ) (fault : CallFault) : Type 0 where
  pub kept : Kept
  pub fault_is : IsFaultOf kept k site fault

-- the entry is added to the journal, which was not behind what the seat has seen, and the seat claims it with the answer:
-- it has then seen the journal as far as the entry, and the version of the board that the entry leaves, which is at least
-- the one seen before and covers an identifier that is answered
pub record Steps (old new : Kept) (before after : Known) (site : ℕ) (asked : Asked) (packet : Option PacketValue)
    (outcome : Outcome) : Type 0 where
  pub entry : Appends old new asked packet outcome
  pub fresh : IsUpToDate before site (length old.entries) (replay old).view.version
  pub later : is_below (version_of before site) (replay new).view.version ≡ true
  pub answered : Covers (replay new).view.version outcome
  pub seat : after ≡ claimed before (record { site = site; index = length old.entries; outcome = outcome })
      (replay new).view.version asked

-- just one claim was added: that of an entry which some journal got
pub record AddsClaim (before after : Known) (site : ℕ) (asked : Asked) (outcome : Outcome) : Type 0 where
  pub old : Kept
  pub new : Kept
  pub packet : Option PacketValue
  pub steps : Steps old new before after site asked packet outcome

-- the board reads as the replay of the journal, which is at least as long as the seat has seen, and its version is at
-- least the one that the seat has seen; the seat has then seen both
pub record LooksAt (kept : Kept) (before after : Known) (site : ℕ) (board : View) : Type 0 where
  pub fresh : IsUpToDate before site (length kept.entries) (replay kept).view.version
  pub board_is : board ≡ (replay kept).view
  pub seat : after ≡ looked before site (length kept.entries) (replay kept).view.version

-- so of some journal
pub record Looks (before after : Known) (site : ℕ) (board : View) : Type 0 where
  pub kept : Kept
  pub looks : LooksAt kept before after site board

-- what a take is answered, as an outcome
abbrev pub Took : Known → Known → ℕ → Outcome → Type 0
Took before after site outcome = (sender : ℕ) × (place : ℕ) × AddsClaim before after site (Take site sender place) outcome

-- a parcel was met, and the seat claims what came of it; or an end was met, and the seat is as before
abbrev pub MeetsNext : Known → Known → ℕ → Next → Type 0
MeetsNext before after site (Next.Taken taken) = Took before after site (Outcome.Taken taken)
MeetsNext before after site (Next.Gap lacks) = Took before after site (Outcome.Gap lacks)
MeetsNext before after site Next.Ended = after ≡ before
