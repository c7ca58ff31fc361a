-- What a site holds as text: so a journal can begin from that, and not from all that has led to it.
use Rattle.std.specs.Prelude.{◌≡◌, ℕ, zero, suc, ◌≤◌, Bool, true, not, ◌&&◌, ◌==◌, ◌++◌, replicate, length, codes, List, [], ◌∷◌, Option, Some, None, Result, Ok, Err, if◌then◌else◌}
use Rattle.std.specs.Option.{option_map_or}
use Rattle.serde_json.specs.Written.{compact_text}
use Rattle.fed_stamp.specs.declared.sites.TheConstants.{SITES}
use Rattle.fed_stamp.specs.Version.{is_below}
use Rattle.fed_board.specs.Board.{board_reads}
use Rattle.fed_job_json.specs.declared.formats.Format.TheVariants.{Two}
use Rattle.fed_wire.specs.declared.faults.WireFault.{WireFault}
use Rattle.fed_wire.specs.Packet.{packet_value}
use Rattle.fed_delta.specs.Packet.{PacketValue}
use Rattle.fed_wire.specs.Reading.{packet_in}
use Rattle.fed_replica.specs.State.{State, hearing}
use Rattle.fed_site.specs.Packets.{is_foreign}

-- ---- all but what was heard
-- a site that knows what the packet tells, and has heard nothing
abbrev pub knowing : ℕ → PacketValue → State
knowing here p = record { site = here; view = board_reads p.delta.changes; heard = λ from. replicate SITES 0 }

-- what a site holds, as if it had heard nothing
abbrev pub unheard : State → State
unheard s = record { site = s.site; view = s.view; heard = λ from. replicate SITES 0 }

-- the packet is the site's own, needs nothing, and tells of no site that the roster hasn't
abbrev pub is_whole : List (List ℕ × ℕ) → ℕ → PacketValue → Bool
is_whole roster here p = p.sender == here && (is_below p.delta.need (replicate SITES 0) && not (is_foreign roster p))

abbrev pub known_of : List (List ℕ × ℕ) → ℕ → PacketValue → Option State
known_of roster here p = if is_whole roster here p then Some (knowing here p) else None

abbrev pub known_by : List (List ℕ × ℕ) → ℕ → Result PacketValue WireFault → Option State
known_by roster here (Ok p) = known_of roster here p
known_by roster here (Err fault) = None

-- what a site of the roster knows by a text, if it is such a packet's
abbrev pub known_in : List (List ℕ × ℕ) → ℕ → List ℕ → Option State
known_in roster here text = known_by roster here (packet_in text)

-- ---- what was heard
-- the line that takes the packet which tells nothing but what was heard, where something was
abbrev pub heard_line : State → ℕ → Option (List ℕ)
heard_line s from = if is_below (s.heard from) (replicate SITES 0) then None
    else Some (codes "take " ++ compact_text (packet_value Two (hearing s from)))

-- the lines of what was heard of so many sites, from this one on
abbrev pub heard_lines : State → ℕ → ℕ → List (List ℕ)
heard_lines s from zero = []
heard_lines s from (suc n) = option_map_or (λ line. line ∷ heard_lines s (suc from) n) (heard_line s from) (heard_lines s (suc from) n)

-- what was heard of each site is a part of what the site knows, and of a site that isn't of the roster nothing was heard
pub record IsHeardOf (roster : List (List ℕ × ℕ)) (s : State) : Type 0 where
  pub counters : (from : ℕ) → length (s.heard from) ≡ SITES
  pub known : (from : ℕ) → is_below (s.heard from) s.view.version ≡ true
  pub others : (from : ℕ) → length roster ≤ from → s.heard from ≡ replicate SITES 0
