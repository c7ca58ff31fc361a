-- All sites of a federation and the packets between them, over whole runs.
use Rattle.std.specs.Prelude.{ℕ, zero, suc, ◌+◌, ◌&&◌, nat_lt, List, [], ◌∷◌, ◌++◌, length, Option, Some, None, slice_get, if◌then◌else◌}
use Rattle.fed_stamp.specs.Stamp.{StampValue}
use Rattle.fed_stamp.specs.Indexes.{put}
use Rattle.fed_lattice.specs.History.{History}
use Rattle.fed_model.specs.Body.{Body}
use Rattle.fed_model.specs.Answer.{Answer, Answer.Refuses, Answer.Replies, answer}
use Rattle.fed_model.specs.Packet.{Site, new_site, Packet, shipped, Receipt, Receipt.Takes, Receipt.Gap, take}
use Rattle.fed_model.specs.declared.events.Event.{Event}
use Rattle.fed_model.specs.declared.events.Event.TheVariants.{Do, Ship, Take}
use Rattle.fed_model.specs.declared.outcomes.Outcome.{Outcome}

-- what each site holds, by its number, and the packets made, in order
pub record World : Type 0 where
  pub site : ℕ → Site
  pub packets : List Packet

-- nothing is held, and no packet was made
abbrev pub start : World
start = record { site = λ i. new_site; packets = [] }

-- the world, with another value of one site
abbrev pub with_site : World → ℕ → Site → World
with_site w i s = record { site = put w.site i s; packets = w.packets }

-- the site, with one operation more
abbrev pub with_operation : Site → StampValue × Body → Site
with_operation s e = record { set = s.set ++ e ∷ []; heard = s.heard }

-- the packet with the number k: packets are counted from 1
abbrev pub packet : World → ℕ → Option Packet
packet w zero = None
packet w (suc k) = slice_get w.packets k

-- what is answered to an event, and the world after it
pub record Step : Type 0 where
  pub outcome : Outcome
  pub after : World

-- nothing changes
abbrev pub stays : World → Outcome → Step
stays w outcome = record { outcome = outcome; after = w }

-- what a site's answer to a command does
abbrev pub does : World → ℕ → Answer → Step
does w i (Refuses refusal) = stays w (Outcome.Refused refusal)
does w i (Replies reply None) = stays w (Outcome.Replied reply)
does w i (Replies reply (Some new)) =
    record { outcome = Outcome.Replied reply; after = with_site w i (with_operation (w.site i) new) }

-- a site makes a packet for a site
abbrev pub ships : World → ℕ → ℕ → Step
ships w i to = record {
  outcome = Outcome.Packet (length w.packets + 1);
  after = record { site = w.site; packets = w.packets ++ shipped i (w.site i) to ∷ [] };
}

-- what a site's receipt of a packet does
abbrev pub receives : World → ℕ → Receipt → Step
receives w i (Takes grew after) =
    record { outcome = Outcome.Taken (record { grew = grew }); after = with_site w i after }
receives w i (Gap lacks) = stays w (Outcome.Gap lacks)

abbrev pub takes : World → ℕ → Option Packet → Step
takes w i None = stays w Outcome.NoPacket
takes w i (Some p) = receives w i (take (w.site i) p)

-- one event in a federation of n sites
abbrev pub step : ℕ → World → Event → Step
step n w (Do site who command) =
    if nat_lt site n then does w site (answer (w.site site).set site who command) else stays w Outcome.NoSite
step n w (Ship site to) = if nat_lt site n && nat_lt to n then ships w site to else stays w Outcome.NoSite
step n w (Take site k) = if nat_lt site n then takes w site (packet w k) else stays w Outcome.NoSite

-- the world after a list of events
abbrev pub run_from : ℕ → World → List Event → World
run_from n w [] = w
run_from n w (event ∷ events) = run_from n (step n w event).after events

abbrev pub run : ℕ → List Event → World
run n events = run_from n start events

-- what is answered to them
abbrev pub outcomes_from : ℕ → World → List Event → List Outcome
outcomes_from n w [] = []
outcomes_from n w (event ∷ events) = (step n w event).outcome ∷ outcomes_from n (step n w event).after events

abbrev pub outcomes : ℕ → List Event → List Outcome
outcomes n events = outcomes_from n start events

-- the operations of the sites below n together
abbrev pub all_operations : World → ℕ → History Body
all_operations w zero = []
all_operations w (suc n) = all_operations w n ++ (w.site n).set
