-- What a site holds, and the packets between sites. Here a packet gives the sender's whole set.
use Rattle.std.specs.Prelude.{ℕ, Bool, not, nat_lt, replicate, List, [], ◌++◌, Option, Some, None}
use Rattle.fed_stamp.specs.declared.sites.TheConstants.{SITES}
use Rattle.fed_stamp.specs.Indexes.{least_index, put}
use Rattle.fed_stamp.specs.Version.{counter_of, is_below, joined}
use Rattle.fed_lattice.specs.History.{History}
use Rattle.fed_lattice.specs.VersionOf.{version_of}
use Rattle.fed_model.specs.Body.{Body}

-- a set of operations, and of each site the version that was heard from it
pub record Site : Type 0 where
  pub set : History Body
  pub heard : ℕ → List ℕ

-- a site that holds nothing and has heard nothing
abbrev pub new_site : Site
new_site = record { set = []; heard = λ from. replicate SITES 0 }

-- A packet is for a site that has what is needed, and brings it to what was reached.
pub record Packet : Type 0 where
  pub sender : ℕ
  pub need : List ℕ
  pub reached : List ℕ
  pub gives : History Body

-- what a site ships to another: the need is what it has heard from there
abbrev pub shipped : ℕ → Site → ℕ → Packet
shipped here s to = record { sender = here; need = s.heard to; reached = version_of s.set; gives = s.set }

-- the least of the 16 sites of which more is needed than the version has
abbrev pub missing : List ℕ → List ℕ → Option ℕ
missing need version = least_index (λ site. nat_lt (counter_of version site) (counter_of need site)) SITES

-- the packet reaches beyond what the site has
abbrev pub grows : Site → Packet → Bool
grows s p = not (is_below p.reached (version_of s.set))

-- what a site holds once it has taken the packet
abbrev pub taken : Site → Packet → Site
taken s p = record {
  set = s.set ++ p.gives;
  heard = put s.heard p.sender (joined (s.heard p.sender) p.reached);
}

-- a packet is taken, or the least site is told of which the taker lacks something
pub data Receipt : Type 0 where
  Takes : (grew : Bool) (after : Site) → Receipt
  Gap : (lacks : ℕ) → Receipt

abbrev pub takes_unless : Option ℕ → Site → Packet → Receipt
takes_unless (Some lacks) s p = Gap lacks
takes_unless None s p = Takes (grows s p) (taken s p)

abbrev pub take : Site → Packet → Receipt
take s p = takes_unless (missing p.need (version_of s.set)) s p
