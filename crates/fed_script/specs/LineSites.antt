-- The sites that a line asks, ships to and compares. Sites inside a command are not looked at.
use Rattle.std.specs.Prelude.{ℕ, ◌<◌}
use Rattle.fed_script.specs.Line.{Line, skips, begins, acts, lists, misuses, ships, takes, plans, compares}

-- these sites are of a federation of n sites
abbrev pub HasSites : ℕ → Line → Type 0
HasSites n skips = Unit {0}
HasSites n (begins roster) = Unit {0}
HasSites n (acts site who commands) = site < n
HasSites n (lists site full jobs) = site < n
HasSites n (misuses site fault) = site < n
HasSites n (ships site to) = (site < n) × (to < n)
HasSites n (takes site packet) = site < n
HasSites n (plans site moment) = site < n
HasSites n (compares site other) = (site < n) × (other < n)
