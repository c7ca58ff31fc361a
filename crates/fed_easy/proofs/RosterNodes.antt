-- The nodes of a site, as the code finds them.
use Rattle.std.specs.Prelude.{slice_get, option_map}
use Rattle.std.proofs.Common.{◌≡◌, ℕ, zero, suc, ◌<◌, List, [], ◌∷◌, length, Some, arith}
use Rattle.fed_stamp.specs.Roster.{nodes_at}

pub nodes_found : (roster : List (List ℕ × ℕ)) (site nodes : ℕ) → site < length roster → Some nodes ≡ option_map (λ (s : List ℕ × ℕ). s.1) (slice_get roster site) → nodes ≡ nodes_at roster site
nodes_found [] site nodes h e = absurd (omega arith)
nodes_found (s ∷ roster) zero nodes h e = cc
nodes_found (s ∷ roster) (suc site) nodes h e = nodes_found roster site nodes (omega arith) e
