-- One site by itself, as the code keeps it.
use Rattle.std.specs.Prelude.{ℕ, List}
use Rattle.fed_replica.specs.Replica.{ReplicaValue}

-- the roster, and the site's replica
pub record SiteValue : Type 0 where
  pub roster : List (List ℕ × ℕ)
  pub replica : ReplicaValue
