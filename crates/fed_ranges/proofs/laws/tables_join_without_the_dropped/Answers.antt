use Rattle.fed_ranges.proofs.DropLaws.{lookup-dropped, dropping_assoc, dropping_comm, dropping_itself}
use Rattle.fed_ranges.proofs.laws.tables_join_without_the_dropped.Goals as goal

pub returns-clause-assoc : goal.returns-clause-assoc
returns-clause-assoc g c a b d x y z u v w p q r =
    dropping_assoc g.K.Ord.cmp g.met.K.Ord.total g.met.K.Exact.exact g.V.Causal.bottom g.V.Causal.joined g.V.Causal.well_formed g.met.V.Causal.well_formed_bottom g.met.V.Causal.joined_bottoms g.met.V.Causal.joined_assoc a b d x y z u v w p q r

pub returns-clause-comm : goal.returns-clause-comm
returns-clause-comm g c a b x y v w p q =
    dropping_comm g.K.Ord.cmp g.met.K.Ord.total g.met.K.Exact.exact g.V.Causal.bottom g.V.Causal.joined g.V.Causal.well_formed g.met.V.Causal.well_formed_bottom g.met.V.Causal.joined_comm a b x y v w p q

pub returns-clause-itself : goal.returns-clause-itself
returns-clause-itself g c a x v p none =
    dropping_itself g.K.Ord.cmp g.met.K.Ord.total g.met.K.Exact.exact g.V.Causal.bottom g.V.Causal.joined g.V.Causal.well_formed g.met.V.Causal.well_formed_bottom g.met.V.Causal.joined_itself a x v p none

pub returns-clause-gone : goal.returns-clause-gone
returns-clause-gone g c a es q = lookup-dropped g.K.Ord.cmp g.met.K.Ord.total g.met.K.Exact.exact a es q
