use Rattle.std.proofs.Common.{sym, subst}
use Rattle.std.proofs.lemmas.Result.{on_ok_weaker}
use Rattle.fed_lattice.specs.Sets.{Has}
use Rattle.fed_board.proofs.ChangeLists.{all_listed}
use Rattle.fed_board.proofs.noting.note_records.Goals as goal

pub returns-clause-listed : goal.returns-clause-listed
returns-clause-listed c = on_ok_weaker c.note_all.result
    (λ listed. all_listed c.note_all.new.changes c.in_ok-rises.rises.items c.sort_by_key.new.self.items c.args.jobs.now c.args.records.now c.in_ok-sort_by_key.ensures.permutation
    (λ x h small. listed x (subst (λ xs. Has xs x) (sym c.deref.ensures.value) h) small) c.in_ok-rises.ensures)
    c.note_all.ensures.listed
