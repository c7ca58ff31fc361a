use Rattle.std.proofs.Common.{◌∙◌, ◌++◌, ◌∷◌, [], ap, subst}
use Rattle.fed_journal.specs.Files.{file_may_leave, file_seen}
use Rattle.nettlebeam.specs.Openings.{AreLeft}
use Rattle.nettlebeam.proofs.Noted.{left_before, left_last}
use Rattle.nettlebeam.proofs.places.DirectoryPlaceFileDevice.open_again.Goals as goal

pub returns-in-Ok-clause-found : goal.returns-in-Ok-clause-found
returns-in-Ok-clause-found g c =
    λ left. left_last file_seen file_may_leave c.args.self.now.openings.items c.and-left.result c.args.home c.in-Ok.again (c.and-left.ensures ∙ ap (λ olds. olds ++ (c.args.home, tt) ∷ []) c.new.ensures)
    (subst (AreLeft file_seen file_may_leave) c.and-self.ensures left)

pub returns-in-Ok-clause-before : goal.returns-in-Ok-clause-before
returns-in-Ok-clause-before g c = λ left. left_before file_seen file_may_leave c.args.self.now.openings.items c.and-left.result c.in-Ok.again (subst (AreLeft file_seen file_may_leave) c.and-self.ensures left)
