use Rattle.std.specs.Prelude.{Some}
use Rattle.std.proofs.Common.{◌≡◌, sym, ◌∙◌}
use Rattle.fed_threads.specs.Placing.{entries_of, entry_at}
use Rattle.fed_threads.proofs.Courses.{entry_found}
use Rattle.fed_threads.proofs.ExactAsked.{tells_asked}
use Rattle.fed_threads.proofs.closing.has_event.Goals as goal

pub returns-in-Some-get : goal.returns-in-Some-get
returns-in-Some-get c =
    let j = rw c.get.ensures.same at c.in-Some.ensures.lookup in
    let l = rw c.deref.ensures.value at c.in-Some-get.ensures.lookup in
    let found : entry_at (entries_of c.args.journals.now) c.args.claim.now.site c.args.claim.now.index ≡ Some c.in-Some-get.entry.now =
    entry_found c.args.journals.now c.args.claim.now.site c.args.claim.now.index c.in-Some.journal.now j.3.0 j.1 c.in-Some-get.entry.now l.3.0 l.1 in
    let told = tells_asked c.in-Some-get.entry.now.asked c.args.asked.now in
    rw found (λ same. told.0 (sym c.eq.ensures ∙ same), λ same. c.eq.ensures ∙ told.1 same)
