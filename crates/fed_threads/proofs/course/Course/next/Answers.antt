use Rattle.std.proofs.Common.{◌≡◌, ◌<◌, length, ap, sym, ◌∙◌, arith}
use Rattle.fed_threads.specs.Course.{CourseValue}
use Rattle.fed_threads.proofs.Numbers.{index_is, rows_counted}
use Rattle.fed_threads.proofs.course.Course.next.Goals as goal

pub returns : goal.returns
returns c =
    let numbers = c.self.inside.numbers.items in
    let sites : c.self.inside.world.sites ≡ c.args.self.now.sites = ap (λ (v : CourseValue). v.sites) c.self.view_is in
    let inside : c.args.site < length numbers = omega (arith, sites, c.self.invariant.count, rows_counted numbers, c.requires) in
    let counted : c.len.result ≡ length c.index.result.now.items = c.len.ensures ∙ c.index.result.now.ok.0 in
    rw (← c.self.view_is) (counted ∙ ap (λ v. length v.items) c.index.ensures ∙ sym (index_is numbers c.args.site c.index.result.now c.index.result.now inside))
