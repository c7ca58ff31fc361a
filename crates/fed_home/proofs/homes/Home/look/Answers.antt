use Rattle.std.specs.Borrow.{Bor}
use Rattle.std.proofs.Common.{◌≡◌, ◌∙◌, sym, List, ℕ, [], map, length, vec_len, rules}
use Rattle.fed_replica.specs.State.{state_of}
use Rattle.fed_site.specs.Journal.{kept_lines}
use Rattle.fed_home.proofs.Looking.{none_kept, none_told, some_kept, still_replayed}
use Rattle.fed_home.proofs.homes.Home.look.Goals as goal

pub returns-then-is_empty-clause-roster : goal.returns-then-is_empty-clause-roster
returns-then-is_empty-clause-roster g c =
    let lines = map (λ (line : Bor (List ℕ)). line.now) c.args.lines.now in
    let site = c.args.self.now.site in
    let count : vec_len c.in_ok-answered.answered.kept ≡ length c.in_ok-answered.answered.kept.items = search rules in
    let none : kept_lines site.roster (state_of site.replica) lines ≡ [] =
    sym c.in_ok-answered.ensures.kept ∙ none_kept c.in_ok-answered.answered.kept.items _ count (sym c.if-is_empty.ensures) in
    c.in_ok-answered.ensures.roster ∙ none_told site.roster (state_of site.replica) lines none

pub returns-then-is_empty-clause-replayed : goal.returns-then-is_empty-clause-replayed
returns-then-is_empty-clause-replayed g c = λ tail was.
    let lines = map (λ (line : Bor (List ℕ)). line.now) c.args.lines.now in
    let site = c.args.self.now.site in
    let count : vec_len c.in_ok-answered.answered.kept ≡ length c.in_ok-answered.answered.kept.items = search rules in
    let none : kept_lines site.roster (state_of site.replica) lines ≡ [] =
    sym c.in_ok-answered.ensures.kept ∙ none_kept c.in_ok-answered.answered.kept.items _ count (sym c.if-is_empty.ensures) in
    still_replayed g.D.Device.seen g.D.Device.may_leave c.args.self.now lines c.answer_lines.new.site tail was none c.in_ok-answered.ensures.roster c.in_ok-answered.ensures.after

pub returns-else-is_empty-clause-keeps : goal.returns-else-is_empty-clause-keeps
returns-else-is_empty-clause-keeps g c = λ none.
    let count : vec_len c.in_ok-answered.answered.kept ≡ length c.in_ok-answered.answered.kept.items = search rules in
    some_kept c.in_ok-answered.answered.kept.items _ count (sym c.if-is_empty.ensures) (c.in_ok-answered.ensures.kept ∙ none)
