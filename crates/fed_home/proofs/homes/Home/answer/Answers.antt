use Rattle.std.specs.Borrow.{Bor}
use Rattle.std.specs.List.{All}
use Rattle.std.proofs.Common.{◌≡◌, ◌∙◌, sym, ap, subst, List, ℕ, map}
use Rattle.fed_replica.specs.State.{state_of}
use Rattle.fed_site.specs.Journal.{kept_lines}
use Rattle.fed_journal.specs.Journal.{device_of, entries_in}
use Rattle.fed_journal.specs.Lines.{IsLine}
use Rattle.std.proofs.lemmas.Result.{err_from_is_err_and}
use Rattle.fed_home.proofs.FaultCases.{nothing_kept}
use Rattle.fed_home.proofs.Lines.{kept_are_lines}
use Rattle.fed_home.proofs.Replays.{open_again}
use Rattle.fed_home.proofs.homes.Home.answer.Goals as goal

pub append-requires-clause-lines : goal.append-requires-clause-lines
append-requires-clause-lines g c =
    let lines = map (λ (line : Bor (List ℕ)). line.now) c.args.lines.now in
    let site = c.args.self.now.site in
    let group : map (λ (text : Bor (List ℕ)). text.now) c.deref.result.now ≡ kept_lines site.roster (state_of site.replica) lines =
    ap (map (λ (text : Bor (List ℕ)). text.now)) c.deref.ensures.value ∙ c.in_ok-answered.ensures.kept in
    subst (λ (ls : List (List ℕ)). All IsLine ls) (sym group) (kept_are_lines site.roster (state_of site.replica) lines)

pub returns-clause-open : goal.returns-clause-open
returns-clause-open g c =
    let lines = map (λ (line : Bor (List ℕ)). line.now) c.args.lines.now in
    let site = c.args.self.now.site in
    let group : map (λ (text : Bor (List ℕ)). text.now) c.deref.result.now ≡ kept_lines site.roster (state_of site.replica) lines =
    ap (map (λ (text : Bor (List ℕ)). text.now)) c.deref.ensures.value ∙ c.in_ok-answered.ensures.kept in
    record {
      settled = c.in_ok-append.ensures.acknowledged;
      replayed = open_again (entries_in (g.D.Device.seen (device_of c.args.self.now.journal))) (map (λ (text : Bor (List ℕ)). text.now) c.deref.result.now) lines
          (g.D.Device.seen (device_of c.append.new.self)) site c.answer_lines.new.site c.in_ok-append.ensures.appended group c.requires.replayed c.in_ok-answered.ensures.roster c.in_ok-answered.ensures.after;
    }

pub returns-in_err-append-clause-nothing : goal.returns-in_err-append-clause-nothing
returns-in_err-append-clause-nothing g c =
    let p = err_from_is_err_and c.from_residual-in_err-append.result c.from_residual-in_err-append.ensures.1 in
    rw (p.1, p.2) (nothing_kept g.D.Device.moment g.D.Device.left_since g.D.Device.seen g.D.Device.may_leave c.args.self.now.journal c.requires.settled (device_of c.append.new.self) c.in_err-append.field-0.0 c.in_err-append.ensures.nothing)
