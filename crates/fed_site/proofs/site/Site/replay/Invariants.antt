use Rattle.std.specs.Prelude.{map}
use Rattle.std.specs.Borrow.{Bor}
use Rattle.std.proofs.Common.{◌≡◌, ℕ, List, drop}
use Rattle.fed_replica.specs.State.{state_of}
use Rattle.fed_site.specs.Journal.{after_lines}
use Rattle.fed_site.specs.Rosters.{roster_after_lines}
use Rattle.fed_site.proofs.site.Site.replay.Given as goal

abbrev pub invariant-loop-line : goal.invariant-loop-line
invariant-loop-line l = record {
  roster : roster_after_lines l.self.roster (map (λ (line : Bor (List ℕ)). line.now) (drop l.line-index l.lines)) ≡ roster_after_lines l.fn.self.roster (map (λ (line : Bor (List ℕ)). line.now) l.fn.lines);
  rest : after_lines l.self.roster (state_of l.self.replica) (map (λ (line : Bor (List ℕ)). line.now) (drop l.line-index l.lines)) ≡ after_lines l.fn.self.roster (state_of l.fn.self.replica) (map (λ (line : Bor (List ℕ)). line.now) l.fn.lines);
}
