-- Lines that keep nothing leave the home of a file as it stands.
use Rattle.std.specs.Prelude.{◌==◌, map}
use Rattle.std.specs.Borrow.{Bor}
use Rattle.std.proofs.Common.{◌≡◌, ℕ, true, false, List, [], ◌∷◌, ◌++◌, length, Ok, refl, ap, sym, subst, ◌∙◌, append-nil, arith}
use Rattle.std.proofs.lemmas.Bool.{eqb-true, true≢false}
use Rattle.fed_replica.specs.State.{State, state_of}
use Rattle.fed_site.specs.Journal.{after_lines, kept_lines}
use Rattle.fed_site.specs.Rosters.{roster_after_lines}
use Rattle.fed_site.specs.Site.{SiteValue}
use Rattle.fed_site.proofs.Replays.{replayed_roster}
use Rattle.fed_journal.specs.Journal.{entries_in}
use Rattle.fed_journal.specs.Lines.{recovered}
use Rattle.fed_journal.proofs.Crash.{recovered_stands}
use Rattle.fed_home.specs.declared.homes.Home.{Home}
use Rattle.fed_home.specs.Home.{IsReplayed, home_device}
use Rattle.fed_home.proofs.Replays.{open_again}

pub none_kept : (kept : List (Bor (List ℕ))) (n : ℕ) → n ≡ length kept → (n == 0) ≡ true → map (λ (line : Bor (List ℕ)). line.now) kept ≡ []
none_kept [] n e none = refl
none_kept (line ∷ kept) n e none = absurd (omega (arith, e, eqb-true n 0 none))

pub some_kept : (kept : List (Bor (List ℕ))) (n : ℕ) → n ≡ length kept → (n == 0) ≡ false → map (λ (line : Bor (List ℕ)). line.now) kept ≡ [] → ⊥
some_kept [] n e some is = true≢false (subst (λ (m : ℕ). (m == 0) ≡ false) e some)
some_kept (line ∷ kept) n e some is = cons_nil is
  where
    cons_nil : {x : List ℕ} {xs : List (List ℕ)} → x ∷ xs ≡ [] → ⊥
    cons_nil is = cc

-- they tell no other roster
pub none_told : (roster : List (List ℕ × ℕ)) (s : State) (lines : List (List ℕ)) → kept_lines roster s lines ≡ [] → roster_after_lines roster lines ≡ roster
none_told roster s lines none = sym (replayed_roster roster s lines) ∙ ap (roster_after_lines roster) none

module _ {D : Type 0} (seen : D → List ℕ) (may_leave : D → List ℕ → Type 0) (home : Home D) (lines : List (List ℕ)) (new : SiteValue) where
  pub still_replayed : (tail : List ℕ) → IsReplayed seen may_leave home tail → kept_lines home.site.roster (state_of home.site.replica) lines ≡ [] → new.roster ≡ roster_after_lines home.site.roster lines
      → state_of new.replica ≡ after_lines home.site.roster (state_of home.site.replica) lines → IsReplayed seen may_leave (record home { site = new }) tail
  still_replayed tail was none roster after =
      let file = seen (home_device home) in
      let entries = entries_in file in
      let known : recovered file ≡ Ok (entries ++ []) = recovered_stands file entries tail was.read.has.lines was.read.has.stands ∙ ap Ok (sym (append-nil entries)) in
      record { read = was.read; replayed = open_again entries [] lines file home.site new known (sym none) was.replayed roster after }
