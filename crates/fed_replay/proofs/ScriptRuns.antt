-- The world of a script is that of a run.
use Rattle.std.specs.Prelude.{if◌then◌else◌, option_map, codes}
use Rattle.std.specs.List.{list_any}
use Rattle.std.specs.Option.{option_and_then}
use Rattle.std.specs.Result.{result_ok}
use Rattle.std.specs.Str.{bytes_eq}
use Rattle.std.proofs.Common.{◌≡◌, ℕ, List, [], ◌∷◌, ◌++◌, Bool, true, false, length, Option, Some, None, refl, sym, ap, subst, ◌∙◌}
use Rattle.fed_stamp.specs.declared.rosters.RosterFault.{RosterFault}
use Rattle.fed_stamp.specs.Roster.{IsRoster, first_fault, ok_unless}
use Rattle.fed_stamp.proofs.RosterLemmas.{roster_from_no_fault}
use Rattle.fed_model.specs.declared.askers.Who.{Who}
use Rattle.fed_model.specs.declared.commands.Command.{Command}
use Rattle.fed_model.specs.declared.events.Event.{Event}
use Rattle.fed_model.specs.declared.events.Event.TheVariants.{Do, Ship, Take}
use Rattle.fed_model.specs.Run.{World, step}
use Rattle.fed_theory.proofs.Runs.{run-push}
use Rattle.fed_script.specs.Forms.{◌>>=◌}
use Rattle.fed_script.specs.Line.{Line, skips, begins, acts, lists, misuses, ships, takes, plans, compares, first_line, words_in}
use Rattle.fed_script.specs.Rosters.{is_reserved, roster_of, sites_in}
use Rattle.fed_replay.specs.Script.{Answered, IsRun, Script, State, after_commands, after_event, answered, does, later, line_in}

-- ---- what the line of the roster says is a roster
faultless : (sites roster : List (List ℕ × ℕ)) (f : Option RosterFault) → first_fault sites ≡ f → result_ok (ok_unless f sites) ≡ Some roster → IsRoster roster
faultless sites roster None e r = let same : sites ≡ roster = cc in subst IsRoster same (roster_from_no_fault sites e)
faultless sites roster (Some fault) e r = let h : None ≡ Some roster = r in cc

reserved : (sites roster : List (List ℕ × ℕ)) (b : Bool) → (if b then None else result_ok (ok_unless (first_fault sites) sites)) ≡ Some roster → IsRoster roster
reserved sites roster true e = cc
reserved sites roster false e = faultless sites roster (first_fault sites) refl e

named : (roster : List (List ℕ × ℕ)) (o : Option (List (List ℕ × ℕ)))
    → option_and_then (λ sites. if list_any (λ site. is_reserved site.0) sites then None else result_ok (ok_unless (first_fault sites) sites)) o ≡ Some roster → IsRoster roster
named roster None e = cc
named roster (Some sites) e = reserved sites roster (list_any (λ site. is_reserved site.0) sites) e

begun : (o : Option (List (List ℕ × ℕ))) (line : Line) → ((roster : List (List ℕ × ℕ)) → o ≡ Some roster → IsRoster roster) → option_map begins o ≡ Some line → IsRun (does None line).after
begun None line f e = cc
begun (Some roster) line f e =
    let same : begins roster ≡ line = cc in
    subst (λ (l : Line). IsRun (does None l).after) same (f roster refl, ([], refl))

first_word : (is_roster : Bool) (words : List (List ℕ)) (line : Line) → (if is_roster then option_map begins (roster_of words) else None) ≡ Some line → IsRun (does None line).after
first_word true words line e = begun (roster_of words) line (λ roster. named roster (sites_in words)) e
first_word false words line e = cc

first_words : (words : List (List ℕ)) (line : Line) → first_line words ≡ Some line → IsRun (does None line).after
first_words [] line e = let same : skips ≡ line = cc in subst (λ (l : Line). IsRun (does None l).after) same tt
first_words (first ∷ words) line e = first_word (bytes_eq first (codes "roster")) words line e

first_told : (o : Option (List (List ℕ))) (line : Line) → (o >>= first_line) ≡ Some line → IsRun (does None line).after
first_told None line e = cc
first_told (Some words) line e = first_words words line e

-- ---- lines behind it
event_run : (s : Script) (event : Event) → IsRun (Some s) → IsRun (Some (after_event s event).after)
event_run s event r = (
  r.0,
  (
    r.1.0 ++ event ∷ [],
    ap (λ (w : World). (step (length s.roster) w event).after) r.1.1 ∙ sym (run-push (length s.roster) r.1.0 event),
  ),
)

commands_run : (s : Script) (site : ℕ) (who : Who) (commands : List Command) → IsRun (Some s) → IsRun (Some (after_commands s site who commands).after)
commands_run s site who [] r = r
commands_run s site who (command ∷ commands) r =
    commands_run (after_event s (Do site who command)).after site who commands (event_run s (Do site who command) r)

later_run : (s : Script) (line : Line) → IsRun (Some s) → IsRun (Some (later s line).after)
later_run s skips r = r
later_run s (begins roster) r = r
later_run s (acts site who commands) r = commands_run s site who commands r
later_run s (lists site full jobs) r = r
later_run s (misuses site fault) r = r
later_run s (ships site to) r = event_run s (Ship site to) r
later_run s (takes site packet) r = event_run s (Take site packet) r
later_run s (plans site moment) r = r
later_run s (compares site other) r = r

does_run : (state : State) (bytes : List ℕ) (line : Line) → IsRun state → line_in state bytes ≡ Some line → IsRun (does state line).after
does_run None bytes line r e = first_told (words_in bytes) line e
does_run (Some s) bytes line r e = later_run s line r

one_answer : (state : State) (bytes : List ℕ) (o : Option Line) (answer : Answered State) → IsRun state → line_in state bytes ≡ o → option_map (does state) o ≡ Some answer → IsRun answer.after
one_answer state bytes None answer r l e = cc
one_answer state bytes (Some line) answer r l e =
    let same : does state line ≡ answer = cc in
    subst (λ (a : Answered State). IsRun a.after) same (does_run state bytes line r l)

pub answer_run : (state : State) (bytes : List ℕ) (answer : Answered State) → IsRun state → answered state bytes ≡ Some answer → IsRun answer.after
answer_run state bytes answer r e = one_answer state bytes (line_in state bytes) answer r refl e
