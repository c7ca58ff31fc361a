-- What the code of a script's federation keeps is what the script does.
use Rattle.std.specs.Prelude.{IfOk, IfSome, OnOk, MatchResult, option_map}
use Rattle.std.proofs.Common.{◌≡◌, ℕ, ◌+◌, ◌<◌, Bool, List, [], ◌∷◌, ◌++◌, length, get_or, take, Option, Some, None, Result, Ok, Err, sym, ap, ap₂, subst, ◌∙◌, append_assoc, append-nil}
use Rattle.std.proofs.lemmas.List.{take_more}
use Rattle.fed_stamp.specs.Stamp.{StampValue}
use Rattle.fed_model.specs.View.{View}
use Rattle.fed_model.specs.declared.askers.Who.{Who}
use Rattle.fed_model.specs.declared.commands.Command.{Command}
use Rattle.fed_model.specs.declared.events.Event.{Event}
use Rattle.fed_model.specs.declared.events.Event.TheVariants.{Do}
use Rattle.fed_model.specs.declared.outcomes.Outcome.{Outcome}
use Rattle.fed_world.specs.Kept.{WorldValue}
use Rattle.fed_model.specs.Run.{World, run, step}
use Rattle.fed_theory.proofs.Runs.{run-push}
use Rattle.fed_replay.specs.ScriptWorld.{reads}
use Rattle.fed_qstat.specs.Listed.{listed}
use Rattle.fed_qstat.specs.Outcome.{answer_line, text_of_outcome}
use Rattle.fed_script.specs.Line.{Line}
use Rattle.fed_script.specs.LineSites.{HasSites}
use Rattle.fed_replay.specs.Script.{Answered, Script, State, after_commands, after_event, does, followed, later, says}

pub listed_at : (text : List ℕ) (full : Bool) (r s : List (List ℕ × ℕ)) (v w : View) (jobs : List StampValue) → text ≡ listed full r v jobs → r ≡ s → v ≡ w → text ≡ listed full s w jobs
listed_at text full r s v w jobs e f g = e ∙ ap (λ l. listed full l v jobs) f ∙ ap (λ u. listed full s u jobs) g

-- the script with other events
abbrev script : List (List ℕ × ℕ) → List Event → Script
script roster events = reads (record { roster = roster; events = events })

event_said : (roster : List (List ℕ × ℕ)) (events : List Event) (event : Event) (outcome : Outcome) (text : List ℕ) → outcome ≡ (step (length roster) (run (length roster) events) event).outcome → text ≡ answer_line (text_of_outcome roster outcome)
    → after_event (script roster events) event ≡ says (script roster (events ++ event ∷ [])) text
event_said roster events event outcome text e f =
    ap₂ (λ (w : World) t. let s : Script = record { roster = roster; world = w } in says s t) (sym (run-push (length roster) events event)) (sym (f ∙ ap (λ o. answer_line (text_of_outcome roster o)) e))

pub happened : {T E F : Type 0} (answer : Result T E) (outcome : Result Outcome F) (bytes : T → List ℕ) (roster : List (List ℕ × ℕ)) (old new : WorldValue) (event : Event) → old.sites ≡ length roster
    → IfOk answer (λ t. MatchResult outcome (λ o. bytes t ≡ answer_line (text_of_outcome roster o)) (λ _. ⊥)) → IfOk outcome (λ o. o ≡ (step old.sites (run old.sites old.events) event).outcome)
    → OnOk outcome (new ≡ record { sites = old.sites; events = old.events ++ event ∷ [] }) → IfOk answer (λ t. after_event (script roster old.events) event ≡ says (script roster new.events) (bytes t))
happened (Err x) outcome bytes roster old new event n a o w = tt
happened (Ok t) (Err x) bytes roster old new event n a o w = absurd a
happened (Ok t) (Ok outcome) bytes roster old new event n a o w =
    let same : outcome ≡ (step (length roster) (run (length roster) old.events) event).outcome = o ∙ ap (λ k. (step k (run k old.events) event).outcome) n in
    event_said roster old.events event outcome (bytes t) same a ∙ ap (λ (v : WorldValue). says (script roster v.events) (bytes t)) (sym w)

-- what a line does, as it is done behind the line of the roster
pub done_line : (s next : Script) (line : Line) (text : List ℕ) → later s line ≡ says next text → does (Some s) line ≡ says (Some next) text
done_line s next line text e = ap (λ (a : Answered Script). let b : Answered State = says (Some a.after) a.text in b) e

-- ---- commands, one after another
abbrev behind : List ℕ → Answered Script → Answered Script
behind text next = says next.after (text ++ next.text)

behind_twice : (first second : List ℕ) (next : Answered Script) → behind first (behind second next) ≡ behind (first ++ second) next
behind_twice first second next = ap (says next.after) (sym (append_assoc first second next.text))

-- one command more behind those that are done
commands-push : (s : Script) (site : ℕ) (who : Who) (commands : List Command) (command : Command)
    → after_commands s site who (commands ++ command ∷ []) ≡ followed (λ next. after_event next (Do site who command)) (after_commands s site who commands)
commands-push s site who [] command =
    ap (λ t. says (after_event s (Do site who command)).after t) (append-nil (after_event s (Do site who command)).text)
commands-push s site who (first ∷ commands) command =
    let here = after_event s (Do site who first) in
    ap (behind here.text) (commands-push here.after site who commands command)
    ∙ behind_twice here.text (after_commands here.after site who commands).text (after_event (after_commands here.after site who commands).after (Do site who command))

module _ (s : Script) (site : ℕ) (who : Who) (all : List Command) where
  pub one_done : (i : ℕ) (command : Command) (done next : Script) (text answer : List ℕ) → i < length all → command ≡ get_or all i command → after_commands s site who (take i all) ≡ says done text
      → after_event done (Do site who command) ≡ says next answer → after_commands s site who (take (i + 1) all) ≡ says next (text ++ answer)
  one_done i command done next text answer within at before here =
      let first_ones : take (i + 1) all ≡ take i all ++ command ∷ [] = take_more all i command within ∙ ap (λ c. take i all ++ c ∷ []) (sym at) in
      ap (after_commands s site who) first_ones
      ∙ commands-push s site who (take i all) command
      ∙ ap (followed (λ n. after_event n (Do site who command))) before
      ∙ ap (behind text) here

-- the sites of a line that was read
pub named_sites : {L : Type 0} (said : L → Line) (read : Option L) (found : Option Line) (r s : List (List ℕ × ℕ)) → option_map said read ≡ found → r ≡ s → ((line : Line) → found ≡ Some line → HasSites (length r) line)
    → IfSome read (λ l. HasSites (length s) (said l))
named_sites said None found r s e same h = tt
named_sites said (Some l) found r s e same h = subst (λ q. HasSites (length q) (said l)) same (h (said l) (sym e))
