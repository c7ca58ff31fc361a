-- What commands do in a run is what the site does.
use Rattle.std.specs.Prelude.{map, Some, None}
use Rattle.std.proofs.Common.{◌≡◌, ◌≢◌, ◌≤◌, ◌<◌, ◌+◌, ℕ, List, [], ◌∷◌, ◌++◌, All, refl, sym, subst, ap, ◌∙◌}
use Rattle.std.proofs.lemmas.List.Elements.{All-head, All-tail}
use Rattle.fed_lattice.specs.VersionOf.{version_of}
use Rattle.fed_model.specs.declared.askers.Who.{Who}
use Rattle.fed_model.specs.declared.commands.Command.{Command}
use Rattle.fed_theory.proofs.ViewLaws.{view_push}
use Rattle.fed_model.specs.Answer.{Answer, Answer.Refuses, Answer.Replies, answer}
use Rattle.fed_model.specs.Ranges.{IsRanged}
use Rattle.fed_theory.proofs.Allowed.{answer_allowed}
use Rattle.fed_theory.proofs.NextStamps.{next_uncovered}
use Rattle.fed_model.specs.declared.events.Event.TheVariants.{Do}
use Rattle.fed_model.specs.declared.outcomes.Outcome.{Outcome}
use Rattle.fed_model.specs.Run.{World, Step, does, step, run_from, outcomes_from, with_operation}
use Rattle.fed_theory.proofs.RunSteps.{do_here, does_others}
use Rattle.fed_theory.proofs.Runs.{put_same}
use Rattle.fed_qstat.specs.Outcome.{answer_line, text_of_outcome}
use Rattle.fed_site.specs.Says.{Done, after_command, after_commands, does as does_at}
use Rattle.fed_turns.specs.Run.{outcome_lines, state_at}
use Rattle.fed_turns.proofs.Reached.{Reached, lawful, step_reached}

-- a site did this between two worlds, by events with these outcomes
pub record IsActed (roster : List (List ℕ × ℕ)) (i : ℕ) (w v : World) (outcomes : List Outcome) (done : Done) : Type 0 where
  pub after : done.after ≡ state_at i (v.site i)
  pub others : (j : ℕ) → j ≢ i → v.site j ≡ w.site j
  pub packets : v.packets ≡ w.packets
  pub text : done.text ≡ outcome_lines roster outcomes

-- it did this by one step
pub record IsStepped (roster : List (List ℕ × ℕ)) (i : ℕ) (w : World) (s : Step) (done : Done) : Type 0 where
  pub after : done.after ≡ state_at i (s.after.site i)
  pub others : (j : ℕ) → j ≢ i → s.after.site j ≡ w.site j
  pub packets : s.after.packets ≡ w.packets
  pub text : done.text ≡ answer_line (text_of_outcome roster s.outcome)

module _ (n : ℕ) (few : n ≤ 16) (roster : List (List ℕ × ℕ)) (i : ℕ) (small : i < n) (who : Who) where
  does_stepped : (w : World) → Reached n w → (index : ℕ) (command : Command) (a : Answer) → answer (w.site i).set i who command ≡ a → IsStepped roster i w (does w i a) (does_at roster (state_at i (w.site i)) who index command a)
  does_stepped w r index command (Refuses refusal) is = record { after = refl; others = λ j apart. refl; packets = refl; text = refl }
  does_stepped w r index command (Replies reply None) is = record { after = refl; others = λ j apart. refl; packets = refl; text = refl }
  does_stepped w r index command (Replies reply (Some new)) is =
      let legal = lawful n few w r i in
      let allowed = answer_allowed (w.site i).set legal i who command reply new is in
      let pushed = view_push (w.site i).set new legal (next_uncovered (version_of (w.site i).set) i new.0 allowed.0) in
      record {
        after = (λ k. record { site = i; view = sym pushed k; heard = (w.site i).heard }) ∙ ap (state_at i) (sym (put_same w.site i (with_operation (w.site i) new)));
        others = does_others w i (Replies reply (Some new));
        packets = refl;
        text = refl;
      }

  stepped : (w : World) → Reached n w → (index : ℕ) (command : Command) → IsStepped roster i w (step n w (Do i who command)) (after_command roster (state_at i (w.site i)) who index command)
  stepped w r index command =
      let a : Answer = answer (w.site i).set i who command in
      subst (λ s. IsStepped roster i w s (does_at roster (state_at i (w.site i)) who index command a)) (sym (do_here n w i who command small)) (does_stepped w r index command a refl)

  pub acted : (commands : List Command) (index : ℕ) (w : World) → Reached n w → All (IsRanged who) commands
      → IsActed roster i w (run_from n w (map (Do i who) commands)) (outcomes_from n w (map (Do i who) commands)) (after_commands roster (state_at i (w.site i)) who index commands)
  acted [] index w r ranged = record { after = refl; others = λ j apart. refl; packets = refl; text = refl }
  acted (command ∷ commands) index w r ranged =
      let s : Step = step n w (Do i who command) in
      let one = stepped w r index command in
      let rest = acted commands (index + 1) s.after (step_reached n w (Do i who command) (All-head (IsRanged who) command commands ranged) r) (All-tail (IsRanged who) command commands ranged) in
      record {
        after = ap (λ t. (after_commands roster t who (index + 1) commands).after) one.after ∙ rest.after;
        others = λ j apart. rest.others j apart ∙ one.others j apart;
        packets = rest.packets ∙ one.packets;
        text = (λ k. one.text k ++ (after_commands roster (one.after k) who (index + 1) commands).text) ∙ ap (λ l. answer_line (text_of_outcome roster s.outcome) ++ l) rest.text;
      }
