-- The machine of a site in a run has no fault, so that its plan is said.
use Rattle.std.specs.Prelude.{is_none, option_map, if◌then◌else◌}
use Rattle.std.proofs.Common.{◌≡◌, ℕ, ◌<◌, Bool, List, [], length, Some, None, sym, ap, subst, ◌∙◌}
use Rattle.fed_stamp.specs.Roster.{IsRoster, nodes_at}
use Rattle.fed_lattice.specs.History.{History}
use Rattle.fed_model.specs.Body.{Body}
use Rattle.fed_model.specs.View.{View, view}
use Rattle.fed_easy.specs.Machine.{first_fault, running_in}
use Rattle.fed_easy.specs.SitePlan.{site_plan}
use Rattle.fed_model.specs.Limits.{IsWithinLimits}
use Rattle.fed_easy.specs.RosterPlan.{machine_in}
use Rattle.fed_machine.specs.Planned.{plan_or_none, planned, text_of_plan}
use Rattle.fed_qstat.specs.PlanText.{plan_lines}
use Rattle.fed_replay.proofs.RunMachines.{machine_within}

-- nothing is wrong with the machine of a site of the roster whose operations are within limits
whole_machine : (r roster : List (List ℕ × ℕ)) (v : View) (ops : History Body) (site : ℕ) → IsRoster roster → site < length roster → r ≡ roster → v ≡ view ops → IsWithinLimits ops
    → first_fault (nodes_at r site) (running_in site v) ≡ None
whole_machine r roster v ops site lawful small same stands within =
    subst (λ (l : List (List ℕ × ℕ)). first_fault (nodes_at l site) (running_in site v) ≡ None) (sym same)
    (subst (λ (w : View). first_fault (nodes_at roster site) (running_in site w) ≡ None) (sym stands)
    (machine_within ops within site (nodes_at roster site) (lawful.counted site ([], 0) small)))

module _ (r roster : List (List ℕ × ℕ)) (v : View) (ops : History Body) (site moment : ℕ) (lawful : IsRoster roster) (small : site < length roster) (same : r ≡ roster) (stands : v ≡ view ops) (within : IsWithinLimits ops) where
  planned_whole : text_of_plan r v site moment ≡ planned r v site moment
  planned_whole = ap (λ (b : Bool). plan_or_none (option_map (plan_lines r) (if b then Some (site_plan v site moment (machine_in r v site)) else None))) (ap is_none (whole_machine r roster v ops site lawful small same stands within))

  pub planned_at : (text : List ℕ) → text ≡ text_of_plan r v site moment → text ≡ planned roster (view ops) site moment
  planned_at text e = e ∙ planned_whole ∙ ap (λ l. planned l v site moment) same ∙ ap (λ u. planned roster u site moment) stands
