-- No job begins at two sites.
use Rattle.std.specs.Prelude.{Some, if◌then◌else◌}
use Rattle.std.proofs.Common.{◌≡◌, ◌≤◌, ℕ, Bool, List, length, true, false, sym, subst, ap, ◌∙◌}
use Rattle.fed_stamp.specs.Stamp.{StampValue}
use Rattle.fed_stamp.proofs.StampLaws.{same_stamp-Decides}
use Rattle.fed_lattice.specs.Sets.{Has}
use Rattle.fed_lattice.specs.History.{History}
use Rattle.fed_lattice.proofs.FilterLaws.{Has-filter}
use Rattle.fed_model.specs.declared.beginnings.Beginning.{Beginning}
use Rattle.fed_model.specs.Body.{Body, Body.OfJob, JobBody.Begin, is_of_job, of_job}
use Rattle.fed_model.specs.Field.{begin_in}
use Rattle.fed_model.specs.JobView.{job_view, unknown}
use Rattle.fed_model.specs.Retired.{is_retired}
use Rattle.fed_theory.proofs.FoundLaws.{field_found}
use Rattle.fed_model.specs.View.{view}
use Rattle.fed_replica.specs.State.{State}
use Rattle.fed_model.specs.Run.{World, run_from, start}
use Rattle.fed_turns.specs.Turn.{MayTurns, Turn, after_turns, beginning}
use Rattle.fed_turns.specs.Run.{events_from}
use Rattle.fed_turns.proofs.Alarms.{start_stands}
use Rattle.fed_turns.proofs.Reached.{good, run_reached, start_reached}
use Rattle.fed_turns.proofs.Turns.{turns_played}

-- what is read of a job's Begin is one of the operations
begin_of : (ops : History Body) (job t : StampValue) (body : Body) (b : Beginning) → Has ops (t, body) → is_of_job job (t, body) ≡ true → begin_in body ≡ Some b → Has ops (t, OfJob job (Begin b))
begin_of ops job t (OfJob other (Begin said)) b h of e =
    let same : said ≡ b = cc in
    let named : other ≡ job = (same_stamp-Decides other job).0 of in
    subst (λ (j : StampValue). Has ops (t, OfJob j (Begin b))) named (subst (λ (x : Beginning). Has ops (t, OfJob other (Begin x))) same h)
begin_of ops job t _ b h of e = cc

begun_of : (ops : History Body) (job : StampValue) (begun : StampValue × Beginning) → ((view ops).job job).stages.begun ≡ Some begun → Has ops (begun.0, OfJob job (Begin begun.1))
begun_of ops job begun e =
    let found = field_found begin_in (of_job job ops) begun (read (is_retired ops job) e) in
    let kept = Has-filter (is_of_job job) ops (begun.0, found.0) found.1 in
    begin_of ops job begun.0 found.0 begun.1 kept.0 kept.1 found.2
  where
    -- of a job that is retired nothing is read
    read : (retired : Bool) → (if retired then unknown else job_view (of_job job ops)).stages.begun ≡ Some begun → (job_view (of_job job ops)).stages.begun ≡ Some begun
    read true f = cc
    read false f = f

module _ (whole : List (List ℕ × ℕ)) (few : length whole ≤ 16) (rosters : ℕ → List (List ℕ × ℕ)) (turns : List Turn) (may : MayTurns whole (beginning rosters) turns) (job : StampValue) where
  pub one_begin : (i j : ℕ) (one other : StampValue × Beginning) → (((after_turns (beginning rosters) turns).site i).view.job job).stages.begun ≡ Some one
      → (((after_turns (beginning rosters) turns).site j).view.job job).stages.begun ≡ Some other → one ≡ other
  one_begin i j one other e f =
      let played = turns_played whole few turns (beginning rosters) start (start_stands rosters) (start_reached (length whole)) may in
      let w : World = run_from (length whole) start (events_from (beginning rosters) turns) in
      let g = good (length whole) few w (run_reached (length whole) (events_from (beginning rosters) turns) start played.ranged (start_reached (length whole))) in
      let mine = begun_of (w.site i).set job one (ap (λ (s : State). (s.view.job job).stages.begun) (sym (played.stands.sites i)) ∙ e) in
      let theirs = begun_of (w.site j).set job other (ap (λ (s : State). (s.view.job job).stages.begun) (sym (played.stands.sites j)) ∙ f) in
      let h = (g.1.cuts i).within _ mine in
      let k = (g.1.cuts j).within _ theirs in
      let stamps = g.1.lawful.one_begin job one.0 other.0 one.1 other.1 h k in
      let whole = g.1.lawful.distinct (one.0, OfJob job (Begin one.1)) (other.0, OfJob job (Begin other.1)) h k stamps in
      let bodies : ◌≡◌ {A = Body} (OfJob job (Begin one.1)) (OfJob job (Begin other.1)) = ap (λ (x : StampValue × Body). x.1) whole in
      let begins : one.1 ≡ other.1 = cc in (λ n. (stamps n, begins n))
