-- No two bars of a chart lie over each other.
use Rattle.std.specs.Prelude.{slice_get, IsTrue, if◌then◌else◌}
use Rattle.std.specs.List.{All, AllPairs, fold}
use Rattle.std.proofs.Common.{◌≡◌, ℕ, ◌+◌, ◌-◌, ◌^◌, ◌≤◌, max, true, false, List, [], ◌∷◌, ◌++◌, length, length-append, Option, Some, None, refl, sym, ap, ◌∙◌, subst, arith}
use Rattle.std.proofs.Math.Seq.{get_or-append_seam}
use Rattle.std.proofs.lemmas.List.Elements.{All-cons, All-nil, All-push, All-weaker}
use Rattle.std.proofs.lemmas.List.Quantifiers.{all_pairs_push}
use Rattle.std.proofs.lemmas.Option.{slice_get-get_or}
use Rattle.fed_stamp.specs.Stamp.{StampValue}
use Rattle.fed_model.specs.JobView.{JobView}
use Rattle.fed_model.specs.Letter.{is_submitted}
use Rattle.fed_model.specs.View.{View}
use Rattle.fed_easy.specs.Plan.{PlanValue}
use Rattle.fed_machine.specs.declared.chart_bars.Bar.{Bar}
use Rattle.fed_machine.specs.declared.chart_bars.Kind.TheVariants.{Head}
use Rattle.fed_machine.specs.declared.chart_bars.StandingJob.{StandingJob}
use Rattle.fed_machine.specs.declared.machines.Reserved.{Reserved}
use Rattle.fed_machine.specs.Chart.{chart_bars, plan_or_empty}
use Rattle.fed_machine.specs.ChartBars.{LiesBelow, bar_of, bars_in, last_top_in, level_above, meets_bar, raised, said, standing_in, top_if, top_of, with_bar, with_head, with_job, with_reserved, with_standing}
use Rattle.fed_machine.specs.Machine.{reserved_in}
use Rattle.fed_easy.specs.RosterPlan.{plan_in}

-- ---- levels
raised_least : (from seconds level : ℕ) (b : Bar) → level ≤ raised from seconds level b
raised_least from seconds level b = elim (meets_bar from seconds b) as (λ v. level ≤ (if v then max level (top_of b) else level)) [ true ↦ omega arith | false ↦ omega arith ]

raised_top : (from seconds level : ℕ) (b : Bar) → IsTrue (meets_bar from seconds b) → top_of b ≤ raised from seconds level b
raised_top from seconds level b m = subst (λ v. top_of b ≤ (if v then max level (top_of b) else level)) (sym m) (omega arith)

fold_least : (from seconds level : ℕ) (bars : List Bar) → level ≤ fold (raised from seconds) level bars
fold_least from seconds level [] = omega arith
fold_least from seconds level (b ∷ bs) = omega (arith, raised_least from seconds level b, fold_least from seconds (raised from seconds level b) bs)

over : (from seconds level : ℕ) (bars : List Bar) → All (λ b. IsTrue (meets_bar from seconds b) → top_of b ≤ fold (raised from seconds) level bars) bars
over from seconds level [] = All-nil (λ b. IsTrue (meets_bar from seconds b) → top_of b ≤ level)
over from seconds level (b ∷ bs) =
    let here : IsTrue (meets_bar from seconds b) → top_of b ≤ fold (raised from seconds) level (b ∷ bs) =
    λ m. omega (arith, raised_top from seconds level b m, fold_least from seconds (raised from seconds level b) bs) in
    All-cons (λ x. IsTrue (meets_bar from seconds x) → top_of x ≤ fold (raised from seconds) level (b ∷ bs)) b bs here
    (over from seconds (raised from seconds level b) bs)

-- a bar at the level over those before it
apart_more : (bars : List Bar) (c : Bar) → c.bottom ≡ level_above c.from c.seconds bars → AllPairs LiesBelow bars → AllPairs LiesBelow (bars ++ c ∷ [])
apart_more bars c at apart =
    let below : All (λ b. LiesBelow b c) bars =
    All-weaker (λ b. IsTrue (meets_bar c.from c.seconds b) → top_of b ≤ level_above c.from c.seconds bars) (λ b. LiesBelow b c)
    (λ b h m. omega (arith, h m, at)) bars (over c.from c.seconds 0 bars) in
    all_pairs_push LiesBelow bars c apart below

-- ---- bars on top of each other
last_more : (bars : List Bar) (c : Bar) → last_top_in (bars ++ c ∷ []) ≡ top_of c
last_more bars c =
    let size : length (bars ++ c ∷ []) ≡ length bars + 1 = length-append bars (c ∷ []) in
    let index : length (bars ++ c ∷ []) - 1 ≡ length bars = omega (arith, size) in
    let found : slice_get (bars ++ c ∷ []) (length bars) ≡ Some c =
    slice_get-get_or (bars ++ c ∷ []) (length bars) c (omega (arith, size)) ∙ ap Some (get_or-append_seam bars c [] c) in
    ap (λ i. top_if (slice_get (bars ++ c ∷ []) i)) index ∙ ap top_if found

-- the last bar is the highest
record IsStack (bars : List Bar) : Type 0 where
  apart : AllPairs LiesBelow bars
  highest : All (λ b. top_of b ≤ last_top_in bars) bars

last_fits : (o : Option Bar) → top_if o ≤ 2 ^ 64 - 1
last_fits None = omega arith
last_fits (Some b) = omega arith

stack_more : (bars : List Bar) (s : StandingJob) → IsStack bars → IsStack (with_standing bars s)
stack_more bars s stack =
    let c : Bar = bar_of (last_top_in bars) s in
    let same : last_top_in (bars ++ c ∷ []) ≡ top_of c = last_more bars c in
    let fits : last_top_in bars ≤ 2 ^ 64 - 1 = last_fits (slice_get bars (length bars - 1)) in
    let rises : last_top_in bars ≤ top_of c = omega (arith, fits) in
    let below : All (λ b. LiesBelow b c) bars =
    All-weaker (λ b. top_of b ≤ last_top_in bars) (λ b. LiesBelow b c) (λ b h m. h) bars stack.highest in
    let highest : All (λ b. top_of b ≤ top_of c) (bars ++ c ∷ []) =
    All-push (λ b. top_of b ≤ top_of c) bars c
    (All-weaker (λ b. top_of b ≤ last_top_in bars) (λ b. top_of b ≤ top_of c) (λ b h. omega (arith, h, rises)) bars stack.highest)
    (omega arith) in
    record {
      apart = all_pairs_push LiesBelow bars c stack.apart below;
      highest = subst (λ n. All (λ b. top_of b ≤ n) (bars ++ c ∷ [])) (sym same) highest;
    }

stacks : (ss : List StandingJob) (bars : List Bar) → IsStack bars → IsStack (fold with_standing bars ss)
stacks [] bars stack = stack
stacks (s ∷ ss) bars stack = stacks ss (with_standing bars s) (stack_more bars s stack)

-- ---- the others
job_apart : (j : JobView) (job : StampValue) (from : ℕ) (bars : List Bar) → AllPairs LiesBelow bars → AllPairs LiesBelow (with_job j job from bars)
job_apart j job from bars apart =
    let whole : List Bar = with_bar Head job from (said j.fields.limit) (said j.fields.nodes) bars in
    elim (is_submitted j) as (λ v. AllPairs LiesBelow (if v then whole else bars)) [
      | true ↦ apart_more bars _ refl apart
      | false ↦ apart
    ]

head_apart : (v : View) (moment : ℕ) (head : Option (StampValue × ℕ)) (bars : List Bar) → AllPairs LiesBelow bars → AllPairs LiesBelow (with_head v moment head bars)
head_apart v moment None bars apart = apart
head_apart v moment (Some head) bars apart = job_apart (v.job head.0) head.0 (head.1 - moment) bars apart

all_reserved_apart : (moment : ℕ) (ks : List Reserved) (bars : List Bar) → AllPairs LiesBelow bars → AllPairs LiesBelow (fold (with_reserved moment) bars ks)
all_reserved_apart moment [] bars apart = apart
all_reserved_apart moment (k ∷ ks) bars apart = all_reserved_apart moment ks (with_reserved moment bars k) (apart_more bars _ refl apart)

none_apart : AllPairs LiesBelow []
none_apart i j d before within = absurd (omega (arith, within))

none_stack : IsStack []
none_stack = record { apart = none_apart; highest = All-nil (λ b. top_of b ≤ 0) }

bars_apart : (v : View) (here moment : ℕ) (plan : PlanValue) → AllPairs LiesBelow (bars_in v here moment plan)
bars_apart v here moment plan =
    let stack : IsStack (fold with_standing [] (standing_in v here moment plan.starts)) = stacks (standing_in v here moment plan.starts) [] none_stack in
    all_reserved_apart moment (reserved_in here moment v) _
    (head_apart v moment plan.head (fold with_standing [] (standing_in v here moment plan.starts)) stack.apart)

pub chart_apart : (roster : List (List ℕ × ℕ)) (v : View) (here moment : ℕ) → AllPairs LiesBelow (chart_bars roster v here moment)
chart_apart roster v here moment = bars_apart v here moment (plan_or_empty (plan_in roster v here moment))
