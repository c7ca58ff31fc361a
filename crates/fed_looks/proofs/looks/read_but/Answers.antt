use Rattle.std.proofs.Common.{sym, ◌∙◌}
use Rattle.fed_looks.proofs.PlanWords.{no_but, no_job, no_moment, no_words, plan_asked, time_alone, wrong_count}
use Rattle.fed_looks.proofs.looks.read_but.Goals as goal
use Rattle.fed_looks.proofs.looks.read_but.Goals.{then-ne-via-then-ne, then-ne-via-else-ne+then-not-may_leave_out}

pub returns-in_default : goal.returns-in_default
returns-in_default c = no_words c.args.roster.now c.args.here (λ word. word.now) c.args.words.now c.in_default.ensures.cases

pub returns-in_default-split_first : goal.returns-in_default-split_first
returns-in_default-split_first c =
    time_alone c.args.roster.now c.args.here (λ word. word.now) c.args.words.now c.in-Some.time.now c.in-Some.others.now c.in-Some.ensures.cases.0 c.in_default-split_first.ensures.cases

pub returns-then-ne : goal.returns-then-ne
returns-then-ne c =
    elim c.then-ne.branch [
      | then-ne-via-then-ne w ↦
          no_but c.args.roster.now c.args.here (λ word. word.now) c.args.words.now c.in-Some.time.now c.in-Some.others.now c.in-Some-split_first.but.now c.in-Some-split_first.jobs.now c.in-Some.ensures.cases.0 c.in-Some-split_first.ensures.cases.0
          (sym c.ne.ensures ∙ w.if-ne.true)
      | then-ne-via-else-ne+then-not-may_leave_out w ↦
          wrong_count c.args.roster.now c.args.here (λ word. word.now) c.args.words.now c.in-Some.time.now c.in-Some.others.now c.in-Some-split_first.but.now c.in-Some-split_first.jobs.now c.in-Some.ensures.cases.0 c.in-Some-split_first.ensures.cases.0
          (sym w.may_leave_out.ensures ∙ w.if-not-may_leave_out.true)
    ]

pub returns-in_default-read_moment : goal.returns-in_default-read_moment
returns-in_default-read_moment c =
    no_moment c.args.roster.now c.args.here (λ word. word.now) c.args.words.now c.in-Some.time.now c.in-Some.others.now c.in-Some-split_first.but.now c.in-Some-split_first.jobs.now c.in-Some.ensures.cases.0 c.in-Some-split_first.ensures.cases.0
    (sym c.ne.ensures ∙ c.if-ne.false) (sym c.may_leave_out.ensures ∙ c.if-not-may_leave_out.false) (sym c.read_moment.ensures ∙ c.in_default-read_moment.is)

pub returns-in-Some-2 : goal.returns-in-Some-2
returns-in-Some-2 c =
    plan_asked c.args.roster.now c.args.here (λ word. word.now) c.args.words.now c.in-Some.time.now c.in-Some.others.now c.in-Some-split_first.but.now c.in-Some-split_first.jobs.now c.in-Some.ensures.cases.0 c.in-Some-split_first.ensures.cases.0
    (sym c.ne.ensures ∙ c.if-ne.false) (sym c.may_leave_out.ensures ∙ c.if-not-may_leave_out.false) c.in-Some-read_moment.moment c.in-Some-2.but.items (sym c.read_moment.ensures ∙ c.in-Some-read_moment.is)
    (sym (rw c.in-Some-2.is at c.in_ok-but.ensures))

pub returns-in-None : goal.returns-in-None
returns-in-None c =
    no_job c.args.roster.now c.args.here (λ word. word.now) c.args.words.now c.in-Some.time.now c.in-Some.others.now c.in-Some-split_first.but.now c.in-Some-split_first.jobs.now c.in-Some.ensures.cases.0 c.in-Some-split_first.ensures.cases.0
    (sym c.ne.ensures ∙ c.if-ne.false) (sym c.may_leave_out.ensures ∙ c.if-not-may_leave_out.false) c.in-Some-read_moment.moment (sym c.read_moment.ensures ∙ c.in-Some-read_moment.is)
    (sym (rw c.in-None.is at c.in_ok-but.ensures))
