-- What is submitted stays until its site retires it.
use Rattle.std.specs.Prelude.{◌||◌, if◌then◌else◌, nat_lt, Option, Some, None, Result, Ok, Err}
use Rattle.std.proofs.Common.{◌⊎◌, ◌≡◌, ℕ, ◌≤◌, ◌<◌, List, [], ◌∷◌, ◌++◌, Bool, true, false, refl, sym, ap, subst, ◌∙◌, inl, inr, append_assoc, append-nil, arith}
use Rattle.std.proofs.lemmas.Bool.{and_from, both_ways, cases_Bool, cases_eq, le-leb, ltb-true}
use Rattle.fed_stamp.specs.declared.versions.ClockFull.{ClockFull}
use Rattle.fed_stamp.specs.Stamp.{StampValue}
use Rattle.fed_stamp.specs.Version.{counter_of, greatest, next_stamp}
use Rattle.fed_stamp.proofs.VersionLaws.{covered_counter_le_greatest}
use Rattle.fed_lattice.specs.Sets.{Has}
use Rattle.fed_lattice.specs.SetLaws.{Has-push}
use Rattle.fed_lattice.specs.History.{History}
use Rattle.fed_lattice.specs.VersionOf.{version_of}
use Rattle.fed_model.specs.declared.askers.Who.{Who}
use Rattle.fed_model.specs.declared.commands.Command.{Command}
use Rattle.fed_model.specs.declared.refusals.Refusal.{Refusal}
use Rattle.fed_model.specs.declared.replies.Reply.{Reply}
use Rattle.fed_model.specs.declared.values.JobValues.{JobValues}
use Rattle.fed_model.specs.Body.{Body, Body.OfJob, JobBody, Body.Submit, Body.Retire}
use Rattle.fed_model.specs.Lawful.{IsLawful}
use Rattle.fed_model.specs.Letter.{is_submitted}
use Rattle.fed_model.specs.Retired.{is_within, retires, is_retired}
use Rattle.fed_model.specs.View.{View, view}
use Rattle.fed_model.specs.Answer.{Answer, Answer.Refuses, Answer.Replies, effect, replies, answer_unless, answer_to, answer}
use Rattle.fed_model.specs.Desk.{first_of}
use Rattle.fed_model.specs.Refusals.{refusals}
use Rattle.fed_model.specs.declared.events.Event.{Event}
use Rattle.fed_model.specs.declared.events.Event.TheVariants.{Do, Ship, Take}
use Rattle.fed_model.specs.declared.outcomes.Outcome.TheVariants as Outcome
use Rattle.fed_model.specs.Run.{World, stays, does, step, run, with_operation}
use Rattle.fed_theory.specs.Retirements.{IsRetiredAmong}
use Rattle.fed_theory.proofs.DoneCommands.{done_kept}
use Rattle.fed_theory.proofs.NextStamps.{next_is}
use Rattle.fed_theory.proofs.OriginCounts.{lawful_countable, retired_reached}
use Rattle.fed_theory.proofs.RetiredLaws.{retired_by, retired_pushed, retiring, retirement}
use Rattle.fed_theory.proofs.Runs.{IsGood, put_same, quiet_good, run_good, run-push}
use Rattle.fed_theory.proofs.RunSteps.{do_here, put_other, site_lawful}
use Rattle.fed_theory.proofs.SubmitLaws.{submitted_by}

-- ---- which command adds a Retire
no_retire : (b : Bool) (job : StampValue) (what : JobBody) (first last : ℕ) → (if b then Some (OfJob job what) else None) ≡ Some (Retire first last) → ⊥
no_retire true job what first last e = cc
no_retire false job what first last e = cc

no_retire_else : (b : Bool) (job : StampValue) (what : JobBody) (first last : ℕ) → (if b then None else Some (OfJob job what)) ≡ Some (Retire first last) → ⊥
no_retire_else true job what first last e = cc
no_retire_else false job what first last e = cc

retire_command : (v : View) (who : Who) (command : Command) (first last : ℕ) → effect v who command ≡ Some (Retire first last) → command ≡ Command.Retire first last
retire_command v who (Command.Retire a b) first last e =
    let p : a ≡ first = cc in let q : b ≡ last = cc in (λ i. Command.Retire (p i) (q i))
retire_command v who (Command.Release job kinds) first last e = absurd (no_retire _ job _ first last e)
retire_command v who (Command.Grant job asker) first last e = absurd (no_retire_else _ job _ first last e)
retire_command v who _ first last e = cc

answered_retire : (ops : History Body) (here : ℕ) (who : Who) (command : Command) (reply : Reply) (t : StampValue) (first last : ℕ) → answer ops here who command ≡ Replies reply (Some (t, Retire first last)) → command ≡ Command.Retire first last
unfolding answer_to
answered_retire ops here who command reply t first last e =
    go (first_of (refusals (view ops) here who command)) (next_stamp (version_of ops) here) (effect (view ops) who command) refl e
  where
    go : (r : Option Refusal) (n : Result StampValue ClockFull) (b : Option Body) → effect (view ops) who command ≡ b → answer_unless r (replies n command b) ≡ Replies reply (Some (t, Retire first last)) → command ≡ Command.Retire first last
    go (Some r) n b it f = cc
    go None n None it f = cc
    go None (Err full) (Some b) it f = cc
    go None (Ok s) (Some b) it f =
        let q : ◌≡◌ {A = StampValue × Body} (s, b) (t, Retire first last) = cc in
        let p : b ≡ Retire first last = ap (λ (x : StampValue × Body). x.1) q in retire_command (view ops) who command first last (it ∙ ap Some p)

-- ---- what a site has of its own it did
-- the event is a command that adds the operation at its site
record IsAdded (n : ℕ) (w : World) (event : Event) (e : StampValue × Body) : Type 0 where
  who : Who
  command : Command
  reply : Reply
  small : e.0.site < n
  is : event ≡ Do e.0.site who command
  answered : answer (w.site e.0.site).set e.0.site who command ≡ Replies reply (Some e)

own_before : (n : ℕ) (w : World) (event : Event) (history : History Body) → IsGood history w → (e : StampValue × Body) → Has ((step n w event).after.site e.0.site).set e → Has (w.site e.0.site).set e ⊎ IsAdded n w event e
own_before n w (Ship site to) history good e h = inl (good.own e.0.site e (((quiet_good history n w (Ship site to) tt good).cuts e.0.site).within e h) refl)
own_before n w (Take site k) history good e h = inl (good.own e.0.site e (((quiet_good history n w (Take site k) tt good).cuts e.0.site).within e h) refl)
own_before n w (Do site who command) history good e h = go (nat_lt site n) refl (answer (w.site site).set site who command) refl h
  where
    go : (b : Bool) → nat_lt site n ≡ b → (said : Answer) → answer (w.site site).set site who command ≡ said → Has ((if b then does w site said else stays w Outcome.NoSite).after.site e.0.site).set e
        → Has (w.site e.0.site).set e ⊎ IsAdded n w (Do site who command) e
    go false at said is k = inl k
    go true at (Refuses refusal) is k = inl k
    go true at (Replies reply None) is k = inl k
    go true at (Replies reply (Some new)) is k = elim (cases_eq e.0.site site) [
      | inr apart ↦ inl (subst (λ s. Has s.set e) (put_other w.site site (with_operation (w.site site) new) e.0.site apart) k)
      | inl same ↦ (
          let small = ltb-true site n at in
          let there : Has ((does w site (Replies reply (Some new))).after.site site).set e = subst (λ (i : ℕ). Has ((does w site (Replies reply (Some new))).after.site i).set e) same k in
          let more : Has ((w.site site).set ++ new ∷ []) e = subst (λ s. Has s.set e) (put_same w.site site (with_operation (w.site site) new)) there in
          elim (Has-push (w.site site).set new e more) [
            | inl old ↦ inl (subst (λ (i : ℕ). Has (w.site i).set e) (sym same) old)
            | inr q ↦ inr (record {
              who = who;
              command = command;
              reply = reply;
              small = omega arith;
              is = ap (λ (i : ℕ). Do i who command) (sym same);
              answered = subst (λ (i : ℕ). answer (w.site i).set i who command ≡ Replies reply (Some e)) (sym same) (is ∙ ap (λ x. Replies reply (Some x)) q);
            })
          ])
    ]

-- ---- until it is retired at its site
module _ (n : ℕ) (few : n ≤ 16) (id : StampValue) where
  retired_now : (early : List Event) (event : Event) (late : List Event) → is_retired ((run n early).site id.site).set id ≡ false → is_retired ((step n (run n early) event).after.site id.site).set id ≡ true → IsRetiredAmong n early (event ∷ late) id
  retired_now early event late fresh gone =
      let w = run n early in
      let g = run_good n early few in
      let f = retiring ((step n w event).after.site id.site).set id gone in
      let r = retirement f.0 id f.2 in
      let there : Has ((step n w event).after.site f.0.0.site).set f.0 = subst (λ (i : ℕ). Has ((step n w event).after.site i).set f.0) (sym r.site) f.1 in
      elim (own_before n w event g.0 g.1 f.0 there) [
        | inl old ↦ absurd (both_ways _ fresh (retired_by (w.site id.site).set id f.0 (subst (λ (i : ℕ). Has (w.site i).set f.0) r.site old) f.2))
        | inr a ↦ (
            let said : answer (w.site f.0.0.site).set f.0.0.site a.who a.command ≡ Replies a.reply (Some (f.0.0, Retire r.first r.last)) = a.answered ∙ ap (λ x. Replies a.reply (Some x)) r.is in
            let asked : a.command ≡ Command.Retire r.first r.last = answered_retire (w.site f.0.0.site).set f.0.0.site a.who a.command a.reply f.0.0 r.first r.last said in
            let is : event ≡ Do id.site a.who (Command.Retire r.first r.last) = a.is ∙ (λ i. Do (r.site i) a.who (asked i)) in
            let done : (step n w (Do f.0.0.site a.who a.command)).outcome ≡ Outcome.Replied a.reply =
            ap (λ s. s.outcome) (do_here n w f.0.0.site a.who a.command a.small) ∙ ap (λ x. (does w f.0.0.site x).outcome) a.answered in
            let low = r.low in let high = r.high in
            let within : is_within r.first r.last id.counter ≡ true = and_from _ _ (le-leb r.first id.counter low) (le-leb id.counter r.last high) in
            record {
              before = [];
              after = late;
              who = a.who;
              first = r.first;
              last = r.last;
              reply = a.reply;
              events = ap (λ x. x ∷ late) is;
              within = within;
              done = subst (λ (l : List Event). (step n (run n l) (Do id.site a.who (Command.Retire r.first r.last))).outcome ≡ Outcome.Replied a.reply) (sym (append-nil early))
                  (subst (λ x. (step n w x).outcome ≡ Outcome.Replied a.reply) (λ i. Do (r.site i) a.who (asked i)) done);
            })
      ]

  retired_then : (early : List Event) (event : Event) (late : List Event) → IsRetiredAmong n (early ++ event ∷ []) late id → IsRetiredAmong n early (event ∷ late) id
  retired_then early event late m =
      let whole : (early ++ event ∷ []) ++ m.before ≡ early ++ event ∷ m.before = simp append_assoc in
      record {
        before = event ∷ m.before;
        after = m.after;
        who = m.who;
        first = m.first;
        last = m.last;
        reply = m.reply;
        events = ap (λ l. event ∷ l) m.events;
        within = m.within;
        done = subst (λ (l : List Event). (step n (run n l) (Do id.site m.who (Command.Retire m.first m.last))).outcome ≡ Outcome.Replied m.reply) whole m.done;
      }

  pub unretired_until : (early late : List Event) → is_retired ((run n early).site id.site).set id ≡ false → (is_retired ((run n (early ++ late)).site id.site).set id ≡ false) ⊎ IsRetiredAmong n early late id
  unretired_until early [] fresh = inl (subst (λ (l : List Event). is_retired ((run n l).site id.site).set id ≡ false) (sym (append-nil early)) fresh)
  unretired_until early (event ∷ late) fresh = elim (cases_Bool (is_retired ((step n (run n early) event).after.site id.site).set id)) [
    | inl gone ↦ inr (retired_now early event late fresh gone)
    | inr still ↦ (
        let whole : (early ++ event ∷ []) ++ late ≡ early ++ event ∷ late = simp append_assoc in
        elim (unretired_until (early ++ event ∷ []) late (subst (λ (w : World). is_retired (w.site id.site).set id ≡ false) (sym (run-push n early event)) still)) [
          | inl k ↦ inl (subst (λ (l : List Event). is_retired ((run n l).site id.site).set id ≡ false) whole k)
          | inr m ↦ inr (retired_then early event late m)
        ])
  ]

-- ---- a Submit that is answered
submit_adds : (ops : History Body) (here : ℕ) (who : Who) (values : JobValues) (held : Bool) (job : StampValue) (new : Option (StampValue × Body)) → answer ops here who (Command.Submit values held) ≡ Replies (Reply.Submitted job) new
    → (next_stamp (version_of ops) here ≡ Ok job) × (new ≡ Some (job, Submit who.user values held))
unfolding answer_to
submit_adds ops here who values held job new e =
    go (first_of (refusals (view ops) here who (Command.Submit values held))) (next_stamp (version_of ops) here) refl e
  where
    go : (r : Option Refusal) (n : Result StampValue ClockFull) → next_stamp (version_of ops) here ≡ n → answer_unless r (replies n (Command.Submit values held) (effect (view ops) who (Command.Submit values held))) ≡ Replies (Reply.Submitted job) new
        → (next_stamp (version_of ops) here ≡ Ok job) × (new ≡ Some (job, Submit who.user values held))
    go (Some r) n at f = cc
    go None (Err full) at f = cc
    go None (Ok t) at f =
        let p : t ≡ job = cc in
        let q : Some (t, Submit who.user values held) ≡ new = cc in
        (at ∙ ap Ok p, sym q ∙ ap (λ (s : StampValue). Some (s, Submit who.user values held)) p)

record IsSubmittedAt (n : ℕ) (w : World) (site : ℕ) (who : Who) (values : JobValues) (held : Bool) (job : StampValue) : Type 0 where
  small : site < n
  next : next_stamp (version_of (w.site site).set) site ≡ Ok job
  answered : answer (w.site site).set site who (Command.Submit values held) ≡ Replies (Reply.Submitted job) (Some (job, Submit who.user values held))

submitted_at : (n : ℕ) (w : World) (site : ℕ) (who : Who) (values : JobValues) (held : Bool) (job : StampValue) → (step n w (Do site who (Command.Submit values held))).outcome ≡ Outcome.Replied (Reply.Submitted job) → IsSubmittedAt n w site who values held job
submitted_at n w site who values held job e = go (nat_lt site n) refl (answer (w.site site).set site who (Command.Submit values held)) refl e
  where
    go : (b : Bool) → nat_lt site n ≡ b → (said : Answer) → answer (w.site site).set site who (Command.Submit values held) ≡ said → (if b then does w site said else stays w Outcome.NoSite).outcome ≡ Outcome.Replied (Reply.Submitted job)
        → IsSubmittedAt n w site who values held job
    go false at said is f = cc
    go true at (Refuses refusal) is f = cc
    go true at (Replies r None) is f =
        let p : r ≡ Reply.Submitted job = cc in
        let a = submit_adds (w.site site).set site who values held job None (is ∙ ap (λ x. Replies x None) p) in
        let q = a.1 in cc
    go true at (Replies r (Some new)) is f =
        let p : r ≡ Reply.Submitted job = cc in
        let a = submit_adds (w.site site).set site who values held job (Some new) (is ∙ ap (λ x. Replies x (Some new)) p) in
        record { small = ltb-true site n at; next = a.0; answered = is ∙ ap (λ x. Replies x (Some new)) p ∙ ap (Replies (Reply.Submitted job)) a.1 }

-- a stamp above all that the version has isn't retired
next_unretired : (ops : History Body) → IsLawful ops → (here : ℕ) (t : StampValue) → next_stamp (version_of ops) here ≡ Ok t → is_retired ops t ≡ false
next_unretired ops l here t e = elim (cases_Bool (is_retired ops t)) [
  | inr fresh ↦ fresh
  | inl gone ↦ absurd (
      let below = retired_reached ops (lawful_countable ops l) t gone in
      let most : counter_of (version_of ops) t.site ≤ greatest (version_of ops) = covered_counter_le_greatest (version_of ops) (record { counter = counter_of (version_of ops) t.site; site = t.site }) (le-leb _ _ (omega arith)) in
      let up = (next_is (version_of ops) here t e).counter in omega arith)
]

module _ (n : ℕ) (early late : List Event) (site : ℕ) (who : Who) (values : JobValues) (held : Bool) (job : StampValue)
    (done : (step n (run n early) (Do site who (Command.Submit values held))).outcome ≡ Outcome.Replied (Reply.Submitted job)) where
  submitted : IsSubmittedAt n (run n early) site who values held job
  submitted = submitted_at n (run n early) site who values held job done

  pub own_job : job.site ≡ site
  own_job = (next_is (version_of ((run n early).site site).set) site job submitted.next).site

  pub job_kept : Has ((run n (early ++ Do site who (Command.Submit values held) ∷ late)).site site).set (job, Submit who.user values held)
  job_kept = done_kept n early late site who (Command.Submit values held) (Reply.Submitted job) (job, Submit who.user values held) submitted.small submitted.answered

  pub job_there : n ≤ 16 → (is_submitted ((view ((run n (early ++ Do site who (Command.Submit values held) ∷ late)).site site).set).job job) ≡ true) ⊎ IsRetiredAmong n (early ++ Do site who (Command.Submit values held) ∷ []) late job
  job_there few =
      let event : Event = Do site who (Command.Submit values held) in
      let ops : History Body = ((run n early).site site).set in
      let old : is_retired ops job ≡ false = next_unretired ops (site_lawful n early few site) site job submitted.next in
      let pushed : is_retired (ops ++ (job, Submit who.user values held) ∷ []) job ≡ false = retired_pushed ops (job, Submit who.user values held) job ∙ or_no (is_retired ops job) old in
      let after : ((step n (run n early) event).after.site site).set ≡ ops ++ (job, Submit who.user values held) ∷ [] =
      ap (λ s. (s.after.site site).set) (do_here n (run n early) site who (Command.Submit values held) submitted.small)
      ∙ ap (λ a. ((does (run n early) site a).after.site site).set) submitted.answered
      ∙ ap (λ s. s.set) (put_same (run n early).site site (with_operation ((run n early).site site) (job, Submit who.user values held))) in
      let first : is_retired ((run n (early ++ event ∷ [])).site site).set job ≡ false =
      subst (λ (w : World). is_retired (w.site site).set job ≡ false) (sym (run-push n early event)) (subst (λ (xs : History Body). is_retired xs job ≡ false) (sym after) pushed) in
      let whole : (early ++ event ∷ []) ++ late ≡ early ++ event ∷ late = simp append_assoc in
      elim (unretired_until n few job (early ++ event ∷ []) late (subst (λ (i : ℕ). is_retired ((run n (early ++ event ∷ [])).site i).set job ≡ false) (sym own_job) first)) [
        | inr m ↦ inr m
        | inl k ↦ inl (
            let last : is_retired ((run n (early ++ event ∷ late)).site site).set job ≡ false =
            subst (λ (i : ℕ). is_retired ((run n (early ++ event ∷ late)).site i).set job ≡ false) own_job (subst (λ (l : List Event). is_retired ((run n l).site job.site).set job ≡ false) whole k) in
            submitted_by ((run n (early ++ event ∷ late)).site site).set job (who.user, values, held, job_kept) last)
      ]
    where
      or_no : (a : Bool) → a ≡ false → (a || retires job (job, Submit who.user values held)) ≡ false
      or_no a e = ap (λ b. b || false) e
