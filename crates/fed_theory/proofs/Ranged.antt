-- What an answer adds to a set of operations in range is in range.
use Rattle.std.specs.Prelude.{if◌then◌else◌, not, is_some, IfSome, Result, Ok, Err}
use Rattle.std.proofs.Common.{◌≡◌, ◌≤◌, ◌+◌, ◌==◌, ℕ, Bool, true, false, Option, Some, None, refl, sym, ap, subst, ◌∙◌, inl, inr, arith}
use Rattle.std.proofs.lemmas.Bool.{and_parts, or_parts, not-false, leb-false, ltb-false, cases_eq, both_ways, eq-eqb}
use Rattle.std.proofs.lemmas.Option.{same_Some}
use Rattle.fed_stamp.specs.declared.versions.ClockFull.{ClockFull}
use Rattle.fed_stamp.specs.declared.stamps.TheConstants.{MAX_COUNTER}
use Rattle.fed_stamp.specs.declared.rosters.TheConstants.{MAX_NODES}
use Rattle.fed_stamp.specs.Stamp.{StampValue}
use Rattle.fed_stamp.specs.Version.{next_stamp}
use Rattle.fed_lattice.specs.Sets.{Has}
use Rattle.fed_lattice.specs.History.{History}
use Rattle.fed_lattice.proofs.FilterLaws.{Has-filter}
use Rattle.fed_lattice.specs.VersionOf.{version_of}
use Rattle.fed_model.specs.declared.askers.Who.{Who}
use Rattle.fed_model.specs.declared.commands.Command.{Command}
use Rattle.fed_model.specs.declared.limits.TheConstants.{MAX_LIMIT}
use Rattle.fed_model.specs.declared.refusals.Refusal.{Refusal}
use Rattle.fed_model.specs.declared.replies.Reply.{Reply}
use Rattle.fed_model.specs.declared.windows.Window.{Window}
use Rattle.fed_model.specs.declared.moments.TheConstants.{MAX_MOMENT}
use Rattle.fed_model.specs.declared.terms.TheConstants.{MAX_TERM}
use Rattle.fed_model.specs.Body.{Body, Body.Submit, Body.OfJob, Body.Reserve, JobBody.Set, JobBody.Grant, JobBody.HandBack, JobBody.Begin, is_of_job, of_job, Body.Retire}
use Rattle.fed_model.specs.Field.{limit_in, nodes_in, field}
use Rattle.fed_model.specs.JobView.{JobView, job_view}
use Rattle.fed_model.specs.Letter.{is_submitted}
use Rattle.fed_theory.proofs.NextStamps.{IsNext}
use Rattle.fed_theory.proofs.SubmitLaws.{read_whole, unretired}
use Rattle.fed_theory.proofs.FoundLaws.{some_found, field_found}
use Rattle.fed_model.specs.View.{view}
use Rattle.fed_model.specs.Lawful.{IsGrounded, IsLawful}
use Rattle.fed_model.specs.Ranges.{IsFrom, IsSite, IsInRange, IsWindow, IsRanged}
use Rattle.fed_model.specs.Answer.{Answer.Replies, beginning, effect, replies, answer_unless, answer_to, answer, value_in, term_in}
use Rattle.fed_model.specs.Desk.{first_of}
use Rattle.fed_model.specs.Refusals.{refusals, is_bad_window}
use Rattle.fed_theory.proofs.Allowed.{AreClear, clear, IsAllowed, IsWithin, answer_allowed}

abbrev pub AreInRange : History Body → Type 0
AreInRange ops = (e : StampValue × Body) → Has ops e → IsInRange e.1

-- ---- what is set by operations in range
limit_ranged : (body : Body) (limit : ℕ) → IsInRange body → limit_in body ≡ Some limit → IsFrom 1 MAX_LIMIT limit
limit_ranged (Submit owner values held) limit t e = let p : values.limit ≡ limit = cc in subst (IsFrom 1 MAX_LIMIT) p t.1.limit
limit_ranged (OfJob job (Set changes removed)) limit t e = let p : changes.limit ≡ Some limit = e in subst (λ o. IfSome o (IsFrom 1 MAX_LIMIT)) p t.limit
limit_ranged _ limit t e = cc

nodes_ranged : (body : Body) (nodes : ℕ) → IsInRange body → nodes_in body ≡ Some nodes → IsFrom 1 MAX_NODES nodes
nodes_ranged (Submit owner values held) nodes t e = let p : values.nodes ≡ nodes = cc in subst (IsFrom 1 MAX_NODES) p t.1.nodes
nodes_ranged (OfJob job (Set changes removed)) nodes t e = let p : changes.nodes ≡ Some nodes = e in subst (λ o. IfSome o (IsFrom 1 MAX_NODES)) p t.nodes
nodes_ranged _ nodes t e = cc

-- the value of a field of a job that has one
field_read : (ops : History Body) (job : StampValue) (set_in : Body → Option ℕ) (IsOne : ℕ → Type 0) → AreInRange ops
    → ((body : Body) (n : ℕ) → IsInRange body → set_in body ≡ Some n → IsOne n) → is_some (field set_in (of_job job ops)) ≡ true → IsOne (value_in (field set_in (of_job job ops)))
field_read ops job set_in IsOne ranged each e =
    let o = some_found (field set_in (of_job job ops)) e in
    let f = field_found set_in (of_job job ops) o.0 o.1 in
    let m = Has-filter (is_of_job job) ops (o.0.0, f.0) f.1 in
    subst IsOne (sym (ap value_in o.1)) (each f.0 o.0.1 (ranged (o.0.0, f.0) m.0) f.2)

module _ (ops : History Body) (ranged : AreInRange ops) where
  from_nodes : (job : StampValue) → is_submitted (job_view (of_job job ops)) ≡ true → (is_some (job_view (of_job job ops)).fields.nodes ≡ true) × (is_some (job_view (of_job job ops)).fields.limit ≡ true)
  from_nodes job e =
      let j : JobView = job_view (of_job job ops) in
      let a = and_parts (is_some j.fields.owner) _ e in
      let b = and_parts (is_some j.fields.name) _ a.1 in
      let c = and_parts (is_some j.fields.priority) _ b.1 in
      let d = and_parts (is_some j.fields.nodes) _ c.1 in
      (d.0, (and_parts (is_some j.fields.limit) (is_some j.fields.account) d.1).0)

  limit_read : (job : StampValue) → is_submitted (job_view (of_job job ops)) ≡ true → IsFrom 1 MAX_LIMIT (value_in (job_view (of_job job ops)).fields.limit)
  limit_read job e = field_read ops job limit_in (IsFrom 1 MAX_LIMIT) ranged limit_ranged (from_nodes job e).1

  nodes_read : (job : StampValue) → is_submitted (job_view (of_job job ops)) ≡ true → IsFrom 1 MAX_NODES (value_in (job_view (of_job job ops)).fields.nodes)
  nodes_read job e = field_read ops job nodes_in (IsFrom 1 MAX_NODES) ranged nodes_ranged (from_nodes job e).0

-- ---- windows that are not bad
not_zero : (n : ℕ) → (n == 0) ≡ false → 1 ≤ n
not_zero n e = elim (cases_eq n 0) [ inl z ↦ absurd (both_ways (n == 0) e (eq-eqb n 0 z)) | inr p ↦ omega arith ]

window_ranged : (w : Window) → IsSite w.site → is_bad_window w ≡ false → IsWindow w
window_ranged w site e =
    let a = or_parts _ _ e in
    let b = or_parts _ _ a.1 in
    let c = or_parts _ _ b.1 in
    let later = leb-false w.end w.start a.0 in
    let ends = ltb-false MAX_MOMENT w.end b.0 in
    let some = not_zero w.nodes c.0 in
    let few = ltb-false MAX_NODES w.nodes c.1 in
    (site, (omega arith, omega arith), (omega arith, omega arith), (omega arith, omega arith), omega arith)

-- ---- what a command adds
if_same : (b : Bool) (body new : Body) → (if b then Some body else None) ≡ Some new → body ≡ new
if_same true body new e = cc
if_same false body new e = cc

unless_same : (b : Bool) (body new : Body) → (if b then None else Some body) ≡ Some new → body ≡ new
unless_same true body new e = cc
unless_same false body new e = cc

module _ (ops : History Body) (ranged : AreInRange ops) (here : ℕ) (who : Who) (s : StampValue) (counted : s.counter ≤ MAX_COUNTER) where
  whole : (job : StampValue) → not (is_submitted ((view ops).job job)) ≡ false → (view ops).job job ≡ job_view (of_job job ops)
  whole job e = read_whole ops job (unretired ops job (not-false _ e))

  granted_term : (job : StampValue) (term : ℕ) → IsGrounded ops s (OfJob job (HandBack term)) → IsFrom 1 MAX_TERM term
  granted_term job term g = (ranged (g.1.0, OfJob job (Grant s.site term)) g.1.1.0).1

  returned_ranged : (job : StampValue) (new : Body) → IsAllowed ops s new → Some (OfJob job (HandBack (term_in ((view ops).job job).stages.grant))) ≡ Some new → IsInRange new
  returned_ranged job new a e =
      let term : ℕ = term_in ((view ops).job job).stages.grant in
      let same : OfJob job (HandBack term) ≡ new = same_Some (OfJob job (HandBack term)) new e in
      subst IsInRange same (granted_term job term (subst (IsGrounded ops s) (sym same) a.grounded))

  effect_ranged : (command : Command) (new : Body) → IsRanged who command → AreClear (refusals (view ops) here who command) → IsAllowed ops s new → effect (view ops) who command ≡ Some new → IsInRange new
  effect_ranged (Command.Submit values held) new t r a e = subst IsInRange (same_Some _ new e) t
  effect_ranged (Command.Alter job changes) new t r a e = subst IsInRange (same_Some _ new e) t
  effect_ranged (Command.Hold job kinds) new t r a e = subst IsInRange (same_Some _ new e) tt
  effect_ranged (Command.Release job kinds) new t r a e = subst IsInRange (if_same _ _ new e) tt
  effect_ranged (Command.Delete job) new t r a e = subst IsInRange (same_Some _ new e) tt
  effect_ranged (Command.Grant job asker) new t r a e =
      let term : ℕ = term_in ((view ops).job job).stages.grant + 1 in
      let same : OfJob job (Grant asker term) ≡ new = unless_same _ (OfJob job (Grant asker term)) new e in
      let most : term ≤ MAX_TERM = subst (IsWithin ops s) (sym same) a.limited in
      subst IsInRange same (t, (omega arith, most))
  effect_ranged (Command.HandBack job) new t r a e = returned_ranged job new a e
  effect_ranged (Command.Decline job) new t r a e = returned_ranged job new a e
  effect_ranged (Command.Begin job moment) new t r a e =
      let there = subst (λ j. is_submitted j ≡ true) (whole job r.0) (not-false _ r.0) in
      let f = subst (λ j. effect (record (view ops) { job = λ id. j }) who (Command.Begin job moment) ≡ Some new) (whole job r.0) e in
      let limit = limit_read ops ranged job there in
      let nodes = nodes_read ops ranged job there in
      subst IsInRange (same_Some (OfJob job (Begin (beginning (job_view (of_job job ops)) moment))) new f) (t, nodes, (omega arith, omega arith), omega arith)
  effect_ranged (Command.Finish job moment status) new t r a e = subst IsInRange (same_Some _ new e) t
  effect_ranged (Command.Reserve window) new t r a e = subst IsInRange (same_Some (Reserve window) new e) (window_ranged window t r.1.0)
  effect_ranged (Command.Cancel reservation) new t r a e = subst IsInRange (same_Some _ new e) tt
  effect_ranged (Command.Retire first last) new t r a e =
      let same : Retire first last ≡ new = same_Some (Retire first last) new e in
      let g : IsGrounded ops s (Retire first last) = subst (IsGrounded ops s) (sym same) a.grounded in
      let one = g.0 in
      let some = g.1 in
      let below = g.2 in
      subst IsInRange same ((omega arith, omega arith), (omega arith, omega arith))

pub answer_ranged : (ops : History Body) → IsLawful ops → AreInRange ops → (here : ℕ) (who : Who) (command : Command) → IsRanged who command → (said : Reply) (new : StampValue × Body) → answer ops here who command ≡ Replies said (Some new) → IsInRange new.1
unfolding answer_to
answer_ranged ops l ranged here who command t said new e =
    go (first_of (refusals (view ops) here who command)) refl (next_stamp (version_of ops) here) (effect (view ops) who command) refl e
  where
    next : IsNext (version_of ops) here new.0
    next = (answer_allowed ops l here who command said new e).0

    allowed : IsAllowed ops new.0 new.1
    allowed = (answer_allowed ops l here who command said new e).1

    go : (r : Option Refusal) → first_of (refusals (view ops) here who command) ≡ r → (n : Result StampValue ClockFull) (b : Option Body) → effect (view ops) who command ≡ b → answer_unless r (replies n command b) ≡ Replies said (Some new) → IsInRange new.1
    go (Some r) is n b it f = cc
    go None is n None it f = cc
    go None is (Err full) (Some b) it f = cc
    go None is (Ok u) (Some b) it f =
        let p : b ≡ new.1 = cc in
        effect_ranged ops ranged here who new.0 next.counted command new.1 t (clear _ is) allowed (it ∙ ap (λ x. Some x) p)
