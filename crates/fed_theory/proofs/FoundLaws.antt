-- The operations behind what is read of a job.
use Rattle.std.specs.Prelude.{is_some}
use Rattle.std.proofs.Common.{◌≡◌, ℕ, List, [], Bool, true, false, Option, Some, None, refl, ap, subst}
use Rattle.std.proofs.lemmas.Bool.{and_parts, and_from}
use Rattle.fed_stamp.specs.Stamp.{StampValue}
use Rattle.fed_lattice.specs.Sets.{Has}
use Rattle.fed_lattice.specs.History.{History}
use Rattle.fed_lattice.specs.Order.{IsUpTo}
use Rattle.fed_lattice.specs.LatestLaws.{latest_stands}
use Rattle.fed_lattice.specs.Part.{part}
use Rattle.fed_lattice.specs.PartLaws.{source, Has-part}
use Rattle.fed_lattice.specs.Register.{register_stands_for}
use Rattle.fed_lattice.specs.Stage.{stage_stands_for}
use Rattle.fed_lattice.specs.StageLaws.{stage_stands_for_greatest}
use Rattle.fed_lattice.specs.Stamped.{stamped}
use Rattle.fed_lattice.proofs.StampedLaws.{stamped-Has, Has-stamped}
use Rattle.fed_model.specs.declared.grants.GrantStage.{GrantStage}
use Rattle.fed_model.specs.declared.values.JobValues.{JobValues}
use Rattle.fed_model.specs.Body.{Body, Body.Submit}
use Rattle.fed_model.specs.Field.{owner_in, name_in, priority_in, nodes_in, limit_in, account_in, field}
use Rattle.fed_model.specs.Grant.{grant_cmp, grant_in, grant_stage}
use Rattle.fed_model.specs.GrantLaws.{grant_total}
use Rattle.fed_model.specs.JobView.{job_view}
use Rattle.fed_model.specs.Letter.{is_submitted}

pub some_found : {T : Type 0} (o : Option T) → is_some o ≡ true → (t : T) × (o ≡ Some t)
some_found None e = cc
some_found (Some t) e = (t, refl)

pub none_found : {T : Type 0} (o : Option T) → is_some o ≡ false → o ≡ None
none_found None e = refl
none_found (Some t) e = cc

-- ---- fields
module _ {T : Type 0} (says : Body → Option T) (h : History Body) where
  -- an operation says the value, under the stamp that stands beside it
  pub field_found : (c : StampValue × T) → field says h ≡ Some c → (body : Body) × Has h (c.0, body) × (says body ≡ Some c.1)
  field_found c e = let r = subst (λ o. register_stands_for o (part says h)) e (latest_stands (part says h)) in source says h c r.0

  -- where nothing is read no operation says a value
  pub field_none : field says h ≡ None → (t : StampValue) (body : Body) → Has h (t, body) → says body ≡ None
  field_none e t body k = go (says body) refl
    where
      go : (o : Option T) → says body ≡ o → o ≡ None
      go None s = refl
      go (Some d) s =
          let r : part says h ≡ [] = subst (λ o. register_stands_for o (part says h)) e (latest_stands (part says h)) in
          absurd (subst (λ l. Has l (t, d)) r (Has-part says h t body d k s))

-- ---- grants
module _ (h : History Body) where
  stages : History GrantStage
  stages = part grant_in (stamped h)

  grant_stands : (o : Option GrantStage) → grant_stage h ≡ o → stage_stands_for grant_cmp o stages
  unfolding stages
  grant_stands o e = subst (λ o. stage_stands_for grant_cmp o (part grant_in (stamped h))) e (stage_stands_for_greatest grant_cmp grant_total (part grant_in (stamped h)))

  has_stage : (e : StampValue × Body) (g : GrantStage) → Has h e → grant_in e ≡ Some g → Has stages (e.0, g)
  unfolding stages
  has_stage e g k s = Has-part grant_in (stamped h) e.0 e g (stamped-Has h e k) s

  -- an operation brings the stage
  pub grant_found : (g : GrantStage) → grant_stage h ≡ Some g → (e : StampValue × Body) × Has h e × (grant_in e ≡ Some g)
  unfolding stages
  grant_found g e =
      let r = grant_stands (Some g) e in
      let s = source grant_in (stamped h) (r.0.0, g) r.0.1 in
      (s.0, (Has-stamped h (r.0.0, s.0) s.1).0, s.2)

  -- no operation brings a greater one
  pub grant_greatest : (g : GrantStage) → grant_stage h ≡ Some g → (e : StampValue × Body) (k : GrantStage) → Has h e → grant_in e ≡ Some k → IsUpTo grant_cmp k g
  grant_greatest g is e k m s = (grant_stands (Some g) is).1 (e.0, k) (has_stage e k m s)

  -- where there is no stage no operation brings one
  pub grant_none : grant_stage h ≡ None → (e : StampValue × Body) → Has h e → grant_in e ≡ None
  grant_none is e m = go (grant_in e) refl
    where
      go : (o : Option GrantStage) → grant_in e ≡ o → o ≡ None
      go None s = refl
      go (Some g) s = absurd (subst (λ l. Has l (e.0, g)) (grant_stands None is) (has_stage e g m s))

-- ---- jobs
submit_body : (body : Body) (w : List ℕ) → owner_in body ≡ Some w → (values : JobValues) × (held : Bool) × (body ≡ Submit w values held)
submit_body (Submit owner values held) w e = let p : owner ≡ w = cc in (values, held, ap (λ o. Submit o values held) p)
submit_body _ w e = cc

-- a job that is submitted has its Submit
pub submit_found : (h : History Body) → is_submitted (job_view h) ≡ true → (t : StampValue) × (owner : List ℕ) × (values : JobValues) × (held : Bool) × Has h (t, Submit owner values held)
submit_found h e =
    let o = some_found (field owner_in h) (and_parts (is_some (field owner_in h)) _ e).0 in
    let f = field_found owner_in h o.0 o.1 in
    let s = submit_body f.0 o.0.1 f.2 in
    (o.0.0, o.0.1, s.0, s.1, subst (λ (body : Body). Has h (o.0.0, body)) s.2 f.1)

-- an operation that says something of a field leaves the field with a value
pub said_found : {T : Type 0} (says : Body → Option T) (v : T) (h : History Body) (t : StampValue) (body : Body) → Has h (t, body) → says body ≡ Some v → is_some (field says h) ≡ true
said_found {T} says v h t body k s = go (field says h) refl
  where
    go : (o : Option (StampValue × T)) → field says h ≡ o → is_some o ≡ true
    go None e = let n : says body ≡ None = field_none says h e t body k in cc
    go (Some c) e = refl

-- a set that has a Submit is that of a submitted job
pub submitted_from : (h : History Body) (t : StampValue) (owner : List ℕ) (values : JobValues) (held : Bool) → Has h (t, Submit owner values held) → is_submitted (job_view h) ≡ true
submitted_from h t owner values held k =
    let body = Submit owner values held in
    and_from _ _ (said_found owner_in owner h t body k refl)
    (and_from _ _ (said_found name_in values.name h t body k refl)
    (and_from _ _ (said_found priority_in values.priority h t body k refl)
    (and_from _ _ (said_found nodes_in values.nodes h t body k refl)
    (and_from _ _ (said_found limit_in values.limit h t body k refl) (said_found account_in values.account h t body k refl)))))
