-- The operations of a history as the model has them, and the parts of their changes.
use Rattle.std.specs.List.{cons_option}
use Rattle.std.proofs.Common.{◌≡◌, [], ◌∷◌, Option, option_map, refl, sym, ap, ap₂, ◌∙◌, inl, inr}
use Rattle.fed_stamp.specs.Stamp.{StampValue}
use Rattle.fed_stamp.specs.Version.{raised}
use Rattle.fed_lattice.specs.Sets.{Has}
use Rattle.fed_lattice.specs.History.{History, OneEach}
use Rattle.fed_lattice.specs.Part.{part}
use Rattle.fed_lattice.specs.Stamped.{stamped}
use Rattle.fed_lattice.specs.VersionOf.{version_of}
use Rattle.fed_record.specs.declared.operations.Operation.{Operation}
use Rattle.fed_model.specs.Body.{Body}
use Rattle.fed_record.specs.Changes.{always}
use Rattle.fed_record.specs.Operation.{body_of, bodies}

-- the part of a part
pub part-always : {C D E : Type 0} (f : D → Option E) (k : C → D) (h : History C) → part f (part (always k) h) ≡ part (λ c. f (k c)) h
part-always f k [] = refl
part-always {C} {D} {E} f k (e ∷ h) = ap (cons_option (option_map (λ (d : E). (e.0, d)) (f (k e.1)))) (part-always f k h)

pub part-bodies : {T : Type 0} (says : Body → Option T) (h : History Operation) → part says (bodies h) ≡ part (λ c. says (body_of c)) h
part-bodies says [] = refl
part-bodies {T} says (e ∷ h) = ap (cons_option (option_map (λ (d : T). (e.0, d)) (says (body_of e.1)))) (part-bodies says h)

pub part-stamped : {C T : Type 0} (f : C → Option T) (h : History C) → part (λ (e : StampValue × C). f e.1) (stamped h) ≡ part f h
part-stamped f [] = refl
part-stamped {C} {T} f (e ∷ h) = ap (cons_option (option_map (λ (d : T). (e.0, d)) (f e.1))) (part-stamped f h)

pub part-stamped_bodies : {T : Type 0} (says : StampValue × Body → Option T) (h : History Operation) → part says (stamped (bodies h)) ≡ part (λ (e : StampValue × Operation). says (e.0, body_of e.1)) (stamped h)
part-stamped_bodies says [] = refl
part-stamped_bodies {T} says (e ∷ h) = ap (cons_option (option_map (λ (d : T). (e.0, d)) (says (e.0, body_of e.1)))) (part-stamped_bodies says h)

pub version_of-bodies : (h : History Operation) → version_of (bodies h) ≡ version_of h
version_of-bodies [] = refl
version_of-bodies (e ∷ h) = ap (λ v. raised v e.0) (version_of-bodies h)

pub bodies-Has : (h : History Operation) (e : StampValue × Operation) → Has h e → Has (bodies h) (e.0, body_of e.1)
bodies-Has (x ∷ h) e (inl p) = inl (ap (λ (y : StampValue × Operation). (y.0, body_of y.1)) p)
bodies-Has (x ∷ h) e (inr i) = inr (bodies-Has h e i)
bodies-Has [] e i = absurd i

-- the operation behind a body
pub Has-bodies : (h : History Operation) (e : StampValue × Body) → Has (bodies h) e → (c : Operation) × Has h (e.0, c) × (body_of c ≡ e.1)
Has-bodies [] e i = absurd i
Has-bodies (x ∷ h) e (inl p) =
    let s : x.0 ≡ e.0 = ap (λ (y : StampValue × Body). y.0) p in
    (x.1, inl (ap (λ t. (t, x.1)) s), ap (λ (y : StampValue × Body). y.1) p)
Has-bodies (x ∷ h) e (inr i) = let r = Has-bodies h e i in (r.0, inr r.1, r.2)

pub one_each_bodies : (h : History Operation) → OneEach h → OneEach (bodies h)
one_each_bodies h one e f i j same =
    let a = Has-bodies h e i in
    let b = Has-bodies h f j in
    let p : (e.0, a.0) ≡ (f.0, b.0) = one (e.0, a.0) (f.0, b.0) a.1 b.1 same in
    ap₂ (λ (s : StampValue) (x : Body). (s, x)) same (sym a.2 ∙ ap (λ (y : StampValue × Operation). body_of y.1) p ∙ b.2)
