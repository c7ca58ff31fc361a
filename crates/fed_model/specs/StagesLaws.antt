-- That the parts of a job's stages tell them apart.
use Rattle.std.specs.Prelude.{Bool, ◌&&◌}
use Rattle.std.proofs.Common.{ap}
use Rattle.fed_lattice.specs.Exact.{TellsApart}
use Rattle.fed_lattice.specs.ExactLaws.{tells_pairs}
use Rattle.fed_model.specs.declared.stages.Stages.{Stages}

-- all parts are the same
abbrev pub same_stages : {A B C D : Type 0} → (A → A → Bool) → (B → B → Bool) → (C → C → Bool) → (D → D → Bool)
    → Stages A B C D → Stages A B C D → Bool
same_stages a b c d x y = a x.deleted y.deleted && (b x.grant y.grant && (c x.begun y.begun && d x.finished y.finished))

pub tells_stages : {A B C D : Type 0} (a : A → A → Bool) (b : B → B → Bool) (c : C → C → Bool) (d : D → D → Bool)
    → TellsApart a → TellsApart b → TellsApart c → TellsApart d → TellsApart (same_stages a b c d)
tells_stages {A} {B} {C} {D} a b c d ta tb tc td x y =
    let parts : Stages A B C D → A × (B × (C × D)) = λ z. (z.deleted, (z.grant, (z.begun, z.finished))) in
    let t = tells_pairs a _ ta (tells_pairs b _ tb (tells_pairs c d tc td)) (parts x) (parts y) in (
      λ p. ap (λ (q : A × (B × (C × D))).
          let r : Stages A B C D = record { deleted = q.0; grant = q.1.0; begun = q.1.1.0; finished = q.1.1.1 } in r) (t.0 p),
      λ p. t.1 (ap parts p),
    )
