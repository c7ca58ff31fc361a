-- That the parts of a job's fields tell them apart.
use Rattle.std.specs.Prelude.{Bool, ◌&&◌}
use Rattle.std.proofs.Common.{ap}
use Rattle.fed_lattice.specs.Exact.{TellsApart}
use Rattle.fed_lattice.specs.ExactLaws.{tells_pairs}
use Rattle.fed_model.specs.declared.fields.Fields.{Fields}

-- all parts are the same
abbrev pub same_fields : {A B C D E F : Type 0} → (A → A → Bool) → (B → B → Bool) → (C → C → Bool) → (D → D → Bool) → (E → E → Bool) → (F → F → Bool)
    → Fields A B C D E F → Fields A B C D E F → Bool
same_fields a b c d e f x y =
    b x.name y.name && (f x.account y.account && (a x.owner y.owner && (c x.priority y.priority && (d x.nodes y.nodes && e x.limit y.limit))))

pub tells_fields : {A B C D E F : Type 0} (a : A → A → Bool) (b : B → B → Bool) (c : C → C → Bool) (d : D → D → Bool) (e : E → E → Bool) (f : F → F → Bool)
    → TellsApart a → TellsApart b → TellsApart c → TellsApart d → TellsApart e → TellsApart f → TellsApart (same_fields a b c d e f)
tells_fields {A} {B} {C} {D} {E} {F} a b c d e f ta tb tc td te tf x y =
    let parts : Fields A B C D E F → B × (F × (A × (C × (D × E)))) = λ z. (z.name, (z.account, (z.owner, (z.priority, (z.nodes, z.limit))))) in
    let t = tells_pairs b _ tb (tells_pairs f _ tf (tells_pairs a _ ta (tells_pairs c _ tc (tells_pairs d e td te)))) (parts x) (parts y) in (
      λ p. ap (λ (q : B × (F × (A × (C × (D × E))))).
          let r : Fields A B C D E F = record { name = q.0; account = q.1.0; owner = q.1.1.0; priority = q.1.1.1.0; nodes = q.1.1.1.1.0; limit = q.1.1.1.1.1 } in r) (t.0 p),
      λ p. t.1 (ap parts p),
    )
