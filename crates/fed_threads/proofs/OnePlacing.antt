-- There is only one placing, and only one settled list.
use Rattle.std.proofs.Common.{◌≡◌, ℕ, List, [], ◌∷◌, length, Bool, refl, sym, ap, ◌∙◌, arith, inl, inr}
use Rattle.fed_model.specs.declared.events.Event.{Event}
use Rattle.fed_threads.specs.declared.journal.Claim.{Claim}
use Rattle.fed_threads.specs.declared.journal.Entry.{Entry}
use Rattle.fed_threads.specs.Placing.{ComesFirst, IsPlacing}
use Rattle.fed_threads.specs.Settled.{starts, point_after}
use Rattle.fed_threads.specs.Settle.{IsSettled}

-- two lists of one length, of which each comes first, are equal
both_first : (xs ys : List ℕ) → length xs ≡ length ys → ComesFirst xs ys → ComesFirst ys xs → xs ≡ ys
both_first [] [] e f g = refl
both_first [] (y ∷ ys) e f g = absurd (omega arith)
both_first (x ∷ xs) [] e f g = absurd (omega arith)
both_first (x ∷ xs) (y ∷ ys) e (inl f) (inl g) = absurd (omega arith)
both_first (x ∷ xs) (y ∷ ys) e (inl f) (inr g) = absurd (let h = g.0 in omega arith)
both_first (x ∷ xs) (y ∷ ys) e (inr f) (inl g) = absurd (let h = f.0 in omega arith)
both_first (x ∷ xs) (y ∷ ys) e (inr f) (inr g) =
    ap (λ (n : ℕ). n ∷ xs) f.0 ∙ ap (λ (zs : List ℕ). y ∷ zs) (both_first xs ys (omega arith) f.1 g.1)

pub one_placing : (ready : List ℕ → ℕ → Bool) (start sites others : List ℕ)
    → IsPlacing ready start sites
    → IsPlacing ready start others
    → sites ≡ others
one_placing ready start sites others p q =
    let same : length sites ≡ length others = (let a = p.longest others q.orderly in let b = q.longest sites p.orderly in omega arith) in
    both_first sites others same (p.least others q.orderly (sym same)) (q.least sites p.orderly same)

pub one_settled : (journals : List (List Entry)) (seats : List (List Claim)) (events others : List Event)
    → IsSettled journals seats events
    → IsSettled journals seats others
    → events ≡ others
one_settled journals seats events others p q =
    p.events_are
    ∙ (ap (λ (sites : List ℕ). (point_after journals (starts journals) sites).events)
    (one_placing _ _ p.sites q.sites p.placing q.placing)
    ∙ sym q.events_are)
