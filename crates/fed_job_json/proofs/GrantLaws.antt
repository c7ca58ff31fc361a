-- Stages of grants are read as what they are the values of.
use Rattle.std.proofs.Common.{◌≡◌, length, ℕ, false, List, [], ◌∷◌, Ok, Err, refl, sym, ap, subst, ◌∙◌, arith}
use Rattle.std.specs.Prelude.{codes, is_some}
use Rattle.serde_json.specs.Find.{as_null}
use Rattle.serde_json.specs.Data.{Data}
use Rattle.fed_lattice.proofs.ResultLaws.{bind_ok, mapped_ok, when_ok}
use Rattle.fed_model.specs.declared.grants.GrantStage.{GrantStage}
use Rattle.fed_model.specs.declared.grants.GrantStage.TheVariants.{Open, Returned}
use Rattle.fed_model.specs.declared.terms.TheConstants.{MAX_TERM}
use Rattle.fed_json.specs.declared.flaws.Flaw.TheVariants.{Shape}
use Rattle.fed_json.specs.Reading.{both}
use Rattle.fed_json.specs.Values.{list_value, elements_of, is_word}
use Rattle.fed_json.proofs.Forms.{IsForm}
use Rattle.fed_json.proofs.Steps.{both_ok}
use Rattle.fed_json.proofs.NumberLaws.{natural_form}
use Rattle.fed_json.proofs.FormLaws.{elements_takes, word_takes, or_null_form}
use Rattle.fed_job_json.specs.declared.formats.Format.{Format}
use Rattle.fed_job_json.specs.declared.formats.Format.TheVariants.{One, Two}
use Rattle.fed_job_json.specs.Stamps.{stamp_of, site_of}
use Rattle.fed_job_json.specs.Grants.{stage_value, term_of, open_of, returned_of, stage_from, stage_of, IsStage, grant_value, grant_of, IsGrant}
use Rattle.fed_job_json.proofs.StampLaws.{site_form, stamp_form}

two : (a b x y : Data) → a ≡ x → b ≡ y → list_value (a ∷ b ∷ []) ≡ list_value (x ∷ y ∷ [])
two a b x y p q = rw (p, q) refl

three : (a b c x y z : Data) → a ≡ x → b ≡ y → c ≡ z → list_value (a ∷ b ∷ c ∷ []) ≡ list_value (x ∷ y ∷ z ∷ [])
three a b c x y z p q r = rw (p, q, r) refl

pub four : (a b c d x y z w : Data) → a ≡ x → b ≡ y → c ≡ z → d ≡ w → list_value (a ∷ b ∷ c ∷ d ∷ []) ≡ list_value (x ∷ y ∷ z ∷ w ∷ [])
four a b c d x y z w p q r s = rw (p, q, r, s) refl

abbrev Taken : Format → List Data → GrantStage → Type 0
Taken format ds g = (list_value ds ≡ stage_value format g) × IsStage format g

one_takes : (stamp site : Data) (g : GrantStage) → stage_from One (stamp ∷ site ∷ []) ≡ Ok g → Taken One (stamp ∷ site ∷ []) g
one_takes stamp site g e =
    let m = mapped_ok (both (stamp_of stamp) (site_of site)) (λ p. Open 1 p.0 p.1) g e in
    let r = both_ok (stamp_of stamp) (site_of site) m.0 m.1 in
    let s = (stamp_form).takes stamp m.0.0 r.0 in
    let k = (site_form).takes site m.0.1 r.1 in
    subst (λ (g : GrantStage). Taken One (stamp ∷ site ∷ []) g) m.2 (two stamp site _ _ s.0 k.0, (refl, s.1, k.1))

open_takes : (word term stamp site : Data) (g : GrantStage) → stage_from Two (word ∷ term ∷ stamp ∷ site ∷ []) ≡ Ok g → Taken Two (word ∷ term ∷ stamp ∷ site ∷ []) g
open_takes word term stamp site g e =
    let w = when_ok (is_word (codes "open") word) Shape (open_of term stamp site) g e in
    let m = mapped_ok (both (term_of term) (both (stamp_of stamp) (site_of site))) (λ p. Open p.0 p.1.0 p.1.1) g w.1 in
    let r = both_ok (term_of term) (both (stamp_of stamp) (site_of site)) m.0 m.1 in
    let q = both_ok (stamp_of stamp) (site_of site) m.0.1 r.1 in
    let t = (natural_form 1 MAX_TERM).takes term m.0.0 r.0 in
    let s = (stamp_form).takes stamp m.0.1.0 q.0 in
    let k = (site_form).takes site m.0.1.1 q.1 in
    subst (λ (g : GrantStage). Taken Two (word ∷ term ∷ stamp ∷ site ∷ []) g) m.2 (four word term stamp site _ _ _ _ (word_takes (codes "open") word w.0) t.0 s.0 k.0, (t.1, s.1, k.1))

returned_takes : (word term stamp : Data) (g : GrantStage) → stage_from Two (word ∷ term ∷ stamp ∷ []) ≡ Ok g → Taken Two (word ∷ term ∷ stamp ∷ []) g
returned_takes word term stamp g e =
    let w = when_ok (is_word (codes "returned") word) Shape (returned_of term stamp) g e in
    let m = mapped_ok (both (term_of term) (stamp_of stamp)) (λ p. Returned p.0 p.1) g w.1 in
    let r = both_ok (term_of term) (stamp_of stamp) m.0 m.1 in
    let t = (natural_form 1 MAX_TERM).takes term m.0.0 r.0 in
    let s = (stamp_form).takes stamp m.0.1 r.1 in
    subst (λ (g : GrantStage). Taken Two (word ∷ term ∷ stamp ∷ []) g) m.2 (three word term stamp _ _ _ (word_takes (codes "returned") word w.0) t.0 s.0, (t.1, s.1))

from_takes : (format : Format) (ds : List Data) (g : GrantStage) → stage_from format ds ≡ Ok g → Taken format ds g
from_takes One (a ∷ b ∷ []) g e = one_takes a b g e
from_takes One [] g e = absurd cc
from_takes One (a ∷ []) g e = absurd cc
from_takes One (a ∷ b ∷ c ∷ ds) g e = absurd cc
from_takes Two (a ∷ b ∷ c ∷ d ∷ []) g e = open_takes a b c d g e
from_takes Two (a ∷ b ∷ c ∷ []) g e = returned_takes a b c g e
from_takes Two [] g e = absurd cc
from_takes Two (a ∷ []) g e = absurd cc
from_takes Two (a ∷ b ∷ []) g e = absurd cc
from_takes Two (a ∷ b ∷ c ∷ d ∷ f ∷ ds) g e = absurd cc

stage_again : (format : Format) (g : GrantStage) → IsStage format g → stage_of format (stage_value format g) ≡ Ok g
stage_again One (Open term stamp site) h = rw ((stamp_form).again stamp h.1, (site_form).again site h.2) (ap (λ (t : ℕ). Ok (Open t stamp site)) (sym h.0))
stage_again One (Returned term stamp) h = absurd h
stage_again Two (Open term stamp site) h = rw ((natural_form 1 MAX_TERM).again term h.0, (stamp_form).again stamp h.1, (site_form).again site h.2) refl
stage_again Two (Returned term stamp) h = rw ((natural_form 1 MAX_TERM).again term h.0, (stamp_form).again stamp h.1) refl

stage_form : (format : Format) → IsForm (stage_of format) (stage_value format) (IsStage format)
stage_form format = record {
  takes = λ d g e.
      let l = bind_ok (elements_of d) (stage_from format) g e in
      let t = from_takes format l.0 g l.2 in
      (elements_takes d l.0 l.1 ∙ t.0, t.1);
  again = stage_again format;
}

some : (format : Format) (g : GrantStage) → is_some (as_null (stage_value format g)) ≡ false
some One (Open term stamp site) = refl
some One (Returned term stamp) = refl
some Two (Open term stamp site) = refl
some Two (Returned term stamp) = refl

pub grant_form : (format : Format) → IsForm (grant_of format) (grant_value format) (IsGrant format)
grant_form format = or_null_form (stage_of format) (stage_value format) (IsStage format) (stage_form format) (some format)

no_stage : (ds : List Data) → (length ds ≡ 3 → ⊥) → (length ds ≡ 4 → ⊥) → stage_from Two ds ≡ Err Shape
no_stage [] n m = refl
no_stage (w ∷ []) n m = refl
no_stage (w ∷ a ∷ []) n m = refl
no_stage (w ∷ a ∷ b ∷ []) n m = absurd (n (omega arith))
no_stage (w ∷ a ∷ b ∷ c ∷ []) n m = absurd (m (omega arith))
no_stage (w ∷ a ∷ b ∷ c ∷ d ∷ ds) n m = refl

-- arrays of other lengths
pub stage_default : (d : Data) (ds : List Data) → Ok ds ≡ elements_of d → (length ds ≡ 3 → ⊥) → (length ds ≡ 4 → ⊥) → Err Shape ≡ stage_of Two d
stage_default d ds e n m = rw (← e) (sym (no_stage ds n m))
