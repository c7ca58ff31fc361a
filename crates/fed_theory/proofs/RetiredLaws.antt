-- Which jobs are retired: in unions, once one operation more is there, and by which operations.
use Rattle.std.proofs.Common.{◌≡◌, ℕ, ◌≤◌, ◌==◌, [], ◌∷◌, ◌++◌, Bool, true, false, ◌||◌, refl, ◌∙◌, arith}
use Rattle.std.proofs.lemmas.Bool.{and_parts, eqb-true, leb-true}
use Rattle.std.proofs.lemmas.List.Folds.{list_any-append}
use Rattle.fed_stamp.specs.Stamp.{StampValue}
use Rattle.fed_lattice.specs.Sets.{Has, Includes}
use Rattle.fed_lattice.specs.SetLaws.{found, any_from}
use Rattle.fed_lattice.specs.History.{History}
use Rattle.fed_model.specs.Body.{Body, Body.Retire}
use Rattle.fed_model.specs.Retired.{is_within, retires, is_retired, is_retire}

or_false : (a b : Bool) → (a || (b || false)) ≡ (a || b)
or_false a b = grind arith

pub retired_union : (ops others : History Body) (job : StampValue) → is_retired (ops ++ others) job ≡ (is_retired ops job || is_retired others job)
retired_union ops others job = list_any-append (retires job) ops others

pub retired_pushed : (ops : History Body) (e : StampValue × Body) (job : StampValue) → is_retired (ops ++ e ∷ []) job ≡ (is_retired ops job || retires job e)
retired_pushed ops e job = list_any-append (retires job) ops (e ∷ []) ∙ or_false (is_retired ops job) (retires job e)

-- the Retire that retires a job
pub record IsRetirement (e : StampValue × Body) (job : StampValue) : Type 0 where
  pub first : ℕ
  pub last : ℕ
  pub is : e ≡ (e.0, Retire first last)
  pub site : e.0.site ≡ job.site
  pub low : first ≤ job.counter
  pub high : job.counter ≤ last
  pub counted : is_retire e ≡ true

pub retirement : (e : StampValue × Body) (job : StampValue) → retires job e ≡ true → IsRetirement e job
retirement (t, Retire first last) job r =
    let a = and_parts (t.site == job.site) (is_within first last job.counter) r in
    let b = and_parts _ _ a.1 in
    record {
      first = first;
      last = last;
      is = refl;
      site = eqb-true t.site job.site a.0;
      low = leb-true first job.counter b.0;
      high = leb-true job.counter last b.1;
      counted = refl;
    }
retirement (t, _) job r = cc

pub retired_by : (ops : History Body) (job : StampValue) (e : StampValue × Body) → Has ops e → retires job e ≡ true → is_retired ops job ≡ true
retired_by ops job e h r = any_from (retires job) ops e h r

pub retiring : (ops : History Body) (job : StampValue) → is_retired ops job ≡ true → (e : StampValue × Body) × Has ops e × (retires job e ≡ true)
retiring ops job e = found (retires job) ops e

pub retired_more : (ops more : History Body) (job : StampValue) → Includes more ops → is_retired ops job ≡ true → is_retired more job ≡ true
retired_more ops more job includes e = let f = retiring ops job e in retired_by more job f.0 (includes f.0 f.1) f.2
