-- What a site has retired is read as what it is the value of.
use Rattle.std.proofs.Common.{◌≡◌, ◌≤◌, ◌<◌, ◌+◌, ℕ, length, ltb, leb, true, List, [], ◌∷◌, Ok, refl, map, ap, subst, ◌∙◌, arith}
use Rattle.std.specs.List.{AllByRecursion}
use Rattle.std.proofs.lemmas.Bool.{and_parts, and_from, ltb-true, lt-ltb, leb-true, le-leb}
use Rattle.serde_json.specs.Data.{Data}
use Rattle.fed_stamp.specs.declared.stamps.TheConstants.{MAX_COUNTER}
use Rattle.fed_lattice.specs.Results.{mapped}
use Rattle.fed_lattice.proofs.ResultLaws.{bind_ok, mapped_ok}
use Rattle.fed_ranges.specs.declared.ranges.Range.{Range}
use Rattle.fed_ranges.specs.Ranges.{AreApart, IsCanonical}
use Rattle.fed_ranges.specs.Retirements.{EndBefore}
use Rattle.fed_model.specs.declared.capacities.TheConstants.{MAX_RANGES}
use Rattle.fed_model.specs.Ranges.{IsFrom, IsSite}
use Rattle.fed_json.specs.Reading.{both, where_true}
use Rattle.fed_json.specs.Numbers.{natural_value, natural_in}
use Rattle.fed_json.specs.Values.{list_value, elements_of, pair_of, pair_value, array_of}
use Rattle.fed_json.proofs.Forms.{IsForm}
use Rattle.fed_json.proofs.Steps.{both_ok, where_true_ok}
use Rattle.fed_json.proofs.NumberLaws.{natural_form}
use Rattle.fed_json.proofs.FormLaws.{elements_takes, pair_form, mapped_form, array_form}
use Rattle.fed_job_json.specs.Stamps.{site_of}
use Rattle.fed_job_json.proofs.StampLaws.{site_form}
use Rattle.fed_parts_json.specs.Retirements.{range_value, range_of, are_apart_before, are_some, RetiredSite, retirements_value, are_told, retirements_from, retirements_of, AreRetirements}

-- ---- ranges

abbrev IsOfCounters : Range → Type 0
IsOfCounters r = IsFrom 1 MAX_COUNTER r.first × IsFrom 1 MAX_COUNTER r.last

range_form : IsForm range_of range_value IsOfCounters
range_form = mapped_form (pair_of (natural_in 1 MAX_COUNTER) (natural_in 1 MAX_COUNTER)) (pair_value natural_value natural_value) (λ p. IsFrom 1 MAX_COUNTER p.0 × IsFrom 1 MAX_COUNTER p.1) (λ p. record { first = p.0; last = p.1 })
    range_value IsOfCounters
    (pair_form (natural_in 1 MAX_COUNTER) (natural_in 1 MAX_COUNTER) natural_value natural_value (IsFrom 1 MAX_COUNTER) (IsFrom 1 MAX_COUNTER) (natural_form 1 MAX_COUNTER) (natural_form 1 MAX_COUNTER))
    (λ p h. (refl, h)) (λ r h. ((r.first, r.last), h, refl))

ranges_form : IsForm (array_of range_of) (λ rs. list_value (map range_value rs)) (AllByRecursion IsOfCounters)
ranges_form = array_form range_of range_value IsOfCounters range_form

pub apart_where_true : (counter low : ℕ) (rs : List Range) → are_apart_before counter low rs ≡ true → AreApart low rs × EndBefore counter rs
apart_where_true counter low [] e = (tt, tt)
apart_where_true counter low (r ∷ rs) e =
    let a = and_parts (leb low r.first) _ e in
    let b = and_parts (leb r.first r.last) _ a.1 in
    let c = and_parts (ltb r.last counter) _ b.1 in
    let rest = apart_where_true counter (r.last + 2) rs c.1 in
    ((leb-true low r.first a.0, leb-true r.first r.last b.0, rest.0), (ltb-true r.last counter c.0, rest.1))

true_where_apart : (counter low : ℕ) (rs : List Range) → AreApart low rs → EndBefore counter rs → are_apart_before counter low rs ≡ true
true_where_apart counter low [] h k = refl
true_where_apart counter low (r ∷ rs) h k =
    and_from _ _ (le-leb low r.first h.0) (and_from _ _ (le-leb r.first r.last h.1) (and_from _ _ (lt-ltb r.last counter k.0) (true_where_apart counter (r.last + 2) rs h.2 k.1)))

-- ranges that ascend from a number on do so from a lesser one
pub from_lower : (low least : ℕ) (rs : List Range) → least ≤ low → AreApart low rs → AreApart least rs
from_lower low least [] less h = tt
from_lower low least (r ∷ rs) less h = ((let a : low ≤ r.first = h.0 in omega arith), h.1, h.2)

pub canonical_where_true : (counter : ℕ) (rs : List Range) → are_apart_before counter 1 rs ≡ true → IsCanonical rs
canonical_where_true counter rs e = from_lower 1 0 rs (omega arith) (apart_where_true counter 1 rs e).0

-- ranges that begin at 1 or later and end before a counter are of counters
of_counters : (counter low : ℕ) (rs : List Range) → counter ≤ MAX_COUNTER → 1 ≤ low → AreApart low rs → EndBefore counter rs → AllByRecursion IsOfCounters rs
of_counters counter low [] small least h k = tt
of_counters counter low (r ∷ rs) small least h k =
    let a : low ≤ r.first = h.0 in
    let b : r.first ≤ r.last = h.1 in
    let c : r.last < counter = k.0 in
    (((omega arith, omega arith), (omega arith, omega arith)), of_counters counter (r.last + 2) rs small (omega arith) h.2 k.1)

-- ---- a site with its ranges

abbrev put_together : ℕ × (ℕ × List Range) → RetiredSite
put_together p = (p.0, record { latest = p.1.0; ranges = p.1.1 })

three : (a b c x y z : Data) → a ≡ x → b ≡ y → c ≡ z → list_value (a ∷ b ∷ c ∷ []) ≡ list_value (x ∷ y ∷ z ∷ [])
three a b c x y z p q r = rw (p, q, r) refl

told : (r : RetiredSite) → IsSite r.0 → IsFrom 1 MAX_COUNTER r.1.latest → are_told r ≡ true → AreRetirements r
told r site counter e =
    let t = and_parts (are_some r.1.ranges) (are_apart_before r.1.latest 1 r.1.ranges) e in
    let n = and_parts (ltb 0 (length r.1.ranges)) (leb (length r.1.ranges) MAX_RANGES) t.0 in
    let apart = apart_where_true r.1.latest 1 r.1.ranges t.1 in
    let least : 0 < length r.1.ranges = ltb-true 0 (length r.1.ranges) n.0 in
    record {
      site = site;
      counter = counter;
      least = omega arith;
      most = leb-true (length r.1.ranges) MAX_RANGES n.1;
      apart = apart.0;
      before = apart.1;
    }

is_told : (r : RetiredSite) → AreRetirements r → are_told r ≡ true
is_told r h =
    let least : 1 ≤ length r.1.ranges = h.least in
    and_from _ _ (and_from _ _ (lt-ltb 0 (length r.1.ranges) (omega arith)) (le-leb (length r.1.ranges) MAX_RANGES h.most)) (true_where_apart r.1.latest 1 r.1.ranges h.apart h.before)

three_take : (a b c : Data) (r : RetiredSite) → retirements_from (a ∷ b ∷ c ∷ []) ≡ Ok r → (list_value (a ∷ b ∷ c ∷ []) ≡ retirements_value r) × AreRetirements r
three_take a b c r e =
    let i = bind_ok (mapped put_together (both (site_of a) (both (natural_in 1 MAX_COUNTER b) (array_of range_of c)))) (where_true are_told) r e in
    let u = where_true_ok are_told i.0 r (are_told i.0) refl i.2 in
    let m = mapped_ok (both (site_of a) (both (natural_in 1 MAX_COUNTER b) (array_of range_of c))) put_together i.0 i.1 in
    let p = both_ok (site_of a) (both (natural_in 1 MAX_COUNTER b) (array_of range_of c)) m.0 m.1 in
    let q = both_ok (natural_in 1 MAX_COUNTER b) (array_of range_of c) m.0.1 p.1 in
    let s = (site_form).takes a m.0.0 p.0 in
    let n = (natural_form 1 MAX_COUNTER).takes b m.0.1.0 q.0 in
    let l = (ranges_form).takes c m.0.1.1 q.1 in
    let fits : are_told (put_together m.0) ≡ true = ap are_told m.2 ∙ u.1 in
    subst (λ (r : RetiredSite). (list_value (a ∷ b ∷ c ∷ []) ≡ retirements_value r) × AreRetirements r) (m.2 ∙ u.0)
    (three a b c _ _ _ s.0 n.0 l.0, told (put_together m.0) s.1 n.1 fits)

from_takes : (ds : List Data) (r : RetiredSite) → retirements_from ds ≡ Ok r → (list_value ds ≡ retirements_value r) × AreRetirements r
from_takes (a ∷ b ∷ c ∷ []) r e = three_take a b c r e
from_takes [] r e = absurd cc
from_takes (a ∷ []) r e = absurd cc
from_takes (a ∷ b ∷ []) r e = absurd cc
from_takes (a ∷ b ∷ c ∷ d ∷ ds) r e = absurd cc

-- just the values of what a site may have retired are read
pub retirements_form : IsForm retirements_of retirements_value AreRetirements
unfolding retirements_of
retirements_form = record {
  takes = λ d r e.
      let l = bind_ok (elements_of d) retirements_from r e in
      let t = from_takes l.0 r l.2 in
      (elements_takes d l.0 l.1 ∙ t.0, t.1);
  again = λ r h.
      let ranged = of_counters r.1.latest 1 r.1.ranges h.counter.1 (omega arith) h.apart h.before in
      rw ((site_form).again r.0 h.site, (natural_form 1 MAX_COUNTER).again r.1.latest h.counter, (ranges_form).again r.1.ranges ranged, is_told r h) refl;
}
