-- A site all of whose jobs are settled can retire them all at once.
use Rattle.std.specs.Prelude.{count_by, is_some, cond, if◌then◌else◌, nat_le, nat_lt, not, ◌&&◌, ◌||◌, ◌==◌, Some, None, Result, Ok, Err}
use Rattle.std.specs.List.{range_with_len}
use Rattle.std.proofs.Common.{◌≡◌, ℕ, zero, suc, ◌+◌, ◌≤◌, ◌<◌, [], ◌∷◌, ◌++◌, Bool, true, false, refl, ap, inl, inr, arith}
use Rattle.std.proofs.lemmas.Bool.{and_from, cases_Bool, both_ways, eq-eqb, le-leb, or_right, le-ltb, lt-leb, or_from}
use Rattle.fed_stamp.specs.Stamp.{StampValue}
use Rattle.fed_stamp.specs.declared.versions.ClockFull.{ClockFull}
use Rattle.fed_stamp.specs.declared.stamps.TheConstants.{MAX_COUNTER}
use Rattle.fed_stamp.specs.Version.{counter_of, greatest, next_stamp}
use Rattle.fed_lattice.specs.Sets.{Has}
use Rattle.fed_lattice.specs.SetLaws.{Has-last, Has-push}
use Rattle.fed_lattice.specs.History.{History}
use Rattle.fed_lattice.specs.VersionOf.{version_of}
use Rattle.fed_lattice.proofs.VersionOfLaws.{version_of-Has}
use Rattle.fed_model.specs.declared.askers.Who.{Who}
use Rattle.fed_model.specs.declared.commands.Command.{Command}
use Rattle.fed_model.specs.declared.refusals.Refusal.{Refusal}
use Rattle.fed_model.specs.declared.replies.Reply.{Reply}
use Rattle.fed_model.specs.declared.capacities.TheConstants.{MAX_RANGES}
use Rattle.fed_model.specs.Body.{Body, Body.Submit, Body.Reserve, Body.Retire}
use Rattle.fed_model.specs.Letter.{is_submitted}
use Rattle.fed_model.specs.Lawful.{IsLawful}
use Rattle.fed_model.specs.Origin.{jobs_of, ranges_with, reservations_of}
use Rattle.fed_model.specs.Retired.{is_within, is_retired, retires, starts}
use Rattle.fed_model.specs.View.{view}
use Rattle.fed_model.specs.Answer.{Answer.Replies, answer, answer_to, answer_unless, replies, effect}
use Rattle.fed_model.specs.Desk.{first_of}
use Rattle.fed_model.specs.Refusals.{refusals, is_bad_range, is_clock_full, has_unsettled}
use Rattle.fed_theory.proofs.OriginCounts.{first_counted, identifier, bit_most}
use Rattle.fed_theory.proofs.RetiredLaws.{retired_by}
use Rattle.fed_theory.proofs.SubmitLaws.{submit_of, unretired, reserve_of, standing_whole}

-- where no number passes
none_counted : (p : ℕ → Bool) (n a : ℕ) → ((k : ℕ) → a ≤ k → k < a + n → p k ≡ false) → count_by p (range_with_len a n) ≡ 0
none_counted p zero a none = refl
none_counted p (suc n) a none =
    let rest : count_by p (range_with_len (a + 1) n) ≡ 0 = none_counted p n (a + 1) (λ k low high. none k (omega arith) (omega arith)) in
    let head : ◌≡◌ {A = ℕ} (cond (p a) 1 0) 0 = ap (λ b. cond {A = ℕ} b 1 0) (none a (omega arith) (omega arith)) in
    omega (arith, first_counted p a n)

module _ (ops : History Body) (l : IsLawful ops) (here : ℕ) where
  abbrev most : ℕ
  most = counter_of (version_of ops) here

  -- all ranges are one then
  one_range : ranges_with (view ops) here 1 most ≤ 1
  one_range =
      let p : ℕ → Bool = λ k. starts (λ id. is_retired ops id || is_within 1 most id.counter) (identifier here k) in
      let rest : count_by p (range_with_len 1 most) ≡ 0 = none_counted p most 1 inside in
      let head = bit_most (p 0) in omega (arith, first_counted p 0 most)
    where
      inside : (k : ℕ) → 1 ≤ k → k < 1 + most → starts (λ id. is_retired ops id || is_within 1 most id.counter) (identifier here k) ≡ false
      inside k low high =
          let w : is_within 1 most k ≡ true = and_from (nat_le 1 k) (nat_le k most) (le-leb 1 k low) (le-leb k most (omega arith)) in
          let r : (is_retired ops (identifier here k) || is_within 1 most k) ≡ true = or_right (is_retired ops (identifier here k)) (is_within 1 most k) w in
          ap (λ b. not b && (is_retired ops (identifier here (suc k)) || is_within 1 most (suc k))) r

  -- where a stamp is left
  clock_left : (t : StampValue) → next_stamp (version_of ops) here ≡ Ok t → is_clock_full (view ops) ≡ false
  clock_left t e = go (nat_lt (greatest (version_of ops)) MAX_COUNTER) e
    where
      go : (b : Bool) → ◌≡◌ {A = Result StampValue ClockFull} (cond b (Ok (record { counter = greatest (version_of ops) + 1; site = here })) (Err (record {}))) (Ok t) → not b ≡ false
      go true f = refl
      go false f = cc

  -- a Retire that isn't refused
  pub retire_done : (who : Who) (first last : ℕ) (t : StampValue) → next_stamp (version_of ops) here ≡ Ok t → 1 ≤ first → first ≤ last → last ≤ most → ranges_with (view ops) here first last ≤ MAX_RANGES → has_unsettled (view ops) here first last ≡ false
      → answer ops here who (Command.Retire first last) ≡ Replies Reply.Done (Some (t, Retire first last))
  unfolding answer_to
  retire_done who first last t next low some high few settled =
      let room : nat_lt MAX_RANGES (ranges_with (view ops) here first last) ≡ false = le-ltb MAX_RANGES (ranges_with (view ops) here first last) few in
      let good : is_bad_range (view ops) here first last ≡ false = or_from (nat_le first 0) (nat_lt last first || nat_lt most last) (lt-leb first 0 (omega arith)) (or_from (nat_lt last first) (nat_lt most last) (le-ltb last first some) (le-ltb most last high)) in
      let clear : first_of (refusals (view ops) here who (Command.Retire first last)) ≡ None =
      (λ i. if not (good i) && room i then Some Refusal.SiteFull else if clock_left t next i then Some Refusal.ClockFull else if or_from (is_bad_range (view ops) here first last) (has_unsettled (view ops) here first last) good settled i then Some Refusal.NotSettled else None) in
      (λ i. answer_unless (clear i) (replies (next i) (Command.Retire first last) (effect (view ops) who (Command.Retire first last))))

  -- the Retire of all is not refused
  pub emptied : (who : Who) (t : StampValue) → next_stamp (version_of ops) here ≡ Ok t → 1 ≤ most → has_unsettled (view ops) here 1 most ≡ false
      → answer ops here who (Command.Retire 1 most) ≡ Replies Reply.Done (Some (t, Retire 1 most))
  emptied who t next some settled = let few = one_range in retire_done who 1 most t next (omega arith) some (omega arith) (omega arith) settled

  -- and then the site has no job
  pub empty_then : (t : StampValue) → t.site ≡ here → here < 16 → ((e : StampValue × Body) → Has ops e → 1 ≤ e.0.counter) → jobs_of (view (ops ++ (t, Retire 1 most) ∷ [])) here ≡ 0
  empty_then t at small counted = none_counted (λ k. is_submitted ((view (ops ++ (t, Retire 1 most) ∷ [])).job (identifier here k))) (suc (counter_of (version_of (ops ++ (t, Retire 1 most) ∷ [])) here)) 0 (λ k low high. none k)
    where
      none : (k : ℕ) → is_submitted ((view (ops ++ (t, Retire 1 most) ∷ [])).job (identifier here k)) ≡ false
      none k = elim (cases_Bool (is_submitted ((view (ops ++ (t, Retire 1 most) ∷ [])).job (identifier here k)))) [
        | inr e ↦ e
        | inl e ↦ absurd (
            let more : History Body = ops ++ (t, Retire 1 most) ∷ [] in
            let s = submit_of more (identifier here k) e in
            elim (Has-push ops (t, Retire 1 most) (identifier here k, Submit s.0 s.1 s.2) s.3) [
              | inr q ↦ (let b : ◌≡◌ {A = Body} (Retire 1 most) (Submit s.0 s.1 s.2) = ap (λ (x : StampValue × Body). x.1) q in cc)
              | inl h ↦ (
                  let low : 1 ≤ k = counted _ h in
                  let high : k ≤ most = version_of-Has ops (identifier here k, Submit s.0 s.1 s.2) h small in
                  let w : is_within 1 most k ≡ true = and_from (nat_le 1 k) (nat_le k most) (le-leb 1 k low) (le-leb k most high) in
                  let r : retires (identifier here k) (t, Retire 1 most) ≡ true = and_from (t.site == here) (is_within 1 most k) (eq-eqb t.site here at) w in
                  both_ways _ (unretired more (identifier here k) e) (retired_by more (identifier here k) (t, Retire 1 most) (Has-last ops (t, Retire 1 most)) r))
            ])
      ]

  -- nor a reservation
  pub unreserved_then : (t : StampValue) → t.site ≡ here → IsLawful (ops ++ (t, Retire 1 most) ∷ []) → ((e : StampValue × Body) → Has ops e → 1 ≤ e.0.counter) → reservations_of (view (ops ++ (t, Retire 1 most) ∷ [])) here ≡ 0
  unreserved_then t at lawful counted = none_counted (λ k. is_some ((view (ops ++ (t, Retire 1 most) ∷ [])).reservation (identifier here k))) (suc (counter_of (version_of (ops ++ (t, Retire 1 most) ∷ [])) here)) 0 (λ k low high. none k)
    where
      none : (k : ℕ) → is_some ((view (ops ++ (t, Retire 1 most) ∷ [])).reservation (identifier here k)) ≡ false
      none k = elim (cases_Bool (is_some ((view (ops ++ (t, Retire 1 most) ∷ [])).reservation (identifier here k)))) [
        | inr e ↦ e
        | inl e ↦ absurd (
            let more : History Body = ops ++ (t, Retire 1 most) ∷ [] in
            let s = reserve_of more (identifier here k) lawful e in
            elim (Has-push ops (t, Retire 1 most) (identifier here k, Reserve s.0) s.1) [
              | inr q ↦ (let b : ◌≡◌ {A = Body} (Retire 1 most) (Reserve s.0) = ap (λ (x : StampValue × Body). x.1) q in cc)
              | inl h ↦ (
                  let low : 1 ≤ k = counted _ h in
                  let high : k ≤ most = version_of-Has ops (identifier here k, Reserve s.0) h (l.sites (identifier here k, Reserve s.0) h) in
                  let w : is_within 1 most k ≡ true = and_from (nat_le 1 k) (nat_le k most) (le-leb 1 k low) (le-leb k most high) in
                  let r : retires (identifier here k) (t, Retire 1 most) ≡ true = and_from (t.site == here) (is_within 1 most k) (eq-eqb t.site here at) w in
                  both_ways _ (standing_whole more (identifier here k) e).0 (retired_by more (identifier here k) (t, Retire 1 most) (Has-last ops (t, Retire 1 most)) r))
            ])
      ]
