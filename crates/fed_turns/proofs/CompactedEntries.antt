-- The entries of a compacted journal are read as the site that wrote them.
use Rattle.std.specs.Prelude.{nat_lt, codes, drop, unwrap_or, if◌then◌else◌, Option, Some, None, Result, Ok, Err}
use Rattle.std.specs.List.{list_any}
use Rattle.std.specs.Result.{result_ok}
use Rattle.std.specs.Str.{bytes_eq}
use Rattle.std.proofs.Common.{◌≡◌, ℕ, zero, suc, ◌+◌, ◌<◌, ◌≤◌, Bool, true, false, List, [], ◌∷◌, ◌++◌, length, replicate, refl, sym, ap, ◌∙◌, add-one, inl, inr, arith}
use Rattle.std.proofs.lemmas.Bool.{cases_Bool, cond-true, lt-ltb}
use Rattle.std.proofs.lemmas.Slice.Eq.{bytes_eq-Decides}
use Rattle.serde_json.specs.Written.{compact_text}
use Rattle.fed_stamp.specs.Roster.{IsRoster}
use Rattle.fed_stamp.specs.Version.{is_below}
use Rattle.fed_lattice.specs.History.{History}
use Rattle.fed_model.specs.Body.{Body}
use Rattle.fed_model.specs.Limits.{IsWithinLimits}
use Rattle.fed_model.specs.View.{view}
use Rattle.fed_job_json.specs.declared.formats.Format.TheVariants.{Two}
use Rattle.fed_wire.specs.Packet.{packet_value}
use Rattle.fed_replica.specs.State.{State, hearing}
use Rattle.fed_site.specs.Known.{IsHeardOf, known_in, unheard}
use Rattle.fed_site.specs.Rosters.{roster_after}
use Rattle.fed_site.specs.Says.{site_says}
use Rattle.fed_site.proofs.HeardLines.{heard_upto, heard_upto_all, heard_upto_none, passed, same_roster, taken}
use Rattle.fed_site.proofs.RosterLines.{IsUnreserved}
use Rattle.fed_home.specs.declared.faults.HomeFault.{HomeFault}
use Rattle.fed_home.specs.declared.faults.HomeFault.TheVariants.{UnreadHeard}
use Rattle.fed_home.specs.declared.headers.Header.{Header}
use Rattle.fed_home.specs.Compaction.{heard_texts}
use Rattle.fed_home.specs.Header.{header_text}
use Rattle.fed_home.specs.Replay.{Replayed, after_heard, after_known, begun_by, heard_text, replay}
use Rattle.fed_turns.proofs.HeaderWords.{header_back}

-- ---- the texts of what was heard, from that of a site on
abbrev texts_from : State → ℕ → ℕ → List (List ℕ)
texts_from s k zero = []
texts_from s k (suc n) = heard_text s k ∷ texts_from s (suc k) n

texts_more : (s : State) (k n : ℕ) → texts_from s k (suc n) ≡ texts_from s k n ++ heard_text s (k + n) ∷ []
texts_more s k zero = ap (λ j. heard_text s j ∷ []) (let e : k ≡ k + 0 = omega arith in e)
texts_more s k (suc n) =
    ap (λ l. heard_text s k ∷ l) (texts_more s (suc k) n)
    ∙ ap (λ j. heard_text s k ∷ (texts_from s (suc k) n ++ heard_text s j ∷ [])) (let e : suc k + n ≡ k + suc n = omega arith in e)

texts_are : (s : State) (n : ℕ) → heard_texts s n ≡ texts_from s 0 n
texts_are s zero = refl
texts_are s (suc n) =
    ap (λ l. l ++ heard_text s n ∷ []) (texts_are s n)
    ∙ ap (λ j. texts_from s 0 n ++ heard_text s j ∷ []) (let e : n ≡ 0 + n = omega arith in e)
    ∙ sym (texts_more s 0 n)

-- what is written of what was heard of a site, where that is nothing or isn't
abbrev pub text_if : Bool → State → ℕ → List ℕ
text_if nothing s k = unwrap_or (if nothing then None else Some (codes "take " ++ compact_text (packet_value Two (hearing s k)))) []

module _ (roster : List (List ℕ × ℕ)) (few : length roster ≤ 16) (s : State) (ops : History Body) (within : IsWithinLimits ops) (is : s.view ≡ view ops)
    (known : list_any (λ counter. nat_lt 0 counter) (drop (length roster) s.view.version) ≡ false) (h : IsHeardOf roster s) where
  abbrev read_to : ℕ → Result Replayed HomeFault
  read_to k = Ok (record { roster = roster; state = heard_upto s k })

  module _ (k : ℕ) (small : k < length roster) where
    answered : (site_says roster (heard_upto s k) (heard_text s k)).after ≡ heard_upto s (suc k)
    answered = elim (cases_Bool (is_below (s.heard k) (replicate 16 0))) [
      | inl none ↦ ap (λ b. (site_says roster (heard_upto s k) (text_if b s k)).after) none ∙ passed roster few s ops within is known h k none
      | inr some ↦ ap (λ b. (site_says roster (heard_upto s k) (text_if b s k)).after) some ∙ taken roster few s ops within is known h k small
    ]

    unchanged : roster_after roster (heard_text s k) ≡ roster
    unchanged = elim (cases_Bool (is_below (s.heard k) (replicate 16 0))) [
      | inl none ↦ ap (λ b. roster_after roster (text_if b s k)) none
      | inr some ↦ ap (λ b. roster_after roster (text_if b s k)) some ∙ same_roster roster few s ops within is known h k small
    ]

    -- what is written of what was heard of a site depends on that alone
    written_again : bytes_eq (heard_text (site_says roster (heard_upto s k) (heard_text s k)).after k) (heard_text s k) ≡ true
    written_again =
        let now : (heard_upto s (suc k)).heard k ≡ s.heard k = cond-true (nat_lt k (suc k)) (s.heard k) (replicate 16 0) (lt-ltb k (suc k) (omega arith)) in
        (bytes_eq-Decides (heard_text (site_says roster (heard_upto s k) (heard_text s k)).after k) (heard_text s k)).1
        (ap (λ t. heard_text t k) answered ∙ ap (λ (v : List ℕ). heard_text (record s { heard = λ from. v }) k) now)

  read_from : (k n : ℕ) → k + n ≡ length roster → after_heard n k roster (heard_upto s k) (texts_from s k n) ≡ read_to (length roster)
  read_from k zero e = ap read_to (let f : k ≡ length roster = omega arith in f)
  read_from k (suc n) e =
      let small : k < length roster = omega arith in
      let rest = texts_from s (suc k) n in
      let after : State = (site_says roster (heard_upto s k) (heard_text s k)).after in
      ap (λ (b : Bool). if b then after_heard n (k + 1) (roster_after roster (heard_text s k)) after rest else Err (UnreadHeard (3 + k))) (written_again k small)
      ∙ (λ i. after_heard n (add-one k i) (unchanged k small i) (answered k small i) rest)
      ∙ read_from (suc k) n (omega arith)

  heard_read : after_heard (length roster) 0 roster (unheard s) (heard_texts s (length roster)) ≡ Ok (record { roster = roster; state = s })
  heard_read =
      (λ i. after_heard (length roster) 0 roster (heard_upto_none roster few s ops within is known h i) (texts_are s (length roster) i))
      ∙ read_from 0 (length roster) (omega arith)
      ∙ ap (λ t. Ok (record { roster = roster; state = t })) (heard_upto_all roster few s ops within is known h (length roster) (omega arith))

  -- the header, what the site knows, and what it has heard of each site of its roster
  pub entries_read : IsRoster roster → s.site < length roster → IsUnreserved roster → (text : List ℕ) → known_in roster s.site text ≡ Some (unheard s)
      → replay (header_text roster s.site ∷ (text ∷ heard_texts s (length roster))) ≡ Some (record { roster = roster; state = s })
  entries_read lawful own free text knows =
      let texts = heard_texts s (length roster) in
      ap (λ (o : Option Header). result_ok (begun_by (text ∷ texts) o)) (header_back roster lawful s.site own free)
      ∙ ap (λ (o : Option State). result_ok (after_known o (λ t. after_heard (length roster) 0 roster t texts))) knows
      ∙ ap result_ok heard_read
