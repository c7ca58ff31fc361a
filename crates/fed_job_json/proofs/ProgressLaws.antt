-- How far a job has come is read as what it is the value of.
use Rattle.std.proofs.Common.{◌≡◌, length, true, false, ltb, List, [], ◌∷◌, Option, Some, None, Ok, Err, refl, sym, ap, subst, ◌∙◌, arith}
use Rattle.std.specs.Prelude.{codes, is_some, IfSome}
use Rattle.std.proofs.lemmas.Bool.{ltb-true, lt-ltb}
use Rattle.serde_json.specs.Data.{Data, string}
use Rattle.serde_json.specs.Find.{as_null}
use Rattle.fed_stamp.specs.declared.rosters.TheConstants.{MAX_NODES}
use Rattle.fed_lattice.specs.Results.{mapped}
use Rattle.fed_lattice.proofs.ResultLaws.{bind_ok, mapped_ok, when_ok}
use Rattle.fed_model.specs.declared.moments.TheConstants.{MAX_END, MAX_MOMENT}
use Rattle.fed_model.specs.declared.beginnings.TheConstants.{MAX_STATUS}
use Rattle.fed_json.specs.declared.flaws.Flaw.TheVariants.{Shape}
use Rattle.fed_json.specs.Reading.{both, where_true}
use Rattle.fed_json.specs.Values.{list_value, elements_of, is_word, or_null, null_or}
use Rattle.fed_json.specs.Numbers.{natural_value, natural_in}
use Rattle.fed_json.proofs.Forms.{IsForm}
use Rattle.fed_json.proofs.Steps.{both_ok, where_true_ok}
use Rattle.fed_json.proofs.NumberLaws.{natural_form}
use Rattle.fed_json.proofs.FormLaws.{elements_takes, word_takes, or_null_form, mapped_form}
use Rattle.fed_job_json.specs.Stamps.{stamp_value, stamp_of}
use Rattle.fed_job_json.specs.Progress.{Begun, Finished, Steps, begun_values, done_value, ends_later, begun_of, finished_of, done_from, done_of, IsBegun, IsFinished, steps_from, progress_value, progress_of, IsProgress}
use Rattle.fed_job_json.proofs.StampLaws.{stamp_form}

four : (a b c d x y z w : Data) → a ≡ x → b ≡ y → c ≡ z → d ≡ w → (more : List Data) → a ∷ b ∷ c ∷ d ∷ more ≡ x ∷ y ∷ z ∷ w ∷ more
four a b c d x y z w p q r s more = rw (p, q, r, s) refl

begun_takes : (a b c d : Data) (g : Begun) → begun_of a b c d ≡ Ok g → ((more : List Data) → a ∷ b ∷ c ∷ d ∷ more ≡ begun_values g more) × IsBegun g
begun_takes a b c d g e =
    let i = bind_ok (mapped (λ p. (p.0, record { moment = p.1.0; nodes = p.1.1.0; end = p.1.1.1 })) (both (stamp_of a) (both (natural_in 0 MAX_MOMENT b) (both (natural_in 1 MAX_NODES c) (natural_in 0 MAX_END d))))) (where_true ends_later) g e in
    let u = where_true_ok ends_later i.0 g (ends_later i.0) refl i.2 in
    let m = mapped_ok (both (stamp_of a) (both (natural_in 0 MAX_MOMENT b) (both (natural_in 1 MAX_NODES c) (natural_in 0 MAX_END d)))) (λ p. (p.0, record { moment = p.1.0; nodes = p.1.1.0; end = p.1.1.1 })) i.0 i.1 in
    let r = both_ok (stamp_of a) (both (natural_in 0 MAX_MOMENT b) (both (natural_in 1 MAX_NODES c) (natural_in 0 MAX_END d))) m.0 m.1 in
    let q = both_ok (natural_in 0 MAX_MOMENT b) (both (natural_in 1 MAX_NODES c) (natural_in 0 MAX_END d)) m.0.1 r.1 in
    let t = both_ok (natural_in 1 MAX_NODES c) (natural_in 0 MAX_END d) m.0.1.1 q.1 in
    let s = (stamp_form).takes a m.0.0 r.0 in
    let k = (natural_form 0 MAX_MOMENT).takes b m.0.1.0 q.0 in
    let n = (natural_form 1 MAX_NODES).takes c m.0.1.1.0 t.0 in
    let l = (natural_form 0 MAX_END).takes d m.0.1.1.1 t.1 in
    let same : i.0 ≡ g = u.0 in
    let after : ltb m.0.1.0 m.0.1.1.1 ≡ true = ap ends_later m.2 ∙ u.1 in
    subst (λ (g : Begun). ((more : List Data) → a ∷ b ∷ c ∷ d ∷ more ≡ begun_values g more) × IsBegun g) (m.2 ∙ same)
    (four a b c d _ _ _ _ s.0 k.0 n.0 l.0, (s.1, k.1, n.1, l.1, ltb-true m.0.1.0 m.0.1.1.1 after))

begun_again : (g : Begun) → IsBegun g → begun_of (stamp_value g.0) (natural_value g.1.moment) (natural_value g.1.nodes) (natural_value g.1.end) ≡ Ok g
begun_again g h = rw ((stamp_form).again g.0 h.0, (natural_form 0 MAX_MOMENT).again g.1.moment h.1, (natural_form 1 MAX_NODES).again g.1.nodes h.2, (natural_form 0 MAX_END).again g.1.end h.3, lt-ltb g.1.moment g.1.end h.4) refl

three : (a b c x y z : Data) → a ≡ x → b ≡ y → c ≡ z → a ∷ b ∷ c ∷ [] ≡ x ∷ y ∷ z ∷ []
three a b c x y z p q r = rw (p, q, r) refl

finished_takes : (a b c : Data) (f : Finished) → finished_of a b c ≡ Ok f → (a ∷ b ∷ c ∷ [] ≡ stamp_value f.0 ∷ natural_value f.1.moment ∷ natural_value f.1.status ∷ []) × IsFinished f
finished_takes a b c f e =
    let m = mapped_ok (both (stamp_of a) (both (natural_in 0 MAX_MOMENT b) (natural_in 0 MAX_STATUS c))) (λ p. (p.0, record { moment = p.1.0; status = p.1.1 })) f e in
    let r = both_ok (stamp_of a) (both (natural_in 0 MAX_MOMENT b) (natural_in 0 MAX_STATUS c)) m.0 m.1 in
    let q = both_ok (natural_in 0 MAX_MOMENT b) (natural_in 0 MAX_STATUS c) m.0.1 r.1 in
    let s = (stamp_form).takes a m.0.0 r.0 in
    let k = (natural_form 0 MAX_MOMENT).takes b m.0.1.0 q.0 in
    let n = (natural_form 0 MAX_STATUS).takes c m.0.1.1 q.1 in
    subst (λ (f : Finished). (a ∷ b ∷ c ∷ [] ≡ stamp_value f.0 ∷ natural_value f.1.moment ∷ natural_value f.1.status ∷ []) × IsFinished f) m.2
    (three a b c _ _ _ s.0 k.0 n.0, (s.1, k.1, n.1))

finished_again : (f : Finished) → IsFinished f → finished_of (stamp_value f.0) (natural_value f.1.moment) (natural_value f.1.status) ≡ Ok f
finished_again f h = rw ((stamp_form).again f.0 h.0, (natural_form 0 MAX_MOMENT).again f.1.moment h.1, (natural_form 0 MAX_STATUS).again f.1.status h.2) refl

abbrev IsDone : Begun × Option Finished → Type 0
IsDone p = IsBegun p.0 × IfSome p.1 IsFinished

abbrev Taken : List Data → Begun × Option Finished → Type 0
Taken ds p = (list_value ds ≡ done_value p) × IsDone p

first : (w x : Data) (ds es : List Data) → w ≡ x → ds ≡ es → list_value (w ∷ ds) ≡ list_value (x ∷ es)
first w x ds es p q = rw (p, q) refl

five_take : (w a b c d : Data) (p : Begun × Option Finished) → done_from (w ∷ a ∷ b ∷ c ∷ d ∷ []) ≡ Ok p → Taken (w ∷ a ∷ b ∷ c ∷ d ∷ []) p
five_take w a b c d p e =
    let word = when_ok (is_word (codes "begun") w) Shape (mapped (λ g. (g, None)) (begun_of a b c d)) p e in
    let m = mapped_ok (begun_of a b c d) (λ g. (g, None)) p word.1 in
    let t = begun_takes a b c d m.0 m.1 in
    subst (λ (p : Begun × Option Finished). Taken (w ∷ a ∷ b ∷ c ∷ d ∷ []) p) m.2
    (first w (string (codes "begun")) (a ∷ b ∷ c ∷ d ∷ []) (begun_values m.0 []) (word_takes (codes "begun") w word.0) (t.0 []), (t.1, tt))

last_three : (g : Begun) (a b c : Data) (ds : List Data) → a ∷ b ∷ c ∷ [] ≡ ds → begun_values g (a ∷ b ∷ c ∷ []) ≡ begun_values g ds
last_three g a b c ds e = ap (begun_values g) e

eight_take : (w a b c d x y z : Data) (p : Begun × Option Finished) → done_from (w ∷ a ∷ b ∷ c ∷ d ∷ x ∷ y ∷ z ∷ []) ≡ Ok p → Taken (w ∷ a ∷ b ∷ c ∷ d ∷ x ∷ y ∷ z ∷ []) p
eight_take w a b c d x y z p e =
    let word = when_ok (is_word (codes "finished") w) Shape (mapped (λ q. (q.0, Some q.1)) (both (begun_of a b c d) (finished_of x y z))) p e in
    let m = mapped_ok (both (begun_of a b c d) (finished_of x y z)) (λ q. (q.0, Some q.1)) p word.1 in
    let r = both_ok (begun_of a b c d) (finished_of x y z) m.0 m.1 in
    let t = begun_takes a b c d m.0.0 r.0 in
    let f = finished_takes x y z m.0.1 r.1 in
    subst (λ (p : Begun × Option Finished). Taken (w ∷ a ∷ b ∷ c ∷ d ∷ x ∷ y ∷ z ∷ []) p) m.2
    (first w (string (codes "finished")) (a ∷ b ∷ c ∷ d ∷ x ∷ y ∷ z ∷ []) _ (word_takes (codes "finished") w word.0) (t.0 (x ∷ y ∷ z ∷ []) ∙ last_three m.0.0 x y z _ f.0), (t.1, f.1))

done_takes : (ds : List Data) (p : Begun × Option Finished) → done_from ds ≡ Ok p → Taken ds p
done_takes (w ∷ a ∷ b ∷ c ∷ d ∷ []) p e = five_take w a b c d p e
done_takes (w ∷ a ∷ b ∷ c ∷ d ∷ x ∷ y ∷ z ∷ []) p e = eight_take w a b c d x y z p e
done_takes [] p e = absurd cc
done_takes (w ∷ []) p e = absurd cc
done_takes (w ∷ a ∷ []) p e = absurd cc
done_takes (w ∷ a ∷ b ∷ []) p e = absurd cc
done_takes (w ∷ a ∷ b ∷ c ∷ []) p e = absurd cc
done_takes (w ∷ a ∷ b ∷ c ∷ d ∷ x ∷ []) p e = absurd cc
done_takes (w ∷ a ∷ b ∷ c ∷ d ∷ x ∷ y ∷ []) p e = absurd cc
done_takes (w ∷ a ∷ b ∷ c ∷ d ∷ x ∷ y ∷ z ∷ v ∷ ds) p e = absurd cc

done_again : (p : Begun × Option Finished) → IsDone p → done_of (done_value p) ≡ Ok p
done_again (g, None) h = rw (begun_again g h.0) refl
done_again (g, Some f) h = rw (begun_again g h.0, finished_again f h.1) refl

done_form : IsForm done_of done_value IsDone
done_form = record {
  takes = λ d p e.
      let l = bind_ok (elements_of d) done_from p e in
      let t = done_takes l.0 p l.2 in
      (elements_takes d l.0 l.1 ∙ t.0, t.1);
  again = done_again;
}

some : (p : Begun × Option Finished) → is_some (as_null (done_value p)) ≡ false
some (g, None) = refl
some (g, Some f) = refl

there : (o : Option (Begun × Option Finished)) → IfSome o IsDone → (null_or done_value o ≡ progress_value (steps_from o)) × IsProgress (steps_from o)
there None h = (refl, tt)
there (Some (g, None)) h = (refl, h.0)
there (Some (g, Some f)) h = (refl, (h.0, h.1))

back : (s : Steps) → IsProgress s → (o : Option (Begun × Option Finished)) × IfSome o IsDone × (steps_from o ≡ s)
back (None, None) h = (None, tt, refl)
back (None, Some f) h = absurd h
back (Some g, None) h = (Some (g, None), (h, tt), refl)
back (Some g, Some f) h = (Some (g, Some f), (h.0, h.1), refl)

pub progress_form : IsForm progress_of progress_value IsProgress
progress_form = mapped_form (or_null done_of) (null_or done_value) (λ o. IfSome o IsDone) steps_from progress_value IsProgress (or_null_form done_of done_value IsDone done_form some) there back

no_done : (ds : List Data) → (length ds ≡ 5 → ⊥) → (length ds ≡ 8 → ⊥) → done_from ds ≡ Err Shape
no_done [] n m = refl
no_done (w ∷ []) n m = refl
no_done (w ∷ a ∷ []) n m = refl
no_done (w ∷ a ∷ b ∷ []) n m = refl
no_done (w ∷ a ∷ b ∷ c ∷ []) n m = refl
no_done (w ∷ a ∷ b ∷ c ∷ d ∷ []) n m = absurd (n (omega arith))
no_done (w ∷ a ∷ b ∷ c ∷ d ∷ x ∷ []) n m = refl
no_done (w ∷ a ∷ b ∷ c ∷ d ∷ x ∷ y ∷ []) n m = refl
no_done (w ∷ a ∷ b ∷ c ∷ d ∷ x ∷ y ∷ z ∷ []) n m = absurd (m (omega arith))
no_done (w ∷ a ∷ b ∷ c ∷ d ∷ x ∷ y ∷ z ∷ v ∷ ds) n m = refl

-- arrays of other lengths
pub done_default : (d : Data) (ds : List Data) → Ok ds ≡ elements_of d → (length ds ≡ 5 → ⊥) → (length ds ≡ 8 → ⊥) → Err Shape ≡ done_of d
done_default d ds e n m = rw (← e) (sym (no_done ds n m))
