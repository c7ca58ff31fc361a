-- A group that isn't served.
use Rattle.std.specs.Prelude.{Option, Result, Ok, Err, IfErr, IfOk}
use Rattle.std.specs.Io.KnownBytes.{Appends}
use Rattle.std.specs.Str.Lines.{lines}
use Rattle.std.specs.declared.io.Error.{Error}
use Rattle.std.proofs.Common.{◌≡◌, ◌∙◌, Bool, true, false, ℕ, List, [], ◌∷◌, ◌++◌, ap, length, map, refl, subst, sym, ◌==◌}
use Rattle.fed_journal.specs.Device.{LeavesOnly}
use Rattle.fed_journal.specs.Journal.{entries_in}
use Rattle.fed_journal.specs.Lines.{recovered}
use Rattle.fed_home.specs.Fault.{StopsAnswers, is_in_doubt}
use Rattle.fed_home.specs.Home.{home_device}
use Rattle.fed_home.specs.declared.faults.HomeFault.{HomeFault}
use Rattle.fed_home.specs.declared.homes.Home.{Home}
use Rattle.fed_serve.specs.Inputs.{EndsLines, cut_line, given_as, lines_in}
use Rattle.fed_serve.specs.Served.{AreNotKept, IsStop, StopsAt, bytes_with}
use Rattle.fed_serve.specs.Written.{not_kept_bytes, not_kept_text}
use Rattle.fed_serve.specs.declared.faults.ServeFault.{ServeFault}
use Rattle.fed_serve.specs.declared.faults.ServeFault.TheVariants as serve
use Rattle.fed_serve.specs.declared.serving.Served.{Served}
use Rattle.fed_serve.specs.declared.serving.Served.TheVariants.{Ended, Long}
use Rattle.fed_serve.proofs.InputLines.{whole_lines}

-- as much is written to the lines as to what is given of them
text_of_given : (frames : Bool) (words : Option (List ℕ)) (given : List (List ℕ)) → not_kept_text frames words (map given_as given) ≡ not_kept_text frames words given
text_of_given frames words [] = refl
text_of_given frames words (line ∷ given) = ap (λ (bs : List ℕ). not_kept_bytes frames words ++ bs) (text_of_given frames words given)

not_kept_of : (frames : Bool) (text : List ℕ) (before after : Option (List ℕ)) → EndsLines text → AreNotKept frames (lines text) before after → AreNotKept frames (lines_in text) before after
not_kept_of frames text before after ends told =
    let same : not_kept_text frames told.0 (lines text) ≡ not_kept_text frames told.0 (lines_in text) = sym (ap (not_kept_text frames told.0) (whole_lines text ends) ∙ text_of_given frames told.0 (lines text)) in
    (told.0, told.1, subst (Appends before after) same told.2)

module _ {D : Type 0} (frames : Bool) (seen : D → List ℕ) (errors : D → List Error) (moment : D → ℕ) (left_since : D → ℕ → List ℕ → Type 0) where
  pub stops_at : (old new : Home D) (text : List ℕ) (before after : Option (List ℕ)) (cause : HomeFault) (fault : ServeFault) → EndsLines text → IsStop frames (lines text) before after cause fault
      → (is_in_doubt cause ≡ false → LeavesOnly moment left_since (home_device old) (home_device new) (λ c. recovered c ≡ Ok (entries_in (seen (home_device old)))))
      → StopsAnswers (errors (home_device old)) (errors (home_device new)) (bytes_with seen old (lines_in text)) cause
      → StopsAt frames seen errors moment left_since old new (lines_in text) before after fault
  stops_at old new text before after cause (serve.Home fault) ends stop nothing stops = (subst (λ (f : HomeFault). is_in_doubt f ≡ true) (sym stop.0) stop.1, stop.2)
  stops_at old new text before after cause (serve.NotKept fault) ends stop nothing stops = (
    not_kept_of frames text before after ends stop.2,
    nothing stop.1,
    (
      subst (λ (f : HomeFault). is_in_doubt f ≡ false) (sym stop.0) stop.1,
      (errors (home_device old), subst (StopsAnswers (errors (home_device old)) (errors (home_device new)) (bytes_with seen old (lines_in text))) (sym stop.0) stops),
    ),
  )
  stops_at old new text before after cause (serve.Write error) ends stop nothing stops = tt
  stops_at old new text before after cause (serve.Read error) ends stop nothing stops = absurd stop

-- the line that is given for one that was cut
pub cut_lines : (begun : List ℕ) → (length begun == 0) ≡ false → lines_in (0 ∷ 10 ∷ []) ≡ cut_line begun
cut_lines begun some = rw some refl

-- what holds whatever the fault is
pub whatever_fault : {A : Type 0} (r : Result A ServeFault) (P : Type 0) → P → IfErr r (λ fault. (cause : HomeFault) → fault ≡ serve.NotKept cause → P)
whatever_fault (Ok done) P p = tt
whatever_fault (Err fault) P p = λ cause is. p

-- an input that is answered to its end didn't stop before
pub apart : Long ≡ Ended → ⊥
apart e = cc

pub never_long : (r : Result Served ServeFault) (P : Type 0) → IfOk r (λ served. served ≡ Ended) → IfOk r (λ served. served ≡ Long → P)
never_long (Ok served) P ended = λ long. absurd (apart (sym long ∙ ended))
never_long (Err fault) P ended = tt

pub at_the_end : (r : Result Served ServeFault) (P : Type 0) → P → IfOk r (λ served. served ≡ Ended → P)
at_the_end (Ok served) P p = λ is. p
at_the_end (Err fault) P p = tt
