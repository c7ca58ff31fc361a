-- The Begin and the Finish of a job as a JSON value.
use Rattle.std.specs.Prelude.{◌<◌, Bool, nat_lt, List, [], ◌∷◌, codes, if◌then◌else◌, Option, Some, None, Err}
use Rattle.serde_json.specs.Data.{Data, null, string}
use Rattle.fed_stamp.specs.Stamp.{StampValue}
use Rattle.fed_stamp.specs.declared.rosters.TheConstants.{MAX_NODES}
use Rattle.fed_lattice.specs.Results.{◌>>=◌, mapped}
use Rattle.fed_model.specs.declared.moments.TheConstants.{MAX_END, MAX_MOMENT}
use Rattle.fed_model.specs.declared.beginnings.TheConstants.{MAX_STATUS}
use Rattle.fed_model.specs.declared.beginnings.Beginning.{Beginning}
use Rattle.fed_model.specs.declared.beginnings.Ending.{Ending}
use Rattle.fed_json.specs.declared.flaws.Flaw.TheVariants.{Shape}
use Rattle.fed_json.specs.Reading.{Reading, both, where_true}
use Rattle.fed_json.specs.Numbers.{natural_value, natural_in}
use Rattle.fed_model.specs.Ranges.{IsFrom, IsStamp}
use Rattle.fed_json.specs.Values.{list_value, elements_of, is_word, or_null}
use Rattle.fed_job_json.specs.Stamps.{stamp_value, stamp_of}

abbrev pub Begun : Type 0
Begun = StampValue × Beginning

abbrev pub Finished : Type 0
Finished = StampValue × Ending

-- the parts of a Begin, before more
abbrev pub begun_values : Begun → List Data → List Data
begun_values b more = stamp_value b.0 ∷ natural_value b.1.moment ∷ natural_value b.1.nodes ∷ natural_value b.1.end ∷ more

abbrev pub done_value : Begun × Option Finished → Data
done_value (b, None) = list_value (string (codes "begun") ∷ begun_values b [])
done_value (b, Some f) = list_value (string (codes "finished") ∷ begun_values b (stamp_value f.0 ∷ natural_value f.1.moment ∷ natural_value f.1.status ∷ []))

-- it ends after it began
abbrev pub ends_later : Begun → Bool
ends_later b = nat_lt b.1.moment b.1.end

abbrev pub begun_of : Data → Data → Data → Data → Reading Begun
begun_of stamp moment nodes end = mapped (λ p. (p.0, record { moment = p.1.0; nodes = p.1.1.0; end = p.1.1.1 }))
    (both (stamp_of stamp) (both (natural_in 0 MAX_MOMENT moment) (both (natural_in 1 MAX_NODES nodes) (natural_in 0 MAX_END end)))) >>= where_true ends_later

abbrev pub finished_of : Data → Data → Data → Reading Finished
finished_of stamp moment status = mapped (λ p. (p.0, record { moment = p.1.0; status = p.1.1 }))
    (both (stamp_of stamp) (both (natural_in 0 MAX_MOMENT moment) (natural_in 0 MAX_STATUS status)))

abbrev pub done_from : List Data → Reading (Begun × Option Finished)
done_from (word ∷ a ∷ b ∷ c ∷ d ∷ []) = if is_word (codes "begun") word then mapped (λ p. (p, None)) (begun_of a b c d) else Err Shape
done_from (word ∷ a ∷ b ∷ c ∷ d ∷ e ∷ f ∷ g ∷ []) = if is_word (codes "finished") word
    then mapped (λ p. (p.0, Some p.1)) (both (begun_of a b c d) (finished_of e f g)) else Err Shape
done_from _ = Err Shape

abbrev pub done_of : Data → Reading (Begun × Option Finished)
done_of d = elements_of d >>= done_from

abbrev pub IsBegun : Begun → Type 0
IsBegun b = IsStamp b.0 × IsFrom 0 MAX_MOMENT b.1.moment × IsFrom 1 MAX_NODES b.1.nodes × IsFrom 0 MAX_END b.1.end × (b.1.moment < b.1.end)

abbrev pub IsFinished : Finished → Type 0
IsFinished f = IsStamp f.0 × IsFrom 0 MAX_MOMENT f.1.moment × IsFrom 0 MAX_STATUS f.1.status

-- how far a job has come: its Begin and its Finish, which comes after a Begin alone
abbrev pub Steps : Type 0
Steps = Option Begun × Option Finished

abbrev pub steps_from : Option (Begun × Option Finished) → Steps
steps_from None = (None, None)
steps_from (Some p) = (Some p.0, p.1)

abbrev pub progress_value : Steps → Data
progress_value (None, f) = null
progress_value (Some b, f) = done_value (b, f)

abbrev pub progress_of : Data → Reading Steps
progress_of d = mapped steps_from (or_null done_of d)

abbrev pub IsProgress : Steps → Type 0
IsProgress (None, None) = Unit {0}
IsProgress (None, Some f) = ⊥
IsProgress (Some b, None) = IsBegun b
IsProgress (Some b, Some f) = IsBegun b × IsFinished f
