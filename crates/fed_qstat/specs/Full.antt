-- The full listing's twelve lines of a job.
use Rattle.std.specs.Prelude.{ℕ, List, [], ◌∷◌, ◌++◌, codes}
use Rattle.std.specs.Fmt.{decimal, signed_decimal}
use Rattle.fed_stamp.specs.Stamp.{StampValue}
use Rattle.fed_model.specs.Account.{text_of}
use Rattle.fed_model.specs.JobView.{JobView}
use Rattle.fed_model.specs.Letter.{holder, letter}
use Rattle.fed_qstat.specs.Identifier.{text_of_identifier}
use Rattle.fed_qstat.specs.JobText.{field_text, letter_text, text_of_begun, text_of_holder, text_of_holds, text_of_sites, text_or_dash}

-- the line that names the job
unfoldable pub head_line : List ℕ → List ℕ
head_line identifier = codes "Job Id: " ++ identifier ++ 10 ∷ []

-- the line of one attribute
unfoldable pub attribute : List ℕ → List ℕ → List ℕ
attribute label value = codes "    " ++ label ++ codes " = " ++ value ++ 10 ∷ []

-- what the job is called, and who answers for it
abbrev pub naming : List (List ℕ × ℕ) → StampValue → JobView → List ℕ
naming roster id j =
    head_line (text_of_identifier roster id)
    ++ attribute (codes "Job_Name") (field_text (λ name. name) j.fields.name)
    ++ attribute (codes "Job_Owner") (field_text (λ owner. owner) j.fields.owner)
    ++ attribute (codes "Account_Name") (text_or_dash (field_text text_of j.fields.account))

-- where it stands in the queue
abbrev pub standing : JobView → List ℕ
standing j =
    attribute (codes "job_state") (letter_text (letter j))
    ++ attribute (codes "Priority") (field_text signed_decimal j.fields.priority)
    ++ attribute (codes "Hold_Types") (text_of_holds j)

-- what it asks for
abbrev pub resources : List (List ℕ × ℕ) → JobView → List ℕ
resources roster j =
    attribute (codes "Resource_List.nodes") (field_text decimal j.fields.nodes)
    ++ attribute (codes "Resource_List.walltime") (field_text decimal j.fields.limit)
    ++ attribute (codes "Resource_List.sites") (text_of_sites roster j)

-- where and when it runs
abbrev pub running : List (List ℕ × ℕ) → JobView → List ℕ
running roster j =
    attribute (codes "granted") (text_of_holder roster (holder j))
    ++ attribute (codes "begun") (text_of_begun j.stages.begun)

abbrev pub lines_in_full : List (List ℕ × ℕ) → StampValue → JobView → List ℕ
lines_in_full roster id j = naming roster id j ++ standing j ++ resources roster j ++ running roster j
