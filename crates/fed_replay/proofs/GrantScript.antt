-- A job is granted, begun and finished, and refused where it is not.
use Rattle.std.proofs.Common.{◌≡◌, ℕ, List, [], ◌∷◌, refl}
use Rattle.std.specs.Prelude.{codes}
use Rattle.std.specs.Fmt.{char_count, digits}
use Rattle.fed_stamp.specs.Roster.{first_fault, is_site_name}
use Rattle.fed_stamp.specs.SiteSet.{set_of}
use Rattle.fed_stamp.specs.Version.{is_below, joined}
use Rattle.fed_stamp.specs.Word.{is_name}
use Rattle.fed_model.specs.Letter.{any_below}
use Rattle.fed_model.specs.Answer.{answer_to}
use Rattle.fed_qstat.specs.Full.{attribute, head_line}
use Rattle.fed_replay.proofs.Texts.{all_said, said_to}

abbrev grants : List (List ℕ)
grants =
    codes "roster argonne:8 lemont:4"
    ∷ codes "argonne ann qsub"
    ∷ codes "argonne ship lemont"
    ∷ codes "lemont take 1"
    ∷ codes "argonne grant 1 lemont"
    ∷ codes "argonne grant 1 argonne"
    ∷ codes "argonne grant 1 lemont"
    ∷ codes "lemont grant 1.argonne lemont"
    ∷ codes "argonne ann qalter -p 3 1"
    ∷ codes "argonne begin 1 0"
    ∷ codes "lemont begin 1.argonne 0"
    ∷ codes "argonne ship lemont"
    ∷ codes "lemont take 2"
    ∷ codes "lemont finish 1.argonne 0 0"
    ∷ codes "lemont begin 1.argonne 0"
    ∷ codes "lemont begin 1.argonne 0"
    ∷ codes "lemont finish 1.argonne 50 0"
    ∷ codes "lemont finish 1.argonne 50 0"
    ∷ codes "argonne ann qsub -l sites=lemont"
    ∷ codes "argonne grant 3 argonne"
    ∷ codes "lemont ann qstat"
    ∷ []

abbrev grants_answers : List (List ℕ)
grants_answers =
    codes "1.argonne"
    ∷ codes "packet 1"
    ∷ codes "taken"
    ∷ codes "granted"
    ∷ codes "refused 8"
    ∷ codes "yours"
    ∷ codes "refused 5"
    ∷ codes "refused 4"
    ∷ codes "refused 9"
    ∷ codes "refused 9"
    ∷ codes "packet 2"
    ∷ codes "taken"
    ∷ codes "refused 11"
    ∷ codes "done"
    ∷ codes "refused 10"
    ∷ codes "done"
    ∷ codes "refused 3"
    ∷ codes "3.argonne"
    ∷ codes "refused 7"
    ∷ []

grants_said : said_to grants ≡ all_said grants_answers
unfolding answer_to any_below attribute char_count digits first_fault head_line is_below is_name is_site_name joined set_of
grants_said = refl
