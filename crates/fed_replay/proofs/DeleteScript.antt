-- A job is deleted at one site and begun at another.
use Rattle.std.proofs.Common.{◌≡◌, ℕ, List, [], ◌∷◌, refl}
use Rattle.std.specs.Prelude.{codes}
use Rattle.std.specs.Fmt.{char_count, digits}
use Rattle.fed_stamp.specs.Roster.{first_fault, is_site_name}
use Rattle.fed_stamp.specs.SiteSet.{set_of}
use Rattle.fed_stamp.specs.Version.{is_below, joined}
use Rattle.fed_stamp.specs.Word.{is_name}
use Rattle.fed_model.specs.Letter.{any_below}
use Rattle.fed_model.specs.Answer.{answer_to}
use Rattle.fed_qstat.specs.Full.{attribute, head_line}
use Rattle.fed_replay.proofs.Texts.{all_said, said_to}

abbrev deletes : List (List ℕ)
deletes =
    codes "roster argonne:8 lemont:4"
    ∷ codes "argonne ann qsub"
    ∷ codes "argonne grant 1 argonne"
    ∷ codes "argonne ship lemont"
    ∷ codes "lemont take 1"
    ∷ codes "argonne begin 1 10"
    ∷ codes "lemont ann qdel 1.argonne"
    ∷ codes "lemont ann qstat"
    ∷ codes "argonne ship lemont"
    ∷ codes "lemont ship argonne"
    ∷ codes "lemont take 2"
    ∷ codes "argonne take 3"
    ∷ codes "argonne ann qstat"
    ∷ codes "lemont ann qstat"
    ∷ codes "argonne finish 1 20 0"
    ∷ codes "argonne ann qstat"
    ∷ []

abbrev deletes_answers : List (List ℕ)
deletes_answers =
    codes "1.argonne"
    ∷ codes "granted"
    ∷ codes "packet 1"
    ∷ codes "taken"
    ∷ codes "done"
    ∷ codes "done"
    ∷ codes "packet 2"
    ∷ codes "packet 3"
    ∷ codes "taken"
    ∷ codes "taken"
    ∷ codes "1.argonne          STDIN            ann              E      0        1      3600 argonne"
    ∷ codes "1.argonne          STDIN            ann              E      0        1      3600 argonne"
    ∷ codes "done"
    ∷ []

deletes_said : said_to deletes ≡ all_said deletes_answers
unfolding answer_to any_below attribute char_count digits first_fault head_line is_below is_name is_site_name joined set_of
deletes_said = refl
