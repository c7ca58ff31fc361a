-- A grant is handed back, and the job granted anew.
use Rattle.std.proofs.Common.{◌≡◌, ℕ, List, [], ◌∷◌, refl}
use Rattle.std.specs.Prelude.{codes}
use Rattle.std.specs.Fmt.{char_count, digits}
use Rattle.fed_stamp.specs.Roster.{first_fault, is_site_name}
use Rattle.fed_stamp.specs.SiteSet.{set_of}
use Rattle.fed_stamp.specs.Version.{is_below, joined}
use Rattle.fed_stamp.specs.Word.{is_name}
use Rattle.fed_model.specs.Letter.{any_below}
use Rattle.fed_model.specs.Answer.{answer_to}
use Rattle.fed_qstat.specs.Full.{attribute, head_line}
use Rattle.fed_replay.proofs.Texts.{all_said, said_to}

abbrev returns : List (List ℕ)
returns =
    codes "roster argonne:8 lemont:4"
    ∷ codes "argonne ann qsub"
    ∷ codes "argonne grant 1 lemont"
    ∷ codes "argonne ship lemont"
    ∷ codes "lemont take 1"
    ∷ codes "argonne handback 1"
    ∷ codes "lemont handback 1.argonne"
    ∷ codes "lemont begin 1.argonne 0"
    ∷ codes "lemont ann qstat"
    ∷ codes "argonne grant 1 argonne"
    ∷ codes "lemont ship argonne"
    ∷ codes "argonne take 2"
    ∷ codes "argonne grant 1 argonne"
    ∷ codes "argonne ship lemont"
    ∷ codes "lemont take 3"
    ∷ codes "lemont handback 1.argonne"
    ∷ codes "argonne begin 1 0"
    ∷ codes "argonne handback 1"
    ∷ codes "lemont take 1"
    ∷ codes "lemont ann qstat"
    ∷ []

abbrev returns_answers : List (List ℕ)
returns_answers =
    codes "1.argonne"
    ∷ codes "granted"
    ∷ codes "packet 1"
    ∷ codes "taken"
    ∷ codes "refused 9"
    ∷ codes "done"
    ∷ codes "refused 9"
    ∷ codes "1.argonne          STDIN            ann              Q      0        1      3600 -"
    ∷ codes "refused 8"
    ∷ codes "packet 2"
    ∷ codes "taken"
    ∷ codes "granted"
    ∷ codes "packet 3"
    ∷ codes "taken"
    ∷ codes "refused 9"
    ∷ codes "done"
    ∷ codes "refused 10"
    ∷ codes "known"
    ∷ codes "1.argonne          STDIN            ann              T      0        1      3600 argonne"
    ∷ []

returns_said : said_to returns ≡ all_said returns_answers
unfolding answer_to any_below attribute char_count digits first_fault head_line is_below is_name is_site_name joined set_of
returns_said = refl
