-- Holds by roles.
use Rattle.std.proofs.Common.{◌≡◌, ℕ, List, [], ◌∷◌, refl}
use Rattle.std.specs.Prelude.{codes}
use Rattle.std.specs.Fmt.{char_count, digits}
use Rattle.fed_stamp.specs.Roster.{first_fault, is_site_name}
use Rattle.fed_stamp.specs.SiteSet.{set_of}
use Rattle.fed_stamp.specs.Version.{is_below, joined}
use Rattle.fed_stamp.specs.Word.{is_name}
use Rattle.fed_model.specs.Letter.{any_below}
use Rattle.fed_model.specs.Answer.{answer_to}
use Rattle.fed_qstat.specs.Full.{attribute, head_line}
use Rattle.fed_replay.proofs.Texts.{all_said, said_to}

abbrev roles : List (List ℕ)
roles =
    codes "roster argonne:8"
    ∷ codes "argonne ann qsub"
    ∷ codes "argonne bob qhold -h s 1"
    ∷ codes "argonne root/admin qhold -h s 1"
    ∷ codes "argonne oz/operator qhold -h uuo 1"
    ∷ codes "argonne ann qstat -f 1"
    ∷ codes "argonne argonne grant 1 argonne"
    ∷ codes "argonne grant 1 argonne"
    ∷ codes "argonne ann qrls 1"
    ∷ codes "argonne ann qrls -h o 1"
    ∷ codes "argonne root/admin qrls -h so 1"
    ∷ codes "argonne ann qrls 1"
    ∷ codes "argonne ann qhold 9"
    ∷ codes "argonne ann qstat"
    ∷ []

abbrev roles_answers : List (List ℕ)
roles_answers =
    codes "1.argonne"
    ∷ codes "refused 2"
    ∷ codes "done"
    ∷ codes "done"
    ∷ codes "Job Id: 1.argonne"
    ∷ codes "    Job_Name = STDIN"
    ∷ codes "    Job_Owner = ann"
    ∷ codes "    Account_Name = -"
    ∷ codes "    job_state = H"
    ∷ codes "    Priority = 0"
    ∷ codes "    Hold_Types = uos"
    ∷ codes "    Resource_List.nodes = 1"
    ∷ codes "    Resource_List.walltime = 3600"
    ∷ codes "    Resource_List.sites = argonne"
    ∷ codes "    granted = -"
    ∷ codes "    begun = -"
    ∷ codes "usage 1"
    ∷ codes "refused 6"
    ∷ codes "done"
    ∷ codes "refused 2"
    ∷ codes "done"
    ∷ codes "done"
    ∷ codes "refused 1"
    ∷ codes "1.argonne          STDIN            ann              Q      0        1      3600 -"
    ∷ []

roles_said : said_to roles ≡ all_said roles_answers
unfolding answer_to any_below attribute char_count digits first_fault head_line is_below is_name is_site_name joined set_of
roles_said = refl
