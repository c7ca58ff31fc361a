-- Accounts, and full listings.
use Rattle.std.proofs.Common.{◌≡◌, ℕ, List, [], ◌∷◌, refl}
use Rattle.std.specs.Prelude.{codes}
use Rattle.std.specs.Fmt.{char_count, digits}
use Rattle.fed_stamp.specs.Roster.{first_fault, is_site_name}
use Rattle.fed_stamp.specs.SiteSet.{set_of}
use Rattle.fed_stamp.specs.Version.{is_below, joined}
use Rattle.fed_stamp.specs.Word.{is_name}
use Rattle.fed_model.specs.Letter.{any_below}
use Rattle.fed_model.specs.Answer.{answer_to}
use Rattle.fed_qstat.specs.Full.{attribute, head_line}
use Rattle.fed_replay.proofs.Texts.{all_said, said_to}

abbrev accounts : List (List ℕ)
accounts =
    codes "roster argonne:8 lemont:4"
    ∷ codes "argonne ann qsub -A chem"
    ∷ codes "argonne ann qsub -hA chem"
    ∷ codes "argonne ann qsub -A"
    ∷ codes "argonne ann qalter -A 9x 1"
    ∷ codes "argonne ann qstat -f 1"
    ∷ codes "argonne ann qalter -A phys 1"
    ∷ codes "argonne ann qstat -f"
    ∷ []

abbrev accounts_answers : List (List ℕ)
accounts_answers =
    codes "1.argonne"
    ∷ codes "2.argonne"
    ∷ codes "usage 3"
    ∷ codes "usage 4"
    ∷ codes "Job Id: 1.argonne"
    ∷ codes "    Job_Name = STDIN"
    ∷ codes "    Job_Owner = ann"
    ∷ codes "    Account_Name = chem"
    ∷ codes "    job_state = Q"
    ∷ codes "    Priority = 0"
    ∷ codes "    Hold_Types = n"
    ∷ codes "    Resource_List.nodes = 1"
    ∷ codes "    Resource_List.walltime = 3600"
    ∷ codes "    Resource_List.sites = argonne+lemont"
    ∷ codes "    granted = -"
    ∷ codes "    begun = -"
    ∷ codes "done"
    ∷ codes "Job Id: 1.argonne"
    ∷ codes "    Job_Name = STDIN"
    ∷ codes "    Job_Owner = ann"
    ∷ codes "    Account_Name = phys"
    ∷ codes "    job_state = Q"
    ∷ codes "    Priority = 0"
    ∷ codes "    Hold_Types = n"
    ∷ codes "    Resource_List.nodes = 1"
    ∷ codes "    Resource_List.walltime = 3600"
    ∷ codes "    Resource_List.sites = argonne+lemont"
    ∷ codes "    granted = -"
    ∷ codes "    begun = -"
    ∷ codes "Job Id: 2.argonne"
    ∷ codes "    Job_Name = STDIN"
    ∷ codes "    Job_Owner = ann"
    ∷ codes "    Account_Name = chem"
    ∷ codes "    job_state = H"
    ∷ codes "    Priority = 0"
    ∷ codes "    Hold_Types = u"
    ∷ codes "    Resource_List.nodes = 1"
    ∷ codes "    Resource_List.walltime = 3600"
    ∷ codes "    Resource_List.sites = argonne+lemont"
    ∷ codes "    granted = -"
    ∷ codes "    begun = -"
    ∷ []

accounts_said : said_to accounts ≡ all_said accounts_answers
unfolding answer_to any_below attribute char_count digits first_fault head_line is_below is_name is_site_name joined set_of
accounts_said = refl
