-- What some words ask, computed.
use Rattle.std.specs.Prelude.{◌≡◌, ℕ, ℤ, pos, negsuc, Bool, true, false, ◌==◌, List, [], ◌∷◌, codes, Some, None, Ok, Err, refl}
use Prim.Native.String.{String}
use Rattle.std.specs.List.{slice_split}
use Rattle.fed_stamp.specs.Roster.{is_site_name}
use Rattle.fed_stamp.specs.SiteSet.{set_of}
use Rattle.fed_stamp.specs.Stamp.{StampValue}
use Rattle.fed_stamp.specs.Word.{is_name}
use Rattle.fed_model.specs.declared.commands.Command.TheVariants.{Submit, Alter}
use Rattle.fed_model.specs.declared.values.JobValues.{JobValues}
use Rattle.fed_words.specs.declared.faults.UsageFault.TheVariants.{UnknownUtility, UnknownOption, MissingArgument, BadValue, BadIdentifier, UnknownSite, MissingOperand}
use Rattle.fed_words.specs.Fault.{OrFault}
use Rattle.fed_words.specs.Request.{Asked, acts, list, request_in}

roster : List (List ℕ × ℕ)
roster = (codes "argonne", 8) ∷ (codes "lemont", 4) ∷ []

-- the words of a line, parted by single spaces, read at argonne
abbrev said : String → OrFault Asked
said line = request_in roster 0 (slice_split (λ b. b == 32) (codes line))

abbrev plain : JobValues
plain = record { name = codes "STDIN"; priority = pos 0; nodes = 1; limit = 3600; account = None; sites = set_of (0 ∷ 1 ∷ []) }

abbrev with_priority : ℤ → JobValues
with_priority priority = record { name = codes "STDIN"; priority = priority; nodes = 1; limit = 3600; account = None; sites = set_of (0 ∷ 1 ∷ []) }

abbrev submits : JobValues → Bool → OrFault Asked
submits values held = Ok (acts (Submit values held ∷ []))

abbrev first : StampValue
first = record { counter = 1; site = 0 }

-- priorities
least : said "qsub -p -1024" ≡ submits (with_priority (negsuc 1023)) false
unfolding roster set_of
least = refl

greatest : said "qsub -p 1023" ≡ submits (with_priority (pos 1023)) false
unfolding roster set_of
greatest = refl

attached : said "qsub -p-5" ≡ said "qsub -p -5"
unfolding roster set_of
attached = refl

-- letters behind one `-`
grouped : said "qsub -hp 3" ≡ submits (with_priority (pos 3)) true
unfolding roster set_of
grouped = refl

-- the last counts
twice : said "qsub -p 1 -p 2" ≡ submits (with_priority (pos 2)) false
unfolding roster set_of
twice = refl

-- `--` ends the options, and a job counts once
once_named : said "qalter -p 1 -- 1 1.argonne" ≡ Ok (acts (Alter first (record { name = None; priority = Some (pos 1); nodes = None; limit = None; account = None; sites = None }) ∷ []))
unfolding roster is_site_name is_name
once_named = refl

-- a site named twice
resources : said "qsub -l nodes=2,walltime=60,sites=lemont+lemont run.sh" ≡ submits (record { name = codes "STDIN"; priority = pos 0; nodes = 2; limit = 60; account = None; sites = set_of (1 ∷ []) }) false
unfolding roster set_of is_site_name is_name
resources = refl

-- accounts
account : said "qsub -A chem" ≡ submits (record { name = codes "STDIN"; priority = pos 0; nodes = 1; limit = 3600; account = Some (codes "chem"); sites = set_of (0 ∷ 1 ∷ []) }) false
unfolding roster set_of is_name
account = refl

account_held : said "qsub -hA chem" ≡ submits (record { name = codes "STDIN"; priority = pos 0; nodes = 1; limit = 3600; account = Some (codes "chem"); sites = set_of (0 ∷ 1 ∷ []) }) true
unfolding roster set_of is_name
account_held = refl

-- a lone `-` and words behind the first operand are operands
lone : said "qsub -h - -z" ≡ submits plain true
unfolding roster set_of
lone = refl

-- listings
listing : said "qstat -ff 1 1" ≡ Ok (list true (first ∷ []))
unfolding roster
listing = refl

-- faults
no_words : request_in roster 0 [] ≡ Err UnknownUtility
no_words = refl

faults : (said "qmove 1" ≡ Err UnknownUtility) × (said "qsub -z" ≡ Err UnknownOption) × (said "qsub -p" ≡ Err MissingArgument) × (said "qsub -p 1024" ≡ Err BadValue) × (said "qsub -l mem=1" ≡ Err BadValue)
unfolding roster
faults = (refl, refl, refl, refl, refl)

more_faults : (said "qhold -h n 1" ≡ Err BadValue) × (said "qalter -p 1 x" ≡ Err BadIdentifier) × (said "qdel 1.argonne@x" ≡ Err BadIdentifier) × (said "qdel 1.fermi" ≡ Err UnknownSite) × (said "qalter -p 1" ≡ Err MissingOperand)
unfolding roster is_site_name is_name
more_faults = (refl, refl, refl, refl, refl)

account_faults : (said "qsub -A" ≡ Err MissingArgument) × (said "qalter -A 9x 1" ≡ Err BadValue)
unfolding roster is_name
account_faults = (refl, refl)

-- the first fault in the order of reading
first_faults : (said "qsub -p 1024 -z" ≡ Err BadValue) × (said "qsub -z -p 1024" ≡ Err UnknownOption) × (said "qsub -l sites=fermi,nodes=0" ≡ Err UnknownSite) × (said "qsub -l nodes=0,sites=fermi" ≡ Err BadValue) × (said "qsub --x" ≡ Err UnknownOption) × (said "qdel 1.fermi x" ≡ Err UnknownSite)
unfolding roster is_site_name is_name
first_faults = (refl, refl, refl, refl, refl, refl)
