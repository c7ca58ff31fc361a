use Rattle.std.proofs.Common.{◌≡◌, codes, refl, rules}
use Rattle.std.proofs.lemmas.Slice.Eq.{text_from_reads}
use Rattle.fed_words.proofs.utilities.Utility.named.Goals as goal

pub returns-in-qalter : goal.returns-in-qalter
returns-in-qalter c =
    let name : c.args.name.now ≡ codes "qalter" = text_from_reads c.args.name.now (codes "qalter") (search rules) (search rules) in
    rw name refl
