use Rattle.std.proofs.Common.{◌≡◌, codes, refl, rules}
use Rattle.std.proofs.lemmas.Slice.Eq.{text_from_reads}
use Rattle.fed_script.proofs.verbs.Verb.named.Goals as goal

pub returns-in-finish : goal.returns-in-finish
returns-in-finish c =
    let word : c.args.word.now ≡ codes "finish" = text_from_reads c.args.word.now (codes "finish") (search rules) (search rules) in
    rw word refl

pub returns-in-handback : goal.returns-in-handback
returns-in-handback c =
    let word : c.args.word.now ≡ codes "handback" = text_from_reads c.args.word.now (codes "handback") (search rules) (search rules) in
    rw word refl

pub returns-in-decline : goal.returns-in-decline
returns-in-decline c =
    let word : c.args.word.now ≡ codes "decline" = text_from_reads c.args.word.now (codes "decline") (search rules) (search rules) in
    rw word refl

pub returns-in-retire : goal.returns-in-retire
returns-in-retire c =
    let word : c.args.word.now ≡ codes "retire" = text_from_reads c.args.word.now (codes "retire") (search rules) (search rules) in
    rw word refl
