use Rattle.std.specs.Prelude.{codes}
use Rattle.std.specs.List.{join_by}
use Rattle.std.proofs.Common.{string_bytes, ap, ◌∙◌}
use Rattle.fed_site.specs.Rosters.{word_of_site}
use Rattle.fed_site.proofs.LookValues.{same_joined}
use Rattle.fed_site.proofs.roster_lines.roster_text.Goals as goal

pub returns : goal.returns
returns c =
    c.in_ok-join.ensures.ok ∙ ap (join_by string_bytes (codes " ")) c.deref.ensures.value ∙ same_joined string_bytes word_of_site (codes " ") c.in_ok-words.words.items c.args.roster.now c.in_ok-words.ensures
