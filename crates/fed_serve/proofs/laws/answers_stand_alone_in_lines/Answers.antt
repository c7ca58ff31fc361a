use Rattle.std.specs.Prelude.{false}
use Rattle.std.specs.List.{flat_map}
use Rattle.std.proofs.Common.{◌≡◌, ℕ, List, [], ◌∷◌, ◌++◌, refl, ap}
use Rattle.fed_site.specs.SiteAnswer.{bytes_of}
use Rattle.fed_site.specs.Told.{answers_in}
use Rattle.fed_site.specs.declared.tellings.Told.{Told}
use Rattle.fed_serve.specs.Written.{told_text}
use Rattle.fed_serve.proofs.laws.answers_stand_alone_in_lines.Goals as goal

alone : (answers : List Told) → told_text false answers ≡ flat_map (λ answer. bytes_of answer ++ 10 ∷ []) (answers_in answers)
alone [] = refl
alone (told ∷ answers) = ap (λ (bytes : List ℕ). (bytes_of told.answer ++ 10 ∷ []) ++ bytes) (alone answers)

pub returns : goal.returns
returns c = alone
