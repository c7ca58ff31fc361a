use Rattle.std.proofs.Common.{inr, [], ◌∷◌, refl}
use Rattle.fed_serve.proofs.serving.answer_cut.Goals as goal

pub answer_text-requires-clause-whole : goal.answer_text-requires-clause-whole
answer_text-requires-clause-whole g c = inr (0 ∷ [], refl)
