use Rattle.std.specs.Borrow.{Bor}
use Rattle.std.specs.Prelude.{option_map}
use Rattle.std.specs.Str.Lines.{lines}
use Rattle.std.proofs.Common.{◌≡◌, ◌∙◌, ◌∷◌, ◌++◌, List, ℕ, ap, append_assoc, refl, rules, sym}
use Rattle.fed_serve.specs.Written.{not_kept_bytes, not_kept_text}
use Rattle.fed_serve.proofs.Writing.{appends_more}
use Rattle.fed_serve.proofs.written.write_not_kept.Goals as goal

pub loop-after-preserved : goal.loop-after-preserved
loop-after-preserved g c =
    let words = option_map (λ (w : Bor (List ℕ)). w.now) c.args.words in
    let so_far = c.loop-after.invariant in
    let w = g.W.Write.contents in
    let block = not_kept_bytes c.args.frames words in
    let some : lines c.loop-after.rest.now ≡ c.in-Some.field-0-0.now ∷ lines c.in-Some.after.now = search rules in (
      so_far.0 ++ block,
      appends_more (w c.args.writer.now) (w c.loop-after.writer) (w c.write_one_not_kept.new.writer) so_far.0 block so_far.1 c.in_ok-write_one_not_kept.ensures,
      append_assoc so_far.0 block (not_kept_text c.args.frames words (lines c.in-Some.after.now)) ∙ ap (λ (ls : List (List ℕ)). so_far.0 ++ not_kept_text c.args.frames words ls) (sym some) ∙ so_far.2,
      refl,
    )
