use Rattle.std.proofs.Common.{arith, get_or, ◌≡◌, ◌⊎◌, inl, inr, ◌<◌, length, ap, refl, sym, ◌∙◌}
use Rattle.std.proofs.lemmas.List.{map-append}
use Rattle.fed_script.specs.Lines.{is_readable}
use Rattle.fed_script.proofs.WordCuts.{AreCut-none, AreCut-word, AreCut-blank, AreCut-readable, AreCut-readable_word, AreCut-last, AreCut-all, readable-drop, to_the_end}
use Rattle.fed_script.proofs.lines.push_words.Goals as goal
use Rattle.fed_script.proofs.lines.push_words.Goals.{else-byte-ne32-via-then-byte-ne32+else-byte-ne9, else-byte-ne32-via-else-byte-ne32, then-start-index+in_ok-push, else-start-index}

pub loop-index-init : goal.loop-index-init
loop-index-init c = rw c.requires (AreCut-none c.args.line.now)

pub text_of-requires : goal.text_of-requires
text_of-requires c = AreCut-readable_word c.args.line.now _ _ _ _ c.loop-index.invariant refl

pub loop-index-preserved : goal.loop-index-preserved
loop-index-preserved c =
    let line = c.args.line.now in
    let within : c.loop-index.index < length line = omega arith in
    let white : (get_or line c.loop-index.index 0 ≡ 9) ⊎ (get_or line c.loop-index.index 0 ≡ 32) = elim c.else-byte-ne32.branch [
      | else-byte-ne32-via-then-byte-ne32+else-byte-ne9 w ↦ inl w.if-byte-ne9.false
      | else-byte-ne32-via-else-byte-ne32 w ↦ inr w.if-byte-ne32.false
    ] in
    elim c.if-start-index.branch [
      | then-start-index+in_ok-push w ↦ rw (w.words-is, w.in_ok-push.ensures.ok, map-append) (AreCut-word line _ _ _ within c.loop-index.invariant white _ w.if-start-index.true w.text_of.ensures)
      | else-start-index w ↦ rw w.words-is (AreCut-blank line _ _ _ within c.loop-index.invariant white w.if-start-index.false)
    ]

pub text_of-requires-then-start-line : goal.text_of-requires-then-start-line
text_of-requires-then-start-line c = ap is_readable (to_the_end c.args.line.now _) ∙ readable-drop _ c.args.line.now (AreCut-readable c.args.line.now _ _ _ (omega arith) (omega arith) c.loop-index.invariant)

pub returns-in_ok-push-2-clause-readable : goal.returns-in_ok-push-2-clause-readable
returns-in_ok-push-2-clause-readable c = sym (AreCut-readable c.args.line.now _ _ _ (omega arith) (omega arith) c.loop-index.invariant)

pub returns-in_ok-push-2-clause-cut : goal.returns-in_ok-push-2-clause-cut
returns-in_ok-push-2-clause-cut c = λ yes. rw (c.in_ok-push-2.ensures.ok, map-append) (AreCut-last c.args.line.now _ _ _ (omega arith) (omega arith) c.loop-index.invariant _ c.if-start-line.true (c.text_of-then-start-line.ensures ∙ to_the_end c.args.line.now _))

pub returns-else-start-line-clause-readable : goal.returns-else-start-line-clause-readable
returns-else-start-line-clause-readable c = sym (AreCut-readable c.args.line.now _ _ _ (omega arith) (omega arith) c.loop-index.invariant)

pub returns-else-start-line-clause-cut : goal.returns-else-start-line-clause-cut
returns-else-start-line-clause-cut c = λ yes. AreCut-all c.args.line.now _ _ _ (omega arith) (omega arith) c.loop-index.invariant c.if-start-line.false
