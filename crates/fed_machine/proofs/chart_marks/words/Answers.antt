use Rattle.std.proofs.Common.{◌≡◌, ◌+◌, ℕ, List, ◌++◌, append_assoc, codes, string_bytes}
use Rattle.std.specs.Fmt.{decimal}
use Rattle.std.proofs.lemmas.Result.{IfOk-weaker}
use Rattle.fed_qstat.specs.Identifier.{text_of_identifier}
use Rattle.fed_machine.specs.ChartMarks.{class_of, words_of}
use Rattle.fed_machine.proofs.chart_marks.words.Goals as goal

grouped : (id kind nodes start end : List ℕ) → id ++ (codes ": " ++ (kind ++ (codes ", nodes " ++ (nodes ++ (codes ", from " ++ (start ++ (codes " to " ++ end)))))))
    ≡ id ++ codes ": " ++ kind ++ codes ", nodes " ++ nodes ++ codes ", from " ++ start ++ codes " to " ++ end
grouped id kind nodes start end = simp append_assoc

pub returns : goal.returns
unfolding words_of
returns c =
    let id : string_bytes c.in_ok-id.id ≡ text_of_identifier c.args.roster.now c.args.bar.now.id = c.in_ok-id.ensures in
    let kind : c.class-kind.result.now ≡ class_of c.args.bar.now.kind = c.class-kind.ensures in
    let start : ℕ = c.args.moment + c.args.bar.now.from in
    let whole = grouped (text_of_identifier c.args.roster.now c.args.bar.now.id) (class_of c.args.bar.now.kind) (decimal c.args.bar.now.nodes) (decimal start) (decimal (start + c.args.bar.now.seconds)) in
    IfOk-weaker c.format.result _ _ (λ s e. rw e (rw (id, kind) whole)) c.format.ensures.ok
