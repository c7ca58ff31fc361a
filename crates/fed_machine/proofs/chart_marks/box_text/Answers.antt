use Rattle.std.proofs.Common.{◌≡◌, ◌∙◌, ap, ap₂, append_assoc, string_bytes}
use Rattle.std.proofs.lemmas.Result.{IfOk-weaker}
use Rattle.fed_qstat.specs.Identifier.{text_of_identifier}
use Rattle.fed_machine.specs.ChartMarks.{area_of_bar, class_of, text_of_box, text_of_label, text_of_rect, words_of}
use Rattle.fed_machine.proofs.chart_marks.box_text.Goals as goal

pub returns : goal.returns
unfolding text_of_box
returns c =
    let kind : c.class-class.result.now ≡ class_of c.args.bar.now.kind = c.class-class.ensures in
    let said : string_bytes c.in_ok-title.title ≡ words_of c.args.roster.now c.args.moment c.args.bar.now = c.in_ok-title.ensures in
    let area : c.area_of-area.result ≡ area_of_bar c.args.span c.args.levels c.args.bar.now = c.area_of-area.ensures in
    let rect : string_bytes c.in_ok-rect.rect ≡ text_of_rect (area_of_bar c.args.span c.args.levels c.args.bar.now) =
    c.in_ok-rect.ensures ∙ ap text_of_rect area in
    let id : c.as_str.result.now ≡ text_of_identifier c.args.roster.now c.args.bar.now.id =
    c.as_str.ensures.value ∙ c.in_ok-id.ensures in
    let label : string_bytes c.in_ok-label.label ≡ text_of_label (text_of_identifier c.args.roster.now c.args.bar.now.id) (area_of_bar c.args.span c.args.levels c.args.bar.now) =
    c.in_ok-label.ensures ∙ ap₂ text_of_label id area in
    IfOk-weaker c.format.result _ _ (λ s e. rw e (rw (kind, said, rect, label) (simp append_assoc))) c.format.ensures.ok
