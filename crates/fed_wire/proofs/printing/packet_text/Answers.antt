use Rattle.std.proofs.Common.{◌≡◌, ◌-◌, ◌++◌, ◌∷◌, [], length, drop, take, false, map, refl, sym, subst, ◌∙◌, arith}
use Rattle.std.proofs.lemmas.List.{length-take-le, length-drop, take_all}
use Rattle.serde_json.specs.View.{items_of}
use Rattle.serde_json.specs.Written.{items_text}
use Rattle.fed_delta.specs.Delta.{DeltaValue}
use Rattle.fed_job_json.specs.declared.formats.Format.TheVariants.{Two}
use Rattle.fed_job_json.specs.Job.{job_value}
use Rattle.fed_wire.specs.Printed.{ArePrinted}
use Rattle.fed_wire.proofs.FrameLaws.{packet_fits, packet_between, packet_framed}
use Rattle.fed_wire.proofs.printing.packet_text.Goals as goal

pub slice_bounds-extend_from_slice-end : goal.slice_bounds-extend_from_slice-end
slice_bounds-extend_from_slice-end c =
    sym (length-take-le 20 c.deref.result.now (rw c.deref.ensures.value (packet_fits c.args.packet.now c.in_ok-frame.frame.items c.in_ok-frame.ensures.text)))

pub slice_bounds-extend_from_slice-count : goal.slice_bounds-extend_from_slice-count
slice_bounds-extend_from_slice-count c = rw c.deref-2.ensures.value (packet_fits c.args.packet.now c.in_ok-frame.frame.items c.in_ok-frame.ensures.text)

pub slice_bounds-extend_from_slice-start : goal.slice_bounds-extend_from_slice-start
slice_bounds-extend_from_slice-start c = rw c.deref-2.ensures.value (packet_fits c.args.packet.now c.in_ok-frame.frame.items c.in_ok-frame.ensures.text)

pub returns-clause-text : goal.returns-clause-text
returns-clause-text c =
    let all = c.in_ok-frame.frame.items in
    let first : c.extend_from_slice.new.self.items ≡ take 20 all = c.in_ok-extend_from_slice.ensures.items ∙ rw (c.in_ok-text.ensures.items, c.deref.ensures.value) refl in
    let more : c.put_jobs.new.text.items ++ 93 ∷ [] ≡ c.extend_from_slice.new.self.items ++ items_text false (items_of (map (job_value Two) c.args.packet.now.delta.changes.jobs)) =
    c.in_ok-put_jobs.ensures.text ∙ rw c.delta.ensures refl in
    let text : c.extend_from_slice-2.new.self.items ≡ c.put_jobs.new.text.items ++ drop 20 all = c.in_ok-extend_from_slice-2.ensures.items ∙ rw (c.deref-2.ensures.value, take_all (length all - 20) (drop 20 all) (omega (arith, length-drop 20 all))) refl in
    c.shrink_to_fit.ensures.items ∙ packet_between c.args.packet.now all _ _ _ c.in_ok-frame.ensures.text first more text

pub returns-clause-printed : goal.returns-clause-printed
returns-clause-printed c =
    packet_framed c.args.packet.now c.in_ok-frame.ensures.printed
    (subst (λ (d : DeltaValue). ArePrinted (items_of (map (job_value Two) d.changes.jobs))) c.delta.ensures c.in_ok-put_jobs.ensures.printed)
