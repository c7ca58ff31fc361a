use Rattle.std.proofs.Common.{refl}
use Rattle.fed_qstat.proofs.full_lines.resources_text.Goals as goal

pub returns : goal.returns
returns c = rw (
  c.in_ok-push_attribute-2.ensures,
  c.in_ok-push_attribute.ensures,
  c.in_ok-text.ensures,
  c.as_str.ensures.value,
  c.as_str-2.ensures.value,
  c.as_str-3.ensures.value,
  c.in_ok-sites.ensures,
  c.in_ok-nodes_value.ensures.ok,
  c.in_ok-limit_value.ensures.ok,
  c.get-nodes.ensures.same,
  c.get-limit.ensures.same,
  c.nodes.ensures,
  c.limit.ensures,
) refl
