use Rattle.std.proofs.Common.{refl}
use Rattle.fed_qstat.proofs.full_lines.naming_text.Goals as goal

pub returns : goal.returns
returns c = rw (
  c.in_ok-push_attribute-3.ensures,
  c.in_ok-push_attribute-2.ensures,
  c.in_ok-push_attribute.ensures,
  c.in_ok-text.ensures,
  c.or_dash.ensures,
  c.as_str.ensures.value,
  c.in_ok-identifier.ensures,
  c.as_str-2.ensures.same,
  c.as_str-3.ensures.same,
  c.as_str-4.ensures.text,
  c.name-name.ensures,
  c.owner-owner.ensures,
  c.account-account.ensures,
) refl
