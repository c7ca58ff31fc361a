use Rattle.std.proofs.Common.{map}
use Rattle.fed_json.proofs.Views.{has_names_by}
use Rattle.fed_json.proofs.objects.has_names.Goals as goal

pub loop-name-init : goal.loop-name-init
loop-name-init c = record {
  can_next = tt;
  is_finite = tt;
  rest = rw (c.into_iter-name-iterator.ensures.into_iter_gives, c.keys-name-items.ensures.rest) (has_names_by _ c.in-Some.members.now.entries (map (λ n. n.now) c.args.names.now) c.in-Some.ensures);
}
