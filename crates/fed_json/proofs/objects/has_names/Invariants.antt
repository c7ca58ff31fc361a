use Rattle.std.proofs.Common.{◌≡◌, map, string_bytes}
use Rattle.std.specs.Cmp.Lexicographic.{pointwise}
use Rattle.std.specs.Str.{bytes_eq}
use Rattle.serde_json.specs.View.{view}
use Rattle.fed_json.specs.Objects.{has_names}
use Rattle.fed_json.proofs.objects.has_names.Given as goal

abbrev pub invariant-loop-name : goal.invariant-loop-name
invariant-loop-name l = record {
  can_next : (goal.iterator-loop-name).can_next l.name-iterator;
  is_finite : (goal.iterator-loop-name).is_finite l.name-iterator;
  rest : pointwise bytes_eq (map string_bytes l.name-iterator) (map (λ n. n.now) l.wanted) ≡ has_names (map (λ n. n.now) l.names) (view l.value);
}
