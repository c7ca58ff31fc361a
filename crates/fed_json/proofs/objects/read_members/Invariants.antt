use Rattle.std.proofs.Common.{◌+◌, ◌≡◌, ◌++◌, map, length, take, drop, string_bytes}
use Rattle.std.specs.Cmp.Lexicographic.{pointwise}
use Rattle.std.specs.Str.{bytes_eq}
use Rattle.serde_json.specs.View.{view}
use Rattle.fed_json.specs.Objects.{has_names}
use Rattle.fed_json.proofs.objects.read_members.Given as goal

abbrev pub invariant-loop-index : goal.invariant-loop-index
invariant-loop-index l = record {
  count : l.index + length l.name-iterator ≡ length l.names;
  len : length l.members ≡ length l.names;
  named : pointwise bytes_eq (map string_bytes (map (λ e. e.0) l.name-iterator)) (map (λ n. n.now) (drop l.index l.names)) ≡ has_names (map (λ n. n.now) l.names) (view l.value);
  values : map (λ m. view m.now) (take l.index l.members) ++ map (λ e. view e.1) l.name-iterator ≡ map (λ e. view e.1) l.initial.name-iterator;
}
