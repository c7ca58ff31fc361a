-- Pairs of an element and the stamp of the operation that added it, in a join.
use Rattle.std.specs.Prelude.{Bool, not, ◌&&◌, ◌||◌}

-- whether a pair stays in a join: one that is live on both sides does, and one that is live on one side alone does
-- where the other side's version does not cover its stamp
abbrev pub stays : Bool → Bool → Bool → Bool → Bool
stays mine mine_covers other other_covers = (mine && (other || not other_covers)) || (other && not mine_covers)
