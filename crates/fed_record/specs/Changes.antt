-- What an operation changes in each part of a job's record.
use Rattle.std.specs.Prelude.{ℕ, List, [], Option, Some, filter}
use Rattle.std.specs.List.{range_with_len}
use Rattle.fed_stamp.specs.declared.sites.TheConstants.{SITES}
use Rattle.fed_stamp.specs.Stamp.{StampValue}
use Rattle.fed_lattice.specs.History.{History}
use Rattle.fed_lattice.specs.Part.{part}
use Rattle.fed_lattice.specs.Stamped.{stamped}
use Rattle.fed_model.specs.declared.holds.HoldKind.{HoldKind}
use Rattle.fed_record.specs.declared.operations.JobOperation.{JobOperation}
use Rattle.fed_record.specs.declared.operations.Operation.{Operation}
use Rattle.fed_model.specs.Hold.{all_kinds}
use Rattle.fed_record.specs.Operation.{body_of}
use Rattle.fed_model.specs.Pairs.{adds_site, adds_hold}
use Rattle.fed_theory.specs.JobSteps.{JobFieldChanges, JobStageChanges, fields_in, stages_in}

abbrev pub field_changes_of : Operation → JobFieldChanges
field_changes_of c = fields_in (body_of c)

-- of an operation with its stamp
abbrev pub stage_changes_of : StampValue × Operation → JobStageChanges
stage_changes_of e = stages_in (e.0, body_of e.1)

-- the pairs of holds that an operation removes, and those of sites
abbrev pub removed_holds : Operation → List (HoldKind × StampValue)
removed_holds (Operation.OfJob job (JobOperation.Release removed)) = removed.items
removed_holds _ = []

abbrev pub removed_sites : Operation → List (ℕ × StampValue)
removed_sites (Operation.OfJob job (JobOperation.Set changes removed)) = removed.items
removed_sites _ = []

-- the holds that it adds, and the pairs that it removes
abbrev pub hold_change : Operation → List HoldKind × List (HoldKind × StampValue)
hold_change c = (filter (adds_hold (body_of c)) all_kinds, removed_holds c)

-- the sites that it adds, and the pairs that it removes
abbrev pub site_change : Operation → List ℕ × List (ℕ × StampValue)
site_change c = (filter (adds_site (body_of c)) (range_with_len 0 SITES), removed_sites c)

-- each change of a history changes each part
abbrev pub always : {C D : Type 0} → (C → D) → C → Option D
always f c = Some (f c)

abbrev pub field_changes : History Operation → History JobFieldChanges
field_changes h = part (always field_changes_of) h

abbrev pub hold_changes : History Operation → History (List HoldKind × List (HoldKind × StampValue))
hold_changes h = part (always hold_change) h

abbrev pub site_changes : History Operation → History (List ℕ × List (ℕ × StampValue))
site_changes h = part (always site_change) h

abbrev pub stage_changes : History Operation → History JobStageChanges
stage_changes h = part (always stage_changes_of) (stamped h)
