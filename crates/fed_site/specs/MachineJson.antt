-- What is said of a site's machine at a moment, as a JSON object.
use Rattle.std.specs.Prelude.{ℕ, ◌-◌, List, [], ◌∷◌, codes, map}
use Rattle.serde_json.specs.Data.{Data, string}
use Rattle.fed_stamp.specs.Roster.{nodes_at}
use Rattle.fed_model.specs.View.{View}
use Rattle.fed_easy.specs.SitePlan.{used_in}
use Rattle.fed_json.specs.Numbers.{natural_value}
use Rattle.fed_json.specs.Objects.{object_value}
use Rattle.fed_json.specs.Values.{list_value}
use Rattle.fed_machine.specs.declared.machines.Reserved.{Reserved}
use Rattle.fed_machine.specs.Machine.{reserved_in, runs_in}
use Rattle.fed_qstat.specs.Identifier.{text_of_identifier}
use Rattle.fed_looks.specs.JobObject.{objects_of_jobs}
use Rattle.fed_looks.specs.JsonLine.{json_line}

abbrev pub reserved_data : List (List ℕ × ℕ) → Reserved → Data
reserved_data roster k = object_value (
    (codes "end", natural_value k.end) ∷
    (codes "id", string (text_of_identifier roster k.id)) ∷
    (codes "nodes", natural_value k.nodes) ∷
    (codes "start", natural_value k.start) ∷
    [])

abbrev pub machine_object : ℕ → ℕ → Data → Data → Data
machine_object nodes free reserved running = object_value (
    (codes "free", natural_value free) ∷
    (codes "nodes", natural_value nodes) ∷
    (codes "reserved", reserved) ∷
    (codes "running", running) ∷
    [])

-- the nodes and how many of them are not in use, the reservations that are not over, and the jobs that run
abbrev pub machine_data : List (List ℕ × ℕ) → View → ℕ → ℕ → Data
machine_data roster v here moment =
    let nodes = nodes_at roster here in
    machine_object nodes (nodes - used_in here v moment)
    (list_value (map (reserved_data roster) (reserved_in here moment v)))
    (list_value (objects_of_jobs roster v (map (λ run. run.id) (runs_in here v))))

abbrev pub json_of_machine : List (List ℕ × ℕ) → View → ℕ → ℕ → List ℕ
json_of_machine roster v here moment = json_line (machine_data roster v here moment)
