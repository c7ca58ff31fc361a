-- The value of a packet has no float, and nests little.
use Rattle.std.specs.List.{AllByRecursion}
use Rattle.std.specs.Str.{IsUtf8}
use Rattle.std.proofs.Common.{◌≡◌, ℕ, ◌≤◌, suc, List, [], ◌∷◌, map, Bool, true, false, Option, Some, None, refl, ap, subst, ◌∙◌, ℤ, pos, negsuc, arith}
use Rattle.std.proofs.lemmas.Bool.{or_from}
use Rattle.std.proofs.Math.Nat.{max-le}
use Rattle.serde_json.specs.Data.{Data, depth, items_depth, members_depth, string}
use Rattle.serde_json.specs.Read.{read, max_depth}
use Rattle.serde_json.specs.View.{items_of}
use Rattle.serde_json.specs.Written.{IsInOrder, compact_text, has_float, items_have_float, members_have_float}
use Rattle.fed_stamp.specs.Stamp.{StampValue}
use Rattle.fed_model.specs.declared.grants.GrantStage.{GrantStage}
use Rattle.fed_model.specs.declared.grants.GrantStage.TheVariants.{Open, Returned}
use Rattle.fed_model.specs.declared.holds.HoldKind.{HoldKind}
use Rattle.fed_record.specs.JobRecord.{job_reads}
use Rattle.fed_json.specs.Numbers.{natural_value, integer_value}
use Rattle.fed_json.specs.Objects.{Named, members_from, object_value}
use Rattle.fed_json.specs.Values.{list_value, pair_value}
use Rattle.fed_job_json.specs.declared.formats.Format.TheVariants.{Two}
use Rattle.fed_job_json.specs.Fields.{field_value, account_value}
use Rattle.fed_job_json.specs.Grants.{grant_value}
use Rattle.fed_job_json.specs.Job.{Job, job_members, job_value}
use Rattle.fed_job_json.specs.Pairs.{kind_value}
use Rattle.fed_job_json.specs.Progress.{Steps, progress_value}
use Rattle.fed_job_json.specs.Stamps.{stamp_value, version_value}
use Rattle.fed_ranges.specs.declared.ranges.Range.{Range}
use Rattle.fed_parts_json.specs.Retirements.{range_value, RetiredSite, retirements_value}
use Rattle.fed_wire.specs.Packet.{tells_retired, number_of, with_retired, sender_member, packet_members, packet_value}
use Rattle.fed_delta.specs.Packet.{PacketValue}
use Rattle.fed_wire.specs.Reading.{text_value}
use Rattle.fed_wire.specs.Reservations.{Reserved, reservation_value}
use Rattle.fed_wire.specs.Printed.{IsPrinted}
use Rattle.fed_wire.proofs.PrintedLaws.{printed, read_printed}
use Rattle.fed_wire.proofs.TextLaws.{text_some}

-- no float, and nested at most so deep
pub record IsPlain (n : ℕ) (d : Data) : Type 0 where
  pub whole : has_float d ≡ false
  pub shallow : depth d ≤ n

plain_items : {A : Type 0} (f : A → Data) (n : ℕ) → ((x : A) → IsPlain n (f x)) → (xs : List A) → (items_have_float (items_of (map f xs)) ≡ false) × (items_depth (items_of (map f xs)) ≤ n)
plain_items f n h [] = (refl, omega arith)
plain_items f n h (x ∷ xs) =
    let rest = plain_items f n h xs in
    let here = h x in
    (or_from _ _ here.whole rest.0, max-le here.shallow rest.1)

plain_list : {A : Type 0} (f : A → Data) (n : ℕ) → ((x : A) → IsPlain n (f x)) → (xs : List A) → IsPlain (suc n) (list_value (map f xs))
plain_list f n h xs =
    let all = plain_items f n h xs in
    record { whole = all.0; shallow = (let k : items_depth (items_of (map f xs)) ≤ n = all.1 in omega arith) }

plain_members : (n : ℕ) (ms : Named) → AllByRecursion (λ m. IsPlain n m.1) ms → (members_have_float (members_from ms) ≡ false) × (members_depth (members_from ms) ≤ n)
plain_members n [] h = (refl, omega arith)
plain_members n (m ∷ ms) h =
    let rest = plain_members n ms h.1 in
    let here = h.0 in
    (or_from _ _ here.whole rest.0, max-le here.shallow rest.1)

plain_object : (n : ℕ) (ms : Named) → AllByRecursion (λ m. IsPlain n m.1) ms → IsPlain (suc n) (object_value ms)
plain_object n ms h =
    let all = plain_members n ms h in
    record { whole = all.0; shallow = (let k : members_depth (members_from ms) ≤ n = all.1 in omega arith) }

-- ---- the members

plain_field : {T : Type 0} (v : T → Data) → ((x : T) → IsPlain 0 (v x)) → (o : Option (StampValue × T)) → IsPlain 3 (field_value v o)
plain_field v h None = record { whole = refl; shallow = omega arith }
plain_field v h (Some f) =
    let here = h f.1 in
    let leaf : depth (v f.1) ≤ 0 = here.shallow in
    record { whole = rw here.whole refl; shallow = omega arith }

plain_number : (n : ℕ) → IsPlain 0 (natural_value n)
plain_number n = record { whole = refl; shallow = omega arith }

plain_text : (s : List ℕ) → IsPlain 0 (string s)
plain_text s = record { whole = refl; shallow = omega arith }

plain_account : (a : Option (List ℕ)) → IsPlain 0 (account_value a)
plain_account a = record { whole = refl; shallow = omega arith }

plain_integer : (z : ℤ) → IsPlain 0 (integer_value z)
plain_integer (pos n) = record { whole = refl; shallow = omega arith }
plain_integer (negsuc n) = record { whole = refl; shallow = omega arith }

plain_grant : (g : Option GrantStage) → IsPlain 3 (grant_value Two g)
plain_grant None = record { whole = refl; shallow = omega arith }
plain_grant (Some (Open term stamp site)) = record { whole = refl; shallow = omega arith }
plain_grant (Some (Returned term stamp)) = record { whole = refl; shallow = omega arith }

plain_progress : (p : Steps) → IsPlain 3 (progress_value p)
plain_progress (None, f) = record { whole = refl; shallow = omega arith }
plain_progress (Some b, None) = record { whole = refl; shallow = omega arith }
plain_progress (Some b, Some f) = record { whole = refl; shallow = omega arith }

plain_hold : (p : HoldKind × StampValue) → IsPlain 2 (pair_value kind_value stamp_value p)
plain_hold p = record { whole = refl; shallow = omega arith }

plain_site : (p : ℕ × StampValue) → IsPlain 2 (pair_value natural_value stamp_value p)
plain_site p = record { whole = refl; shallow = omega arith }

plain_stamp : (s : StampValue) → IsPlain 3 (stamp_value s)
plain_stamp s = record { whole = refl; shallow = omega arith }

deeper : (m n : ℕ) (d : Data) → m ≤ n → IsPlain m d → IsPlain n d
deeper m n d h p = let k : depth d ≤ m = p.shallow in record { whole = p.whole; shallow = omega arith }

plain_version : (v : List ℕ) → IsPlain 3 (version_value v)
plain_version v = deeper 1 3 (version_value v) (omega arith) (plain_list natural_value 0 plain_number v)

plain_job : (j : Job) → IsPlain 4 (job_value Two j)
unfolding job_members
plain_job (id, r) = plain_object 3 (job_members Two (id, r)) (
  plain_field account_value plain_account (job_reads r).fields.account,
  (
    record { whole = refl; shallow = omega arith },
    (
      plain_grant (job_reads r).stages.grant,
      (
        plain_list (pair_value kind_value stamp_value) 2 plain_hold r.holds,
        (
          plain_stamp id,
          (
            plain_field natural_value plain_number (job_reads r).fields.limit,
            (
              plain_field string plain_text (job_reads r).fields.name,
              (
                plain_field natural_value plain_number (job_reads r).fields.nodes,
                (
                  plain_field string plain_text (job_reads r).fields.owner,
                  (
                    plain_field integer_value plain_integer (job_reads r).fields.priority,
                    (
                      plain_progress ((job_reads r).stages.begun, (job_reads r).stages.finished),
                      (
                        plain_list (pair_value natural_value stamp_value) 2 plain_site r.sites,
                        (plain_version (job_reads r).touched, tt),
                      ),
                    ),
                  ),
                ),
              ),
            ),
          ),
        ),
      ),
    ),
  ),
)

plain_reservation : (r : Reserved) → IsPlain 4 (reservation_value r)
plain_reservation (id, None) = record { whole = refl; shallow = omega arith }
plain_reservation (id, Some (stamp, None)) = record { whole = refl; shallow = omega arith }
plain_reservation (id, Some (stamp, Some w)) = record { whole = refl; shallow = omega arith }

plain_range : (r : Range) → IsPlain 1 (range_value r)
plain_range r = record { whole = refl; shallow = omega arith }

plain_retirements : (r : RetiredSite) → IsPlain 3 (retirements_value r)
plain_retirements r =
    let ranges = plain_list range_value 1 plain_range r.1.ranges in
    let k : depth (list_value (map range_value r.1.ranges)) ≤ 2 = ranges.shallow in
    record { whole = rw ranges.whole refl; shallow = omega arith }

plain_sender : (p : PacketValue) → AllByRecursion (λ m. IsPlain 5 m.1) (sender_member p)
plain_sender p = (deeper 0 5 (natural_value p.sender) (omega arith) (plain_number p.sender), tt)

plain_others : (told : Bool) (p : PacketValue) → AllByRecursion (λ m. IsPlain 5 m.1) (with_retired told p.delta.changes.retired (sender_member p))
plain_others false p = plain_sender p
plain_others true p = (
  deeper 4 5 (list_value (map retirements_value p.delta.changes.retired)) (omega arith) (plain_list retirements_value 3 plain_retirements p.delta.changes.retired),
  plain_sender p,
)

plain_packet : (p : PacketValue) → IsPlain 6 (packet_value Two p)
plain_packet p = plain_object 5 (packet_members Two p) (
  deeper 0 5 (natural_value (number_of Two p)) (omega arith) (plain_number (number_of Two p)),
  (
    plain_list (job_value Two) 4 plain_job p.delta.changes.jobs,
    (
      deeper 3 5 (version_value p.delta.need) (omega arith) (plain_version p.delta.need),
      (
        deeper 3 5 (version_value p.delta.changes.version) (omega arith) (plain_version p.delta.changes.version),
        (
          plain_list reservation_value 4 plain_reservation p.delta.changes.reservations,
          plain_others (tells_retired p.delta.changes.retired) p,
        ),
      ),
    ),
  ),
)

-- ---- what is written of it

written : (n : ℕ) (d e : Data) (bytes : List ℕ) → n ≤ max_depth → IsPlain n e → d ≡ e → (has_float d ≡ false → bytes ≡ compact_text d) → IsUtf8 bytes → IsInOrder bytes d → (depth d ≤ max_depth → read bytes ≡ Some d)
    → (bytes ≡ compact_text e) × IsPrinted e
written n d e bytes small h same text utf8 order back =
    let plain : has_float d ≡ false = ap has_float same ∙ h.whole in
    let k : depth e ≤ n = h.shallow in
    let shallow : depth d ≤ max_depth = omega (arith, ap depth same) in
    subst (λ (e : Data). (bytes ≡ compact_text e) × IsPrinted e) same (text plain, printed d bytes plain shallow (text plain) utf8 order (back shallow))

pub job_written : (d : Data) (j : Job) (bytes : List ℕ) → d ≡ job_value Two j → (has_float d ≡ false → bytes ≡ compact_text d) → IsUtf8 bytes → IsInOrder bytes d → (depth d ≤ max_depth → read bytes ≡ Some d)
    → (bytes ≡ compact_text (job_value Two j)) × IsPrinted (job_value Two j)
job_written d j bytes = written 4 d (job_value Two j) bytes (omega arith) (plain_job j)

pub packet_written : (d : Data) (p : PacketValue) (bytes : List ℕ) → d ≡ packet_value Two p → (has_float d ≡ false → bytes ≡ compact_text d) → IsUtf8 bytes → IsInOrder bytes d → (depth d ≤ max_depth → read bytes ≡ Some d)
    → (bytes ≡ compact_text (packet_value Two p)) × IsPrinted (packet_value Two p)
packet_written d p bytes = written 6 d (packet_value Two p) bytes (omega arith) (plain_packet p)

packet_shallow : (p : PacketValue) → depth (packet_value Two p) ≤ max_depth
packet_shallow p = let h = plain_packet p in let k : depth (packet_value Two p) ≤ 6 = h.shallow in omega arith

pub text_back : (p : PacketValue) (bytes : List ℕ) → bytes ≡ compact_text (packet_value Two p) → IsPrinted (packet_value Two p) → text_value bytes ≡ Some (packet_value Two p)
text_back p bytes same h =
    let d = packet_value Two p in
    ap text_value same ∙ text_some (compact_text d) d h.utf8 (read_printed d h (packet_shallow p))
