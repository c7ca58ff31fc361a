-- Values whose text is read as themselves, and what that is made of: so they can be printed one after another.
use Rattle.std.specs.Prelude.{◌≡◌, Bool, [], Some}
use Rattle.std.specs.Str.{IsUtf8}
use Rattle.json.specs.Tree.{HasNumbers, ItemsHaveNumbers}
use Rattle.serde_json.specs.Data.{Data, Items}
use Rattle.serde_json.specs.Read.{of_json, of_items}
use Rattle.serde_json.specs.Written.{outline, items_outline, compact_text, items_text}
use Rattle.fed_delta.specs.Packet.{PacketValue}

pub record IsPrinted (d : Data) : Type 0 where
  pub utf8 : IsUtf8 (compact_text d)
  pub numbers : HasNumbers (outline d)
  pub back : of_json (outline d) ≡ Some d

pub record ArePrinted (ds : Items) : Type 0 where
  pub utf8 : (later : Bool) → IsUtf8 (items_text later ds)
  pub numbers : ItemsHaveNumbers (items_outline ds)
  pub back : of_items (items_outline ds) ≡ Some ds

-- the packet with no jobs
abbrev pub without_jobs : PacketValue → PacketValue
without_jobs p = record {
  sender = p.sender;
  delta = record {
    need = p.delta.need;
    changes = record { version = p.delta.changes.version; retired = p.delta.changes.retired; jobs = []; reservations = p.delta.changes.reservations };
  };
}
