-- A packet: what a site tells another of its board.
use Rattle.std.specs.Prelude.{ℕ}
use Rattle.fed_delta.specs.Delta.{DeltaValue}

pub record PacketValue : Type 0 where
  pub sender : ℕ
  pub delta : DeltaValue
