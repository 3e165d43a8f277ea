-- 01's table, P1 to P12, as one statement: the reader's rows, the packer's rows into an output of 64 bytes of any content, and the receiver's rows.
use Prim.Native.Nat.{ℕ}
use mathlib.Core.Path.{◌≡◌}
use mathlib.Core.List.{List}
use lib.ListN.{length}
use Rattle.multi_pg.specs.Table as reader
use Rattle.packing.specs.Table as packer
use Rattle.isolation.proofs.Table as calls

pub record Table : Type 0 where
  -- P1 to P5
  pub reads : reader.Rows
  -- P6 and P7
  pub packs : (out : List ℕ) → length out ≡ 64 → packer.Rows out
  -- P8 to P12, on the definitions that the frame and the reading calls cite
  pub receives : calls.Rows

pub table : Table
table = record { reads = reader.rows; packs = packer.rows; receives = calls.rows }
