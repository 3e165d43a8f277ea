-- What is put back unchanged stays byte for byte, and one slot changed is one piece changed.
use Prim.Native.Nat.{ℕ, ◌<◌}
use Rattle.std.specs.Prelude.{◌≡◌, true, get_or}
use mathlib.Core.List.{List}
use Rattle.std.proofs.Math.ListN.{length}
use Rattle.record_bytes.specs.Places.{slot_length}
use Rattle.record_bytes.specs.Layout.{codes_in}

-- every element is a byte: what a lent slice of bytes gives
abbrev pub Bytes : List ℕ → Type 0
Bytes l = (i : ℕ) → get_or l i 0 < 256

-- ---- a slot

-- a piece of a record
pub record Good (p : List ℕ) : Type 0 where
  pub long : length p ≡ slot_length
  pub bytes : Bytes p
  pub codes : codes_in p ≡ true
