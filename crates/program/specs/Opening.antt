-- A run as the program opens it: the receiver's record in its bytes, and an empty store.
use Rattle.std.specs.Prelude.{ℕ, List, replicate}
use Rattle.receiver.specs.Bounds.{opened}
use Rattle.record_bytes.specs.Places.{record_length}
use Rattle.record_bytes.specs.Layout.{stored_in}
use Rattle.run.specs.Lines.{State, own, limits}
use Rattle.run.specs.Goes.{lying}

-- what the opening leaves in a buffer of a record's length
abbrev pub opened_bytes : List ℕ
opened_bytes = (stored_in (opened own limits 0).receiver (replicate record_length 0)).1

abbrev pub opening : State (List ℕ)
opening = lying opened_bytes (replicate 32768 0) 0 0
