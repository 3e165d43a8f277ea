-- The packer over lent bytes: 01, "Groups in one frame", its last paragraph, with E5 of 02.
use Rattle.std.specs.Prelude.{ℕ, ◌*◌, List, Err, Ok, Result}
use Rattle.frame.specs.Refusals.{number_of}
use Rattle.packing.specs.Packing.{Request, packed}
use Rattle.frame.specs.declared.refusal.Refusal.{Refusal}

-- the frame's length, at most 64, or 256 times the number of the refusal
abbrev pub pack_answer : Result ℕ Refusal → ℕ
pack_answer (Ok n) = n
pack_answer (Err x) = 256 * number_of x

-- the answer as a number, and the output as the packer leaves it
abbrev pub packed_in : Request → List ℕ → ℕ × List ℕ
packed_in q out = (pack_answer (packed q out).0, (packed q out).1)
