-- The groups of a frame over lent numbers: 01, "Groups in one frame".
use Rattle.std.specs.Prelude.{ℕ, ◌*◌, List, Err, Ok, Result}
use Rattle.frame.specs.Refusals.{number_of}
use Rattle.unpacking.specs.Unpacking.{unpacked}
use Rattle.frame.specs.declared.refusal.Refusal.{Refusal}

-- how many groups, at most 16, or 256 times the number of the refusal
abbrev pub unpack_answer : Result ℕ Refusal → ℕ
unpack_answer (Ok n) = n
unpack_answer (Err x) = 256 * number_of x

abbrev pub unpacked_in : List ℕ → List ℕ → ℕ × List ℕ
unpacked_in d out = (unpack_answer (unpacked d out).0, (unpacked d out).1)
