-- The number missing over the boundary: 02, E6.
use Rattle.std.specs.Prelude.{ℕ, ◌*◌, Err, Ok, Result}
use Rattle.frame.specs.Refusals.{number_of}
use Rattle.frame.specs.declared.refusal.Refusal.{Refusal}

-- at most 69 of a record in bounds, or 256 times the number of the refusal
abbrev pub missing_answer : Result ℕ Refusal → ℕ
missing_answer (Ok n) = n
missing_answer (Err x) = 256 * number_of x
