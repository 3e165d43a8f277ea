-- A header as numbers, for the functions that are handed numbers. Nothing here is to be believed: proofs tie each to Groups.
use Rattle.std.specs.Prelude.{ℕ, ◌+◌, ◌-◌, ◌*◌, ◌/◌, ◌%◌, Bool, cond, not, ltb, Option, Some, Result, Ok, Err}
use Rattle.frame.specs.Pgn.{pgn_ok}
use Rattle.frame.specs.declared.refusal.Refusal.{Refusal}
use Rattle.frame.specs.declared.refusal.Refusal.TheVariants.{DataCut, PgnForm}
use Rattle.multi_pg.specs.declared.Group.{Group}

-- the PGN by its three bytes
abbrev pub pgn_of : ℕ → ℕ → ℕ → ℕ
pgn_of first second third = 65536 * (first % 4) + 256 * second + third

-- the last tests of a place, by the numbers of its header
abbrev pub headed : ℕ → ℕ → ℕ → ℕ → ℕ → Bool → Result (Option Group) Refusal
headed first pgn payload n start fits =
    cond (not (pgn_ok pgn)) (Err PgnForm)
    (cond (ltb payload n) (Err DataCut)
    (cond (not fits) (Err DataCut)
    (Ok (Some (record { pgn = pgn; service = first / 32; format = first / 4 % 8; start = start; len = payload - n; trailer = n })))))
