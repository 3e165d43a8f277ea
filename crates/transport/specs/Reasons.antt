-- The wire reason of a refusal that an Abort carries: 001, Table 11; docs/WIRE.md has the mapping and why.
use Rattle.std.specs.Prelude.{ℕ, cond, eqb}
use Rattle.frame.specs.Refusals.{number_of, spent_of}
use Rattle.frame.specs.declared.refusal.Refusal.{Refusal}

-- 12: the size exceeds what we have; 15: no further session; 19 and 27: bad segment number; 22: time-out; for every other
-- the table has no line of that meaning
unfoldable pub reason_of : ℕ → ℕ
reason_of number =
    cond (eqb number 12) 9 (cond (eqb number 15) 1 (cond (eqb number 19) 7 (cond (eqb number 22) 3 (cond (eqb number 27) 7 250))))

-- 21 has two meanings, and the table a line for one of them: the limit of retransmit requests is reached (02, E6)
abbrev pub wire_reason : Refusal → ℕ
wire_reason r = cond (eqb (spent_of r) 1) 5 (reason_of (number_of r))
