-- The two silences, and the limit of each: 02, E4. In 001 they are T2 after a CTS and T1 in all other cases (6.6.2.5, 6.14).
use Rattle.std.specs.Prelude.{ℕ, Bool, true, false}
use Rattle.progress.specs.declared.wait.Wait.{Wait}
use Rattle.progress.specs.declared.wait.Wait.TheVariants.{First, Second}
use Rattle.progress.specs.declared.wait.IdleLimits.{IdleLimits}

-- a CTS starts the first wait; a segment that brought none, and a BAM, the second
abbrev pub wait_after : Bool → Wait
wait_after true = First
wait_after false = Second

abbrev pub is_second : Wait → Bool
is_second First = false
is_second Second = true

-- the limit in force
abbrev pub limit_in : IdleLimits → Wait → ℕ
limit_in limits First = limits.first
limit_in limits Second = limits.second
