-- What the tests of a transfer say as facts.
use Rattle.std.specs.Prelude.{ℕ, ◌+◌, ◌≤◌, ◌≡◌, true, false, [], ◌∷◌, eqb, leb}
use Rattle.std.proofs.Common.{arith, leb-true, ltb-false}
use Rattle.std.proofs.lemmas.Bool.{eqb-false}
use Rattle.laws.specs.Bools.{neither_left, neither_right}
use Rattle.laws.specs.Choice.{each_of}
use Rattle.transport.specs.declared.cts.Cts.{Cts}
use Rattle.transfer.specs.Bounds.{length_ok}
use Rattle.transfer.specs.Decisions.{bad_grant}

pub length_facts : (n : ℕ) → length_ok n ≡ true → (1 ≤ n) × (n ≤ 4096)
length_facts n e =
    let f = each_of (leb 1 n ∷ leb n 4096 ∷ []) e in (leb-true 1 n f.0, leb-true n 4096 f.1.0)

-- a CTS that is no 27 asks for segments of the message
pub grant_facts : (segments : ℕ) (f : Cts) → bad_grant segments f ≡ false → (1 ≤ f.next.0) × (f.next.0 + f.count ≤ segments + 1)
grant_facts segments f e =
    let zero : f.next.0 ≡ 0 → ⊥ = eqb-false _ _ (neither_left (eqb f.next.0 0) _ e) in
    let far : f.next.0 + f.count ≤ segments + 1 = ltb-false _ _ (neither_right (eqb f.next.0 0) _ e) in
    (omega arith, far)
