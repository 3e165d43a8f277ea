-- The laws of tests that the proofs here cite.
pub use mathlib.Mathlib.Data.Bool.Basic.{and_elim_left as and_left, and_elim_right as and_right, or_inl as or-1, or_inr as or-2}
pub use Rattle.laws.specs.Bools.{not_passed as or-false, clash, either_way, both, or_either, neither_left as or_left, neither_right as or_right, same_test}
