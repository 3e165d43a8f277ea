use Prim.Native.Nat.{ℕ, suc, ◌+◌, ◌-◌, ◌%◌, ◌/◌, ◌≤◌, ◌<◌}
use native.Mathlib.Omega.{arith}
use mathlib.Core.Path.{◌≡◌, sym, ap, ◌∙◌}
use mathlib.Core.List.{List, [], ◌∷◌, ◌++◌, append_assoc, append-nil}
use lib.ListN.{length, set, drop, length-drop}
use lib.Seq.{drop_at, drop-length}
use Rattle.text.specs.Decimal.{width_of, decimal, digits_of, length_decimal, length_digits}
use Rattle.text.specs.Put.{put, PutAt, put_nil, put_before, length_put}
use Rattle.text.proofs.decimal.U64Decimal.put.Invariants.{Writing}
use Rattle.text.proofs.decimal.U64Decimal.put.Goals as goal

module _ (d : List ℕ) (at n end : ℕ) where
  begins : end ≡ at + width_of n → at + length (decimal n) ≤ length d → Writing d at n end d n end
  unfolding decimal
  begins e h =
      let l : length (decimal n) ≡ width_of n = length_decimal n in
      let k : end - at ≡ width_of n = omega arith in
      let z : drop (end - at) (decimal n) ≡ [] = ap (λ (m : ℕ). drop m (decimal n)) (k ∙ sym l) ∙ drop-length (decimal n) in
      record {
        low = omega arith;
        high = omega arith;
        ends = omega arith;
        room = omega arith;
        done = sym (ap (put d end) z ∙ put_nil d end);
        todo = sym (ap (λ (r : List ℕ). digits_of (end - at) n ++ r) z ∙ append-nil (digits_of (end - at) n) ∙ ap (λ (m : ℕ). digits_of m n) k);
      }

  module _ (out : List ℕ) (left i : ℕ) (w : Writing d at n end out left i) where
    keeps : length out ≡ length d
    keeps =
        let a : at ≤ i = w.low in
        let b : i ≤ end = w.high in
        let e : end ≡ at + length (decimal n) = w.ends in
        let r : end ≤ length d = w.room in
        ap length w.done ∙ length_put d i (drop (i - at) (decimal n)) (simp length-drop (omega arith))

    module _ (more : at < i) where
      -- the last digit of what is left goes in front of those in place
      split : decimal n ≡ digits_of (i - 1 - at) (left / 10) ++ ((48 + left % 10) ∷ drop (i - at) (decimal n))
      unfolding digits_of
      split =
          let k : i - at ≡ suc (i - 1 - at) = omega arith in
          w.todo
          ∙ ap (λ (m : ℕ). digits_of m left ++ drop (i - at) (decimal n)) k
          ∙ append_assoc (digits_of (i - 1 - at) (left / 10)) ((48 + left % 10) ∷ []) (drop (i - at) (decimal n))

      behind : drop (i - 1 - at) (decimal n) ≡ (48 + left % 10) ∷ drop (i - at) (decimal n)
      behind =
          ap (drop (i - 1 - at)) split
          ∙ drop_at (digits_of (i - 1 - at) (left / 10)) ((48 + left % 10) ∷ drop (i - at) (decimal n)) (i - 1 - at) (length_digits (i - 1 - at) (left / 10))

      goes : Writing d at n end (set out (i - 1) (48 + left % 10)) (left / 10) (i - 1)
      goes =
          let a : at ≤ i = w.low in
          let b : i ≤ end = w.high in
          let r : end ≤ length d = w.room in
          let k : i ≡ i - 1 + 1 = omega arith in
          let v : ℕ = 48 + left % 10 in
          record {
            low = omega arith;
            high = omega arith;
            ends = w.ends;
            room = w.room;
            done =
                ap (λ (l : List ℕ). set l (i - 1) v) (w.done ∙ ap (λ (j : ℕ). put d j (drop (i - at) (decimal n))) k)
                ∙ put_before d (i - 1) v (drop (i - at) (decimal n)) (omega arith)
                ∙ ap (put d (i - 1)) (sym behind);
            todo = split ∙ ap (λ (l : List ℕ). digits_of (i - 1 - at) (left / 10) ++ l) (sym behind);
          }

    ended : i ≤ at → PutAt d at (decimal n) end out
    ended h =
        let a : at ≤ i = w.low in
        let e : i ≡ at = omega arith in
        let z : i - at ≡ 0 = omega arith in
        record { place = w.ends; bytes = w.done ∙ ap (λ (j : ℕ). put d j (drop (i - at) (decimal n))) e ∙ ap (λ (j : ℕ). put d at (drop j (decimal n))) z }

pub overflow_add-end : goal.overflow_add-end
overflow_add-end c = omega (arith, length_decimal c.args.self)

pub loop-i-init : goal.loop-i-init
loop-i-init c = begins _ _ _ _ (ap (λ (k : ℕ). c.args.at + k) c.width.ensures) c.requires

pub loop-i-preserved : goal.loop-i-preserved
loop-i-preserved c = goes _ _ _ _ _ _ _ c.loop-i.invariant c.loop-i-test.true
