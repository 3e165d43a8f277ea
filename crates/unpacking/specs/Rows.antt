-- A group's numbers, written into a list at an index.
use Rattle.std.specs.Prelude.{ℕ, suc, ◌+◌, ◌≤◌, ◌≡◌, List, [], ◌∷◌, ◌++◌, length, set, take, drop}
use Rattle.std.proofs.Common.{arith, add-zero, sym, ap, ◌∙◌, append_assoc, length-append, length-drop, take-append-drop, length-take-le, take_at, drop_at, drop-drop}
use Rattle.std.proofs.lemmas.List.Edits.{sets, sets-eq}

-- what is written after it
pub sets_append : (vs ws l : List ℕ) (i : ℕ) → sets l i (vs ++ ws) ≡ sets (sets l i vs) (i + length vs) ws
sets_append [] ws l i = ap (λ (k : ℕ). sets l k ws) (sym (add-zero i))
sets_append (v ∷ vs) ws l i =
    let e : suc i + length vs ≡ i + suc (length vs) = omega arith in
    sets_append vs ws (set l i v) (suc i) ∙ ap (λ (k : ℕ). sets (sets (set l i v) (suc i) vs) k ws) e

module _ (l vs : List ℕ) (i n : ℕ) (e : length vs ≡ n) (h : i + n ≤ length l) where
  written : sets l i vs ≡ (take i l ++ vs) ++ drop (i + n) l
  written = sets-eq vs l i (omega arith) ∙ ap (λ (k : ℕ). (take i l ++ vs) ++ drop (i + k) l) e

  front : length (take i l ++ vs) ≡ i + n
  front = length-append (take i l) vs ∙ ap (λ (k : ℕ). k + length vs) (length-take-le i l (omega arith)) ∙ ap (λ (k : ℕ). i + k) e

  sets_take : take (i + n) (sets l i vs) ≡ take i l ++ vs
  sets_take = ap (take (i + n)) written ∙ take_at (take i l ++ vs) (drop (i + n) l) (i + n) front

  sets_drop : drop (i + n) (sets l i vs) ≡ drop (i + n) l
  sets_drop = ap (drop (i + n)) written ∙ drop_at (take i l ++ vs) (drop (i + n) l) (i + n) front

-- n numbers of o kept in k before they are written over: putting back gives what it gave
pub keep_turn : (k o vs : List ℕ) (i n : ℕ) → length vs ≡ n → i + n ≤ length k → i + n ≤ length o
    → take (i + n) (sets k i (take n (drop i o))) ++ drop (i + n) (sets o i vs) ≡ take i k ++ drop i o
keep_turn k o vs i n e hk ho =
    ap (λ (m : List ℕ). m ++ drop (i + n) (sets o i vs)) (sets_take k (take n (drop i o)) i n (length-take-le n (drop i o) (simp length-drop (omega arith))) hk)
    ∙ ap (λ (m : List ℕ). (take i k ++ take n (drop i o)) ++ m) (sets_drop o vs i n e ho)
    ∙ append_assoc (take i k) (take n (drop i o)) (drop (i + n) o)
    ∙ ap (λ (m : List ℕ). take i k ++ (take n (drop i o) ++ m)) (sym (drop-drop n i o))
    ∙ ap (λ (m : List ℕ). take i k ++ m) (take-append-drop n (drop i o))
