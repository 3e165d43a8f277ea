-- A count for each address of how often it occurs: 02, E7. The addresses are the SAs of the open sessions; cs has the counts, that of
-- address 0 first.
use Rattle.std.specs.Prelude.{ℕ, zero, suc, ◌+◌, ◌≤◌, ◌<◌, ◌≡◌, refl, Bool, true, false, cond, ◌&&◌, List, [], ◌∷◌, ◌++◌, eqb, length, get_or}
use Rattle.std.proofs.Common.{ap, ap₂, ◌∙◌, arith, eqb-true, eq-eqb}
use mathlib.Mathlib.Data.Bool.Basic.{and_elim_left, and_elim_right}

unfoldable pub sum_of : List ℕ → ℕ
sum_of [] = 0
sum_of (c ∷ cs) = c + sum_of cs

-- how often x occurs
unfoldable pub count_of : ℕ → List ℕ → ℕ
count_of x [] = 0
count_of x (a ∷ us) = cond (eqb x a) 1 0 + count_of x us

-- the counts of n addresses, from x on
unfoldable pub counts_from : ℕ → ℕ → List ℕ → List ℕ
counts_from zero x us = []
counts_from (suc n) x us = count_of x us ∷ counts_from n (suc x) us

-- every count is right, the first being that of x
unfoldable pub right_from : ℕ → List ℕ → List ℕ → Bool
right_from x [] us = true
right_from x (c ∷ cs) us = eqb c (count_of x us) && right_from (suc x) cs us

-- ---- what is right

pub length_counts : (n x : ℕ) (us : List ℕ) → length (counts_from n x us) ≡ n
unfolding counts_from
length_counts zero x us = refl
length_counts (suc n) x us = ap suc (length_counts n (suc x) us)

pub count_at : (n x : ℕ) (us : List ℕ) (i : ℕ) → i < n → get_or (counts_from n x us) i 0 ≡ count_of (x + i) us
unfolding counts_from
count_at zero x us i h = absurd (omega arith)
count_at (suc n) x us zero h = let e : x ≡ x + 0 = omega arith in ap (λ (y : ℕ). count_of y us) e
count_at (suc n) x us (suc i) h =
    let e : suc x + i ≡ x + suc i = omega arith in
    count_at n (suc x) us i (omega arith) ∙ ap (λ (y : ℕ). count_of y us) e

-- the counts themselves are right
pub counts_right : (n x : ℕ) (us : List ℕ) → right_from x (counts_from n x us) us ≡ true
unfolding counts_from right_from
counts_right zero x us = refl
counts_right (suc n) x us = rw (eq-eqb (count_of x us) (count_of x us) refl) (counts_right n (suc x) us)

-- and none but they
pub right_counts : (x : ℕ) (cs us : List ℕ) → right_from x cs us ≡ true → cs ≡ counts_from (length cs) x us
unfolding counts_from right_from
right_counts x [] us e = refl
right_counts x (c ∷ cs) us e =
    let t : Bool = eqb c (count_of x us) in
    let u : Bool = right_from (suc x) cs us in
    ap₂ (λ (d : ℕ) (ds : List ℕ). d ∷ ds) (eqb-true c (count_of x us) (and_elim_left t u e)) (right_counts (suc x) cs us (and_elim_right t u e))

-- ---- addresses more and less

pub count_append : (x : ℕ) (us vs : List ℕ) → count_of x (us ++ vs) ≡ count_of x us + count_of x vs
unfolding count_of
count_append x [] vs = omega arith
count_append x (a ∷ us) vs = let h : count_of x (us ++ vs) ≡ count_of x us + count_of x vs = count_append x us vs in omega arith

-- counts go by how often each address occurs, whatever the order
pub counts_alike : (n x : ℕ) (us vs : List ℕ) → ((y : ℕ) → count_of y us ≡ count_of y vs) → counts_from n x us ≡ counts_from n x vs
unfolding counts_from
counts_alike zero x us vs e = refl
counts_alike (suc n) x us vs e = ap₂ (λ (d : ℕ) (ds : List ℕ). d ∷ ds) (e x) (counts_alike n (suc x) us vs e)

one_at_most : (t : Bool) → cond t 1 0 ≤ 1
one_at_most true = omega arith
one_at_most false = omega arith

pub count_most : (x : ℕ) (us : List ℕ) → count_of x us ≤ length us
unfolding count_of
count_most x [] = omega arith
count_most x (a ∷ us) = let h : count_of x us ≤ length us = count_most x us in let o : cond (eqb x a) 1 0 ≤ 1 = one_at_most (eqb x a) in omega arith
