-- Two cheap tests show every count right: the counts' sum is the number of addresses, and each address is counted more often than it
-- occurs among those before it.
use Rattle.std.specs.Prelude.{ℕ, zero, suc, ◌+◌, ◌≤◌, ◌<◌, ◌≡◌, refl, Bool, true, false, cond, List, [], ◌∷◌, eqb, ltb, length, get_or}
use Rattle.std.proofs.Common.{sym, ap, ◌∙◌, suc-add, add-zero, zero-add, add_assoc, arith, eqb-true, eq-eqb, ne_eqb, ltb-true, lt-ltb}
use mathlib.Mathlib.Data.Bool.Basic.{and_elim_left, and_elim_right}
use Rattle.std.proofs.lemmas.Bool.{eqb-false}
use Rattle.counts.specs.Counts.{sum_of, count_of, right_from, count_at, right_counts}
use Rattle.counts.specs.OnePass.{ranked, one_pass, Below}

-- ---- the sum of a function's first n values

abbrev total : (ℕ → ℕ) → ℕ → ℕ
total f zero = 0
total f (suc n) = total f n + f n

total_first : (f : ℕ → ℕ) (n : ℕ) → total f (suc n) ≡ f 0 + total (λ (x : ℕ). f (suc x)) n
total_first f zero = zero-add (f 0) ∙ sym (add-zero (f 0))
total_first f (suc n) = ap (λ (t : ℕ). t + f (suc n)) (total_first f n) ∙ add_assoc (f 0) (total (λ (x : ℕ). f (suc x)) n) (f (suc n))

total_both : (f g : ℕ → ℕ) (n : ℕ) → total (λ (x : ℕ). f x + g x) n ≡ total f n + total g n
total_both f g zero = refl
total_both f g (suc n) = let h = total_both f g n in omega arith

total_zero : (n : ℕ) → total (λ (x : ℕ). 0) n ≡ 0
total_zero zero = refl
total_zero (suc n) = let h = total_zero n in omega arith

-- a value that is 1 at a alone
total_past : (a n : ℕ) → n ≤ a → total (λ (x : ℕ). cond (eqb x a) 1 0) n ≡ 0
total_past a zero h = refl
total_past a (suc n) h = rw (ne_eqb n a (omega arith)) (let t = total_past a n (omega arith) in omega arith)

total_one : (a n : ℕ) → a < n → total (λ (x : ℕ). cond (eqb x a) 1 0) n ≡ 1
total_one a zero h = omega arith
total_one a (suc n) h = go (eqb n a) refl (total_one a n)
  where
    go : (t : Bool) → eqb n a ≡ t → (a < n → total (λ (x : ℕ). cond (eqb x a) 1 0) n ≡ 1)
        → total (λ (x : ℕ). cond (eqb x a) 1 0) n + cond (eqb n a) 1 0 ≡ 1
    go true e f = let s : n ≡ a = eqb-true n a e in rw e (let t = total_past a n (omega arith) in omega arith)
    go false e f = let d : n ≡ a → ⊥ = eqb-false n a e in rw e (let t = f (omega arith) in omega arith)

sum_total : (cs : List ℕ) → sum_of cs ≡ total (λ (x : ℕ). get_or cs x 0) (length cs)
unfolding sum_of
sum_total [] = refl
sum_total (c ∷ cs) = ap (λ (t : ℕ). c + t) (sum_total cs) ∙ sym (total_first (λ (x : ℕ). get_or (c ∷ cs) x 0) (length cs))

-- each address occurs once for each of its places
count_total : (n : ℕ) (us : List ℕ) → Below n us → total (λ (x : ℕ). count_of x us) n ≡ length us
unfolding count_of Below
count_total n [] b = total_zero n
count_total n (a ∷ us) b =
    total_both (λ (x : ℕ). cond (eqb x a) 1 0) (λ (x : ℕ). count_of x us) n
    ∙ ap (λ (t : ℕ). t + total (λ (x : ℕ). count_of x us) n) (total_one a n b.0)
    ∙ ap (λ (t : ℕ). 1 + t) (count_total n us b.1)
    ∙ suc-add 0 (length us) ∙ ap suc (zero-add (length us))

total_ext : (f g : ℕ → ℕ) (n : ℕ) → ((x : ℕ) → x < n → f x ≡ g x) → total f n ≡ total g n
total_ext f g zero h = refl
total_ext f g (suc n) h = let t = total_ext f g n (λ x b. h x (omega arith)) in let l = h n (omega arith) in omega arith

-- values that are nowhere smaller, and have the same sum, are the same
total_le : (f g : ℕ → ℕ) (n : ℕ) → ((x : ℕ) → x < n → g x ≤ f x) → total g n ≤ total f n
total_le f g zero h = omega arith
total_le f g (suc n) h = let t = total_le f g n (λ x b. h x (omega arith)) in let l = h n (omega arith) in omega arith

total_same : (f g : ℕ → ℕ) (n : ℕ) → ((x : ℕ) → x < n → g x ≤ f x) → total f n ≡ total g n → (x : ℕ) → x < n → f x ≡ g x
total_same f g zero h e x b = omega arith
total_same f g (suc n) h e x b = go (eqb x n) refl (total_same f g n (λ y c. h y (omega arith)))
  where
    go : (t : Bool) → eqb x n ≡ t → (total f n ≡ total g n → (y : ℕ) → y < n → f y ≡ g y) → f x ≡ g x
    go true q k =
        let t = total_le f g n (λ y c. h y (omega arith)) in
        let l = h n (omega arith) in
        let last : f n ≡ g n = omega arith in
        ap f (eqb-true x n q) ∙ last ∙ ap g (sym (eqb-true x n q))
    go false q k =
        let t = total_le f g n (λ y c. h y (omega arith)) in
        let l = h n (omega arith) in
        let d : x ≡ n → ⊥ = eqb-false x n q in
        k (omega arith) x (omega arith)

-- ---- by rank

-- an address that occurs in us is counted at least as often as it occurs in both
rank_at : (cs vs us : List ℕ) → ranked cs vs us ≡ true → (x : ℕ) → 0 < count_of x us → count_of x us + count_of x vs ≤ get_or cs x 0
unfolding ranked count_of
rank_at cs vs [] e x h = absurd (omega arith)
rank_at cs vs (a ∷ us) e x h =
    let t : Bool = ltb (count_of a vs) (get_or cs a 0) in
    let u : Bool = ranked cs (a ∷ vs) us in
    go (eqb x a) refl h (rank_at cs (a ∷ vs) us (and_elim_right t u e) x) (ltb-true (count_of a vs) (get_or cs a 0) (and_elim_left t u e))
  where
    go : (t : Bool) → eqb x a ≡ t → 0 < cond t 1 0 + count_of x us
        → (0 < count_of x us → count_of x us + (cond (eqb x a) 1 0 + count_of x vs) ≤ get_or cs x 0)
        → count_of a vs < get_or cs a 0 → cond (eqb x a) 1 0 + count_of x us + count_of x vs ≤ get_or cs x 0
    go true q b f l = rw q (let s : x ≡ a = eqb-true x a q in last (eqb (count_of x us) 0) refl)
      where
        last : (z : Bool) → eqb (count_of x us) 0 ≡ z → 1 + count_of x us + count_of x vs ≤ get_or cs x 0
        last true w =
            let n : count_of x us ≡ 0 = eqb-true _ _ w in
            let s : x ≡ a = eqb-true x a q in
            let m : count_of x vs < get_or cs x 0 = rw s l in
            omega arith
        last false w =
            let d : count_of x us ≡ 0 → ⊥ = eqb-false _ _ w in
            let o : ◌≡◌ {A = ℕ} (cond (eqb x a) 1 0) 1 = rw q refl in
            let m = f (omega arith) in
            omega arith
    go false q b f l = let o : ◌≡◌ {A = ℕ} (cond (eqb x a) 1 0) 0 = rw q refl in let m = f (omega arith) in omega arith

rank_le : (cs us : List ℕ) → ranked cs [] us ≡ true → (x : ℕ) → count_of x us ≤ get_or cs x 0
unfolding count_of
rank_le cs us e x = go (eqb (count_of x us) 0) refl
  where
    go : (t : Bool) → eqb (count_of x us) 0 ≡ t → count_of x us ≤ get_or cs x 0
    go true q = let z : count_of x us ≡ 0 = eqb-true (count_of x us) 0 q in omega arith
    go false q =
        let d : count_of x us ≡ 0 → ⊥ = eqb-false (count_of x us) 0 q in
        let m : count_of x us + count_of x [] ≤ get_or cs x 0 = rank_at cs [] us e x (omega arith) in
        let z : count_of x [] ≡ 0 = refl in
        omega arith

-- where every count is right, each address has its rank below it
rank_pass : (cs vs us : List ℕ) (n : ℕ) → Below n us → ((x : ℕ) → x < n → get_or cs x 0 ≡ count_of x us + count_of x vs) → ranked cs vs us ≡ true
unfolding ranked count_of Below
rank_pass cs vs [] n b h = refl
rank_pass cs vs (a ∷ us) n b h =
    let o : ◌≡◌ {A = ℕ} (cond (eqb a a) 1 0) 1 = ap (λ (t : Bool). cond t 1 0) (eq-eqb a a refl) in
    let m : get_or cs a 0 ≡ cond (eqb a a) 1 0 + count_of a us + count_of a vs = h a b.0 in
    rw (lt-ltb (count_of a vs) (get_or cs a 0) (omega arith))
    (rank_pass cs (a ∷ vs) us n b.1 (λ x l. let k : get_or cs x 0 ≡ cond (eqb x a) 1 0 + count_of x us + count_of x vs = h x l in omega arith))

-- ---- the law

right_at : (x : ℕ) (cs us : List ℕ) → right_from x cs us ≡ true → (i : ℕ) → i < length cs → get_or cs i 0 ≡ count_of (x + i) us
right_at x cs us e i h =
    ap (λ (l : List ℕ). get_or l i 0) (right_counts x cs us e) ∙ count_at (length cs) x us i h

all_right : (x : ℕ) (cs us : List ℕ) → ((i : ℕ) → i < length cs → get_or cs i 0 ≡ count_of (x + i) us) → right_from x cs us ≡ true
unfolding right_from
all_right x [] us h = refl
all_right x (c ∷ cs) us h =
    let z : x + 0 ≡ x = omega arith in
    rw (eq-eqb c (count_of x us) (h 0 (omega arith) ∙ ap (λ (y : ℕ). count_of y us) z))
    (all_right (suc x) cs us (λ i l. let w : x + suc i ≡ suc x + i = omega arith in h (suc i) (omega arith) ∙ ap (λ (y : ℕ). count_of y us) w))

-- the two tests show every count right, also that of an address that does not occur
pub pass_right : (cs us : List ℕ) → Below (length cs) us → one_pass cs us ≡ true → right_from 0 cs us ≡ true
pass_right cs us b e =
    let t : Bool = eqb (sum_of cs) (length us) in
    let u : Bool = ranked cs [] us in
    let s : (x : ℕ) → x < length cs → get_or cs x 0 ≡ count_of x us =
    total_same (λ (x : ℕ). get_or cs x 0) (λ (x : ℕ). count_of x us) (length cs) (λ x h. rank_le cs us (and_elim_right t u e) x)
    (sym (sum_total cs) ∙ eqb-true (sum_of cs) (length us) (and_elim_left t u e) ∙ sym (count_total (length cs) us b)) in
    all_right 0 cs us (λ i l. let z : i ≡ 0 + i = omega arith in s i l ∙ ap (λ (y : ℕ). count_of y us) z)

-- and where every count is right, the tests pass
pub right_pass : (cs us : List ℕ) → Below (length cs) us → right_from 0 cs us ≡ true → one_pass cs us ≡ true
unfolding count_of
right_pass cs us b e =
    let r : (x : ℕ) → x < length cs → get_or cs x 0 ≡ count_of x us = λ x l. let z : 0 + x ≡ x = omega arith in right_at 0 cs us e x l ∙ ap (λ (y : ℕ). count_of y us) z in
    let s : sum_of cs ≡ length us =
    sum_total cs ∙ total_ext (λ (x : ℕ). get_or cs x 0) (λ (x : ℕ). count_of x us) (length cs) r ∙ count_total (length cs) us b in
    rw (eq-eqb (sum_of cs) (length us) s)
    (rank_pass cs [] us (length cs) b (λ x l. let k : get_or cs x 0 ≡ count_of x us = r x l in let z : count_of x [] ≡ 0 = refl in omega arith))
