-- The first segment that is missing, and the run from it on. It knows the rules' data taken, and no session.
use Prim.Native.Nat.{ℕ, zero, suc, ◌+◌, ◌-◌, ◌≤◌, ◌<◌}
use mathlib.Core.Path.{◌≡◌, refl, ap, ◌∙◌}
use mathlib.Core.Bool.{Bool, true, false, cond}
use mathlib.Core.List.{List}
use native.Mathlib.Omega.{arith}
use native.Mathlib.Decide.{ℕ_discrete, dec_lt}
use lib.ListN.{length}
use Rattle.isolation.specs.Rules.{Piece, is_taken, first_missing, missing_run}
use Rattle.isolation.proofs.Gathered.{Gathered, in_length, all_in_lem}

-- ---- the first one missing of the f from n on, if any is

pub record First (f n : ℕ) (xs : List Piece) (a : ℕ) : Type 0 where
  pub from : n ≤ a
  pub to : a ≤ n + f
  pub missing : a < n + f → is_taken a xs ≡ false
  pub before : (i : ℕ) → n ≤ i → i < a → is_taken i xs ≡ true

pub first_missing_lem : (f n : ℕ) (xs : List Piece) → First f n xs (first_missing f n xs)
unfolding first_missing
first_missing_lem zero n xs = record { from = omega arith; to = omega arith; missing = λ l. absurd (omega arith); before = λ i a b. absurd (omega arith) }
first_missing_lem (suc f) n xs = go (is_taken n xs) refl (first_missing_lem f (n + 1) xs)
  where
    go : (t : Bool) → is_taken n xs ≡ t → First f (n + 1) xs (first_missing f (n + 1) xs) → First (suc f) n xs (cond t (first_missing f (n + 1) xs) n)
    go false e h = record { from = omega arith; to = omega arith; missing = λ l. e; before = λ i a b. absurd (omega arith) }
    go true e h =
        let p = h.from in
        let q = h.to in
        record { from = omega arith; to = omega arith; missing = λ l. h.missing (omega arith); before = λ i a b. here i a b (ℕ_discrete i n) }
      where
        here : (i : ℕ) → n ≤ i → i < first_missing f (n + 1) xs → Dec (i ≡ n) → is_taken i xs ≡ true
        here i a b (yes z) = ap (λ (k : ℕ). is_taken k xs) z ∙ e
        here i a b (no z) = h.before i (omega arith) b

-- ---- how many are missing in a row, of the f from n on

pub record Run (f n : ℕ) (xs : List Piece) (c : ℕ) : Type 0 where
  pub most : c ≤ f
  pub some : 1 ≤ f → is_taken n xs ≡ false → 1 ≤ c
  pub missing : (i : ℕ) → n ≤ i → i < n + c → is_taken i xs ≡ false

pub missing_run_lem : (f n : ℕ) (xs : List Piece) → Run f n xs (missing_run f n xs)
unfolding missing_run
missing_run_lem zero n xs = record { most = omega arith; some = λ a e. absurd (omega arith); missing = λ i a b. absurd (omega arith) }
missing_run_lem (suc f) n xs = go (is_taken n xs) refl (missing_run_lem f (n + 1) xs)
  where
    go : (t : Bool) → is_taken n xs ≡ t → Run f (n + 1) xs (missing_run f (n + 1) xs) → Run (suc f) n xs (cond t 0 (1 + missing_run f (n + 1) xs))
    go true e h = record { most = omega arith; some = λ a u. absurd (let z : ◌≡◌ {A = ℕ} 0 1 = cc in omega arith); missing = λ i a b. absurd (omega arith) }
    go false e h = let p = h.most in record { most = omega arith; some = λ a u. omega arith; missing = λ i a b. here i a b (ℕ_discrete i n) }
      where
        here : (i : ℕ) → n ≤ i → i < n + (1 + missing_run f (n + 1) xs) → Dec (i ≡ n) → is_taken i xs ≡ false
        here i a b (yes z) = ap (λ (k : ℕ). is_taken k xs) z ∙ e
        here i a b (no z) = h.missing i (omega arith) (omega arith)

-- ---- where segments are missing, the first gap: from a, c of them

pub record Gap (segments : ℕ) (xs : List Piece) (a c : ℕ) : Type 0 where
  pub from : 1 ≤ a
  pub some : 1 ≤ c
  pub to : a + c ≤ segments + 1
  pub missing : (i : ℕ) → a ≤ i → i < a + c → is_taken i xs ≡ false

abbrev pub gap_from : ℕ → List Piece → ℕ
gap_from segments xs = first_missing segments 1 xs

abbrev pub gap_length : ℕ → List Piece → ℕ
gap_length segments xs = missing_run (segments + 1 - gap_from segments xs) (gap_from segments xs) xs

pub first_gap : (total segments : ℕ) (p : List ℕ) (xs : List Piece) → Gathered total segments p xs → (length xs ≡ segments → ⊥)
    → Gap segments xs (gap_from segments xs) (gap_length segments xs)
first_gap total segments p xs good n = go (first_missing segments 1 xs) (first_missing_lem segments 1 xs)
  where
    -- else all are in
    some_missing : (a : ℕ) → First segments 1 xs a → a < segments + 1
    some_missing a h = here (dec_lt a (segments + 1))
      where
        here : Dec (a < segments + 1) → a < segments + 1
        here (yes l) = l
        here (no l) =
            absurd (let e = all_in_lem segments xs (λ i u v. h.before i u (omega arith)) in let d = in_length total segments p xs good in n (omega arith))

    go : (a : ℕ) → First segments 1 xs a → Gap segments xs a (missing_run (segments + 1 - a) a xs)
    go a h =
        let l : a < segments + 1 = some_missing a h in
        let r = missing_run_lem (segments + 1 - a) a xs in
        let m : missing_run (segments + 1 - a) a xs ≤ segments + 1 - a = r.most in
        record { from = h.from; some = r.some (omega arith) (h.missing (omega arith)); to = omega arith; missing = r.missing }
