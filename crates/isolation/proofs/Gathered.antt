-- Pieces of a message taken in any order, none twice and none past the end: as many as there are segments are all of them, and joined they
-- are the message. It knows the rules' data taken, and no session.
use Prim.Native.Nat.{ℕ, zero, suc, ◌+◌, ◌*◌, ◌-◌, ◌/◌, ◌≤◌, ◌<◌, min}
use mathlib.Core.Path.{◌≡◌, refl, sym, ap, subst, ◌∙◌}
use mathlib.Core.Logic.{◌⊎◌, inl, inr}
use mathlib.Core.Bool.{Bool, true, false, cond, ◌||◌}
use mathlib.Core.List.{List, [], ◌∷◌}
use native.Mathlib.Omega.{arith}
use native.Mathlib.Decide.{ℕ_discrete, dec_lt}
use lib.Dec.{eqb}
use lib.ListN.{length, take}
use lib.Seq.{paste, take-add, take_all}
use borrow.Author.Tests.{eqb-false, eq-eqb, ne_eqb}
use Rattle.session.specs.Segments.{due_of}
use Rattle.laws.specs.Windows.{window_same, window_other}
use Rattle.isolation.specs.Rules.{Piece, is_taken, piece_at, joined}
use Rattle.isolation.proofs.Tests.{or_left, or_right}
use Rattle.isolation.proofs.Pieces.{window, segment_inside, segment_apart}

-- ---- numbers from 1 to the last, none twice; Q: what each segment's bytes are known to be

abbrev pub Distinct : (ℕ → List ℕ → Type 0) → ℕ → List Piece → Type 0
Distinct Q segments [] = Unit {0}
Distinct Q segments (x ∷ xs) =
    (1 ≤ x.number) × (x.number ≤ segments) × (is_taken x.number xs ≡ false) × Q x.number x.bytes × Distinct Q segments xs

later : (c t : Bool) → c ≡ false → (c || t) ≡ true → t ≡ true
later c t f h = rw f at h

-- ---- counted: as many of the numbers 1 to n are in as there are pieces

unfoldable pub in_to : ℕ → List Piece → ℕ
in_to zero xs = 0
in_to (suc n) xs = in_to n xs + cond (is_taken (suc n) xs) 1 0

in_none : (n : ℕ) → in_to n [] ≡ 0
unfolding in_to is_taken
in_none zero = refl
in_none (suc n) = rw (in_none n)

in_before : (n : ℕ) (x : Piece) (xs : List Piece) → n < x.number → in_to n (x ∷ xs) ≡ in_to n xs
unfolding in_to is_taken
in_before zero x xs l = refl
in_before (suc n) x xs l = rw (ne_eqb x.number (suc n) (λ e. omega arith), in_before n x xs (omega arith))

in_adds : (n : ℕ) (x : Piece) (xs : List Piece) → 1 ≤ x.number → x.number ≤ n → is_taken x.number xs ≡ false → in_to n (x ∷ xs) ≡ suc (in_to n xs)
unfolding in_to is_taken
in_adds zero x xs a b u = absurd (omega arith)
in_adds (suc n) x xs a b u = go (ℕ_discrete x.number (suc n)) (λ l. in_adds n x xs a l u)
  where
    go : Dec (x.number ≡ suc n) → (x.number ≤ n → in_to n (x ∷ xs) ≡ suc (in_to n xs))
        → in_to n (x ∷ xs) + cond (eqb x.number (suc n) || is_taken (suc n) xs) 1 0 ≡ suc (in_to n xs + cond (is_taken (suc n) xs) 1 0)
    go (yes e) ih =
        let v : is_taken (suc n) xs ≡ false = ap (λ (i : ℕ). is_taken i xs) (sym e) ∙ u in
        rw (eq-eqb x.number (suc n) e, v, in_before n x xs (omega arith)) (omega arith)
    go (no e) ih = rw (ne_eqb x.number (suc n) e, ih (omega arith)) (omega arith)

pub in_most : (n : ℕ) (xs : List Piece) → in_to n xs ≤ n
unfolding in_to
in_most zero xs = omega arith
in_most (suc n) xs = go (is_taken (suc n) xs) (in_most n xs)
  where
    go : (t : Bool) → in_to n xs ≤ n → in_to n xs + cond t 1 0 ≤ suc n
    go true l = omega arith
    go false l = omega arith

-- with n in, all up to n are in
pub in_all : (n : ℕ) (xs : List Piece) → in_to n xs ≡ n → (i : ℕ) → 1 ≤ i → i ≤ n → is_taken i xs ≡ true
unfolding in_to
in_all zero xs h i a b = absurd (omega arith)
in_all (suc n) xs h i a b = go (is_taken (suc n) xs) refl (in_most n xs) h (λ e. in_all n xs e i a) (ℕ_discrete i (suc n))
  where
    go : (t : Bool) → is_taken (suc n) xs ≡ t → in_to n xs ≤ n → in_to n xs + cond t 1 0 ≡ suc n → (in_to n xs ≡ n → i ≤ n → is_taken i xs ≡ true) → Dec (i ≡ suc n) → is_taken i xs ≡ true
    go false e l h ih d = absurd (omega arith)
    go true e l h ih (yes z) = ap (λ (k : ℕ). is_taken k xs) z ∙ e
    go true e l h ih (no z) = ih (omega arith) (omega arith)

pub all_in_lem : (n : ℕ) (xs : List Piece) → ((i : ℕ) → 1 ≤ i → i ≤ n → is_taken i xs ≡ true) → in_to n xs ≡ n
unfolding in_to
all_in_lem zero xs h = refl
all_in_lem (suc n) xs h = rw (h (suc n) (omega arith) (omega arith), all_in_lem n xs (λ i a b. h i a (omega arith))) (omega arith)

module _ (Q : ℕ → List ℕ → Type 0) (segments : ℕ) where
  pub distinct_at : (n : ℕ) (xs : List Piece) → Distinct Q segments xs → is_taken n xs ≡ true → Q n (piece_at n xs)
  unfolding is_taken piece_at
  distinct_at n [] g t = absurd (let z : ◌≡◌ {A = ℕ} 0 1 = cc in omega arith)
  distinct_at n (x ∷ xs) (a, b, u, e, g) t = go (ℕ_discrete x.number n) (distinct_at n xs g)
    where
      go : Dec (x.number ≡ n) → (is_taken n xs ≡ true → Q n (piece_at n xs)) → Q n (cond (eqb x.number n) x.bytes (piece_at n xs))
      go (yes z) ih = rw (eq-eqb x.number n z) (subst (λ (i : ℕ). Q i x.bytes) z e)
      go (no z) ih = rw (ne_eqb x.number n z) (ih (later (eqb x.number n) (is_taken n xs) (ne_eqb x.number n z) t))

  pub distinct_length : (xs : List Piece) → Distinct Q segments xs → in_to segments xs ≡ length xs
  distinct_length [] g = in_none segments
  distinct_length (x ∷ xs) (a, b, u, e, g) = in_adds segments x xs a b u ∙ ap suc (distinct_length xs g)

  -- as many as there are segments are all of them
  pub distinct_all : (xs : List Piece) → Distinct Q segments xs → length xs ≡ segments → (n : ℕ) → 1 ≤ n → n ≤ segments → is_taken n xs ≡ true
  distinct_all xs g e n a b = in_all segments xs (distinct_length xs g ∙ e) n a b

-- ---- segments of the first `total` bytes of p

abbrev pub Gathered : ℕ → ℕ → List ℕ → List Piece → Type 0
Gathered total segments p xs = Distinct (λ n b. b ≡ window total p n) segments xs

pub gathered_at : (total segments : ℕ) (p : List ℕ) (n : ℕ) (xs : List Piece) → Gathered total segments p xs → is_taken n xs ≡ true → piece_at n xs ≡ window total p n
gathered_at total segments p n xs g t = distinct_at (λ n b. b ≡ window total p n) segments n xs g t

pub in_length : (total segments : ℕ) (p : List ℕ) (xs : List Piece) → Gathered total segments p xs → in_to segments xs ≡ length xs
in_length total segments p xs g = distinct_length (λ n b. b ≡ window total p n) segments xs g

-- ---- joined

joined_of : (total segments : ℕ) (p : List ℕ) (xs : List Piece) (n : ℕ) → segments ≡ (total + 59) / 60 → n ≤ segments
    → ((i : ℕ) → 1 ≤ i → i ≤ n → piece_at i xs ≡ window total p i) → joined n xs ≡ take (min (60 * n) total) p
unfolding joined due_of
joined_of total segments p xs zero c u h = let z : min 0 total ≡ 0 = omega arith in rw z
joined_of total segments p xs (suc n) c u h =
    let g₁ : min (60 * n) total ≡ 60 * n = omega arith in
    let g₂ : min (60 * suc n) total ≡ 60 * n + min 60 (total - 60 * n) = omega arith in
    let g₃ : suc n - 1 ≡ n = omega arith in
    rw (h (suc n) (omega arith) (omega arith), joined_of total segments p xs n c (omega arith) (λ i a b. h i a (omega arith)), g₁, g₂, g₃)
    (sym (take-add (60 * n) (min 60 (total - 60 * n)) p))

-- as many pieces as segments are all the bytes
pub joined_gathered : (total segments : ℕ) (p : List ℕ) (xs : List Piece) → segments ≡ (total + 59) / 60 → Gathered total segments p xs → length xs ≡ segments
    → joined segments xs ≡ take total p
joined_gathered total segments p xs c g e =
    let z : min (60 * segments) total ≡ total = omega arith in
    rw z at (joined_of total segments p xs segments c (omega arith) (λ i a b. gathered_at total segments p i xs g (distinct_all (λ n b. b ≡ window total p n) segments xs g e i a b)))

-- of a message of just these bytes
pub joined_whole : (segments : ℕ) (m : List ℕ) (xs : List Piece) → segments ≡ (length m + 59) / 60 → Gathered (length m) segments m xs → length xs ≡ segments
    → joined segments xs ≡ m
joined_whole segments m xs c g e = joined_gathered (length m) segments m xs c g e ∙ take_all (length m) m (omega arith)

-- while some are missing they are fewer
pub not_yet : (total segments : ℕ) (p : List ℕ) (xs : List Piece) → Gathered total segments p xs → (length xs ≡ segments → ⊥) → length xs < segments
not_yet total segments p xs g n =
    let a : in_to segments xs ≡ length xs = in_length total segments p xs g in let b : in_to segments xs ≤ segments = in_most segments xs in omega arith

-- ---- one more: its bytes go to their place, and no other piece is there

module _ (total segments n : ℕ) (p x : List ℕ) (count : segments ≡ (total + 59) / 60) (low : 1 ≤ n) (high : n ≤ segments) (fits : total ≤ length p)
    (enough : due_of total n ≤ length x) where
  abbrev after : List ℕ
  after = paste p (60 * (n - 1)) x (due_of total n)

  inside : 60 * (n - 1) + due_of total n ≤ total
  inside = segment_inside total segments n count low high

  beside : (i : ℕ) → 1 ≤ i → (i ≡ n → ⊥) → window total after i ≡ window total p i
  beside i a ne =
      let h : 60 * (n - 1) + due_of total n ≤ total = inside in
      window_other p (60 * (n - 1)) x (due_of total n) (omega arith) enough (60 * (i - 1)) (due_of total i) (go (dec_lt i n))
    where
      go : Dec (i < n) → (60 * (i - 1) + due_of total i ≤ 60 * (n - 1)) ⊎ (60 * (n - 1) + due_of total n ≤ 60 * (i - 1))
      go (yes l) = inl (segment_apart total i n a l)
      go (no l) = inr (segment_apart total n i low (omega arith))

  pub gathered_kept : (xs : List Piece) → Gathered total segments p xs → is_taken n xs ≡ false → Gathered total segments after xs
  unfolding is_taken
  gathered_kept [] g t = tt
  gathered_kept (y ∷ ys) (a, b, u, e, g) t =
      let ne : y.number ≡ n → ⊥ = eqb-false y.number n (or_left (eqb y.number n) (is_taken n ys) t) in
      (a, b, u, e ∙ sym (beside y.number a ne), gathered_kept ys g (or_right (eqb y.number n) (is_taken n ys) t))

  pub gathered_more : (xs : List Piece) → Gathered total segments p xs → is_taken n xs ≡ false
      → Gathered total segments after (record { number = n; bytes = take (due_of total n) x } ∷ xs)
  gathered_more xs g t =
      let h : 60 * (n - 1) + due_of total n ≤ total = inside in
      (low, high, t, sym (window_same p (60 * (n - 1)) x (due_of total n) (omega arith) enough), gathered_kept xs g t)
