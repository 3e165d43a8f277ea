-- How long a line is: a number of 32 bits has at most ten digits, and a byte three.
use Prim.Native.Nat.{ℕ, zero, suc, ◌+◌, ◌*◌, ◌/◌, ◌<◌, ◌≤◌}
use native.Mathlib.Omega.{arith}
use mathlib.Core.Path.{◌≡◌}
use mathlib.Core.List.{List, [], ◌∷◌, ◌++◌}
use lib.Dec.{ltb}
use lib.ListN.{length, length-append}
use borrow.Author.Tests.{ltb-true, ltb-false}
use Rattle.laws.specs.Bools.{by_test}
use Rattle.text.specs.Decimal.{decimal, width_of, length_decimal, width_small, width_large}
use Rattle.text.specs.Line.{spaced, numbers, line_of}
use Rattle.session.specs.Fits.{Small}
use Rattle.record_bytes.specs.Kept.{Bytes}

-- ---- one number

abbrev tens : ℕ → ℕ
tens zero = 10
tens (suc k) = tens k * 10

width_most : (k n : ℕ) → n < tens k → width_of n ≤ suc k
width_most zero n h = let e : width_of n ≡ 1 = width_small n h in omega arith
width_most (suc k) n h =
    by_test (ltb n 10)
    (λ e. let f : width_of n ≡ 1 = width_small n (ltb-true _ _ e) in omega arith)
    (λ e.
    let f : width_of n ≡ suc (width_of (n / 10)) = width_large n (ltb-false _ _ e) in
    let g : width_of (n / 10) ≤ suc k = width_most k (n / 10) (omega arith) in
    omega arith)

pub width_word : (n : ℕ) → Small n → length (decimal n) ≤ 10
width_word n h =
    let d : length (decimal n) ≡ width_of n = length_decimal n in
    let w : width_of n ≤ 10 = width_most 9 n (omega arith) in
    omega arith

pub width_byte : (n : ℕ) → n < 256 → length (decimal n) ≤ 3
width_byte n h =
    let d : length (decimal n) ≡ width_of n = length_decimal n in
    let w : width_of n ≤ 3 = width_most 2 n (omega arith) in
    omega arith

-- ---- numbers, each with its space

abbrev pub AllSmall : List ℕ → Type 0
AllSmall [] = Unit {0}
AllSmall (n ∷ ns) = Small n × AllSmall ns

one_more : (n : ℕ) (ns : List ℕ) → length (numbers (n ∷ ns)) ≡ suc (length (decimal n)) + length (numbers ns)
unfolding numbers spaced
one_more n ns = length-append (spaced n) (numbers ns)

-- numbers of 32 bits before others
pub words_before : (xs ys : List ℕ) (k : ℕ) → AllSmall xs → length (numbers ys) ≤ k → length (numbers (xs ++ ys)) ≤ 11 * length xs + k
words_before [] ys k h g = omega arith
words_before (x ∷ xs) ys k (h, hs) g =
    let e : length (numbers (x ∷ (xs ++ ys))) ≡ suc (length (decimal x)) + length (numbers (xs ++ ys)) = one_more x (xs ++ ys) in
    let w : length (decimal x) ≤ 10 = width_word x h in
    let r : length (numbers (xs ++ ys)) ≤ 11 * length xs + k = words_before xs ys k hs g in
    omega arith

pub words_long : (ns : List ℕ) → AllSmall ns → length (numbers ns) ≤ 11 * length ns
unfolding numbers
words_long [] h = omega arith
words_long (n ∷ ns) (h, hs) =
    let e : length (numbers (n ∷ ns)) ≡ suc (length (decimal n)) + length (numbers ns) = one_more n ns in
    let w : length (decimal n) ≤ 10 = width_word n h in
    let r : length (numbers ns) ≤ 11 * length ns = words_long ns hs in
    omega arith

pub bytes_long : (ns : List ℕ) → Bytes ns → length (numbers ns) ≤ 4 * length ns
unfolding numbers
bytes_long [] h = omega arith
bytes_long (n ∷ ns) h =
    let e : length (numbers (n ∷ ns)) ≡ suc (length (decimal n)) + length (numbers ns) = one_more n ns in
    let w : length (decimal n) ≤ 3 = width_byte n (h zero) in
    let r : length (numbers ns) ≤ 4 * length ns = bytes_long ns (λ j. h (suc j)) in
    omega arith

-- ---- lines

pub line_long : (word ns : List ℕ) (k : ℕ) → length (numbers ns) ≤ k → length (line_of word ns) ≤ length word + k + 1
unfolding line_of
line_long word ns k h =
    let t : length (numbers ns ++ (10 ∷ [])) ≡ length (numbers ns) + 1 = length-append (numbers ns) (10 ∷ []) in
    let l : length (word ++ (numbers ns ++ (10 ∷ []))) ≡ length word + length (numbers ns ++ (10 ∷ [])) = length-append word (numbers ns ++ (10 ∷ [])) in
    omega arith

-- a word of w letters and n numbers of 32 bits
pub line_most : (word ns : List ℕ) (w n : ℕ) → length word ≡ w → length ns ≡ n → AllSmall ns → length (line_of word ns) ≤ w + 11 * n + 1
line_most word ns w n e f h =
    let l : length (line_of word ns) ≤ length word + 11 * length ns + 1 = line_long word ns (11 * length ns) (words_long ns h) in
    omega arith
