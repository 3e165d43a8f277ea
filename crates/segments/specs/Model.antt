-- Which of the up to 69 segments of a message are in, and what each function of the crate answers: 02, E6.
use Rattle.std.specs.Prelude.{ℕ, zero, suc, ◌+◌, ◌-◌, ◌*◌, ◌^◌, min, Bool, not, cond, ◌&&◌, eqb, leb, ltb}
use Rattle.segments.specs.declared.Segments.{Segments}
use Rattle.segments.specs.Digits.{digit}

-- the record as one number, whose binary digit n - 1 says whether segment n is in
abbrev pub value : Segments → ℕ
value s = s.high * 2 ^ 64 + s.low

-- the segments of a message are numbered from 1, up to 69 of them
abbrev pub is_number : ℕ → Bool
is_number n = leb 1 n && leb n 69

unfoldable pub is_in : Segments → ℕ → Bool
is_in s n = is_number n && eqb (digit (value s) (n - 1)) 1

abbrev pub none_in : Segments
none_in = record { low = 0; high = 0 }

-- the record with digit k, which is not set, set
abbrev pub with_digit : Segments → ℕ → Segments
with_digit s k = cond (ltb k 64) (record { low = s.low + 2 ^ k; high = s.high }) (record { low = s.low; high = s.high + 2 ^ (k - 64) })

-- segment n put in
abbrev pub put_in : Segments → ℕ → Segments
put_in s n = cond (is_number n && not (is_in s n)) (with_digit s (n - 1)) s

-- the number missing: how many of the segments 1 to c are not in
unfoldable pub missing_of : Segments → ℕ → ℕ
missing_of s zero = 0
missing_of s (suc c) = missing_of s c + cond (is_in s (suc c)) 0 1

-- nothing is in past segment c, and no digit of the record is set there
abbrev pub none_past : Segments → ℕ → Bool
none_past s c = ltb (value s) (2 ^ c)

-- the first of the k segments from n on that is not in, n + k where all are
unfoldable pub first_from : Segments → ℕ → ℕ → ℕ
first_from s n zero = n
first_from s n (suc k) = cond (is_in s n) (first_from s (n + 1) k) n

abbrev pub first_missing : Segments → ℕ → ℕ
first_missing s c = first_from s 1 c

-- how many in a row are not in, of the k segments from n on
unfoldable pub run_from : Segments → ℕ → ℕ → ℕ
run_from s n zero = 0
run_from s n (suc k) = cond (is_in s n) 0 (1 + run_from s (n + 1) k)

-- what a request asks for from segment n on: at most m, and none past c
abbrev pub run_of : Segments → ℕ → ℕ → ℕ → ℕ
run_of s n c m = cond (leb 1 n && leb n c) (run_from s n (min m (c + 1 - n))) 0

-- E6's state bounds on the record and on the number missing that is kept beside it
abbrev pub agrees : Segments → ℕ → ℕ → Bool
agrees s c left = leb c 69 && (none_past s c && eqb (missing_of s c) left)
