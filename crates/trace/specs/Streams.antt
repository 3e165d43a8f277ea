-- A trace that comes in parts: bytes that come later change no record that was read, bytes before it only move its place,
-- and 71 bytes are enough for any record. So a reader need keep no more than that.
use Rattle.std.specs.Prelude.{ℕ, zero, suc, ◌+◌, ◌-◌, ◌<◌, ◌≤◌, ◌≡◌, Bool, ltb, eqb, drop, Option, Some, None, Result, Ok, Err}
use Rattle.std.proofs.Common.{add_assoc, arith, sym, subst, ◌∙◌, length-drop, drop_of_length-le}
use Rattle.std.proofs.Math.Decide.{dec_le}
use Rattle.std.proofs.Math.Path.{refl, ap}
use Rattle.std.proofs.Math.Bool.{true, false, cond}
use Rattle.std.proofs.lemmas.Bool.{false≢true}
use mathlib.Core.List.{List, [], ◌∷◌, ◌++◌}
use Rattle.std.proofs.Math.Dec.{leb}
use Rattle.std.proofs.Math.ListN.{length, length-append}
use Rattle.std.proofs.Math.Seq.{drop-append-add}
use Rattle.std.proofs.lemmas.List.{drop-append-le}
use borrow.Author.Tests.{le-leb, lt-leb, le-ltb, leb-true, leb-false, ltb-true, ltb-false, eqb-true}
use Rattle.laws.specs.Bools.{by_test, not_passed, over_cond}
use Rattle.trace.specs.declared.Fault.{Fault}
use Rattle.trace.specs.declared.Fault.TheVariants.{Cut, NotShortest, TooLarge, Kind, Length}
use Rattle.trace.specs.declared.record.Record.{Record as Found}
use Rattle.trace.specs.declared.record.Record.TheVariants.{Reading, Frame}
use Rattle.trace.specs.Numbers.{onto, last_group, later_groups, number_on, number_at, number_bytes}
use Rattle.trace.specs.Records.{on_number, reading_found, reading_at, bytes_at, length_at, frame_at, by_kind, found, record_at}
use Rattle.trace.specs.NumberLaws.{size_one}
use Rattle.trace.specs.NumberTrips.{Bytes, Stands, number_stands}

-- ---- bytes before

-- the same answer, its places moved by k
abbrev pub moved_number : ℕ → Result (ℕ × ℕ) Fault → Result (ℕ × ℕ) Fault
moved_number k (Ok (n, next)) = Ok (n, k + next)
moved_number k (Err f) = Err f

abbrev pub moved_record : ℕ → Found → Found
moved_record k (Reading value next) = Reading value (k + next)
moved_record k (Frame identifier start n next) = Frame identifier (k + start) n (k + next)

abbrev pub moved : ℕ → Result (Option Found) Fault → Result (Option Found) Fault
moved k (Ok (Some x)) = Ok (Some (moved_record k x))
moved k (Ok None) = Ok None
moved k (Err f) = Err f

-- the same where a record or a fault is found
abbrev moved_found : ℕ → Result Found Fault → Result Found Fault
moved_found k (Ok x) = Ok (moved_record k x)
moved_found k (Err f) = Err f

found_moved : (k : ℕ) (r : Result Found Fault) → found (moved_found k r) ≡ moved k (found r)
found_moved k (Ok x) = refl
found_moved k (Err f) = refl

module _ (k : ℕ) where
  last_moved : (at b : ℕ) → last_group (k + at) b ≡ moved_number k (last_group at b)
  last_moved at b =
      ap (λ (p : ℕ). cond (eqb b 0) (Err NotShortest) (Ok (b, p))) (add_assoc k at 1)
      ∙ over_cond (moved_number k) (eqb b 0) (Err NotShortest) (Ok (b, at + 1))

  onto_moved : (v w : ℕ) (r : Result (ℕ × ℕ) Fault) → onto v w (moved_number k r) ≡ moved_number k (onto v w r)
  onto_moved v w (Ok (n, next)) = refl
  onto_moved v w (Err f) = refl

  later_moved : (more at : ℕ) (l : List ℕ) → later_groups more (k + at) l ≡ moved_number k (later_groups more at l)
  later_moved more at [] = refl
  later_moved zero at (b ∷ bs) =
      ap (cond (ltb 15 b) (Err TooLarge)) (last_moved at b) ∙ over_cond (moved_number k) (ltb 15 b) (Err TooLarge) (last_group at b)
  later_moved (suc more) at (b ∷ bs) =
      ap (λ (z : Result (ℕ × ℕ) Fault). cond (ltb b 128) z (onto (b - 128) 128 (later_groups more (k + at + 1) bs))) (last_moved at b)
      ∙ ap (cond (ltb b 128) (moved_number k (last_group at b)))
      (ap (λ (p : ℕ). onto (b - 128) 128 (later_groups more p bs)) (add_assoc k at 1)
      ∙ ap (onto (b - 128) 128) (later_moved more (at + 1) bs)
      ∙ onto_moved (b - 128) 128 (later_groups more (at + 1) bs))
      ∙ over_cond (moved_number k) (ltb b 128) (last_group at b) (onto (b - 128) 128 (later_groups more (at + 1) bs))

  on_moved : (at : ℕ) (l : List ℕ) → number_on (k + at) l ≡ moved_number k (number_on at l)
  on_moved at [] = refl
  on_moved at (b ∷ bs) =
      ap (λ (p : ℕ). cond (ltb b 128) (Ok (b, p)) (onto (b - 128) 128 (later_groups 3 (k + at + 1) bs))) (add_assoc k at 1)
      ∙ ap (cond (ltb b 128) (Ok (b, k + (at + 1))))
      (ap (λ (p : ℕ). onto (b - 128) 128 (later_groups 3 p bs)) (add_assoc k at 1)
      ∙ ap (onto (b - 128) 128) (later_moved 3 (at + 1) bs)
      ∙ onto_moved (b - 128) 128 (later_groups 3 (at + 1) bs))
      ∙ over_cond (moved_number k) (ltb b 128) (Ok (b, at + 1)) (onto (b - 128) 128 (later_groups 3 (at + 1) bs))

pub number_moved : (xs d : List ℕ) (at : ℕ) → number_at (xs ++ d) (length xs + at) ≡ moved_number (length xs) (number_at d at)
unfolding number_at
number_moved xs d at = ap (number_on (length xs + at)) (drop-append-add xs d at) ∙ on_moved (length xs) at (drop at d)

module _ (xs d : List ℕ) where
  on_number_moved : (r : Result (ℕ × ℕ) Fault) (rest rest' : ℕ → ℕ → Result Found Fault) → ((n next : ℕ) → rest n (length xs + next) ≡ moved_found (length xs) (rest' n next))
      → on_number (moved_number (length xs) r) rest ≡ moved_found (length xs) (on_number r rest')
  on_number_moved (Ok (n, next)) rest rest' h = h n next
  on_number_moved (Err f) rest rest' h = refl

  next_moved : (at : ℕ) (rest rest' : ℕ → ℕ → Result Found Fault) → ((n next : ℕ) → rest n (length xs + next) ≡ moved_found (length xs) (rest' n next))
      → on_number (number_at (xs ++ d) (length xs + at)) rest ≡ moved_found (length xs) (on_number (number_at d at) rest')
  next_moved at rest rest' h = ap (λ (r : Result (ℕ × ℕ) Fault). on_number r rest) (number_moved xs d at) ∙ on_number_moved (number_at d at) rest rest' h

  bytes_moved : (identifier n start : ℕ)
      → bytes_at (length (xs ++ d)) identifier n (length xs + start) ≡ moved_found (length xs) (bytes_at (length d) identifier n start)
  bytes_moved identifier n start =
      let left : length (xs ++ d) - (length xs + start) ≡ length d - start = omega (arith, length-append xs d) in
      ap (λ (k : ℕ). cond (ltb 64 n) (Err Length) (cond (ltb k n) (Err Cut) (Ok (Frame identifier (length xs + start) n (length xs + start + n))))) left
      ∙ ap (λ (k : ℕ). cond (ltb 64 n) (Err Length) (cond (ltb (length d - start) n) (Err Cut) (Ok (Frame identifier (length xs + start) n k))))
      (add_assoc (length xs) start n)
      ∙ ap (cond (ltb 64 n) (Err Length)) (over_cond (moved_found (length xs)) (ltb (length d - start) n) (Err Cut) (Ok (Frame identifier start n (start + n))))
      ∙ over_cond (moved_found (length xs)) (ltb 64 n) (Err Length) (cond (ltb (length d - start) n) (Err Cut) (Ok (Frame identifier start n (start + n))))

  kind_moved : (kind at : ℕ) → by_kind (xs ++ d) kind (length xs + at) ≡ moved_found (length xs) (by_kind d kind at)
  kind_moved kind at =
      ap (λ (z : Result Found Fault). cond (eqb kind 0) z (cond (eqb kind 1) (frame_at (xs ++ d) (length xs + at)) (Err Kind)))
      (next_moved at reading_found reading_found (λ n next. refl))
      ∙ ap (λ (z : Result Found Fault). cond (eqb kind 0) (moved_found (length xs) (reading_at d at)) (cond (eqb kind 1) z (Err Kind)))
      (next_moved at (length_at (xs ++ d)) (length_at d)
      (λ identifier next.
      next_moved next (bytes_at (length (xs ++ d)) identifier) (bytes_at (length d) identifier) (λ n start. bytes_moved identifier n start)))
      ∙ ap (cond (eqb kind 0) (moved_found (length xs) (reading_at d at))) (over_cond (moved_found (length xs)) (eqb kind 1) (frame_at d at) (Err Kind))
      ∙ over_cond (moved_found (length xs)) (eqb kind 0) (reading_at d at) (cond (eqb kind 1) (frame_at d at) (Err Kind))

  end_same : (at : ℕ) → leb (length (xs ++ d)) (length xs + at) ≡ leb (length d) at
  end_same at =
      elim (dec_le (length d) at) [
        | yes h ↦ le-leb (length (xs ++ d)) (length xs + at) (omega (arith, length-append xs d)) ∙ sym (le-leb (length d) at h)
        | no h ↦ lt-leb (length (xs ++ d)) (length xs + at) (omega (arith, length-append xs d)) ∙ sym (lt-leb (length d) at (omega arith))
      ]

  -- a record after other bytes is the record that it is without them
  pub record_moved : (at : ℕ) → record_at (xs ++ d) (length xs + at) ≡ moved (length xs) (record_at d at)
  unfolding record_at
  record_moved at =
      ap (λ (t : Bool). cond t (Ok None) (found (on_number (number_at (xs ++ d) (length xs + at)) (by_kind (xs ++ d))))) (end_same at)
      ∙ ap (λ (r : Result Found Fault). cond (leb (length d) at) (Ok None) (found r))
      (next_moved at (by_kind (xs ++ d)) (by_kind d) (λ kind next. kind_moved kind next))
      ∙ ap (cond (leb (length d) at) (Ok None)) (found_moved (length xs) (on_number (number_at d at) (by_kind d)))
      ∙ over_cond (moved (length xs)) (leb (length d) at) (Ok None) (found (on_number (number_at d at) (by_kind d)))

-- ---- bytes after

-- whether more bytes may change an answer
abbrev pub is_cut : Fault → Bool
is_cut Cut = true
is_cut NotShortest = false
is_cut TooLarge = false
is_cut Kind = false
is_cut Length = false

abbrev pub cut_off : {A : Type 0} → Result A Fault → Bool
cut_off (Ok x) = false
cut_off (Err f) = is_cut f

abbrev pub undecided : Result (Option Found) Fault → Bool
undecided (Ok None) = true
undecided (Ok (Some x)) = false
undecided (Err f) = is_cut f

found_undecided : (r : Result Found Fault) → undecided (found r) ≡ cut_off r
found_undecided (Ok x) = refl
found_undecided (Err f) = refl

contrary : {A : Type 0} → true ≡ false → A
contrary e = absurd (false≢true (sym e))

onto_cut : (v w : ℕ) (r : Result (ℕ × ℕ) Fault) → cut_off (onto v w r) ≡ cut_off r
onto_cut v w (Ok (n, next)) = refl
onto_cut v w (Err f) = refl

module _ (ys : List ℕ) where
  -- a test that is the same in both, whose arms may ask more bytes
  tests_later : {A : Type 0} (t : Bool) (a a' b b' : Result A Fault) → (cut_off a ≡ false → a' ≡ a) → (cut_off b ≡ false → b' ≡ b)
      → cut_off (cond t a b) ≡ false → cond t a' b' ≡ cond t a b
  tests_later true a a' b b' p q e = p e
  tests_later false a a' b b' p q e = q e

  groups_later : (more at : ℕ) (l : List ℕ) → cut_off (later_groups more at l) ≡ false → later_groups more at (l ++ ys) ≡ later_groups more at l
  groups_later more at [] e = contrary e
  groups_later zero at (b ∷ bs) e = refl
  groups_later (suc more) at (b ∷ bs) e =
      tests_later (ltb b 128) (last_group at b) (last_group at b) (onto (b - 128) 128 (later_groups more (at + 1) bs)) (onto (b - 128) 128 (later_groups more (at + 1) (bs ++ ys)))
      (λ _. refl) (λ c. ap (onto (b - 128) 128) (groups_later more (at + 1) bs (sym (onto_cut (b - 128) 128 (later_groups more (at + 1) bs)) ∙ c))) e

  on_later : (at : ℕ) (l : List ℕ) → cut_off (number_on at l) ≡ false → number_on at (l ++ ys) ≡ number_on at l
  on_later at [] e = contrary e
  on_later at (b ∷ bs) e =
      tests_later (ltb b 128) (Ok (b, at + 1)) (Ok (b, at + 1)) (onto (b - 128) 128 (later_groups 3 (at + 1) bs)) (onto (b - 128) 128 (later_groups 3 (at + 1) (bs ++ ys)))
      (λ _. refl) (λ c. ap (onto (b - 128) 128) (groups_later 3 (at + 1) bs (sym (onto_cut (b - 128) 128 (later_groups 3 (at + 1) bs)) ∙ c))) e

  -- a number that is read, or that is bad, stays so
  pub number_later : (d : List ℕ) (at : ℕ) → cut_off (number_at d at) ≡ false → number_at (d ++ ys) at ≡ number_at d at
  unfolding number_at
  number_later d at e =
      elim (dec_le at (length d)) [
        | yes h ↦ ap (number_on at) (drop-append-le at d ys h) ∙ on_later at (drop at d) e
        | no h ↦ contrary (ap (λ (l : List ℕ). cut_off (number_on at l)) (sym (drop_of_length-le d {i = at} (omega arith))) ∙ e)
      ]

  -- the number that comes next in a record, where the record is decided
  on_number_later : (d : List ℕ) (at : ℕ) (rest rest' : ℕ → ℕ → Result Found Fault)
      → ((n next : ℕ) → cut_off (rest n next) ≡ false → rest' n next ≡ rest n next)
      → cut_off (on_number (number_at d at) rest) ≡ false → on_number (number_at (d ++ ys) at) rest' ≡ on_number (number_at d at) rest
  on_number_later d at rest rest' h e =
      ap (λ (r : Result (ℕ × ℕ) Fault). on_number r rest') (number_later d at (whole (number_at d at) e)) ∙ same (number_at d at) e
    where
      whole : (r : Result (ℕ × ℕ) Fault) → cut_off (on_number r rest) ≡ false → cut_off r ≡ false
      whole (Ok (n, next)) g = refl
      whole (Err f) g = g

      same : (r : Result (ℕ × ℕ) Fault) → cut_off (on_number r rest) ≡ false → on_number r rest' ≡ on_number r rest
      same (Ok (n, next)) g = h n next g
      same (Err f) g = refl

  bytes_later : (d : List ℕ) (identifier n start : ℕ) → cut_off (bytes_at (length d) identifier n start) ≡ false
      → bytes_at (length (d ++ ys)) identifier n start ≡ bytes_at (length d) identifier n start
  bytes_later d identifier n start =
      tests_later (ltb 64 n) (Err Length) (Err Length) (part (length d)) (part (length (d ++ ys))) (λ _. refl) (λ e. room (ltb (length d - start) n) refl e)
    where
      part : ℕ → Result Found Fault
      part size = cond (ltb (size - start) n) (Err Cut) (Ok (Frame identifier start n (start + n)))

      room : (t : Bool) → ltb (length d - start) n ≡ t → cut_off (cond (ltb (length d - start) n) (Err Cut) (Ok (Frame identifier start n (start + n)))) ≡ false
          → part (length (d ++ ys)) ≡ part (length d)
      room true e g = contrary (ap (λ (t : Bool). cut_off (cond t (Err Cut) (Ok (Frame identifier start n (start + n))))) (sym e) ∙ g)
      room false e g =
          let h : n ≤ length d - start = ltb-false (length d - start) n e in
          ap (λ (t : Bool). cond t (Err Cut) (Ok (Frame identifier start n (start + n))))
          (le-ltb (length (d ++ ys) - start) n (omega (arith, length-append d ys)) ∙ sym e)

  kind_later : (d : List ℕ) (kind at : ℕ) → cut_off (by_kind d kind at) ≡ false → by_kind (d ++ ys) kind at ≡ by_kind d kind at
  kind_later d kind at =
      tests_later (eqb kind 0) (reading_at d at) (reading_at (d ++ ys) at)
      (cond (eqb kind 1) (frame_at d at) (Err Kind)) (cond (eqb kind 1) (frame_at (d ++ ys) at) (Err Kind))
      (on_number_later d at reading_found reading_found (λ n next _. refl))
      (tests_later (eqb kind 1) (frame_at d at) (frame_at (d ++ ys) at) (Err Kind) (Err Kind)
      (on_number_later d at (length_at d) (length_at (d ++ ys))
      (λ identifier next.
      on_number_later d next (bytes_at (length d) identifier) (bytes_at (length (d ++ ys)) identifier) (λ n start. bytes_later d identifier n start)))
      (λ _. refl))

  -- a record that is read, or that is bad, stays so whatever follows it
  pub record_later : (d : List ℕ) (at : ℕ) → undecided (record_at d at) ≡ false → record_at (d ++ ys) at ≡ record_at d at
  unfolding record_at
  record_later d at = go (leb (length d) at) refl
    where
      here : Result Found Fault
      here = on_number (number_at d at) (by_kind d)

      go : (t : Bool) → leb (length d) at ≡ t → undecided (record_at d at) ≡ false → record_at (d ++ ys) at ≡ record_at d at
      go true e g = contrary (ap (λ (t : Bool). undecided (cond t (Ok None) (found here))) (sym e) ∙ g)
      go false e g =
          let h : at < length d = leb-false (length d) at e in
          let far : leb (length (d ++ ys)) at ≡ false = lt-leb (length (d ++ ys)) at (omega (arith, length-append d ys)) in
          ap (λ (t : Bool). cond t (Ok None) (found (on_number (number_at (d ++ ys) at) (by_kind (d ++ ys))))) far
          ∙ ap found
          (on_number_later d at (by_kind d) (by_kind (d ++ ys)) (λ kind next. kind_later d kind next)
          (sym (found_undecided here) ∙ ap (λ (t : Bool). undecided (cond t (Ok None) (found here))) (sym e) ∙ g))
          ∙ ap (λ (t : Bool). cond t (Ok None) (found here)) (sym e)

-- ---- how many bytes are enough

-- of a test that ends in what P says, the arm that was taken
taken : {A : Type 0} (P : A → Bool) (t : Bool) (a b : A) → t ≡ true → P (cond t a b) ≡ true → P a ≡ true
taken P t a b e h = ap (λ (u : Bool). P (cond u a b)) (sym e) ∙ h

left : {A : Type 0} (P : A → Bool) (t : Bool) (a b : A) → t ≡ false → P (cond t a b) ≡ true → P b ≡ true
left P t a b e h = ap (λ (u : Bool). P (cond u a b)) (sym e) ∙ h

last_whole : {A : Type 0} (at b : ℕ) → cut_off (last_group at b) ≡ true → A
last_whole at b h =
    by_test (eqb b 0)
    (λ e. contrary (sym (taken cut_off (eqb b 0) (Err NotShortest) (Ok (b, at + 1)) e h)))
    (λ e. contrary (sym (left cut_off (eqb b 0) (Err NotShortest) (Ok (b, at + 1)) e h)))

later_short : (more at : ℕ) (l : List ℕ) → cut_off (later_groups more at l) ≡ true → length l ≤ more
later_short more at [] h = omega arith
later_short zero at (b ∷ bs) h =
    by_test (ltb 15 b)
    (λ e. contrary (sym (taken cut_off (ltb 15 b) (Err TooLarge) (last_group at b) e h)))
    (λ e. last_whole at b (left cut_off (ltb 15 b) (Err TooLarge) (last_group at b) e h))
later_short (suc more) at (b ∷ bs) h =
    let up : Result (ℕ × ℕ) Fault = later_groups more (at + 1) bs in
    by_test (ltb b 128)
    (λ e. last_whole at b (taken cut_off (ltb b 128) (last_group at b) (onto (b - 128) 128 up) e h))
    (λ e.
    let short : length bs ≤ more =
    later_short more (at + 1) bs (sym (onto_cut (b - 128) 128 up) ∙ left cut_off (ltb b 128) (last_group at b) (onto (b - 128) 128 up) e h) in
    omega arith)

on_short : (at : ℕ) (l : List ℕ) → cut_off (number_on at l) ≡ true → length l ≤ 4
on_short at [] h = omega arith
on_short at (b ∷ bs) h =
    let up : Result (ℕ × ℕ) Fault = later_groups 3 (at + 1) bs in
    by_test (ltb b 128)
    (λ e. contrary (sym (taken cut_off (ltb b 128) (Ok (b, at + 1)) (onto (b - 128) 128 up) e h)))
    (λ e.
    let short : length bs ≤ 3 =
    later_short 3 (at + 1) bs (sym (onto_cut (b - 128) 128 up) ∙ left cut_off (ltb b 128) (Ok (b, at + 1)) (onto (b - 128) 128 up) e h) in
    omega arith)

-- a number that is cut has at most four bytes
pub number_short : (d : List ℕ) (at : ℕ) → cut_off (number_at d at) ≡ true → length d ≤ at + 4
unfolding number_at
number_short d at h = let g = on_short at (drop at d) h in omega (arith, length-drop at d)

-- where a number that is read ends: it has at most five
abbrev pub Near : ℕ → Result (ℕ × ℕ) Fault → Type 0
Near end (Ok (n, next)) = next ≤ end
Near end (Err f) = Unit {0}

pub near_test : (end : ℕ) (t : Bool) (a b : Result (ℕ × ℕ) Fault) → Near end a → Near end b → Near end (cond t a b)
near_test end true a b p q = p
near_test end false a b p q = q

pub near_onto : (end v w : ℕ) (r : Result (ℕ × ℕ) Fault) → Near end r → Near end (onto v w r)
near_onto end v w (Ok (n, next)) h = h
near_onto end v w (Err f) h = tt

pub near_last : (end at b : ℕ) → at + 1 ≤ end → Near end (last_group at b)
near_last end at b h = near_test end (eqb b 0) (Err NotShortest) (Ok (b, at + 1)) tt h

near_later : (end more at : ℕ) (l : List ℕ) → at + more + 1 ≤ end → Near end (later_groups more at l)
near_later end more at [] h = tt
near_later end zero at (b ∷ bs) h = near_test end (ltb 15 b) (Err TooLarge) (last_group at b) tt (near_last end at b (omega arith))
near_later end (suc more) at (b ∷ bs) h =
    near_test end (ltb b 128) (last_group at b) (onto (b - 128) 128 (later_groups more (at + 1) bs)) (near_last end at b (omega arith))
    (near_onto end (b - 128) 128 (later_groups more (at + 1) bs) (near_later end more (at + 1) bs (omega arith)))

near_on : (at : ℕ) (l : List ℕ) → Near (at + 5) (number_on at l)
near_on at [] = tt
near_on at (b ∷ bs) =
    near_test (at + 5) (ltb b 128) (Ok (b, at + 1)) (onto (b - 128) 128 (later_groups 3 (at + 1) bs)) (omega arith)
    (near_onto (at + 5) (b - 128) 128 (later_groups 3 (at + 1) bs) (near_later (at + 5) 3 (at + 1) bs (omega arith)))

pub number_near : (d : List ℕ) (at : ℕ) {n next : ℕ} → number_at d at ≡ Ok (n, next) → next ≤ at + 5
unfolding number_at
number_near d at e = subst (Near (at + 5)) e (near_on at (drop at d))

on_number_short : {A : Type 0} (r : Result (ℕ × ℕ) Fault) (rest : ℕ → ℕ → Result Found Fault) → cut_off (on_number r rest) ≡ true
    → (cut_off r ≡ true → A) → ((n next : ℕ) → r ≡ Ok (n, next) → cut_off (rest n next) ≡ true → A) → A
on_number_short (Ok (n, next)) rest h p q = q n next refl h
on_number_short (Err f) rest h p q = p h

-- where a number below 128 has at most k bytes
module _ (d : List ℕ) (k : ℕ) (few : (p n next : ℕ) → number_at d p ≡ Ok (n, next) → n < 128 → next ≤ p + k) (at : ℕ) where
  frame_short : (identifier at₂ n start : ℕ) → at₂ ≤ at + k + 5 → number_at d at₂ ≡ Ok (n, start) → cut_off (bytes_at (length d) identifier n start) ≡ true
      → length d < at + k + 5 + k + 64
  frame_short identifier at₂ n start low q h =
      let frame : Result Found Fault = Ok (Frame identifier start n (start + n)) in
      let rest : Result Found Fault = cond (ltb (length d - start) n) (Err Cut) frame in
      by_test (ltb 64 n)
      (λ e. contrary (sym (taken cut_off (ltb 64 n) (Err Length) rest e h)))
      (λ e.
      let low-length : n ≤ 64 = ltb-false 64 n e in
      let near : start ≤ at₂ + k = few at₂ n start q (omega arith) in
      by_test (ltb (length d - start) n)
      (λ e₁. let g : length d - start < n = ltb-true (length d - start) n e₁ in omega arith)
      (λ e₁. contrary (sym (left cut_off (ltb (length d - start) n) (Err Cut) frame e₁ (left cut_off (ltb 64 n) (Err Length) rest e h)))))

  length_short : (identifier at₁ at₂ : ℕ) → at₁ ≤ at + k → number_at d at₁ ≡ Ok (identifier, at₂) → cut_off (length_at d identifier at₂) ≡ true
      → length d < at + k + 5 + k + 64
  length_short identifier at₁ at₂ e q h =
      let near : at₂ ≤ at₁ + 5 = number_near d at₁ q in
      on_number_short (number_at d at₂) (bytes_at (length d) identifier) h
      (λ c. let g = number_short d at₂ c in omega arith)
      (λ n start q₁ h₁. frame_short identifier at₂ n start (omega arith) q₁ h₁)

  kind_short : (kind at₁ : ℕ) → number_at d at ≡ Ok (kind, at₁) → cut_off (by_kind d kind at₁) ≡ true → length d < at + k + 5 + k + 64
  kind_short kind at₁ q h =
      let rest : Result Found Fault = cond (eqb kind 1) (frame_at d at₁) (Err Kind) in
      by_test (eqb kind 0)
      (λ e.
      let zero-kind : kind ≡ 0 = eqb-true kind 0 e in
      let near : at₁ ≤ at + k = few at kind at₁ q (omega arith) in
      on_number_short (number_at d at₁) reading_found (taken cut_off (eqb kind 0) (reading_at d at₁) rest e h)
      (λ c. let g = number_short d at₁ c in omega arith)
      (λ n next q₁ h₁. contrary (sym h₁)))
      (λ e.
      let h₁ : cut_off rest ≡ true = left cut_off (eqb kind 0) (reading_at d at₁) rest e h in
      by_test (eqb kind 1)
      (λ e₁.
      let one-kind : kind ≡ 1 = eqb-true kind 1 e₁ in
      let near : at₁ ≤ at + k = few at kind at₁ q (omega arith) in
      on_number_short (number_at d at₁) (length_at d) (taken cut_off (eqb kind 1) (frame_at d at₁) (Err Kind) e₁ h₁)
      (λ c. let g = number_short d at₁ c in omega arith)
      (λ identifier at₂ q₁ h₂. length_short identifier at₁ at₂ near q₁ h₂))
      (λ e₁. contrary (sym (left cut_off (eqb kind 1) (frame_at d at₁) (Err Kind) e₁ h₁))))

  whole_short : undecided (record_at d at) ≡ true → length d < at + k + 5 + k + 64
  unfolding record_at
  whole_short h =
      by_test (leb (length d) at)
      (λ e. let g : length d ≤ at = leb-true (length d) at e in omega arith)
      (λ e.
      let here : Result Found Fault = on_number (number_at d at) (by_kind d) in
      on_number_short (number_at d at) (by_kind d) (sym (found_undecided here) ∙ left undecided (leb (length d) at) (Ok None) (found here) e h)
      (λ c. let g = number_short d at c in omega arith)
      (λ kind at₁ q h₁. kind_short kind at₁ q h₁))

-- where 71 bytes or more are left, a record is read or bad: it does not end there, nor is it cut
pub record_short : (d : List ℕ) (at : ℕ) → Bytes d → undecided (record_at d at) ≡ true → length d < at + 71
record_short d at bytes h =
    let g : length d < at + 1 + 5 + 1 + 64 =
    whole_short d 1
    (λ p n next q low.
    let s : Stands d p n next = number_stands d p bytes q in
    let place = s.place in
    let one : length (number_bytes n) ≡ 1 = size_one n low in
    omega arith)
    at h in
    omega arith

-- ---- a cut is never a bad record

cut_inside : (d : List ℕ) (at : ℕ) → record_at d at ≡ Err Cut → at < length d
unfolding record_at
cut_inside d at e =
    let here : Result Found Fault = on_number (number_at d at) (by_kind d) in
    by_test (leb (length d) at)
    (λ t. contrary (sym (ap cut_off e) ∙ ap (λ (u : Bool). cut_off (cond u (Ok None) (found here))) t))
    (λ t. leb-false (length d) at t)

-- The fault Cut is never the last word: with 79 more bytes, whatever they are, the record is read, or bad by a fault that stays.
-- Of a list of bytes 71 are enough (record_short)
pub never_cut : (d ys : List ℕ) (at : ℕ) → 79 ≤ length ys → record_at d at ≡ Err Cut → undecided (record_at (d ++ ys) at) ≡ false
never_cut d ys at h e =
    not_passed (undecided (record_at (d ++ ys) at))
    (λ t.
    let inside : at < length d = cut_inside d at e in
    let short : length (d ++ ys) < at + 5 + 5 + 5 + 64 = whole_short (d ++ ys) 5 (λ p n next q _. number_near (d ++ ys) p q) at t in
    omega (arith, length-append d ys))
