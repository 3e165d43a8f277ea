-- A record that is read lies in the bytes, after the place where it begins; and where none is read, what that says of the place.
use Rattle.std.specs.Prelude.{ℕ, zero, suc, ◌+◌, ◌-◌, ◌<◌, ◌≤◌, ◌≡◌, refl, Bool, true, false, cond, List, [], ◌∷◌, ltb, leb, eqb, drop, Option, Some, None, Result, Ok, Err}
use Rattle.std.proofs.Common.{arith, sym, ap, subst, ◌∙◌, length-drop}
use Rattle.std.proofs.Math.ListN.{length}
use borrow.Author.Tests.{ltb-false, leb-true, leb-false}
use Rattle.laws.specs.Bools.{by_test, cond_true, cond_false}
use Rattle.trace.specs.declared.Fault.{Fault}
use Rattle.trace.specs.declared.Fault.TheVariants.{Cut, NotShortest, TooLarge, Kind, Length}
use Rattle.trace.specs.declared.record.Record.{Record}
use Rattle.trace.specs.declared.record.Record.TheVariants.{Reading, Frame}
use Rattle.trace.specs.Numbers.{onto, last_group, later_groups, number_on, number_at}
use Rattle.trace.specs.Records.{on_number, reading_found, reading_at, bytes_at, length_at, frame_at, by_kind, found, record_at}

-- ---- numbers

-- a number that was read
abbrev read : ℕ → ℕ → Result (ℕ × ℕ) Fault
read n next = Ok (n, next)

no_number : {A : Type 0} {f : Fault} {n next : ℕ} → Err f ≡ read n next → A
no_number e = absurd (let z : ◌≡◌ {A = ℕ} 0 1 = cc in omega arith)

same_next : {m n a b : ℕ} → read m a ≡ read n b → a ≡ b
same_next {m} {n} {a} {b} e = let p : ◌≡◌ {A = ℕ × ℕ} (m, a) (n, b) = cc in ap (λ (x : ℕ × ℕ). x.1) p

last_next : (at b : ℕ) {n next : ℕ} → last_group at b ≡ Ok (n, next) → next ≡ at + 1
last_next at b e =
    by_test (eqb b 0)
    (λ t. no_number (sym (cond_true (eqb b 0) (Err NotShortest) (Ok (b, at + 1)) t) ∙ e))
    (λ t. sym (same_next (sym (cond_false (eqb b 0) (Err NotShortest) (Ok (b, at + 1)) t) ∙ e)))

onto_next : (v w : ℕ) (r : Result (ℕ × ℕ) Fault) {n next : ℕ} → onto v w r ≡ Ok (n, next) → (k : ℕ) × (r ≡ Ok (k, next))
onto_next v w (Ok (k, at)) e = (k, ap (read k) (same_next e))
onto_next v w (Err f) e = no_number e

later_next : (more at : ℕ) (l : List ℕ) {n next : ℕ} → later_groups more at l ≡ Ok (n, next) → (at < next) × (next ≤ at + length l)
later_next more at [] e = no_number e
later_next zero at (b ∷ bs) e =
    by_test (ltb 15 b)
    (λ t. no_number (sym (cond_true (ltb 15 b) (Err TooLarge) (last_group at b) t) ∙ e))
    (λ t. let p = last_next at b (sym (cond_false (ltb 15 b) (Err TooLarge) (last_group at b) t) ∙ e) in (omega arith, omega arith))
later_next (suc more) at (b ∷ bs) e =
    let up : Result (ℕ × ℕ) Fault = onto (b - 128) 128 (later_groups more (at + 1) bs) in
    by_test (ltb b 128)
    (λ t. let p = last_next at b (sym (cond_true (ltb b 128) (last_group at b) up t) ∙ e) in (omega arith, omega arith))
    (λ t.
    let q = onto_next (b - 128) 128 (later_groups more (at + 1) bs) (sym (cond_false (ltb b 128) (last_group at b) up t) ∙ e) in
    let (low, high) = later_next more (at + 1) bs q.1 in
    (omega arith, omega arith))

on_next_lem : (at : ℕ) (l : List ℕ) {n next : ℕ} → number_on at l ≡ Ok (n, next) → (at < next) × (next ≤ at + length l)
on_next_lem at [] e = no_number e
on_next_lem at (b ∷ bs) e =
    let up : Result (ℕ × ℕ) Fault = onto (b - 128) 128 (later_groups 3 (at + 1) bs) in
    by_test (ltb b 128)
    (λ t. let p = sym (same_next (sym (cond_true (ltb b 128) (Ok (b, at + 1)) up t) ∙ e)) in (omega arith, omega arith))
    (λ t.
    let q = onto_next (b - 128) 128 (later_groups 3 (at + 1) bs) (sym (cond_false (ltb b 128) (Ok (b, at + 1)) up t) ∙ e) in
    let (low, high) = later_next 3 (at + 1) bs q.1 in
    (omega arith, omega arith))

number_within : (d : List ℕ) (at : ℕ) {n next : ℕ} → at ≤ length d → number_at d at ≡ Ok (n, next) → (at < next) × (next ≤ length d)
unfolding number_at
number_within d at h e = let (low, high) = on_next_lem at (drop at d) e in (low, omega (arith, length-drop at d))

-- ---- records

abbrev pub Within : List ℕ → ℕ → Result (Option Record) Fault → Type 0
Within d at (Ok (Some (Reading value next))) = (at < next) × (next ≤ length d)
Within d at (Ok (Some (Frame identifier start n next))) = (at < next) × (start + n ≡ next) × (next ≤ length d) × (n ≤ 64)
Within d at (Ok None) = length d ≤ at
Within d at (Err Cut) = at < length d
Within d at (Err f) = Unit {0}

module _ (d : List ℕ) (at : ℕ) where
  within_fault : at < length d → (f : Fault) → Within d at (Err f)
  within_fault h Cut = h
  within_fault h f = tt

  -- of a record or a fault that is found there
  abbrev Found : Result Record Fault → Type 0
  Found r = Within d at (found r)

  within_test : (t : Bool) (a b : Result Record Fault) → (t ≡ true → Found a) → (t ≡ false → Found b) → Found (cond t a b)
  within_test true a b p q = p refl
  within_test false a b p q = q refl

  within_number : at < length d → (r : Result (ℕ × ℕ) Fault) (rest : ℕ → ℕ → Result Record Fault) → ((n next : ℕ) → r ≡ Ok (n, next) → Found (rest n next))
      → Found (on_number r rest)
  within_number i (Ok (n, next)) rest h = h n next refl
  within_number i (Err f) rest h = within_fault i f

  within_bytes : (identifier n start : ℕ) → at < start → start ≤ length d → Found (bytes_at (length d) identifier n start)
  within_bytes identifier n start low high =
      within_test (ltb 64 n) (Err Length) (cond (ltb (length d - start) n) (Err Cut) (Ok (Frame identifier start n (start + n)))) (λ _. tt)
      (λ e.
      let few : n ≤ 64 = ltb-false 64 n e in
      within_test (ltb (length d - start) n) (Err Cut) (Ok (Frame identifier start n (start + n))) (λ _. omega arith)
      (λ g. let room : n ≤ length d - start = ltb-false (length d - start) n g in (omega arith, refl, omega arith, few)))

  within_kind : (kind at₁ : ℕ) → at < at₁ → at₁ ≤ length d → Found (by_kind d kind at₁)
  within_kind kind at₁ low high =
      let i : at < length d = omega arith in
      within_test (eqb kind 0) (reading_at d at₁) (cond (eqb kind 1) (frame_at d at₁) (Err Kind))
      (λ _.
      within_number i (number_at d at₁) reading_found
      (λ n next e. let (a, b) = number_within d at₁ high e in (omega arith, b)))
      (λ _.
      within_test (eqb kind 1) (frame_at d at₁) (Err Kind)
      (λ _.
      within_number i (number_at d at₁) (length_at d)
      (λ identifier at₂ e.
      let (a, b) = number_within d at₁ high e in
      within_number i (number_at d at₂) (bytes_at (length d) identifier)
      (λ n start g. let (x, y) = number_within d at₂ b g in within_bytes identifier n start (omega arith) y)))
      (λ _. tt))

  pub record_within : Within d at (record_at d at)
  unfolding record_at
  record_within =
      go (leb (length d) at) (λ e. leb-true (length d) at e)
      (λ e.
      let i : at < length d = leb-false (length d) at e in
      within_number i (number_at d at) (by_kind d)
      (λ kind at₁ g. let (a, b) = number_within d at (omega arith) g in within_kind kind at₁ a b))
    where
      here : Result Record Fault
      here = on_number (number_at d at) (by_kind d)

      go : (t : Bool) → (t ≡ true → length d ≤ at) → (t ≡ false → Found here) → Within d at (cond t (Ok None) (found here))
      go true p q = p refl
      go false p q = q refl

  pub frame_within : {id start n next : ℕ} → record_at d at ≡ Ok (Some (Frame id start n next)) → Within d at (Ok (Some (Frame id start n next)))
  frame_within e = subst (Within d at) e record_within

  pub reading_within : {value next : ℕ} → record_at d at ≡ Ok (Some (Reading value next)) → Within d at (Ok (Some (Reading value next)))
  reading_within e = subst (Within d at) e record_within
