-- What is written reads back, and only what is written reads: a number has one form.
use Rattle.std.specs.Prelude.{ℕ, zero, suc, ◌+◌, ◌-◌, ◌*◌, ◌/◌, ◌%◌, ◌^◌, ◌<◌, ◌≤◌, ◌≡◌, refl, List, [], ◌∷◌, ◌++◌, ltb, eqb, length, get_or, drop, Result, Ok, Err}
use Rattle.std.proofs.Math.Nat.{one-le-pow}
use Rattle.std.proofs.Common.{arith, sym, ap, subst, ◌∙◌, append_assoc, drop-drop, get_or-drop, lt-ltb, le-ltb, ne_eqb, ltb-true, ltb-false}
use Rattle.std.proofs.Math.Decide.{dec_lt}
use Rattle.std.proofs.Math.Seq.{drop-append_seam}
use Rattle.std.proofs.lemmas.Bool.{eqb-false}
use Rattle.laws.specs.Bools.{by_test, cond_true, cond_false}
use Rattle.laws.specs.Choice.{then, else}
use Rattle.trace.specs.declared.Fault.{Fault}
use Rattle.trace.specs.Numbers.{onto, last_group, later_groups, number_on, number_at, group_bytes, number_bytes}
use Rattle.trace.specs.NumberLaws.{bytes_short, bytes_long, Held, held_step, held_next}

-- ---- written, then read

-- a last group
last_back : (at n : ℕ) → 0 < n → last_group at n ≡ Ok (n, at + 1)
last_back at n p = sym (else (eqb n 0) _ _ _ (ne_eqb n 0 (λ e. omega arith)) refl)

-- a number of several groups, once its upper groups read back
module _ (at n : ℕ) (rest : List ℕ) (upper : Result (ℕ × ℕ) Fault) (long : 128 ≤ n) (back : upper ≡ Ok (n / 128, at + 1 + length rest)) where
  joined : onto (n % 128 + 128 - 128) 128 upper ≡ Ok (n, at + length ((n % 128 + 128) ∷ rest))
  joined =
      ap (onto (n % 128 + 128 - 128) 128) back
      ∙ ap (λ (k : ℕ). Ok (k, at + 1 + length rest)) (omega arith)
      ∙ ap (λ (k : ℕ). Ok (n, k)) (omega arith)

later_back : (more at n : ℕ) (ys : List ℕ) → 0 < n → Held more n → later_groups more at (group_bytes more n ++ ys) ≡ Ok (n, at + length (group_bytes more n))
later_back zero at n ys p h =
    rw (bytes_short zero n (omega arith)) (sym (else (ltb 15 n) _ _ _ (le-ltb 15 n (omega arith)) refl) ∙ last_back at n p)
later_back (suc more) at n ys p h =
    elim (dec_lt n 128) [
      | yes s ↦ rw (bytes_short (suc more) n s) (sym (then (ltb n 128) _ _ _ (lt-ltb n 128 s) refl) ∙ last_back at n p)
      | no s ↦
          let l : 128 ≤ n = omega arith in
          rw (bytes_long more n l)
          (sym (else (ltb (n % 128 + 128) 128) _ _ _ (le-ltb (n % 128 + 128) 128 (omega arith)) refl)
          ∙ joined at n (group_bytes more (n / 128)) _ l (later_back more (at + 1) (n / 128) ys (omega arith) (held_next more n h)))
    ]

on_back : (at n : ℕ) (ys : List ℕ) → n < 4294967296 → number_on at (number_bytes n ++ ys) ≡ Ok (n, at + length (number_bytes n))
unfolding number_bytes
on_back at n ys h =
    elim (dec_lt n 128) [
      | yes s ↦ rw (bytes_short 4 n s) (sym (then (ltb n 128) _ _ _ (lt-ltb n 128 s) refl))
      | no s ↦
          let l : 128 ≤ n = omega arith in
          rw (bytes_long 3 n l)
          (sym (else (ltb (n % 128 + 128) 128) _ _ _ (le-ltb (n % 128 + 128) 128 (omega arith)) refl)
          ∙ joined at n (group_bytes 3 (n / 128)) _ l (later_back 3 (at + 1) (n / 128) ys (omega arith) (omega arith)))
    ]

pub number_at_lem : (d : List ℕ) (at n : ℕ) (ys : List ℕ) → n < 4294967296 → drop at d ≡ number_bytes n ++ ys
    → number_at d at ≡ Ok (n, at + length (number_bytes n))
unfolding number_at
number_at_lem d at n ys h e = ap (number_on at) e ∙ on_back at n ys h

-- a number's bytes at any place of any list read back as the number and the place after them
pub number_back : (xs ys : List ℕ) (n : ℕ) → n < 4294967296
    → number_at (xs ++ number_bytes n ++ ys) (length xs) ≡ Ok (n, length xs + length (number_bytes n))
number_back xs ys n h =
    number_at_lem (xs ++ number_bytes n ++ ys) (length xs) n ys h
    (ap (drop (length xs)) (append_assoc xs (number_bytes n) ys) ∙ drop-append_seam xs (number_bytes n ++ ys))

-- ---- read, then what was there

-- a list of bytes
abbrev pub Bytes : List ℕ → Type 0
Bytes l = (i : ℕ) → get_or l i 0 < 256

pub bytes_drop : (l : List ℕ) (k : ℕ) → Bytes l → Bytes (drop k l)
bytes_drop l k h i = subst (λ (n : ℕ). n < 256) (sym (get_or-drop k l i 0)) (h (k + i))

-- l begins with the bytes s, and `next` is the place after them
record Begins (at : ℕ) (l s : List ℕ) (next : ℕ) : Type 0 where
  rest : List ℕ
  split : l ≡ s ++ rest
  place : next ≡ at + length s

-- what a later group says where it reads: not 0, within its bits, and its bytes are the shortest form
record Later (more at : ℕ) (l : List ℕ) (n next : ℕ) : Type 0 where
  some_bits : 0 < n
  held : Held more n
  begins : Begins at l (group_bytes more n) next

-- a number that was read
abbrev read : ℕ → ℕ → Result (ℕ × ℕ) Fault
read n next = Ok (n, next)

never : {A : Type 0} {f : Fault} {n next : ℕ} → Err f ≡ read n next → A
never e = absurd (let z : ◌≡◌ {A = ℕ} 0 1 = cc in omega arith)

value_same : {n next m next' : ℕ} → read n next ≡ read m next' → n ≡ m
value_same {n} {next} {m} {next'} e = let p : ◌≡◌ {A = ℕ × ℕ} (n, next) (m, next') = cc in ap (λ (x : ℕ × ℕ). x.0) p

place_same : {n next m next' : ℕ} → read n next ≡ read m next' → next ≡ next'
place_same {n} {next} {m} {next'} e = let p : ◌≡◌ {A = ℕ × ℕ} (n, next) (m, next') = cc in ap (λ (x : ℕ × ℕ). x.1) p

-- the last group of several
last_told : (more at b : ℕ) (bs : List ℕ) {n next : ℕ} → b < 128 → Held more b → last_group at b ≡ Ok (n, next) → Later more at (b ∷ bs) n next
last_told more at b bs {n} {next} s h e =
    by_test (eqb b 0)
    (λ z. never (sym (cond_true (eqb b 0) _ _ z) ∙ e))
    (λ z.
    let q : read b (at + 1) ≡ read n next = sym (cond_false (eqb b 0) _ _ z) ∙ e in
    let v : b ≡ n = value_same q in
    let p : at + 1 ≡ next = place_same q in
    let f : b ≡ 0 → ⊥ = eqb-false b 0 z in
    let pos : 0 < b = nonzero b f in
    subst (λ (k : ℕ). Later more at (b ∷ bs) k next) v
    (record {
      some_bits = pos;
      held = h;
      begins = record {
        rest = bs;
        split = ap (λ (l : List ℕ). l ++ bs) (sym (bytes_short more b s));
        place = sym p ∙ ap (λ (l : List ℕ). at + length l) (sym (bytes_short more b s));
      };
    }))
  where
    nonzero : (k : ℕ) → (k ≡ 0 → ⊥) → 0 < k
    nonzero zero g = absurd (g refl)
    nonzero (suc k) g = omega arith

-- a group with others above it, of which the upper ones say m
module _ (more at b m next : ℕ) (bs : List ℕ) (byte : b < 256) (top : 128 ≤ b) (up : Later more (at + 1) bs m next) where
  two_groups : group_bytes (suc more) (b - 128 + 128 * m) ≡ b ∷ group_bytes more m
  two_groups =
      let p = up.some_bits in
      let n : ℕ = b - 128 + 128 * m in
      bytes_long more n (omega arith)
      ∙ ap (λ (k : ℕ). k ∷ group_bytes more (n / 128)) (omega arith)
      ∙ ap (λ (k : ℕ). b ∷ group_bytes more k) (omega arith)

  two_begin : Begins at (b ∷ bs) (group_bytes (suc more) (b - 128 + 128 * m)) next
  two_begin =
      let one_more : at + 1 + length (group_bytes more m) ≡ at + length (b ∷ group_bytes more m) = omega arith in
      record {
        rest = up.begins.rest;
        split = ap (λ (l : List ℕ). b ∷ l) up.begins.split ∙ ap (λ (l : List ℕ). l ++ up.begins.rest) (sym two_groups);
        place = up.begins.place ∙ one_more ∙ ap (λ (l : List ℕ). at + length l) (sym two_groups);
      }

  two_held : Held (suc more) (b - 128 + 128 * m)
  two_held =
      let h = up.held in
      let e = held_step more in
      omega arith

-- what is above a group that has more
above_told : {A : Type 0} (low : ℕ) (r : Result (ℕ × ℕ) Fault) {n next : ℕ} → onto low 128 r ≡ Ok (n, next)
    → ((m : ℕ) → r ≡ Ok (m, next) → low + 128 * m ≡ n → A) → A
above_told low (Ok (m, e)) {n} {next} q k = k m (ap (read m) (place_same q)) (value_same q)
above_told low (Err f) q k = never q

later_told : (more at : ℕ) (l : List ℕ) {n next : ℕ} → Bytes l → later_groups more at l ≡ Ok (n, next) → Later more at l n next
later_told more at [] h e = never e
later_told zero at (b ∷ bs) {n} {next} h e =
    by_test (ltb 15 b)
    (λ t. never (sym (cond_true (ltb 15 b) _ _ t) ∙ e))
    (λ t.
    let s : b ≤ 15 = ltb-false 15 b t in
    last_told zero at b bs (omega arith) (omega arith) (sym (cond_false (ltb 15 b) _ _ t) ∙ e))
later_told (suc more) at (b ∷ bs) {n} {next} h e =
    by_test (ltb b 128)
    (λ t. let s : b < 128 = ltb-true b 128 t in last_told (suc more) at b bs s (small s) (sym (cond_true (ltb b 128) _ _ t) ∙ e))
    (λ t.
    above_told (b - 128) (later_groups more (at + 1) bs) (sym (cond_false (ltb b 128) _ _ t) ∙ e)
    (λ m q v. joined_told (ltb-false b 128 t) m v (later_told more (at + 1) bs (λ i. h (suc i)) q)))
  where
    small : b < 128 → Held (suc more) b
    small s =
        let e' = held_step more in
        let g : 0 < 128 ^ more = one-le-pow more 128 (omega arith) in
        omega arith

    joined_told : 128 ≤ b → (m : ℕ) → b - 128 + 128 * m ≡ n → Later more (at + 1) bs m next → Later (suc more) at (b ∷ bs) n next
    joined_told top m v up =
        let p = up.some_bits in
        subst (λ (k : ℕ). Later (suc more) at (b ∷ bs) k next) v
        (record {
          some_bits = omega arith;
          held = two_held more at b m next bs (h zero) top up;
          begins = two_begin more at b m next bs (h zero) top up;
        })

-- a number that was read: below 2 ^ 32, and its shortest form was there
record OnTold (at : ℕ) (l : List ℕ) (n next : ℕ) : Type 0 where
  low : n < 4294967296
  begins : Begins at l (number_bytes n) next

on_told : (at : ℕ) (l : List ℕ) {n next : ℕ} → Bytes l → number_on at l ≡ Ok (n, next) → OnTold at l n next
unfolding number_bytes
on_told at [] h e = never e
on_told at (b ∷ bs) {n} {next} h e =
    by_test (ltb b 128)
    (λ t.
    let s : b < 128 = ltb-true b 128 t in
    let q : read b (at + 1) ≡ read n next = sym (cond_true (ltb b 128) _ _ t) ∙ e in
    subst (λ (k : ℕ). OnTold at (b ∷ bs) k next) (value_same q)
    (record {
      low = omega arith;
      begins = record {
        rest = bs;
        split = ap (λ (l : List ℕ). l ++ bs) (sym (bytes_short 4 b s));
        place = sym (place_same q) ∙ ap (λ (l : List ℕ). at + length l) (sym (bytes_short 4 b s));
      };
    }))
    (λ t.
    above_told (b - 128) (later_groups 3 (at + 1) bs) (sym (cond_false (ltb b 128) _ _ t) ∙ e)
    (λ m q v.
    let up : Later 3 (at + 1) bs m next = later_told 3 (at + 1) bs (λ i. h (suc i)) q in
    let top : 128 ≤ b = ltb-false b 128 t in
    subst (λ (k : ℕ). OnTold at (b ∷ bs) k next) v
    (record {
      low = let g = up.held in omega (arith, h zero);
      begins = two_begin 3 at b m next bs (h zero) top up;
    })))

-- a number read at a place of a list of bytes is the shortest form of itself there, and nothing else reads as it
pub record Stands (d : List ℕ) (at n next : ℕ) : Type 0 where
  pub low : n < 4294967296
  pub place : next ≡ at + length (number_bytes n)
  pub bytes : drop at d ≡ number_bytes n ++ drop next d

pub number_stands : (d : List ℕ) (at : ℕ) {n next : ℕ} → Bytes d → number_at d at ≡ Ok (n, next) → Stands d at n next
unfolding number_at
number_stands d at {n} {next} h e =
    let o : OnTold at (drop at d) n next = on_told at (drop at d) (bytes_drop d at h) e in
    let g : Begins at (drop at d) (number_bytes n) next = o.begins in
    record {
      low = o.low;
      place = g.place;
      bytes =
          g.split
          ∙ ap (λ (l : List ℕ). number_bytes n ++ l)
          (sym
          (ap (λ (k : ℕ). drop k d) g.place
          ∙ sym (drop-drop (length (number_bytes n)) at d)
          ∙ ap (drop (length (number_bytes n))) g.split
          ∙ drop-append_seam (number_bytes n) g.rest));
    }

-- two numbers with the same bytes are the same
pub number_one_form : {m n : ℕ} → m < 4294967296 → n < 4294967296 → number_bytes m ≡ number_bytes n → m ≡ n
number_one_form {m} {n} p q e =
    value_same (sym (number_back [] [] m p) ∙ ap (λ (l : List ℕ). number_at ([] ++ l ++ []) 0) e ∙ number_back [] [] n q)
