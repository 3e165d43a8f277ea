-- A record that is written reads back, and only a record that is written so reads.
use Rattle.std.specs.Prelude.{ℕ, ◌+◌, ◌-◌, ◌<◌, ◌≤◌, ◌≡◌, refl, Bool, true, false, cond, List, ◌++◌, ltb, leb, eqb, length, take, drop, Some, None, Result, Ok, Err}
use Rattle.std.proofs.Common.{add_assoc, arith, sym, ap, subst, ◌∙◌, append_assoc, length-append, length-drop, take-append-drop, drop-drop, drop_at, length-take-le, le-ltb, ltb-false, eqb-true}
use Rattle.std.proofs.lemmas.Bool.{lt-leb}
use Rattle.std.proofs.Math.Seq.{drop-append_seam, take-append_seam}
use Rattle.laws.specs.Choice.{else}
use Rattle.trace.specs.declared.Fault.{Fault}
use Rattle.trace.specs.declared.Fault.TheVariants.{Cut, Kind, Length}
use Rattle.trace.specs.declared.record.Record.{Record as Found}
use Rattle.trace.specs.declared.record.Record.TheVariants.{Reading, Frame}
use Rattle.trace.specs.Numbers.{number_at, number_bytes}
use Rattle.trace.specs.Records.{on_number, reading_found, reading_at, bytes_at, length_at, frame_at, by_kind, found, record_at, Record, reading, frame, record_bytes, Good, Said, says, nothing, said}
use Rattle.trace.specs.Outputs.{placed}
use Rattle.trace.specs.NumberLaws.{size_some}
use Rattle.trace.specs.NumberTrips.{Bytes, number_at_lem, Stands, number_stands}

-- ---- written, then read

pub after_piece : (d : List ℕ) (at : ℕ) (s : List ℕ) {rest : List ℕ} → drop at d ≡ s ++ rest → drop (at + length s) d ≡ rest
after_piece d at s {rest} e = sym (drop-drop (length s) at d) ∙ ap (drop (length s)) e ∙ drop-append_seam s rest

-- a record whose kind reads
by_kind_back : (d : List ℕ) (at kind : ℕ) (rest : List ℕ) → kind < 4294967296 → drop at d ≡ number_bytes kind ++ rest
    → record_at d at ≡ found (by_kind d kind (at + length (number_bytes kind)))
unfolding record_at
by_kind_back d at kind rest h e =
    let inside : at < length d = omega (arith, length-drop at d, ap length e, length-append (number_bytes kind) rest, size_some kind) in
    sym (else (leb (length d) at) _ _ _ (lt-leb (length d) at inside) refl)
    ∙ ap (λ (r : Result (ℕ × ℕ) Fault). found (on_number r (by_kind d))) (number_at_lem d at kind rest h e)

-- a reading's record, wherever it is
pub reading_at_lem : (d : List ℕ) (at value : ℕ) (rest : List ℕ) → value < 4294967296 → drop at d ≡ record_bytes (reading value) ++ rest
    → record_at d at ≡ Ok (Some (Reading value (at + length (record_bytes (reading value)))))
reading_at_lem d at value rest h e =
    let A : List ℕ = number_bytes 0 in
    let B : List ℕ = number_bytes value in
    let whole : drop at d ≡ A ++ (B ++ rest) = e ∙ append_assoc A B rest in
    by_kind_back d at 0 (B ++ rest) (omega arith) whole
    ∙ ap (λ (r : Result (ℕ × ℕ) Fault). found (on_number r reading_found)) (number_at_lem d (at + length A) value rest h (after_piece d at A whole))
    ∙ ap (λ (k : ℕ). Ok (Some (Reading value k))) (add_assoc at (length A) (length B) ∙ ap (λ (k : ℕ). at + k) (sym (length-append A B)))

-- where a frame's bytes start, after the kind, the identifier and the length
abbrev pub start_of : ℕ → ℕ → List ℕ → ℕ
start_of at identifier bytes = at + length (number_bytes 1) + length (number_bytes identifier) + length (number_bytes (length bytes))

-- a frame's record, wherever it is
module _ (d : List ℕ) (at identifier : ℕ) (bytes rest : List ℕ) (e : drop at d ≡ record_bytes (frame identifier bytes) ++ rest) where
  frame_whole : drop at d ≡ number_bytes 1 ++ (number_bytes identifier ++ (number_bytes (length bytes) ++ (bytes ++ rest)))
  frame_whole = e ∙ simp append_assoc

  frame_identifier : drop (at + length (number_bytes 1)) d ≡ number_bytes identifier ++ (number_bytes (length bytes) ++ (bytes ++ rest))
  frame_identifier = after_piece d at (number_bytes 1) frame_whole

  frame_length_lem : drop (at + length (number_bytes 1) + length (number_bytes identifier)) d ≡ number_bytes (length bytes) ++ (bytes ++ rest)
  frame_length_lem = after_piece d (at + length (number_bytes 1)) (number_bytes identifier) frame_identifier

  frame_bytes : drop (start_of at identifier bytes) d ≡ bytes ++ rest
  frame_bytes = after_piece d (at + length (number_bytes 1) + length (number_bytes identifier)) (number_bytes (length bytes)) frame_length_lem

  -- the bytes that the answer points at are the frame's
  pub frame_window : take (length bytes) (drop (start_of at identifier bytes) d) ≡ bytes
  frame_window = ap (take (length bytes)) frame_bytes ∙ take-append_seam bytes rest

  pub frame_at_lem : identifier < 4294967296 → length bytes ≤ 64
      → record_at d at ≡ Ok (Some (Frame identifier (start_of at identifier bytes) (length bytes) (at + length (record_bytes (frame identifier bytes)))))
  frame_at_lem h g =
      let s : ℕ = start_of at identifier bytes in
      let room : length bytes ≤ length d - s = omega (arith, length-drop s d, ap length frame_bytes, length-append bytes rest) in
      by_kind_back d at 1 (number_bytes identifier ++ (number_bytes (length bytes) ++ (bytes ++ rest))) (omega arith) frame_whole
      ∙ ap (λ (r : Result (ℕ × ℕ) Fault). found (on_number r (length_at d))) (number_at_lem d (at + length (number_bytes 1)) identifier (number_bytes (length bytes) ++ (bytes ++ rest)) h frame_identifier)
      ∙ ap (λ (r : Result (ℕ × ℕ) Fault). found (on_number r (bytes_at (length d) identifier)))
      (number_at_lem d (at + length (number_bytes 1) + length (number_bytes identifier)) (length bytes) (bytes ++ rest) (omega arith) frame_length_lem)
      ∙ ap found
      (sym (else (ltb 64 (length bytes)) _ _ _ (le-ltb 64 (length bytes) g) refl)
      ∙ sym (else (ltb (length d - s) (length bytes)) _ _ _ (le-ltb (length d - s) (length bytes) room) refl))
      ∙ ap (λ (k : ℕ). Ok (Some (Frame identifier s (length bytes) k)))
      (sym (ap (λ (k : ℕ). at + k)
      (length-append (number_bytes 1) (number_bytes identifier ++ (number_bytes (length bytes) ++ bytes))
      ∙ ap (λ (k : ℕ). length (number_bytes 1) + k)
      (length-append (number_bytes identifier) (number_bytes (length bytes) ++ bytes)
      ∙ ap (λ (k : ℕ). length (number_bytes identifier) + k) (length-append (number_bytes (length bytes)) bytes)))
      ∙ omega arith))

says_at : (d : List ℕ) (at : ℕ) (x : Record) (rest : List ℕ) → Good x → drop at d ≡ record_bytes x ++ rest
    → said d (record_at d at) ≡ says x (at + length (record_bytes x))
says_at d at (reading value) rest g e = ap (said d) (reading_at_lem d at value rest g e)
says_at d at (frame identifier bytes) rest g e =
    ap (said d) (frame_at_lem d at identifier bytes rest e g.0 g.1)
    ∙ ap (λ (l : List ℕ). says (frame identifier l) (at + length (record_bytes (frame identifier bytes)))) (frame_window d at identifier bytes rest e)

-- a record's bytes at any place of any list read back as the record and the place after them
pub record_back : (xs ys : List ℕ) (x : Record) → Good x
    → said (xs ++ record_bytes x ++ ys) (record_at (xs ++ record_bytes x ++ ys) (length xs)) ≡ says x (length xs + length (record_bytes x))
record_back xs ys x g =
    says_at (xs ++ record_bytes x ++ ys) (length xs) x ys g
    (ap (drop (length xs)) (append_assoc xs (record_bytes x) ys) ∙ drop-append_seam xs (record_bytes x ++ ys))

-- ---- read, then what was there

silent : {A : Type 0} {x : Record} {next : ℕ} → nothing ≡ says x next → A
silent e = absurd (let z : ◌≡◌ {A = ℕ} 0 1 = cc in omega arith)

-- what a record found says
abbrev told : List ℕ → Result Found Fault → Said
told d r = said d (found r)

-- where a record says something, the number that comes next in it reads
number_said : {A : Type 0} (d : List ℕ) (r : Result (ℕ × ℕ) Fault) (rest : ℕ → ℕ → Result Found Fault) {x : Record} {next : ℕ}
    → told d (on_number r rest) ≡ says x next
    → ((n after : ℕ) → r ≡ Ok (n, after) → told d (rest n after) ≡ says x next → A) → A
number_said d (Ok (n, after)) rest e k = k n after refl e
number_said d (Err f) rest e k = silent e

-- and a test in it goes the way that says something
test_said : {A R : Type 0} (say : R → Said) (t : Bool) (a b : R) {x : Record} {next : ℕ} → say (cond t a b) ≡ says x next
    → (t ≡ true → say a ≡ says x next → A) → (t ≡ false → say b ≡ says x next → A) → A
test_said say true a b e p q = p refl e
test_said say false a b e p q = q refl e

-- a record read at a place of a list of bytes is one of the format, its bytes are there, and nothing else reads as it
pub record RecordStands (d : List ℕ) (at : ℕ) (x : Record) (next : ℕ) : Type 0 where
  pub good : Good x
  pub place : next ≡ at + length (record_bytes x)
  pub bytes : drop at d ≡ record_bytes x ++ drop next d

record_same : {x y : Record} {m n : ℕ} → says x m ≡ says y n → x ≡ y
record_same e = cc

after_same : {x y : Record} {m n : ℕ} → says x m ≡ says y n → m ≡ n
after_same e = cc

module _ (d : List ℕ) (at : ℕ) (h : Bytes d) where
  reading_stands : (at₁ value next : ℕ) → Stands d at 0 at₁ → Stands d at₁ value next → RecordStands d at (reading value) next
  reading_stands at₁ value next s t =
      let A : List ℕ = number_bytes 0 in
      let B : List ℕ = number_bytes value in
      record {
        good = t.low;
        place =
            t.place
            ∙ ap (λ (k : ℕ). k + length B) s.place
            ∙ add_assoc at (length A) (length B)
            ∙ ap (λ (k : ℕ). at + k) (sym (length-append A B));
        bytes = s.bytes ∙ ap (λ (l : List ℕ). A ++ l) t.bytes ∙ sym (append_assoc A B (drop next d));
      }

  frame_stands : (at₁ identifier at₂ n start : ℕ) → Stands d at 1 at₁ → Stands d at₁ identifier at₂ → Stands d at₂ n start → n ≤ 64 → n ≤ length d - start
      → RecordStands d at (frame identifier (take n (drop start d))) (start + n)
  frame_stands at₁ identifier at₂ n start s t u low room =
      let bytes : List ℕ = take n (drop start d) in
      let size : length bytes ≡ n = length-take-le n (drop start d) (omega (arith, length-drop start d)) in
      let A : List ℕ = number_bytes 1 in
      let B : List ℕ = number_bytes identifier in
      let C : List ℕ = number_bytes n in
      let same : C ≡ number_bytes (length bytes) = ap number_bytes (sym size) in
      record {
        good = (t.low, omega arith);
        place =
            ap (λ (k : ℕ). k + n) (u.place ∙ ap (λ (k : ℕ). k + length C) (t.place ∙ ap (λ (k : ℕ). k + length B) s.place))
            ∙ ap (λ (k : ℕ). at + length A + length B + length C + k) (sym size)
            ∙ sums at (length A) (length B) (length C) (length bytes)
            ∙ ap (λ (k : ℕ). at + k)
            (sym (length-append A (B ++ (C ++ bytes)) ∙ ap (λ (k : ℕ). length A + k) (length-append B (C ++ bytes) ∙ ap (λ (k : ℕ). length B + k) (length-append C bytes))))
            ∙ ap (λ (l : List ℕ). at + length (A ++ (B ++ (l ++ bytes)))) same;
        bytes =
            s.bytes
            ∙ ap (λ (l : List ℕ). A ++ l)
            (t.bytes
            ∙ ap (λ (l : List ℕ). B ++ l)
            (u.bytes ∙ ap (λ (l : List ℕ). C ++ l) (sym (take-append-drop n (drop start d)) ∙ ap (λ (l : List ℕ). bytes ++ l) (drop-drop n start d))))
            ∙ grouped A B C bytes (drop (start + n) d)
            ∙ ap (λ (l : List ℕ). A ++ (B ++ (l ++ bytes)) ++ drop (start + n) d) same;
      }
    where
      sums : (x a b c e : ℕ) → x + a + b + c + e ≡ x + (a + (b + (c + e)))
      sums x a b c e = omega arith

      grouped : (a b c e f : List ℕ) → a ++ (b ++ (c ++ (e ++ f))) ≡ a ++ (b ++ (c ++ e)) ++ f
      grouped a b c e f = simp append_assoc

  frame_told : (at₁ at₂ identifier n start : ℕ) {x : Record} {next : ℕ} → Stands d at 1 at₁ → Stands d at₁ identifier at₂ → Stands d at₂ n start
      → told d (bytes_at (length d) identifier n start) ≡ says x next → RecordStands d at x next
  frame_told at₁ at₂ identifier n start {x} {next} s t u e =
      test_said (told d) (ltb 64 n) (Err Length) (cond (ltb (length d - start) n) (Err Cut) (Ok (Frame identifier start n (start + n)))) e (λ _ q. silent q)
      (λ long e₁.
      test_said (told d) (ltb (length d - start) n) (Err Cut) (Ok (Frame identifier start n (start + n))) e₁ (λ _ q. silent q)
      (λ room e₂.
      subst (λ (y : Record). RecordStands d at y next) (record_same e₂)
      (subst (λ (k : ℕ). RecordStands d at (frame identifier (take n (drop start d))) k) (after_same e₂)
      (frame_stands at₁ identifier at₂ n start s t u (ltb-false 64 n long) (ltb-false (length d - start) n room)))))

  kind_told : (kind at₁ : ℕ) {x : Record} {next : ℕ} → Stands d at kind at₁ → told d (by_kind d kind at₁) ≡ says x next → RecordStands d at x next
  kind_told kind at₁ {x} {next} s e =
      test_said (told d) (eqb kind 0) (reading_at d at₁) (cond (eqb kind 1) (frame_at d at₁) (Err Kind)) e
      (λ z e₁.
      let s₀ : Stands d at 0 at₁ = subst (λ (k : ℕ). Stands d at k at₁) (eqb-true kind 0 z) s in
      number_said d (number_at d at₁) reading_found e₁
      (λ value after q e₂.
      subst (λ (y : Record). RecordStands d at y next) (record_same e₂)
      (subst (λ (k : ℕ). RecordStands d at (reading value) k) (after_same e₂)
      (reading_stands at₁ value after s₀ (number_stands d at₁ h q)))))
      (λ _ e₁.
      test_said (told d) (eqb kind 1) (frame_at d at₁) (Err Kind) e₁
      (λ z e₂.
      let s₁ : Stands d at 1 at₁ = subst (λ (k : ℕ). Stands d at k at₁) (eqb-true kind 1 z) s in
      number_said d (number_at d at₁) (length_at d) e₂
      (λ identifier at₂ q e₃.
      number_said d (number_at d at₂) (bytes_at (length d) identifier) e₃
      (λ n start q₂ e₄. frame_told at₁ at₂ identifier n start s₁ (number_stands d at₁ h q) (number_stands d at₂ h q₂) e₄)))
      (λ _ q. silent q))

  pub record_stands : {x : Record} {next : ℕ} → said d (record_at d at) ≡ says x next → RecordStands d at x next
  unfolding record_at
  record_stands e =
      test_said (said d) (leb (length d) at) (Ok None) (found (on_number (number_at d at) (by_kind d))) e (λ _ q. silent q)
      (λ _ e₁.
      number_said d (number_at d at) (by_kind d) e₁
      (λ kind at₁ q e₂. kind_told kind at₁ (number_stands d at h q) e₂))

-- what a writer put at a place is read there
pub placed_back : (d : List ℕ) (at : ℕ) (x : Record) → Good x → at ≤ length d
    → said (placed d at (record_bytes x)) (record_at (placed d at (record_bytes x)) at) ≡ says x (at + length (record_bytes x))
placed_back d at x g h =
    let s : List ℕ = record_bytes x in
    let rest : List ℕ = drop (at + length s) d in
    says_at (placed d at s) at x rest g
    (ap (drop at) (append_assoc (take at d) s rest) ∙ drop_at (take at d) (s ++ rest) at (length-take-le at d h))
