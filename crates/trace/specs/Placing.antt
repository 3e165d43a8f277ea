-- Laws of bytes put into an output one after another.
use Rattle.std.specs.Prelude.{ℕ, zero, suc, ◌+◌, ◌-◌, ◌<◌, ◌≤◌, leb, true, false, ◌≡◌, refl, List, [], ◌∷◌, ◌++◌, length, get_or, set, take, drop, Result, Ok, Err}
use Rattle.std.proofs.Common.{add_assoc, add-one, arith, le-leb, sym, ap, ◌∙◌, append_assoc, length-append, length-drop, take_at, drop_at, drop-drop, length-take-le}
use Rattle.std.proofs.Math.Decide.{dec_le}
use Rattle.std.proofs.lemmas.Bool.{lt-leb}
use Rattle.laws.specs.Choice.{then, else}
use Rattle.laws.specs.Pastes.{paste_whole}
use Rattle.std.proofs.Math.Seq.{paste, paste-suc}
use Rattle.std.proofs.lemmas.List.Edits.{length-paste}
use Rattle.trace.specs.declared.output.WriteError.{WriteError}
use Rattle.trace.specs.declared.output.WriteError.TheVariants.{NoRoom, TooLong}
use Rattle.trace.specs.Records.{Record, record_bytes}
use Rattle.trace.specs.Outputs.{placed, Put, has_room, NumberWritten, too_long, RecordWritten}

-- ---- the element that a list has at a place, by what is left from there on
module _ {A : Type 0} where
  pub left_inside : (l : List A) (j : ℕ) {x : A} {xs : List A} → drop j l ≡ x ∷ xs → j < length l
  left_inside l j {x} {xs} e = omega (arith, length-drop j l, ap length e)

  left_at_suc : (l : List A) (j : ℕ) {x : A} {xs : List A} (d : A) → drop j l ≡ x ∷ xs → (get_or l j d ≡ x) × (drop (suc j) l ≡ xs)
  left_at_suc [] zero d e = absurd (omega (arith, ap length e))
  left_at_suc [] (suc j) d e = absurd (omega (arith, ap length e))
  left_at_suc (y ∷ l) zero {x} {xs} d e = (cc, cc)
  left_at_suc (y ∷ l) (suc j) d e = left_at_suc l j d e

  pub left_at : (l : List A) (j : ℕ) {x : A} {xs : List A} (d : A) → drop j l ≡ x ∷ xs → get_or l j d ≡ x
  left_at l j d e = (left_at_suc l j d e).0

  pub left_next : (l : List A) (j : ℕ) {x : A} {xs : List A} → drop j l ≡ x ∷ xs → drop (j + 1) l ≡ xs
  left_next l j {x} e = ap (λ (k : ℕ). drop k l) (add-one j) ∙ (left_at_suc l j x e).1

  pub left_last : (l : List A) (j : ℕ) {x : A} → drop j l ≡ x ∷ [] → length l ≡ j + 1
  left_last l j e = omega (arith, length-drop j l, ap length e)

module _ (d : List ℕ) (at : ℕ) where
  -- a turn of a loop that stores s: p is the output as it is, and d as it was
  pub store_turn : (s : List ℕ) (j : ℕ) {x : ℕ} {xs p : List ℕ} → drop j s ≡ x ∷ xs → at + length s ≤ length d → p ≡ paste d at s j
      → set p (at + j) x ≡ paste d at s (j + 1)
  store_turn s j {x} {xs} {p} e h q =
      let i : j < length s = left_inside s j e in
      ap (λ (l : List ℕ). set l (at + j) x) q
      ∙ ap (λ (v : ℕ). set (paste d at s j) (at + j) v) (sym (left_at s j 0 e))
      ∙ paste-suc d at s j 0 (omega arith) i
      ∙ ap (paste d at s) (sym (add-one j))

  -- all stored
  pub stored : (s : List ℕ) (n : ℕ) → length s ≡ n → paste d at s n ≡ placed d at s
  stored s n e = ap (paste d at s) (sym e) ∙ paste_whole d at s

  -- all copied at once
  pub put_copied : (s : List ℕ) {out : List ℕ} → out ≡ paste d at s (length s) → Put d at s (at + length s) out
  put_copied s e = record { place = refl; bytes = e ∙ paste_whole d at s }

  pub length_placed : (s : List ℕ) → at + length s ≤ length d → length (placed d at s) ≡ length d
  length_placed s h = ap length (sym (stored s (length s) refl)) ∙ length-paste d at s (length s) h (omega arith)

  -- two pieces, one after the other
  pub placed_append : (a b : List ℕ) → at + length a ≤ length d → placed (placed d at a) (at + length a) b ≡ placed d at (a ++ b)
  placed_append a b h =
      let m : ℕ = at + length a in
      let len : length (take at d ++ a) ≡ m = length-append (take at d) a ∙ ap (λ (k : ℕ). k + length a) (length-take-le at d (omega arith)) in
      let front : take m (placed d at a) ≡ take at d ++ a = take_at (take at d ++ a) (drop m d) m len in
      let back : drop (m + length b) (placed d at a) ≡ drop (at + length (a ++ b)) d =
      sym (drop-drop (length b) m (placed d at a))
      ∙ ap (drop (length b)) (drop_at (take at d ++ a) (drop m d) m len)
      ∙ drop-drop (length b) m d
      ∙ ap (λ (k : ℕ). drop k d) (add_assoc at (length a) (length b) ∙ ap (λ (k : ℕ). at + k) (sym (length-append a b))) in
      ap (λ (l : List ℕ). l ++ b ++ drop (m + length b) (placed d at a)) front
      ∙ ap (λ (l : List ℕ). take at d ++ a ++ b ++ l) back
      ∙ ap (λ (l : List ℕ). l ++ drop (at + length (a ++ b)) d) (append_assoc (take at d) a b)

-- the test for room without a sum that may wrap
pub room_same : (at n size : ℕ) → at ≤ size → leb n (size - at) ≡ leb (at + n) size
room_same at n size h =
    elim (dec_le n (size - at)) [
      | yes p ↦ le-leb n (size - at) p ∙ sym (le-leb (at + n) size (omega arith))
      | no p ↦ lt-leb n (size - at) (omega arith) ∙ sym (lt-leb (at + n) size (omega arith))
    ]

-- ---- what writers say, put together

pub front_room : (d : List ℕ) (at : ℕ) (a b : List ℕ) → at + length (a ++ b) ≤ length d → at + length a ≤ length d
front_room d at a b h = omega (arith, length-append a b)

-- a was put, and b is to follow
module _ {d a out : List ℕ} {at next : ℕ} (b : List ℕ) (p : Put d at a next out) (h : at + length (a ++ b) ≤ length d) where
  pub room_after : next + length b ≤ length out
  room_after =
      let e = p.place in
      let l : length out ≡ length d = ap length p.bytes ∙ length_placed d at a (front_room d at a b h) in
      omega (arith, length-append a b)

  pub put_both : {last : ℕ} {out' : List ℕ} → Put out next b last out' → Put d at (a ++ b) last out'
  put_both {last} {out'} q =
      record {
        place = let e = p.place in let g = q.place in omega (arith, length-append a b);
        bytes =
            q.bytes
            ∙ ap (λ (l : List ℕ). placed l next b) p.bytes
            ∙ ap (λ (k : ℕ). placed (placed d at a) k b) p.place
            ∙ placed_append d at a b (front_room d at a b h);
      }

-- the test for room was made with the size of s
module _ (d : List ℕ) (at : ℕ) (s : List ℕ) {need : ℕ} (size : need ≡ length s) where
  pub room_told : at + need ≤ length d → at + length s ≤ length d
  room_told h = omega arith

  pub written_none : length d < at + need → NumberWritten d at s (Err NoRoom) d
  written_none h =
      let e : has_room d at s ≡ false = lt-leb (at + length s) (length d) (omega arith) in
      record { answer = else (has_room d at s) _ _ _ e refl; bytes = else (has_room d at s) _ _ _ e refl }

  pub written_all : {next : ℕ} {out : List ℕ} → at + need ≤ length d → Put d at s next out → NumberWritten d at s (Ok next) out
  written_all {next} {out} h p =
      let e : has_room d at s ≡ true = le-leb (at + length s) (length d) (omega arith) in
      record { answer = then (has_room d at s) _ _ _ e (ap (λ (k : ℕ). Ok k) p.place); bytes = then (has_room d at s) _ _ _ e p.bytes }

-- a record that is not too long is written as its bytes are
pub written_record : {d out : List ℕ} {at : ℕ} {r : Result ℕ WriteError} (x : Record) → too_long x ≡ false → NumberWritten d at (record_bytes x) r out → RecordWritten d at x r out
written_record x h w =
    record { answer = else (too_long x) _ _ _ h w.answer; bytes = else (too_long x) _ _ _ h w.bytes }

pub written_long : {d : List ℕ} {at : ℕ} (x : Record) → too_long x ≡ true → RecordWritten d at x (Err TooLong) d
written_long x h = record { answer = then (too_long x) _ _ _ h refl; bytes = then (too_long x) _ _ _ h refl }

-- sizes added up
pub size_both : {x y : ℕ} (a b : List ℕ) → x ≡ length a → y ≡ length b → x + y ≡ length (a ++ b)
size_both a b p q = omega (arith, length-append a b)

pub size_four : {x y z w : ℕ} (a b c e : List ℕ) → x ≡ length a → y ≡ length b → z ≡ length c → w ≡ length e → x + y + z + w ≡ length (a ++ (b ++ (c ++ e)))
size_four a b c e p q r s = omega (arith, length-append a (b ++ (c ++ e)), length-append b (c ++ e), length-append c e)
