-- What a call puts into the buffer is a record, and the next call reads it as it was.
use Rattle.std.specs.Prelude.{ℕ, zero, suc, ◌*◌, ◌≡◌, Bool, true, false, cond, ◌&&◌, List, [], ◌∷◌, ◌++◌, map, eqb, get_or, drop, None, Option, Some}
use native.Mathlib.Omega.{arith}
use Rattle.std.proofs.Math.Path.{refl, sym, ap}
use Rattle.std.proofs.Common.{◌∙◌, length-drop, take_at, drop_at, length-take-le, eqb-true, eq-eqb}
use Rattle.std.proofs.Math.Bool.{not}
use Rattle.std.proofs.lemmas.Bool.{false≢true}
use Rattle.std.proofs.Math.ListN.{length, length-append}
use Rattle.laws.specs.Choice.{else}
use Rattle.session.specs.Fits.{StateSmall}
use Rattle.slots.specs.Slots.{is_free}
use Rattle.receiver.specs.declared.Receiver.{Receiver}
use Rattle.record_bytes.specs.Places.{record_length, head_length, slot_length, state_place, kind_place, wait_place}
use Rattle.record_bytes.specs.Layout.{session_at, state_bytes, slot_bytes, slot_at, codes_ok, codes_in, head_bytes, pieces, pieces_of, codes_all, is_record, record_at}
use Rattle.record_bytes.specs.Pieces.{length_slot, length_pieces}
use Rattle.record_bytes.specs.Keeping.{kept, merged, put_in}
use Rattle.record_bytes.specs.RoundTrip.{SlotsFit, RecordFits, codes_state}
use Rattle.record_bytes.proofs.RoundTrip.{state_back, headed, head_back}
use Rattle.words.specs.Laws.{four_bytes}
use Rattle.session.specs.declared.Session.{Session}

-- ---- a slot

free_read : (p : List ℕ) (n : ℕ) → n ≡ 0 → ◌≡◌ {A = (Option Session)} (cond (eqb n 1) (Some (session_at p)) None) None
free_read p n e = ap (λ (k : ℕ). cond (eqb k 1) (Some (session_at p)) None) e

-- t: the slot is free and its piece's state code is 0
kept_by : (p : List ℕ) (st : Option Session) (t : Bool) → t ≡ (is_free st && eqb (get_or p state_place 0) 0) → StateSmall st
    → slot_at (cond t p (state_bytes st)) ≡ st
kept_by p st false e f = state_back st f
kept_by p None true e f =
    (free_read p (get_or p state_place 0) (eqb-true _ _ (sym e)))
kept_by p (Some s) true e f = absurd (false≢true (sym e))

code_by : (p : List ℕ) (st : Option Session) (t : Bool) → t ≡ (is_free st && eqb (get_or p state_place 0) 0)
    → codes_in (cond t p (state_bytes st)) ≡ true
code_by p st false e = codes_state st
code_by p None true e =
    let z : get_or p state_place 0 ≡ 0 = eqb-true _ _ (sym e) in
    ap (λ (n : ℕ). codes_ok n (get_or p kind_place 0) (get_or p wait_place 0)) z
code_by p (Some s) true e = absurd (false≢true (sym e))

long_by : (p : List ℕ) (s : Option Session) (t : Bool) → length p ≡ slot_length → length (cond t p (slot_bytes s)) ≡ slot_length
long_by p s true h = h
long_by p s false h = length_slot s

-- ---- all slots

abbrev AllLong : List (List ℕ) → Type 0
AllLong [] = Unit {0}
AllLong (p ∷ ps) = (length p ≡ slot_length) × AllLong ps

all_long : (n : ℕ) (b : List ℕ) → length b ≡ slot_length * n → AllLong (pieces n b)
unfolding pieces
all_long zero b e = tt
all_long (suc n) b e =
    (length-take-le slot_length b (omega arith), all_long n (drop slot_length b) (length-drop slot_length b ∙ omega arith))

abbrev kept_all : List (List ℕ) → List (Option Session) → List (List ℕ)
kept_all [] ss = []
kept_all (p ∷ ps) [] = []
kept_all (p ∷ ps) (s ∷ ss) = kept p s ∷ kept_all ps ss

pieces_merged : (ps : List (List ℕ)) (ss : List (Option Session)) → AllLong ps → length ps ≡ length ss → pieces (length ss) (merged ps ss) ≡ kept_all ps ss
unfolding pieces merged
pieces_merged [] [] g e = refl
pieces_merged [] (s ∷ ss) g e = absurd (omega arith)
pieces_merged (p ∷ ps) [] g e = absurd (omega arith)
pieces_merged (p ∷ ps) (s ∷ ss) (g, gs) e =
    let n : ℕ = length ss in
    let b : List ℕ = kept p s ++ merged ps ss in
    let l : length (kept p s) ≡ slot_length = long_by p s (is_free s && eqb (get_or p state_place 0) 0) g in
    ap (λ (x : List ℕ). x ∷ pieces n (drop slot_length b)) (take_at (kept p s) (merged ps ss) slot_length l)
    ∙ ap (λ (x : List ℕ). kept p s ∷ pieces n x) (drop_at (kept p s) (merged ps ss) slot_length l)
    ∙ ap (λ (x : List (List ℕ)). kept p s ∷ x) (pieces_merged ps ss gs (omega arith))

slots_read : (ps : List (List ℕ)) (ss : List (Option Session)) → length ps ≡ length ss → SlotsFit ss → map slot_at (kept_all ps ss) ≡ ss
slots_read [] [] e f = refl
slots_read [] (s ∷ ss) e f = absurd (omega arith)
slots_read (p ∷ ps) [] e f = absurd (omega arith)
slots_read (p ∷ ps) (s ∷ ss) e (f, fs) =
    ap (λ (x : Option Session). x ∷ map slot_at (kept_all ps ss)) (kept_by p s _ refl f)
    ∙ ap (λ (x : List (Option Session)). s ∷ x) (slots_read ps ss (omega arith) fs)

codes_kept : (ps : List (List ℕ)) (ss : List (Option Session)) → length ps ≡ length ss → codes_all (kept_all ps ss) ≡ true
unfolding codes_all
codes_kept [] [] e = refl
codes_kept [] (s ∷ ss) e = absurd (omega arith)
codes_kept (p ∷ ps) [] e = absurd (omega arith)
codes_kept (p ∷ ps) (s ∷ ss) e =
    ap (λ (t : Bool). cond (not t) false (codes_all (kept_all ps ss))) (code_by p s _ refl) ∙ codes_kept ps ss (omega arith)

length_merged : (ps : List (List ℕ)) (ss : List (Option Session)) → AllLong ps → length ps ≡ length ss → length (merged ps ss) ≡ slot_length * length ss
unfolding merged
length_merged [] [] g e = refl
length_merged [] (s ∷ ss) g e = absurd (omega arith)
length_merged (p ∷ ps) [] g e = absurd (omega arith)
length_merged (p ∷ ps) (s ∷ ss) (g, gs) e =
    let a : length (kept p s) ≡ slot_length = long_by p s (is_free s && eqb (get_or p state_place 0) 0) g in
    let b : length (merged ps ss) ≡ slot_length * length ss = length_merged ps ss gs (omega arith) in
    length-append (kept p s) (merged ps ss) ∙ omega arith

-- ---- the record

module _ (b : List ℕ) (long : length b ≡ record_length) (r : Receiver) (f : RecordFits r) where
  all_pieces : AllLong (pieces_of b)
  all_pieces = all_long 8 (drop head_length b) (length-drop head_length b ∙ omega arith)

  both_eight : length (pieces_of b) ≡ length r.slots
  both_eight = length_pieces 8 (drop head_length b) ∙ sym f.eight

  pub length_put : length (put_in b r) ≡ record_length
  unfolding put_in head_bytes
  length_put =
      let h : length (head_bytes r) ≡ head_length = refl in
      let a : length (merged (pieces_of b) r.slots) ≡ slot_length * length r.slots = length_merged (pieces_of b) r.slots all_pieces both_eight in
      let e : length r.slots ≡ 8 = f.eight in
      length-append (head_bytes r) (merged (pieces_of b) r.slots) ∙ omega arith

  pieces_put : pieces_of (put_in b r) ≡ kept_all (pieces_of b) r.slots
  unfolding put_in head_bytes
  pieces_put =
      ap (λ (n : ℕ). pieces n (merged (pieces_of b) r.slots)) (sym f.eight)
      ∙ pieces_merged (pieces_of b) r.slots all_pieces both_eight

  pub put_is_record : is_record (put_in b r) ≡ true
  unfolding is_record
  put_is_record =
      sym (else (not (eqb (length (put_in b r)) record_length)) _ _ _ (ap not (eq-eqb _ _ length_put)) refl)
      ∙ ap codes_all pieces_put
      ∙ codes_kept (pieces_of b) r.slots both_eight

  pub put_read : record_at (put_in b r) ≡ r
  unfolding put_in head_bytes
  put_read =
      ap (headed r f (four_bytes r.limits.first) (four_bytes r.limits.second) (four_bytes r.last))
      (ap (map slot_at) pieces_put ∙ slots_read (pieces_of b) r.slots both_eight f.slots)
      ∙ head_back r f
