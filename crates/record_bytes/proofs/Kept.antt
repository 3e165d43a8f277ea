-- What is put back unchanged stays byte for byte, and one slot changed is one piece changed.
use Prim.Native.Nat.{ℕ, zero, suc, ◌+◌, ◌*◌, ◌/◌, ◌%◌, ◌<◌, ◌≤◌}
use native.Mathlib.Omega.{arith}
use Rattle.std.specs.Prelude.{◌≡◌, Bool, true, false, cond, ◌&&◌, ◌||◌, eqb, get_or, set, None, Option, Some}
use Rattle.std.proofs.Math.Path.{refl, sym, ap}
use Rattle.std.proofs.Common.{◌∙◌, length-drop, drop-cons, get_or-drop, take_all, drop_at, eqb-true}
use Rattle.std.proofs.lemmas.Bool.{false≢true}
use mathlib.Core.List.{List, [], ◌∷◌, ◌++◌, map}
use mathlib.Mathlib.Data.Bool.Basic.{and_elim_left, and_elim_right}
use Rattle.std.proofs.Math.ListN.{length, take, drop, take-append-drop, get_or-map}
use Rattle.std.proofs.Math.Seq.{paste, take-take, length-take-le}
use Rattle.std.proofs.lemmas.List.{take-append-le}
use Rattle.laws.specs.Bools.{guard_passed}
use Rattle.laws.specs.Pastes.{paste_behind, paste_rest}
use Rattle.transport.specs.declared.Kind.TheVariants.{Rts, Bam}
use Rattle.progress.specs.declared.wait.Wait.TheVariants.{First, Second}
use Rattle.progress.specs.declared.Progress.{Progress}
use Rattle.session.specs.declared.Session.{Session}
use Rattle.slots.specs.Slots.{free_slot, is_free}
use Rattle.receiver.specs.Calls.{with_slot}
use Rattle.record_bytes.specs.Places.{head_length, slot_length, announced_length, progress_length, slot_place, progress_place}
use Rattle.record_bytes.specs.Places.{first_limit_place, second_limit_place, last_place, state_place, kind_place, total_place, segments_place, pgn_place, next_place, granted_place, mark_place, wait_place, taken_place, missing_place}
use Rattle.record_bytes.specs.Layout.{kind_byte, kind_at, wait_byte, wait_at, progress_bytes, session_bytes, session_at, slot_bytes, is_code, codes_ok, codes_in, slot_at, head_bytes, pieces, pieces_of, codes_all, slots_at, is_record, record_at}
use Rattle.words.specs.Words.{low4, low32}
use Rattle.words.specs.Laws.{both, same_byte, low4_bytes}
use Rattle.record_bytes.specs.Longs.{low8, low64, two_words}
use Rattle.record_bytes.specs.Pieces.{length_slot, length_pieces, piece_of, record_long, record_codes}
use Rattle.record_bytes.specs.Keeping.{kept, merged, put_in}
use Rattle.record_bytes.specs.Kept.{Bytes, Good}

bytes_drop : (n : ℕ) (l : List ℕ) → Bytes l → Bytes (drop n l)
bytes_drop n l h i = rw (get_or-drop n l i 0) (h (n + i))

bytes_take : (n : ℕ) (l : List ℕ) → Bytes l → Bytes (take n l)
bytes_take zero l h i = omega arith
bytes_take (suc n) [] h i = omega arith
bytes_take (suc n) (x ∷ l) h zero = h zero
bytes_take (suc n) (x ∷ l) h (suc i) = bytes_take n l (λ j. h (suc j)) i

-- ---- bytes spelled out, and read as numbers

abbrev spell : ℕ → ℕ → List ℕ → List ℕ
spell zero k p = []
spell (suc n) k p = get_or p k 0 ∷ spell n (suc k) p

spelled : (n k : ℕ) (p : List ℕ) → k + n ≤ length p → take n (drop k p) ≡ spell n k p
spelled zero k p h = refl
spelled (suc n) k p h =
    ap (take (suc n)) (drop-cons p k 0 (omega arith))
    ∙ ap (λ (l : List ℕ). get_or p k 0 ∷ l) (spelled n (suc k) p (omega arith))

module _ (a b c d : ℕ) (ha : a < 256) (hb : b < 256) (hc : c < 256) (hd : d < 256) where
  abbrev word : ℕ
  word = a + 256 * b + 65536 * c + 16777216 * d

  digit_0 : a ≡ word % 256
  digit_0 = omega arith

  digit_1 : b ≡ word / 256 % 256
  digit_1 = omega arith

  digit_2 : c ≡ word / 65536 % 256
  digit_2 = omega arith

  digit_3 : d ≡ word / 16777216 % 256
  digit_3 = omega arith

-- a number that is read off four bytes has those bytes
four : (p : List ℕ) (at : ℕ) {xs ys : List ℕ} → Bytes p → xs ≡ ys
    → get_or p at 0 ∷ get_or p (at + 1) 0 ∷ get_or p (at + 2) 0 ∷ get_or p (at + 3) 0 ∷ xs ≡ low4 (low32 p at) ys
four p at h e =
    let a : get_or p at 0 < 256 = h at in
    let b : get_or p (at + 1) 0 < 256 = h (at + 1) in
    let c : get_or p (at + 2) 0 < 256 = h (at + 2) in
    let d : get_or p (at + 3) 0 < 256 = h (at + 3) in
    low4_bytes (low32 p at) (digit_0 _ _ _ _ a b c d) (digit_1 _ _ _ _ a b c d) (digit_2 _ _ _ _ a b c d) (digit_3 _ _ _ _ a b c d) e

-- and one that is read off eight
eight : (p : List ℕ) (at : ℕ) {xs ys : List ℕ} → Bytes p → xs ≡ ys
    → get_or p at 0 ∷ get_or p (at + 1) 0 ∷ get_or p (at + 2) 0 ∷ get_or p (at + 3) 0
    ∷ get_or p (at + 4) 0 ∷ get_or p (at + 4 + 1) 0 ∷ get_or p (at + 4 + 2) 0 ∷ get_or p (at + 4 + 3) 0 ∷ xs
    ≡ low8 (low64 p at) ys
eight p at {xs} {ys} h e =
    let a : get_or p at 0 < 256 = h at in
    let b : get_or p (at + 1) 0 < 256 = h (at + 1) in
    let c : get_or p (at + 2) 0 < 256 = h (at + 2) in
    let d : get_or p (at + 3) 0 < 256 = h (at + 3) in
    four p at h (four p (at + 4) h e) ∙ two_words (low32 p at) (low32 p (at + 4)) (omega arith) ys

-- a code is the byte of what it is read as
code_of : (byte : Bool → ℕ) → byte true ≡ 2 → byte false ≡ 1 → (n : ℕ) → is_code n ≡ true → n ≡ byte (eqb n 2)
code_of byte two one n h = by (eqb n 2) refl
  where
    by : (t : Bool) → eqb n 2 ≡ t → n ≡ byte t
    by true e = eqb-true n 2 e ∙ sym two
    by false e = go (eqb n 1) refl
      where
        go : (u : Bool) → eqb n 1 ≡ u → n ≡ byte false
        go true q = eqb-true n 1 q ∙ sym one
        go false q = absurd (false≢true (sym e ∙ sym (ap (λ (t : Bool). t || eqb n 2) q) ∙ h))

kind_of_lem : (n : ℕ) → is_code n ≡ true → n ≡ kind_byte (kind_at n)
kind_of_lem = code_of (λ (t : Bool). kind_byte (cond t Bam Rts)) refl refl

wait_of : (n : ℕ) → is_code n ≡ true → n ≡ wait_byte (wait_at n)
wait_of = code_of (λ (t : Bool). wait_byte (cond t Second First)) refl refl

-- an open slot's piece is the bytes of its session
session_spelled : (p : List ℕ) → length p ≡ slot_length → Bytes p → get_or p state_place 0 ≡ 1
    → is_code (get_or p kind_place 0) ≡ true → is_code (get_or p wait_place 0) ≡ true → p ≡ session_bytes (session_at p)
unfolding session_bytes
session_spelled p long h e k w =
    sym (take_all slot_length p (omega arith))
    ∙ spelled slot_length 0 p (omega arith)
    ∙ both e
    (both (kind_of_lem _ k)
    (same_byte _
    (same_byte _
    (same_byte _
    (four p total_place h
    (four p segments_place h
    (same_byte _
    (four p pgn_place h
    (four p next_place h
    (four p granted_place h
    (four p mark_place h
    (both (wait_of _ w)
    (eight p taken_place h
    (same_byte _
    (four p missing_place h refl)))))))))))))))

-- what the codes of a piece leave: open with a kind and a wait, or free
codes_open : (x k w : ℕ) (u : Bool) → eqb x 0 ≡ u → eqb x 1 ≡ true → codes_ok x k w ≡ true → (is_code k && is_code w) ≡ true
codes_open x k w true q e h =
    absurd (let a : x ≡ 1 = eqb-true x 1 e in let b : x ≡ 0 = eqb-true x 0 q in omega arith)
codes_open x k w false q e h =
    sym (ap (λ (u : Bool). u || (eqb x 1 && (is_code k && is_code w))) q ∙ ap (λ (u : Bool). u && (is_code k && is_code w)) e) ∙ h

codes_free : (x k w : ℕ) (u : Bool) → eqb x 0 ≡ u → eqb x 1 ≡ false → codes_ok x k w ≡ true → u ≡ true
codes_free x k w true q e h = refl
codes_free x k w false q e h =
    sym (ap (λ (u : Bool). u || (eqb x 1 && (is_code k && is_code w))) q ∙ ap (λ (u : Bool). u && (is_code k && is_code w)) e) ∙ h

module _ (p : List ℕ) (g : Good p) where
  -- the slot by its state code
  abbrev slot_by : Bool → Option Session
  slot_by t = cond t (Some (session_at p)) None

  kept_by : (t : Bool) → eqb (get_or p state_place 0) 1 ≡ t → kept p (slot_by t) ≡ p
  kept_by true e =
      let k : Bool = is_code (get_or p kind_place 0) in
      let w : Bool = is_code (get_or p wait_place 0) in
      let c : (k && w) ≡ true =
      codes_open (get_or p state_place 0) (get_or p kind_place 0) (get_or p wait_place 0) (eqb (get_or p state_place 0) 0) refl e g.codes in
      sym (session_spelled p g.long g.bytes (eqb-true _ _ e) (and_elim_left k w c) (and_elim_right k w c))
  kept_by false e =
      ap (λ (t : Bool). cond t p (slot_bytes (slot_by false))) (codes_free (get_or p state_place 0) (get_or p kind_place 0) (get_or p wait_place 0) (eqb (get_or p state_place 0) 0) refl e g.codes)

  -- a slot that is put back as it was read keeps its piece
  pub kept_same : kept p (slot_at p) ≡ p
  kept_same = kept_by (eqb (get_or p state_place 0) 1) refl

  kept_long : (s : Option Session) → length (kept p s) ≡ slot_length
  kept_long s = by (is_free s && eqb (get_or p state_place 0) 0)
    where
      by : (t : Bool) → length (cond t p (slot_bytes s)) ≡ slot_length
      by true = g.long
      by false = length_slot s

-- ---- all slots

abbrev AllGood : List (List ℕ) → Type 0
AllGood [] = Unit {0}
AllGood (p ∷ ps) = Good p × AllGood ps

abbrev joined : List (List ℕ) → List ℕ
joined [] = []
joined (p ∷ ps) = p ++ joined ps

joined_pieces : (n : ℕ) (b : List ℕ) → length b ≡ slot_length * n → joined (pieces n b) ≡ b
unfolding pieces
joined_pieces zero [] e = refl
joined_pieces zero (x ∷ b) e = absurd (omega arith)
joined_pieces (suc n) b e =
    ap (λ (l : List ℕ). take slot_length b ++ l) (joined_pieces n (drop slot_length b) (length-drop slot_length b ∙ omega arith))
    ∙ take-append-drop slot_length b

all_good : (n : ℕ) (b : List ℕ) → length b ≡ slot_length * n → Bytes b → codes_all (pieces n b) ≡ true → AllGood (pieces n b)
unfolding pieces codes_all
all_good zero b e h c = tt
all_good (suc n) b e h c =
    let (p, q) = guard_passed (codes_in (take slot_length b)) (codes_all (pieces n (drop slot_length b))) c in (
      record { long = length-take-le slot_length b (omega arith); bytes = bytes_take slot_length b h; codes = p },
      all_good n (drop slot_length b) (length-drop slot_length b ∙ omega arith) (bytes_drop slot_length b h) q,
    )

merged_same : (ps : List (List ℕ)) → AllGood ps → merged ps (map slot_at ps) ≡ joined ps
unfolding merged
merged_same [] g = refl
merged_same (p ∷ ps) (g, gs) =
    ap (λ (l : List ℕ). l ++ merged ps (map slot_at ps)) (kept_same p g)
    ∙ ap (λ (l : List ℕ). p ++ l) (merged_same ps gs)

-- one slot changed is one piece changed
merged_set : (ps : List (List ℕ)) (i : ℕ) (s : Option Session) → AllGood ps → i < length ps
    → merged ps (set (map slot_at ps) i s) ≡ paste (joined ps) (slot_length * i) (kept (get_or ps i []) s) slot_length
unfolding merged
merged_set [] i s g h = absurd (omega arith)
merged_set (p ∷ ps) zero s (g, gs) h =
    ap (λ (l : List ℕ). kept p s ++ l) (merged_same ps gs ∙ sym (drop_at p (joined ps) slot_length g.long))
    ∙ ap (λ (l : List ℕ). l ++ drop slot_length (p ++ joined ps)) (sym (take_all slot_length (kept p s) (omega (arith, kept_long p g s))))
merged_set (p ∷ ps) (suc i) s (g, gs) h =
    let w : slot_length + slot_length * i ≡ slot_length * suc i = omega arith in
    let q : List ℕ = kept (get_or ps i []) s in
    ap (λ (l : List ℕ). l ++ merged ps (set (map slot_at ps) i s)) (kept_same p g)
    ∙ ap (λ (l : List ℕ). p ++ l) (merged_set ps i s gs (omega arith))
    ∙ sym (paste_behind p (joined ps) q slot_length (slot_length * i) slot_length g.long)
    ∙ ap (λ (j : ℕ). paste (p ++ joined ps) j q slot_length) w

-- ---- the record

module _ (b : List ℕ) (h : Bytes b) (r : is_record b ≡ true) where
  good_record : AllGood (pieces_of b)
  good_record = all_good 8 (drop head_length b) (length-drop head_length b ∙ omega (arith, record_long b r)) (bytes_drop head_length b h) (record_codes b r)

  all_joined : joined (pieces_of b) ≡ drop head_length b
  all_joined = joined_pieces 8 (drop head_length b) (length-drop head_length b ∙ omega (arith, record_long b r))

  head_same : head_bytes (record_at b) ≡ take head_length b
  unfolding head_bytes
  head_same =
      sym (spelled head_length 0 b (omega (arith, record_long b r)) ∙ same_byte _ (four b first_limit_place h (four b second_limit_place h (four b last_place h refl))))

  -- a record put back as it was read changes no byte
  pub keep : put_in b (record_at b) ≡ b
  unfolding put_in
  keep =
      ap (λ (l : List ℕ). l ++ merged (pieces_of b) (slots_at b)) head_same
      ∙ ap (λ (l : List ℕ). take head_length b ++ l) (merged_same (pieces_of b) good_record ∙ all_joined)
      ∙ take-append-drop head_length b

  -- another state of one slot changes its piece and no other byte
  pub put_one : (i : ℕ) (st : Option Session) → i < 8
      → put_in b (with_slot (record_at b) i st) ≡ paste b (slot_place i) (kept (get_or (pieces_of b) i []) st) slot_length
  unfolding put_in head_bytes
  put_one i st low =
      let q : List ℕ = kept (get_or (pieces_of b) i []) st in
      ap (λ (l : List ℕ). l ++ merged (pieces_of b) (set (slots_at b) i st)) head_same
      ∙ ap (λ (l : List ℕ). take head_length b ++ l) (merged_set (pieces_of b) i st good_record (omega (arith, length_pieces 8 (drop head_length b))))
      ∙ ap (λ (l : List ℕ). take head_length b ++ paste l (slot_length * i) q slot_length) all_joined
      ∙ sym (paste_behind (take head_length b) (drop head_length b) q head_length (slot_length * i) slot_length (length-take-le head_length b (omega (arith, record_long b r))))
      ∙ ap (λ (l : List ℕ). paste l (slot_place i) q slot_length) (take-append-drop head_length b)

  -- other slots over their pieces, and another last reading in its four bytes
  pub put_elapsed : (last : ℕ) (ss : List (Option Session))
      → paste (take head_length b ++ merged (pieces_of b) ss) last_place (low4 last []) 4
      ≡ put_in b (record { own = (record_at b).own; limits = (record_at b).limits; last = last; slots = ss })
  unfolding put_in head_bytes
  put_elapsed last ss =
      let M : List ℕ = merged (pieces_of b) ss in
      let whole : length (take head_length b) ≡ head_length = length-take-le head_length b (omega (arith, record_long b r)) in
      ap (λ (l : List ℕ). l ++ low4 last [] ++ drop head_length (take head_length b ++ M))
      (take-append-le last_place (take head_length b) M (omega arith)
      ∙ take-take last_place head_length b (omega arith)
      ∙ spelled last_place 0 b (omega (arith, record_long b r))
      ∙ same_byte _ (four b first_limit_place h (four b second_limit_place h refl)))
      ∙ ap (λ (l : List ℕ). head_bytes (record { own = (record_at b).own; limits = (record_at b).limits; last = last; slots = ss }) ++ l)
      (drop_at (take head_length b) M head_length whole)

-- ---- one slot

good_at : (ps : List (List ℕ)) (i : ℕ) → AllGood ps → i < length ps → Good (get_or ps i [])
good_at [] i g h = absurd (omega arith)
good_at (p ∷ ps) zero (g, gs) h = g
good_at (p ∷ ps) (suc i) (g, gs) h = good_at ps i gs (omega arith)

pub good_piece : (b : List ℕ) → Bytes b → is_record b ≡ true → (i : ℕ) → i < 8 → Good (get_or (pieces_of b) i [])
good_piece b h r i low = good_at (pieces_of b) i (good_record b h r) (omega (arith, length_pieces 8 (drop head_length b)))

-- ---- one session brought forward

module _ (b : List ℕ) (h : Bytes b) (r : is_record b ≡ true) (i : ℕ) (low : i < 8) (s : Session)
    (st : (get_or (slots_at b) i free_slot) ≡ Some s) where
  -- an open slot's piece is the bytes of its session
  piece_open : get_or (pieces_of b) i [] ≡ session_bytes s
  piece_open =
      let p : List ℕ = get_or (pieces_of b) i [] in
      sym (kept_same p (good_piece b h r i low))
      ∙ ap (λ (x : Option Session). kept p x) (sym (get_or-map slot_at (pieces_of b) i []))
      ∙ ap (λ (x : Option Session). kept p x) st

  -- what a segment changes of a session are its last bytes
  pub put_forward : (p : Progress)
      → put_in b (with_slot (record_at b) i (Some (record { announced = s.announced; progress = p })))
      ≡ paste b (progress_place i) (progress_bytes p) progress_length
  unfolding session_bytes
  put_forward p =
      let t : Session = record { announced = s.announced; progress = p } in
      let front : List ℕ = take announced_length (session_bytes s) in
      let w : slot_place i + announced_length ≡ progress_place i = omega arith in
      let e : take announced_length (drop (slot_place i) b) ≡ front =
      sym (take-take announced_length slot_length (drop (slot_place i) b) (omega arith)) ∙ ap (take announced_length) (sym (piece_of b i low) ∙ piece_open) in
      put_one b h r i (Some t) low
      ∙ paste_rest b front (progress_bytes p) (slot_place i) announced_length progress_length e refl refl
      ∙ ap (λ (k : ℕ). paste b k (progress_bytes p) progress_length) w
