-- The slots' pieces of a record, by their places.
use Rattle.std.specs.Prelude.{ℕ, zero, suc, ◌+◌, ◌*◌, ◌<◌, ◌≡◌, refl, true, eqb, List, [], ◌∷◌, ◌++◌, map, length, get_or, take, drop, None, Option, Some}
use Rattle.std.proofs.Common.{arith, ap, ◌∙◌, eqb-true, length-append, get_or-take, get_or-drop, drop-drop, take_at, drop_at}
use Rattle.laws.specs.Bools.{guard_passed}
use Rattle.record_bytes.specs.Places.{record_length, head_length, slot_length, slot_place}
use Rattle.record_bytes.specs.Layout.{session_bytes, state_bytes, slot_bytes, slots_bytes, pieces, pieces_of, codes_all, is_record}
use Rattle.session.specs.declared.Session.{Session}

pub length_pieces : (n : ℕ) (b : List ℕ) → length (pieces n b) ≡ n
unfolding pieces
length_pieces zero b = refl
length_pieces (suc n) b = ap suc (length_pieces n (drop slot_length b))

piece_at_lem : (n : ℕ) (b : List ℕ) (i : ℕ) → i < n → get_or (pieces n b) i [] ≡ take slot_length (drop (slot_length * i) b)
unfolding pieces
piece_at_lem zero b i h = absurd (omega arith)
piece_at_lem (suc n) b zero h = refl
piece_at_lem (suc n) b (suc i) h =
    let e : slot_length + slot_length * i ≡ slot_length * suc i = omega arith in
    piece_at_lem n (drop slot_length b) i (omega arith)
    ∙ ap (take slot_length) (drop-drop (slot_length * i) slot_length b ∙ ap (λ (k : ℕ). drop k b) e)

-- where slot i's piece starts
pub piece_of : (b : List ℕ) (i : ℕ) → i < 8 → get_or (pieces_of b) i [] ≡ take slot_length (drop (slot_place i) b)
piece_of b i h = piece_at_lem 8 (drop head_length b) i h ∙ ap (take slot_length) (drop-drop (slot_length * i) head_length b)

pub byte_of : (b : List ℕ) (i j : ℕ) → i < 8 → j < slot_length → get_or (get_or (pieces_of b) i []) j 0 ≡ get_or b (slot_place i + j) 0
byte_of b i j h g =
    ap (λ (l : List ℕ). get_or l j 0) (piece_of b i h)
    ∙ get_or-take slot_length (drop (slot_place i) b) j 0 g
    ∙ get_or-drop (slot_place i) b j 0

pub record_long : (b : List ℕ) → is_record b ≡ true → length b ≡ record_length
unfolding is_record
record_long b h = eqb-true (length b) record_length (guard_passed (eqb (length b) record_length) (codes_all (pieces_of b)) h).0

pub record_codes : (b : List ℕ) → is_record b ≡ true → codes_all (pieces_of b) ≡ true
unfolding is_record
record_codes b h = (guard_passed (eqb (length b) record_length) (codes_all (pieces_of b)) h).1

length_state : (st : Option Session) → length (state_bytes st) ≡ slot_length
unfolding session_bytes
length_state None = refl
length_state (Some s) = refl

pub length_slot : (s : Option Session) → length (slot_bytes s) ≡ slot_length
length_slot s = length_state s

pub length_slots : (ss : List (Option Session)) → length (slots_bytes ss) ≡ slot_length * length ss
unfolding slots_bytes
length_slots [] = refl
length_slots (s ∷ ss) =
    let a : length (slot_bytes s) ≡ slot_length = length_slot s in
    let b : length (slots_bytes ss) ≡ slot_length * length ss = length_slots ss in
    length-append (slot_bytes s) (slots_bytes ss) ∙ omega arith

-- the pieces of the slots' bytes are the bytes of each
pub pieces_slots : (ss : List (Option Session)) → pieces (length ss) (slots_bytes ss) ≡ map slot_bytes ss
unfolding pieces slots_bytes
pieces_slots [] = refl
pieces_slots (s ∷ ss) =
    let n : ℕ = length ss in
    let b : List ℕ = slot_bytes s ++ slots_bytes ss in
    ap (λ (l : List ℕ). l ∷ pieces n (drop slot_length b)) (take_at (slot_bytes s) (slots_bytes ss) slot_length (length_slot s))
    ∙ ap (λ (l : List ℕ). slot_bytes s ∷ pieces n l) (drop_at (slot_bytes s) (slots_bytes ss) slot_length (length_slot s))
    ∙ ap (λ (l : List (List ℕ)). slot_bytes s ∷ l) (pieces_slots ss)
