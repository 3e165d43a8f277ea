-- A slot of a record, by its bytes.
use Rattle.std.specs.Prelude.{ℕ, ◌+◌, ◌<◌, ◌≡◌, refl, Bool, true, false, cond, not, ◌&&◌, List, [], eqb, length, get_or, drop, None, Some}
use Rattle.std.proofs.Common.{arith, sym, ap, ◌∙◌}
use Rattle.std.proofs.lemmas.List.{length-map}
use Rattle.std.proofs.Math.ListN.{get_or-map}
use Rattle.transport.specs.declared.Key.{Key}
use Rattle.session.specs.declared.Session.{Session}
use Rattle.slots.specs.Slots.{free_slot, is_free, holds_key}
use Rattle.record_bytes.specs.Places.{head_length, slot_length, state_place, sa_place, da_place, session_place, slot_place}
use Rattle.record_bytes.specs.Layout.{session_at, slot_at, pieces_of, slots_at}
use Rattle.record_bytes.specs.Pieces.{length_pieces, byte_of}

pub length_slots : (b : List ℕ) → length (slots_at b) ≡ 8
length_slots b = length-map (pieces_of b) slot_at ∙ length_pieces 8 (drop head_length b)

pub slot_of_lem : (b : List ℕ) (i : ℕ) → get_or (slots_at b) i free_slot ≡ slot_at (get_or (pieces_of b) i [])
slot_of_lem b i = get_or-map slot_at (pieces_of b) i []

free_when : (s : Session) (t : Bool) → not t ≡ is_free (cond t (Some s) None)
free_when s true = refl
free_when s false = refl

-- a slot is free unless its first byte says that it is open
pub freed : (b : List ℕ) (i : ℕ) → i < 8 → not (eqb (get_or b (slot_place i) 0) 1) ≡ is_free (get_or (slots_at b) i free_slot)
freed b i h =
    let at : ℕ = slot_place i in
    let p : List ℕ = get_or (pieces_of b) i [] in
    let e : at ≡ at + 0 = omega arith in
    ap (λ (x : ℕ). not (eqb x 1)) (ap (λ (n : ℕ). get_or b n 0) e ∙ sym (byte_of b i state_place h (omega arith)))
    ∙ free_when (session_at p) (eqb (get_or p state_place 0) 1)
    ∙ ap is_free (sym (slot_of_lem b i))

-- Whether the bytes of a slot from a place on say that the key is open: the state, SA, DA and session number.
abbrev pub key_open_at : Key → List ℕ → ℕ → Bool
key_open_at k b at =
    eqb (get_or b at 0) 1
    && eqb (get_or b (at + sa_place) 0) k.sa.0
    && eqb (get_or b (at + da_place) 0) k.da.0
    && eqb (get_or b (at + session_place) 0) k.session.0

holds_when : (k : Key) (s : Session) (t : Bool)
    → (let h : Key = s.announced.key in
    (t && eqb h.sa.0 k.sa.0 && eqb h.da.0 k.da.0 && eqb h.session.0 k.session.0) ≡ holds_key k (cond t (Some s) None))
holds_when k s true = refl
holds_when k s false = refl

same_tests : {x x' y y' z z' w w' : ℕ} → x ≡ x' → y ≡ y' → z ≡ z' → w ≡ w' → (k : Key)
    → (eqb x 1 && eqb y k.sa.0 && eqb z k.da.0 && eqb w k.session.0) ≡ (eqb x' 1 && eqb y' k.sa.0 && eqb z' k.da.0 && eqb w' k.session.0)
same_tests p q r s k = rw (p, q, r, s)

pub held : (k : Key) (b : List ℕ) (i at : ℕ) → i < 8 → at ≡ slot_place i → key_open_at k b at ≡ holds_key k (get_or (slots_at b) i free_slot)
held k b i at h e =
    let p : List ℕ = get_or (pieces_of b) i [] in
    let of : (j n : ℕ) → j < slot_length → n ≡ slot_place i + j → get_or b n 0 ≡ get_or p j 0 =
    λ j n l q. ap (λ (m : ℕ). get_or b m 0) q ∙ sym (byte_of b i j h l) in
    same_tests
    (of state_place at (omega arith) (omega arith))
    (of sa_place (at + sa_place) (omega arith) (omega arith))
    (of da_place (at + da_place) (omega arith) (omega arith))
    (of session_place (at + session_place) (omega arith) (omega arith))
    k
    ∙ holds_when k (session_at p) (eqb (get_or p state_place 0) 1)
    ∙ ap (holds_key k) (sym (slot_of_lem b i))
