-- A record's pieces judged one after the other, and that this is the judgement of codes and slots.
use Prim.Native.Nat.{ℕ, zero, suc, ◌+◌, ◌<◌}
use native.Mathlib.Omega.{arith}
use Rattle.std.specs.Prelude.{◌≡◌, refl, Bool, true, false, cond, ◌&&◌, ◌||◌, eqb, length, take, drop, None, Option, Some}
use Rattle.std.proofs.Math.Path.{sym, ap, ap₂}
use Rattle.std.proofs.Common.{◌∙◌, add-one, eqb-true, eq-eqb}
use Rattle.std.proofs.Math.Bool.{not, and-true, and_assoc}
use Rattle.std.proofs.lemmas.Bool.{false≢true}
use mathlib.Core.List.{List, [], ◌∷◌, map}
use Rattle.std.proofs.Math.ListN.{get_or}
use Rattle.laws.specs.Bools.{same_test, both, and_same, and_left_comm, guarded}
use Rattle.laws.specs.Turn.{turn, end}
use Rattle.frame.specs.declared.Address.{Address}
use Rattle.session.specs.declared.Session.{Session}
use Rattle.transport.specs.declared.Key.{Key}
use Rattle.session.specs.Bounds.{session_ok, state_ok}
use Rattle.slots.specs.Slots.{free_slot, same_key}
use Rattle.slots.specs.Bounds.{values_ok, any_holds, twin_of, slots_ok}
use Rattle.receiver.specs.Bounds.{in_bounds}
use Rattle.record_bytes.specs.Places.{record_length, head_length, slot_length, state_place, kind_place, wait_place, slot_place}
use Rattle.record_bytes.specs.Layout.{is_code, codes_ok, codes_in, session_at, slot_at, pieces_of, slots_at, codes_all, is_record, record_at}
use Rattle.record_bytes.specs.Pieces.{length_pieces, piece_of, byte_of}
use Rattle.lent_record.specs.Held.{slot_of_lem}
use Rattle.lent_record.specs.Ready.{ready_in}

-- a slot whose first byte is not 0, with the pieces before it
unfoldable pub open_ready : Address → List ℕ → List (List ℕ) → Bool
open_ready own p qs =
    codes_in p && session_ok own (session_at p) && not (any_holds (session_at p).announced.key (map slot_at qs))

-- the pieces already judged, the latest first, and those to come
unfoldable pub pieces_ready : Address → List (List ℕ) → List (List ℕ) → Bool
pieces_ready own qs [] = true
pieces_ready own qs (p ∷ ps) = (eqb (get_or p state_place 0) 0 || open_ready own p qs) && pieces_ready own (p ∷ qs) ps

-- ---- the same as all codes, and then all slots, each of which has no twin after it

-- no key of the first is open in the second
abbrev cross : List (Option Session) → List (Option Session) → Bool
cross [] ss = true
cross (q ∷ qs) ss = not (twin_of q ss) && cross qs ss

eqb_swap : (a b : ℕ) → eqb a b ≡ eqb b a
eqb_swap a b = same_test _ _ (λ e. eq-eqb b a (sym (eqb-true a b e))) (λ e. eq-eqb a b (sym (eqb-true b a e)))

key_swap : (k l : Key) → same_key k l ≡ same_key l k
key_swap k l = and_same (and_same (eqb_swap k.sa.0 l.sa.0) (eqb_swap k.da.0 l.da.0)) (eqb_swap k.session.0 l.session.0)

exchanged : (h a b c : Bool) → (not (h || a) && (not b && c)) ≡ (not (h || b) && (not a && c))
exchanged true a b c = refl
exchanged false a b c = and_left_comm (not a) (not b) c

module _ (ss : List (Option Session)) where
  -- c: what holds of the slots before x, by which it holds of those and y
  one_more : (qs : List (Option Session)) (y x : Option Session) → cross qs (x ∷ ss) ≡ (not (twin_of x qs) && cross qs ss)
      → (not (twin_of y (x ∷ ss)) && cross qs (x ∷ ss))
      ≡ (not (twin_of x (y ∷ qs)) && (not (twin_of y ss) && cross qs ss))
  one_more qs None None e = e
  one_more qs None (Some s) e = e
  one_more qs (Some t) None e = ap (λ (u : Bool). not (any_holds t.announced.key ss) && u) e
  one_more qs (Some t) (Some s) e =
      ap₂ (λ (h u : Bool). not (h || any_holds t.announced.key ss) && u) (key_swap s.announced.key t.announced.key) e
      ∙ exchanged (same_key t.announced.key s.announced.key) (any_holds t.announced.key ss) (any_holds s.announced.key qs) (cross qs ss)

  -- a slot has no twin among those before it exactly where none of them has it for a twin
  twins_swap : (qs : List (Option Session)) (x : Option Session) → cross qs (x ∷ ss) ≡ (not (twin_of x qs) && cross qs ss)
  twins_swap [] None = refl
  twins_swap [] (Some s) = refl
  twins_swap (q ∷ qs) x = one_more qs q x (twins_swap qs x)

lone : (x : Option Session) → not (twin_of x []) ≡ true
lone None = refl
lone (Some s) = refl

no_twins : (qs : List (Option Session)) → cross qs [] ≡ true
no_twins [] = refl
no_twins (q ∷ qs) = both _ _ (lone q) (no_twins qs)

-- q: the codes; o: the bounds; t, u: a twin before and after; c, r, d: what is to come
in_order : (q o t u c r d : Bool) → (q && o && not t && (c && r && (not u && d))) ≡ (cond (not q) false c && (o && not u && r) && (not t && d))
in_order false o t u c r d = refl
in_order true false t u true r d = refl
in_order true false t u false r d = refl
in_order true true true u false r d = refl
in_order true true true true true r d = refl
in_order true true true false true true d = refl
in_order true true true false true false d = refl
in_order true true false u false r d = refl
in_order true true false true true true d = refl
in_order true true false true true false d = refl
in_order true true false false true r d = refl

-- x: the first byte is 0; y: it is 1; q: the kind and the wait are codes
by_code : (own : Address) (s : Session) (qs ss : List (Option Session)) (x y q c r d : Bool) → (x ≡ true → y ≡ true → false ≡ true)
    → ((x || ((x || (y && q)) && session_ok own s && not (any_holds s.announced.key qs))) && (c && r && (not (twin_of (cond y (Some s) None) ss) && d)))
    ≡ (cond (not (x || (y && q))) false c && (state_ok own (cond y (Some s) None) && not (twin_of (cond y (Some s) None) ss) && r)
    && (not (twin_of (cond y (Some s) None) qs) && d))
by_code own s qs ss true true q c r d only = absurd (false≢true (only refl refl))
by_code own s qs ss true false q c r d only = refl
by_code own s qs ss false true q c r d only =
    in_order q (session_ok own s) (any_holds s.announced.key qs) (any_holds s.announced.key ss) c r d
by_code own s qs ss false false q c r d only = refl

two_codes : (n : ℕ) → eqb n 0 ≡ true → eqb n 1 ≡ true → false ≡ true
two_codes n e f = ap (λ (k : ℕ). eqb k 1) (sym (eqb-true n 0 e)) ∙ f

after : (own : Address) (qs ps : List (List ℕ)) → pieces_ready own qs ps ≡ (codes_all ps && slots_ok own (map slot_at ps) && cross (map slot_at qs) (map slot_at ps))
unfolding pieces_ready open_ready codes_all slots_ok
after own qs [] = sym (no_twins (map slot_at qs))
after own qs (p ∷ ps) =
    let n : ℕ = get_or p state_place 0 in
    let q : Bool = is_code (get_or p kind_place 0) && is_code (get_or p wait_place 0) in
    let σ : Option Session = cond (eqb n 1) (Some (session_at p)) None in
    let S : List (List ℕ) → List (Option Session) = map slot_at in
    ap (λ (t : Bool). (eqb n 0 || open_ready own p qs) && t) (after own (p ∷ qs) ps)
    ∙ by_code own (session_at p) (S qs) (S ps) (eqb n 0) (eqb n 1) q (codes_all ps) (slots_ok own (S ps)) (cross (S qs) (S ps)) (two_codes n)
    ∙ ap (λ (t : Bool). codes_all (p ∷ ps) && slots_ok own (S (p ∷ ps)) && t) (sym (twins_swap (S ps) (S qs) σ))

pub pieces_ready_lem : (own : Address) (ps : List (List ℕ)) → pieces_ready own [] ps ≡ (codes_all ps && slots_ok own (map slot_at ps))
pieces_ready_lem own ps = after own [] ps ∙ and-true _

-- ---- those before place i, the highest first
abbrev pub before : {A : Type 0} → (ℕ → A) → ℕ → List A
before f zero = []
before f (suc i) = f i ∷ before f i

-- slot i, and those before it
abbrev pub pieces_before : List ℕ → ℕ → List (List ℕ)
pieces_before b = before (λ (j : ℕ). get_or (pieces_of b) j [])

abbrev pub slots_before : List ℕ → ℕ → List (Option Session)
slots_before b = before (λ (j : ℕ). get_or (slots_at b) j free_slot)

abbrev pub ready_at : Address → List ℕ → ℕ → Bool
ready_at own b i =
    eqb (get_or b (slot_place i) 0) 0 || open_ready own (get_or (pieces_of b) i []) (pieces_before b i)

abbrev pub two_ready : Address → List ℕ → ℕ → Bool
two_ready own b i = ready_at own b i && ready_at own b (i + 1)

ready_turn : (own : Address) (b : List ℕ) (i : ℕ) → i < 8
    → pieces_ready own (pieces_before b i) (drop i (pieces_of b)) ≡ (ready_at own b i && pieces_ready own (pieces_before b (i + 1)) (drop (i + 1) (pieces_of b)))
unfolding pieces_ready
ready_turn own b i h =
    let at : ℕ = slot_place i in
    let qs : List (List ℕ) = pieces_before b i in
    let p : List ℕ = get_or (pieces_of b) i [] in
    let ps : List (List ℕ) = drop (i + 1) (pieces_of b) in
    let e : at + state_place ≡ at = omega arith in
    turn (pieces_ready own qs) (pieces_of b) i [] (omega (arith, length_pieces 8 (drop head_length b)))
    ∙ ap (λ (m : ℕ). (eqb (get_or p state_place 0) 0 || open_ready own p qs) && pieces_ready own (pieces_before b m) ps) (sym (add-one i))
    ∙ ap (λ (x : ℕ). (eqb x 0 || open_ready own p qs) && pieces_ready own (pieces_before b (i + 1)) ps) (byte_of b i state_place h (omega arith) ∙ ap (λ (m : ℕ). get_or b m 0) e)

and_four : (a b c d r : Bool) → (a && b && c && d && r) ≡ (a && (b && (c && (d && r))))
and_four a b c d r = simp and_assoc

two_turn : (own : Address) (b : List ℕ) (i : ℕ) → i < 7
    → pieces_ready own (pieces_before b i) (drop i (pieces_of b)) ≡ (two_ready own b i && pieces_ready own (pieces_before b (i + 2)) (drop (i + 2) (pieces_of b)))
two_turn own b i h =
    let A : ℕ → Bool = ready_at own b in
    let R : ℕ → Bool = λ (n : ℕ). pieces_ready own (pieces_before b n) (drop n (pieces_of b)) in
    let e : i + 1 + 1 ≡ i + 2 = omega arith in
    ready_turn own b i (omega arith)
    ∙ ap (λ (t : Bool). A i && t) (ready_turn own b (i + 1) (omega arith) ∙ ap (λ (n : ℕ). A (i + 1) && R n) e)
    ∙ sym (and_assoc (A i) (A (i + 1)) (R (i + 2)))

-- all eight
pub eight_ready : (own : Address) (b : List ℕ) (x y z w : Bool) → x ≡ two_ready own b 0 → y ≡ two_ready own b 2 → z ≡ two_ready own b 4 → w ≡ two_ready own b 6
    → (x && y && z && w) ≡ pieces_ready own [] (pieces_of b)
unfolding pieces_ready
eight_ready own b x y z w ex ey ez ew =
    let T : ℕ → Bool = two_ready own b in
    let R : ℕ → Bool = λ (n : ℕ). pieces_ready own (pieces_before b n) (drop n (pieces_of b)) in
    let none : R 8 ≡ true = end (pieces_ready own (pieces_before b 8)) (pieces_of b) 8 (omega (arith, length_pieces 8 (drop head_length b))) in
    and_same (and_same (and_same ex ey) ez) ew
    ∙ sym (and-true (T 0 && T 2 && T 4 && T 6))
    ∙ ap (λ (t : Bool). T 0 && T 2 && T 4 && T 6 && t) (sym none)
    ∙ and_four (T 0) (T 2) (T 4) (T 6) (R 8)
    ∙ ap (λ (t : Bool). T 0 && (T 2 && (T 4 && t))) (sym (two_turn own b 6 (omega arith)))
    ∙ ap (λ (t : Bool). T 0 && (T 2 && t)) (sym (two_turn own b 4 (omega arith)))
    ∙ ap (λ (t : Bool). T 0 && t) (sym (two_turn own b 2 (omega arith)))
    ∙ sym (two_turn own b 0 (omega arith))

-- ---- slot i by what was read of it: its codes, its session, and whether its key is open in a slot before it

slots_before_lem : (b : List ℕ) (n : ℕ) → slots_before b n ≡ map slot_at (pieces_before b n)
slots_before_lem b zero = refl
slots_before_lem b (suc n) = ap₂ (λ (s : Option Session) (ss : List (Option Session)). s ∷ ss) (slot_of_lem b n) (slots_before_lem b n)

module _ (own : Address) (b : List ℕ) (i : ℕ) (h : i < 8) where
  module _ (x : Bool) (ex : x ≡ codes_ok (get_or b (slot_place i) 0) (get_or b (slot_place i + kind_place) 0) (get_or b (slot_place i + wait_place) 0)) where
    judged : (y z : Bool) (s : Session) → s ≡ session_at (take slot_length (drop (slot_place i) b)) → y ≡ session_ok own s → z ≡ any_holds s.announced.key (slots_before b i)
        → (x && y && not z) ≡ open_ready own (get_or (pieces_of b) i []) (pieces_before b i)
    unfolding open_ready
    judged y z s es ey ez =
        let at : ℕ = slot_place i in
        let p : List ℕ = get_or (pieces_of b) i [] in
        let ss : List (Option Session) = slots_before b i in
        let e : at ≡ at + state_place = omega arith in
        ap (λ (u : Bool). u && y && not z) (ex
        ∙ ap (λ (n : ℕ). codes_ok n (get_or b (at + kind_place) 0) (get_or b (at + wait_place) 0)) (ap (λ (m : ℕ). get_or b m 0) e ∙ sym (byte_of b i state_place h (omega arith)))
        ∙ ap₂ (codes_ok (get_or p state_place 0)) (sym (byte_of b i kind_place h (omega arith))) (sym (byte_of b i wait_place h (omega arith))))
        ∙ ap (λ (u : Bool). codes_in p && u && not z) ey
        ∙ ap (λ (u : Bool). codes_in p && session_ok own s && not u) ez
        ∙ ap (λ (v : Session). codes_in p && session_ok own v && not (any_holds v.announced.key ss)) (es ∙ ap session_at (sym (piece_of b i h)))
        ∙ ap (λ (l : List (Option Session)). codes_in p && session_ok own (session_at p) && not (any_holds (session_at p).announced.key l)) (slots_before_lem b i)

    pub no_codes : x ≡ false → false ≡ open_ready own (get_or (pieces_of b) i []) (pieces_before b i)
    no_codes f =
        let s : Session = session_at (take slot_length (drop (slot_place i) b)) in
        let z : Bool = any_holds s.announced.key (slots_before b i) in
        ap (λ (u : Bool). u && session_ok own s && not z) (sym f) ∙ judged (session_ok own s) z s refl refl refl

    module _ (t : x ≡ true) (y : Bool) (s : Session) (es : s ≡ session_at (take slot_length (drop (slot_place i) b))) (ey : y ≡ session_ok own s) where
      pub no_bounds : y ≡ false → false ≡ open_ready own (get_or (pieces_of b) i []) (pieces_before b i)
      no_bounds f =
          let z : Bool = any_holds s.announced.key (slots_before b i) in
          ap (λ (u : Bool). u && false && not z) (sym t) ∙ ap (λ (u : Bool). x && u && not z) (sym f) ∙ judged y z s es ey refl

      pub no_twin : y ≡ true → (z : Bool) → z ≡ any_holds s.announced.key (slots_before b i)
          → not z ≡ open_ready own (get_or (pieces_of b) i []) (pieces_before b i)
      no_twin g z ez =
          ap (λ (u : Bool). u && true && not z) (sym t) ∙ ap (λ (u : Bool). x && u && not z) (sym g) ∙ judged y z s es ey ez

-- ---- the whole buffer: length, store and opening values, and then the pieces

reorder : (l c s o k : Bool) → (cond (not l) false c && (s && (o && k))) ≡ (l && (s && (o && (c && k))))
reorder l c s o k =
    ap (λ (t : Bool). t && (s && (o && k))) (guarded l c)
    ∙ and_assoc l c (s && (o && k))
    ∙ ap (λ (t : Bool). l && t) (and_left_comm c s (o && k) ∙ ap (λ (t : Bool). s && t) (and_left_comm c o k))

pub ready_in_lem : (b : List ℕ) (store : ℕ)
    → ready_in b store
    ≡ (eqb (length b) record_length && (eqb store 32768 && (values_ok (record_at b).own (record_at b).limits && pieces_ready (record_at b).own [] (pieces_of b))))
unfolding ready_in is_record in_bounds
ready_in_lem b store =
    let own : Address = (record_at b).own in
    let opening : Bool = values_ok own (record_at b).limits in
    reorder (eqb (length b) record_length) (codes_all (pieces_of b)) (eqb store 32768) opening (slots_ok own (slots_at b))
    ∙ ap (λ (t : Bool). eqb (length b) record_length && (eqb store 32768 && (opening && t))) (sym (pieces_ready_lem own (pieces_of b)))
