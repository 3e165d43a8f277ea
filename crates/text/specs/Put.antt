-- Bytes put into a list at a place: what a lent buffer holds after a write, the bytes around it included.
use Rattle.std.specs.Prelude.{ℕ, suc, ◌+◌, ◌-◌, ◌<◌, ◌≤◌, ◌≡◌, refl, get_or, set}
use Rattle.std.proofs.Common.{add-one, add_assoc, add-zero, arith, subst, ◌∙◌, length-append, length-drop, length-set, take-append-drop, length-take-le, take-suc}
use Rattle.std.proofs.Math.Path.{sym, ap}
use mathlib.Core.List.{List, [], ◌∷◌, ◌++◌, append_assoc}
use Rattle.std.proofs.Math.ListN.{length, take, drop}
use Rattle.std.proofs.Math.Seq.{paste, take_at, drop_at, drop-drop, append_snoc}
use Rattle.std.proofs.lemmas.List.{set_split, set_at}
use Rattle.laws.specs.Pastes.{paste_whole}

-- x in the place of as many elements from at on
unfoldable pub put : List ℕ → ℕ → List ℕ → List ℕ
put d at x = take at d ++ (x ++ drop (at + length x) d)

pub put_nil : (d : List ℕ) (at : ℕ) → put d at [] ≡ d
unfolding put
put_nil d at = ap (λ (k : ℕ). take at d ++ drop k d) (add-zero at) ∙ take-append-drop at d

pub length_put : (d : List ℕ) (at : ℕ) (x : List ℕ) → at + length x ≤ length d → length (put d at x) ≡ length d
unfolding put
length_put d at x h =
    simp (length-append, length-drop) (ap (λ (k : ℕ). k + (length x + (length d - (at + length x)))) (length-take-le at d (omega arith)) ∙ omega arith)

module _ (d : List ℕ) (at : ℕ) (x : List ℕ) (inside : at ≤ length d) where
  front : length (take at d ++ x) ≡ at + length x
  front = length-append (take at d) x ∙ ap (λ (k : ℕ). k + length x) (length-take-le at d inside)

  put_take : take (at + length x) (put d at x) ≡ take at d ++ x
  unfolding put
  put_take = ap (take (at + length x)) (sym (append_assoc (take at d) x (drop (at + length x) d))) ∙ take_at (take at d ++ x) (drop (at + length x) d) (at + length x) front

  put_drop : drop (at + length x) (put d at x) ≡ drop (at + length x) d
  unfolding put
  put_drop = ap (drop (at + length x)) (sym (append_assoc (take at d) x (drop (at + length x) d))) ∙ drop_at (take at d ++ x) (drop (at + length x) d) (at + length x) front

  -- what is put right after goes with it
  pub put_put : (y : List ℕ) → put (put d at x) (at + length x) y ≡ put d at (x ++ y)
  unfolding put
  put_put y =
      let e : drop (at + length x + length y) (put d at x) ≡ drop (at + length (x ++ y)) d =
      sym (drop-drop (length y) (at + length x) (put d at x))
      ∙ ap (drop (length y)) put_drop
      ∙ drop-drop (length y) (at + length x) d
      ∙ ap (λ (k : ℕ). drop k d) (add_assoc at (length x) (length y) ∙ ap (λ (k : ℕ). at + k) (sym (length-append x y))) in
      ap (λ (l : List ℕ). l ++ (y ++ drop (at + length x + length y) (put d at x))) put_take
      ∙ append_assoc (take at d) x (y ++ drop (at + length x + length y) (put d at x))
      ∙ ap (λ (l : List ℕ). take at d ++ (x ++ (y ++ l))) e
      ∙ ap (λ (l : List ℕ). take at d ++ l) (sym (append_assoc x y (drop (at + length (x ++ y)) d)))

pub put_one : (d : List ℕ) (at v : ℕ) → at < length d → set d at v ≡ put d at (v ∷ [])
unfolding put
put_one d at v h = set_split d at v h ∙ ap (λ (k : ℕ). take at d ++ (v ∷ drop k d)) (sym (add-one at))

-- one more in front
pub put_before : (d : List ℕ) (i v : ℕ) (x : List ℕ) → i < length d → set (put d (i + 1) x) i v ≡ put d i (v ∷ x)
unfolding put
put_before d i v x h =
    let tail : List ℕ = x ++ drop (i + 1 + length x) d in
    let e : take (i + 1) d ++ tail ≡ take i d ++ (get_or d i 0 ∷ tail) =
    ap (λ (k : ℕ). take k d ++ tail) (add-one i) ∙ ap (λ (l : List ℕ). l ++ tail) (take-suc d i 0 h) ∙ append_snoc (take i d) (get_or d i 0) tail in
    let q : i + 1 + length x ≡ i + suc (length x) = omega arith in
    ap (λ (l : List ℕ). set l i v) e
    ∙ set_at (take i d) (get_or d i 0) tail v i (length-take-le i d (omega arith))
    ∙ ap (λ (k : ℕ). take i d ++ (v ∷ (x ++ drop k d))) q

-- ---- what a write leaves: x is there from at on, the rest as it was, and the next place is after it
pub record PutAt (d : List ℕ) (at : ℕ) (x : List ℕ) (next : ℕ) (out : List ℕ) : Type 0 where
  pub place : next ≡ at + length x
  pub bytes : out ≡ put d at x

pub put_by : {d : List ℕ} {at : ℕ} {x y : List ℕ} {next : ℕ} {out : List ℕ} → x ≡ y → PutAt d at y next out → PutAt d at x next out
put_by {d} {at} {x} {y} {next} {out} e p = subst (λ (z : List ℕ). PutAt d at z next out) (sym e) p

pub put_none : (d : List ℕ) (at : ℕ) → PutAt d at [] at d
put_none d at = record { place = omega arith; bytes = sym (put_nil d at) }

pub put_set : (d : List ℕ) (at v : ℕ) → at < length d → PutAt d at (v ∷ []) (at + 1) (set d at v)
put_set d at v h = record { place = refl; bytes = put_one d at v h }

-- all of x copied at once
pub put_copied : (d : List ℕ) (at : ℕ) (x : List ℕ) {out : List ℕ} → out ≡ paste d at x (length x) → PutAt d at x (at + length x) out
unfolding put
put_copied d at x e =
    record { place = refl; bytes = e ∙ paste_whole d at x ∙ append_assoc (take at d) x (drop (at + length x) d) }

module _ (d : List ℕ) (at : ℕ) (x : List ℕ) (p : ℕ) (o : List ℕ) (room : at + length x ≤ length d) (w : PutAt d at x p o) where
  pub put_same : length o ≡ length d
  put_same = ap length w.bytes ∙ length_put d at x room

  pub put_then : (y : List ℕ) (q : ℕ) (e : List ℕ) → PutAt o p y q e → PutAt d at (x ++ y) q e
  put_then y q e v =
      let a : p ≡ at + length x = w.place in
      let b : q ≡ p + length y = v.place in
      record {
        place = simp length-append (omega arith);
        bytes = v.bytes ∙ ap (λ (k : ℕ). put o k y) a ∙ ap (λ (l : List ℕ). put l (at + length x) y) w.bytes ∙ put_put d at x (omega arith) y;
      }

-- two stores, one after the other, and three
pub put_set_two : (d : List ℕ) (at a b : ℕ) → at + 2 ≤ length d → PutAt d at (a ∷ b ∷ []) (at + 2) (set (set d at a) (at + 1) b)
put_set_two d at a b h =
    let w = put_set d at a (omega arith) in
    let l : at + 1 < length (set d at a) = simp length-set (omega arith) in
    let v = put_then d at (a ∷ []) (at + 1) (set d at a) (omega arith) w (b ∷ []) (at + 1 + 1) (set (set d at a) (at + 1) b) (put_set (set d at a) (at + 1) b l) in
    record { place = omega arith; bytes = v.bytes }

pub put_set_three : (d : List ℕ) (at a b c : ℕ) → at + 3 ≤ length d → PutAt d at (a ∷ b ∷ c ∷ []) (at + 3) (set (set (set d at a) (at + 1) b) (at + 2) c)
put_set_three d at a b c h =
    let o : List ℕ = set (set d at a) (at + 1) b in
    let w = put_set_two d at a b (omega arith) in
    let l : at + 2 < length o = simp length-set (omega arith) in
    let v = put_then d at (a ∷ b ∷ []) (at + 2) o (omega arith) w (c ∷ []) (at + 2 + 1) (set o (at + 2) c) (put_set o (at + 2) c l) in
    record { place = omega arith; bytes = v.bytes }

-- ---- a loop that writes: what is left to write at p, and it makes the whole
pub record Going (d : List ℕ) (at : ℕ) (whole : List ℕ) (out : List ℕ) (p : ℕ) (rest : List ℕ) : Type 0 where
  pub place : p + length rest ≡ at + length whole
  pub bytes : put out p rest ≡ put d at whole
  pub same : length out ≡ length d

module _ (d : List ℕ) (at : ℕ) (w : List ℕ) where
  pub going_start : Going d at w d at w
  going_start = record { place = refl; bytes = refl; same = refl }

  pub going_end : (o : List ℕ) (p : ℕ) → Going d at w o p [] → PutAt d at w p o
  going_end o p g =
      let a : p + 0 ≡ at + length w = g.place in record { place = omega arith; bytes = sym (put_nil o p) ∙ g.bytes }

  module _ (room : at + length w ≤ length d) (o : List ℕ) (p : ℕ) (x y : List ℕ) (g : Going d at w o p (x ++ y)) where
    -- there is room for the part that is next
    pub going_room : p + length x ≤ length o
    going_room =
        let a : p + length (x ++ y) ≡ at + length w = g.place in
        let b : length (x ++ y) ≡ length x + length y = length-append x y in
        let c : length o ≡ length d = g.same in
        omega arith

    pub going_on : (q : ℕ) (e : List ℕ) → PutAt o p x q e → Going d at w e q y
    going_on q e v =
        let a : p + length (x ++ y) ≡ at + length w = g.place in
        let b : length (x ++ y) ≡ length x + length y = length-append x y in
        let c : length o ≡ length d = g.same in
        let k : q ≡ p + length x = v.place in
        let r : p + length x ≤ length o = going_room in
        record {
          place = omega arith;
          bytes = ap (λ (j : ℕ). put e j y) k ∙ ap (λ (l : List ℕ). put l (p + length x) y) v.bytes ∙ put_put o p x (omega arith) y ∙ g.bytes;
          same = ap length v.bytes ∙ length_put o p x r ∙ c;
        }
