-- A line: a word, then a space and the decimal digits of each number, then LF. 01, "Program".
use Rattle.std.specs.Prelude.{ℕ, ◌+◌, ◌-◌, ◌<◌, ◌≤◌, ◌≡◌, Bool, true, false, cond, List, [], ◌∷◌, ◌++◌, Option, Some, None, leb, ltb, length}
use Rattle.std.proofs.Common.{arith, sym, ap, subst, ◌∙◌, length-append, lt-ltb, le-ltb, ltb-true, ltb-false, le-leb}
use Rattle.std.proofs.Math.Path.{refl}
use Rattle.std.proofs.lemmas.Bool.{lt-leb}
use Rattle.laws.specs.Choice.{then, else}
use Rattle.text.specs.Decimal.{decimal}
use Rattle.text.specs.Put.{put, PutAt, put_same, put_then}
use Rattle.text.specs.declared.line.Line.{Line}

unfoldable pub spaced : ℕ → List ℕ
spaced n = 32 ∷ decimal n

unfoldable pub numbers : List ℕ → List ℕ
numbers [] = []
numbers (n ∷ ns) = spaced n ++ numbers ns

unfoldable pub line_of : List ℕ → List ℕ → List ℕ
line_of word ns = word ++ (numbers ns ++ (10 ∷ []))

-- the numbers of a line are those of its fields and then those of its octets
abbrev pub bytes_of : Line → List ℕ
bytes_of l = line_of l.word.now (l.fields.now ++ l.octets.now)

-- ---- room: how much is left of it after n bytes
unfoldable pub left_by : ℕ → ℕ → Option ℕ
left_by room n = cond (ltb room n) None (Some (room - n))

module _ (room n : ℕ) where
  pub left_short : room < n → None ≡ left_by room n
  unfolding left_by
  left_short h = then (ltb room n) _ _ _ (lt-ltb room n h) refl

  pub left_enough : n ≤ room → Some (room - n) ≡ left_by room n
  unfolding left_by
  left_enough h = else (ltb room n) _ _ _ (le-ltb room n h) refl

-- what n leaves, and then m of that
pub left_then : (room n m : ℕ) → n ≤ room → left_by (room - n) m ≡ left_by room (n + m)
left_then room n m h = go (ltb (room - n) m) refl
  where
    go : (t : Bool) → ltb (room - n) m ≡ t → left_by (room - n) m ≡ left_by room (n + m)
    go true e =
        let k : room - n < m = ltb-true _ _ e in
        sym (left_short (room - n) m k) ∙ left_short room (n + m) (omega arith)
    go false e =
        let k : m ≤ room - n = ltb-false _ _ e in
        let q : room - n - m ≡ room - (n + m) = omega arith in
        sym (left_enough (room - n) m k) ∙ ap Some q ∙ left_enough room (n + m) (omega arith)

module _ (room n : ℕ) where
  pub short_of : left_by room n ≡ None → room < n
  short_of e = go (ltb room n) refl
    where
      go : (t : Bool) → ltb room n ≡ t → room < n
      go true p = ltb-true _ _ p
      go false p = let z : ◌≡◌ {A = Option ℕ} None (Some (room - n)) = sym e ∙ sym (left_enough room n (ltb-false _ _ p)) in absurd (let q : ◌≡◌ {A = ℕ} 0 1 = cc in omega arith)

  pub enough_of : (l : ℕ) → left_by room n ≡ Some l → (n ≤ room) × (l ≡ room - n)
  enough_of l e = go (ltb room n) refl
    where
      go : (t : Bool) → ltb room n ≡ t → (n ≤ room) × (l ≡ room - n)
      go true p = let z : ◌≡◌ {A = Option ℕ} None (Some l) = left_short room n (ltb-true _ _ p) ∙ e in absurd (let q : ◌≡◌ {A = ℕ} 0 1 = cc in omega arith)
      go false p = let z : ◌≡◌ {A = Option ℕ} (Some (room - n)) (Some l) = left_enough room n (ltb-false _ _ p) ∙ e in (ltb-false _ _ p, (cc))

-- of two parts: the first cuts the whole short, or what it leaves is there for the second
module _ (room : ℕ) (x y : List ℕ) where
  pub left_first : left_by room (length x) ≡ None → None ≡ left_by room (length (x ++ y))
  left_first e =
      let h : room < length x = short_of _ _ e in
      let n : length (x ++ y) ≡ length x + length y = length-append x y in
      left_short room (length (x ++ y)) (omega arith)

  pub left_rest : (l : ℕ) → left_by room (length x) ≡ Some l → left_by l (length y) ≡ left_by room (length (x ++ y))
  left_rest l e =
      let (a, b) = enough_of _ _ l e in
      ap (λ (k : ℕ). left_by k (length y)) b ∙ left_then room (length x) (length y) a ∙ ap (left_by room) (sym (length-append x y))

-- nothing takes no room
pub left_none : (room : ℕ) → Some room ≡ left_by room 0
left_none room = let q : room ≡ room - 0 = omega arith in ap Some q ∙ left_enough room 0 (omega arith)

-- ---- a write that looks first: with room for all of x it is put there and the next place told, else nothing is written
abbrev pub fits : List ℕ → ℕ → List ℕ → Bool
fits d at x = leb (at + length x) (length d)

pub record Placed (d : List ℕ) (at : ℕ) (x : List ℕ) (r : Option ℕ) (out : List ℕ) : Type 0 where
  pub answer : r ≡ cond (fits d at x) (Some (at + length x)) None
  pub bytes : out ≡ cond (fits d at x) (put d at x) d

module _ (d : List ℕ) (at : ℕ) (x : List ℕ) where
  pub placed_short : length d < at + length x → Placed d at x None d
  placed_short h =
      let e : fits d at x ≡ false = lt-leb _ _ h in
      record { answer = else (fits d at x) _ _ _ e refl; bytes = else (fits d at x) _ _ _ e refl }

  pub placed_put : at + length x ≤ length d → (next : ℕ) (out : List ℕ) → PutAt d at x next out → Placed d at x (Some next) out
  placed_put h next out p =
      let e : fits d at x ≡ true = le-leb _ _ h in
      record { answer = then (fits d at x) _ _ _ e (ap Some p.place); bytes = then (fits d at x) _ _ _ e p.bytes }

-- by the room that is left after x, of the room behind at
module _ (d : List ℕ) (at : ℕ) (x : List ℕ) (room : ℕ) (behind : (at ≤ length d) × (room ≡ length d - at)) where
  pub left_cut : left_by room (length x) ≡ None → Placed d at x None d
  left_cut e = let h : room < length x = short_of _ _ e in placed_short d at x (omega arith)

  pub left_room : (l : ℕ) → left_by room (length x) ≡ Some l → at + length x ≤ length d
  left_room l e = let (a, b) = enough_of _ _ l e in omega arith

pub placed_by : {d : List ℕ} {at : ℕ} {x y : List ℕ} {r : Option ℕ} {out : List ℕ} → x ≡ y → Placed d at y r out → Placed d at x r out
placed_by {d} {at} {x} {y} {r} {out} e p = subst (λ (z : List ℕ). Placed d at z r out) (sym e) p

-- ---- two writes, one after the other, looked at together

module _ (d : List ℕ) (at : ℕ) (x y : List ℕ) (room : ℕ) (behind : (at ≤ length d) × (room ≡ length d - at)) where
  pub first_short : left_by room (length x) ≡ None → Placed d at (x ++ y) None d
  first_short e =
      let h : room < length x = short_of _ _ e in
      let n : length (x ++ y) ≡ length x + length y = length-append x y in
      placed_short d at (x ++ y) (omega arith)

  module _ (l : ℕ) (e : left_by room (length x) ≡ Some l) where
    pub second_short : left_by l (length y) ≡ None → Placed d at (x ++ y) None d
    second_short s =
        let h : l < length y = short_of _ _ s in
        let (a, b) = enough_of _ _ l e in
        let n : length (x ++ y) ≡ length x + length y = length-append x y in
        placed_short d at (x ++ y) (omega arith)

    pub first_room : at + length x ≤ length d
    first_room = left_room d at x room behind l e

    module _ (m : ℕ) (s : left_by l (length y) ≡ Some m) where
      both_room : at + length (x ++ y) ≤ length d
      both_room =
          let (a, b) = enough_of _ _ l e in
          let (f, g) = enough_of _ _ m s in
          let n : length (x ++ y) ≡ length x + length y = length-append x y in
          omega arith

      module _ (p : ℕ) (o : List ℕ) (w : PutAt d at x p o) where
        pub second_room : p + length y ≤ length o
        second_room =
            let k : length o ≡ length d = put_same d at x p o first_room w in
            let q : p ≡ at + length x = w.place in
            let n : length (x ++ y) ≡ length x + length y = length-append x y in
            omega (arith, both_room)

        pub placed_both : (q : ℕ) (r : List ℕ) → PutAt o p y q r → Placed d at (x ++ y) (Some q) r
        placed_both q r v = placed_put d at (x ++ y) both_room q r (put_then d at x p o first_room w y q r v)
