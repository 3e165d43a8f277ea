-- The first of the lengths that holds a need is the least one that does, because the list rises.
use Rattle.std.specs.Prelude.{ℕ, ◌+◌, ◌≤◌, ◌<◌, ◌≡◌, refl, Bool, true, false, cond, ◌&&◌, List, [], ◌∷◌, eqb, leb, None, Option, Some, unwrap_or}
use Rattle.std.proofs.Math.Decide.{dec_le}
use Rattle.std.proofs.Common.{arith, sym, ⊎_elim, eqb-true, leb-true, leb-false, eq-eqb}
use Rattle.std.proofs.lemmas.Bool.{false≢true}
use mathlib.Mathlib.Data.Bool.Basic.{or_inr}
use Rattle.laws.specs.Bools.{or_either}
use Rattle.laws.specs.Choice.{or_stop, each_of}
use Rattle.frame.specs.Lengths.{lengths, among, is_length, first_holding, least_length, holding, frame_length}
use Rattle.frame.specs.LengthLaws.{LeastOf}

-- each is at least the one before, the first at least lo, the last at most hi
abbrev rising : ℕ → List ℕ → ℕ → Bool
rising lo [] hi = leb lo hi
rising lo (n ∷ ns) hi = leb lo n && rising n ns hi

-- ---- any rising list

rises : (lo n : ℕ) (ns : List ℕ) (hi : ℕ) → rising lo (n ∷ ns) hi ≡ true → (lo ≤ n) × (rising n ns hi ≡ true)
rises lo n ns hi r = let b = each_of (leb lo n ∷ rising n ns hi ∷ []) r in (leb-true lo n b.0, b.1.0)

ends : (lo : ℕ) (ns : List ℕ) (hi : ℕ) → rising lo ns hi ≡ true → lo ≤ hi
ends lo [] hi r = leb-true lo hi r
ends lo (n ∷ ns) hi r = let b = rises lo n ns hi r in omega (arith, b.0, ends n ns hi b.1)

within : (lo : ℕ) (ns : List ℕ) (hi m : ℕ) → rising lo ns hi ≡ true → among m ns ≡ true → (lo ≤ m) × (m ≤ hi)
within lo [] hi m r a = absurd (false≢true a)
within lo (n ∷ ns) hi m r a =
    let b = rises lo n ns hi r in
    ⊎_elim
    (λ e. let q : m ≡ n = eqb-true m n e in (omega (arith, b.0), omega (arith, ends n ns hi b.1)))
    (λ e. let w = within n ns hi m b.1 e in (omega (arith, b.0, w.0), w.1))
    (or_either (eqb m n) (among m ns) a)

-- an answer to a need: the least of the list that holds it, or none where every one is too small
abbrev AnswerOf : List ℕ → ℕ → Option ℕ → Type 0
AnswerOf ns need (Some n) = LeastOf ns need n
AnswerOf ns need None = (m : ℕ) → among m ns ≡ true → m < need

too_small : (need n : ℕ) (ns : List ℕ) (l : Option ℕ) → leb need n ≡ false → AnswerOf ns need l → AnswerOf (n ∷ ns) need l
too_small need n ns (Some k) h f = record {
  holds = f.holds;
  member = or_inr (eqb k n) (among k ns) f.member;
  least = λ m a g. ⊎_elim (λ e. absurd (omega (arith, eqb-true m n e, leb-false need n h))) (λ e. f.least m e g) (or_either (eqb m n) (among m ns) a);
}
too_small need n ns None h f = λ m a. ⊎_elim (λ e. omega (arith, eqb-true m n e, leb-false need n h)) (λ e. f m e) (or_either (eqb m n) (among m ns) a)

-- of a rising list, the first that holds the need is the answer
first_least : (lo : ℕ) (ns : List ℕ) (hi need : ℕ) → rising lo ns hi ≡ true → AnswerOf ns need (first_holding need ns)
first_least lo [] hi need r = λ m a. absurd (false≢true a)
first_least lo (n ∷ ns) hi need r = go (leb need n) refl (rises lo n ns hi r).1 (first_least n ns hi need (rises lo n ns hi r).1)
  where
    go : (t : Bool) → leb need n ≡ t → rising n ns hi ≡ true → AnswerOf ns need (first_holding need ns)
        → AnswerOf (n ∷ ns) need (cond t (Some n) (first_holding need ns))
    go true h s f = record {
      holds = leb-true need n h;
      member = sym (or_stop (eqb n n) (among n ns) (eq-eqb n n refl));
      least = λ m a k. ⊎_elim (λ e. omega (arith, eqb-true m n e)) (λ e. (within n ns hi m s e).0) (or_either (eqb m n) (among m ns) a);
    }
    go false h s f = too_small need n ns (first_holding need ns) h f

-- ---- the lengths

pub or_longest : (l : Option ℕ) → unwrap_or l 64 ≡ holding l
or_longest None = refl
or_longest (Some n) = refl

lengths_rise : rising 0 lengths 64 ≡ true
lengths_rise = refl

pub length_to : (m : ℕ) → is_length m ≡ true → m ≤ 64
length_to m e = (within 0 lengths 64 m lengths_rise e).1

-- 02, E3: up to 64 bytes there is a length; it is one of the list, it holds the need, and no smaller one of the list does. Above 64 there
-- is none
pub least_length_lem : (need : ℕ)
    → (need ≤ 64 → (n : ℕ) × (least_length need ≡ Some n) × LeastOf lengths need n)
    × (64 < need → least_length need ≡ None)
least_length_lem need = go (least_length need) (first_least 0 lengths 64 need lengths_rise)
  where
    go : (l : Option ℕ) → AnswerOf lengths need l
        → (need ≤ 64 → (n : ℕ) × (l ≡ Some n) × LeastOf lengths need n)
        × (64 < need → l ≡ None)
    go (Some n) f = (λ h. (n, refl, f), λ h. absurd (omega (arith, f.holds, length_to n f.member)))
    go None f = (λ h. absurd (omega (arith, f 64 refl)), λ h. refl)

-- the length of a frame holds what the frame is for
pub frame_least : (need : ℕ) → need ≤ 64 → LeastOf lengths need (frame_length need)
unfolding frame_length
frame_least need h = let l = (least_length_lem need).0 h in rw l.1 l.2

pub frame_bounds : (need : ℕ) → need ≤ 64 → (need ≤ frame_length need) × (frame_length need ≤ 64)
frame_bounds need h = let l = frame_least need h in (l.holds, length_to (frame_length need) l.member)

-- and is at most 15 bytes longer
pub frame_gap : (need : ℕ) → need ≤ 64 → frame_length need ≤ need + 15
frame_gap need h = go (dec_le need 8) (dec_le need 24) (dec_le need 32) (dec_le need 48)
  where
    least : (m : ℕ) → among m lengths ≡ true → need ≤ m → frame_length need ≤ m
    least = (frame_least need h).least

    go : Dec (need ≤ 8) → Dec (need ≤ 24) → Dec (need ≤ 32) → Dec (need ≤ 48) → frame_length need ≤ need + 15
    go (yes a) b c d = omega (arith, least 8 refl a)
    go (no a) (yes b) c d = omega (arith, least 24 refl b)
    go (no a) (no b) (yes c) d = omega (arith, least 32 refl c)
    go (no a) (no b) (no c) (yes d) = omega (arith, least 48 refl d)
    go (no a) (no b) (no c) (no d) = omega (arith, least 64 refl h)
