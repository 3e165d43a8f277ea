-- The functions of a run, over the loop: what is too long, the line of a bad record, and the bytes that are kept.
use Rattle.std.specs.Prelude.{Option, ℕ}
use Rattle.std.specs.Option.{unwrap_or}
use mathlib.Core.Logic.{◌⊎◌, inl, inr}
use Prim.Native.Nat.{ℕ, zero, suc, ◌+◌, ◌*◌, ◌/◌, ◌^◌, ◌<◌, ◌≤◌}
use native.Mathlib.Omega.{arith}
use mathlib.Core.Path.{◌≡◌, refl, sym, ap, subst, ◌∙◌}
use mathlib.Core.Bool.{Bool, true, false, false≢true, true≢false}
use mathlib.Core.List.{List, [], ◌∷◌, ◌++◌, append-nil}
use lib.Dec.{ltb, leb}
use lib.ListN.{length, length-append}
use borrow.Author.Tests.{le-leb, leb-false, ltb-true, ltb-false}
use Rattle.laws.specs.Bools.{by_test, cond_true, neither_left, neither_right}
use Rattle.text.specs.Decimal.{decimal, width_of, length_decimal, width_small, width_large}
use Rattle.text.specs.Line.{spaced, numbers, line_of, fits, Placed}
use Rattle.text.specs.Put.{put_nil, put_none, PutAt, put_then}
use Rattle.report.specs.Lines.{bad_line, bad_word}
use Rattle.run.specs.Goes.{record_room, Stops, Taken}
use Rattle.run.specs.Takes.{is_long, last_line, LastFits, Takes, nothing, TakesOr}
use Rattle.run.specs.declared.piece.Stop.{Stop}
use Rattle.run.specs.declared.piece.Stop.TheVariants as stop
use Rattle.run.specs.declared.piece.Went.{Went}
use Rattle.run.proofs.Walks.{put_inside}

-- ---- a count that would pass 64 bits

module _ (k o n : ℕ) (e : is_long k o n ≡ false) where
  pub few_records : k + n < 2 ^ 64
  few_records = leb-false (2 ^ 64) (k + n) (neither_left _ _ e)

  pub few_bytes : o + n < 2 ^ 64
  few_bytes = leb-false (2 ^ 64) (o + n) (neither_right (leb (2 ^ 64) (k + n)) _ e)

-- ---- the line of a bad record is short

abbrev tens : ℕ → ℕ
tens zero = 10
tens (suc k) = tens k * 10

width_most : (k n : ℕ) → n < tens k → width_of n ≤ suc k
width_most zero n h = let e : width_of n ≡ 1 = width_small n h in omega arith
width_most (suc k) n h =
    by_test (ltb n 10)
    (λ e. let f : width_of n ≡ 1 = width_small n (ltb-true _ _ e) in omega arith)
    (λ e.
    let f : width_of n ≡ suc (width_of (n / 10)) = width_large n (ltb-false _ _ e) in
    let g : width_of (n / 10) ≤ suc k = width_most k (n / 10) (omega arith) in
    omega arith)

bad_short : (place : ℕ) → place < 2 ^ 64 → length (bad_line place) ≤ record_room
unfolding line_of numbers spaced
bad_short place h =
    let w : width_of place ≤ 20 = width_most 19 place (omega arith) in
    let d : length (decimal place) ≡ width_of place = length_decimal place in
    let n : length (numbers (place ∷ [])) ≡ suc (length (decimal place)) + 0 = length-append (spaced place) [] in
    let t : length (numbers (place ∷ []) ++ (10 ∷ [])) ≡ length (numbers (place ∷ [])) + 1 = length-append (numbers (place ∷ [])) (10 ∷ []) in
    let l : length (bad_line place) ≡ 13 + length (numbers (place ∷ []) ++ (10 ∷ [])) = length-append bad_word (numbers (place ∷ []) ++ (10 ∷ [])) in
    omega arith

module _ (o : List ℕ) (p place : ℕ) where
  pub none_written : (s : Stop) → (s ≡ stop.Bytes) ⊎ ((s ≡ stop.Room) ⊎ ((s ≡ stop.Lost) ⊎ (s ≡ stop.Long))) → PutAt o p (last_line s place) p o
  none_written s (inl e) = rw e (put_none o p)
  none_written s (inr (inl e)) = rw e (put_none o p)
  none_written s (inr (inr (inl e))) = rw e (put_none o p)
  none_written s (inr (inr (inr e))) = rw e (put_none o p)

  module _ (low : place < 2 ^ 64) (w : Option ℕ) (o' : List ℕ) (l : Placed o p (bad_line place) w o') where
    bad_fits : p + record_room ≤ length o → fits o p (bad_line place) ≡ true
    bad_fits room =
        let h = bad_short place low in
        le-leb (p + length (bad_line place)) (length o) (omega arith)

    pub bad_written : (s : Stop) → s ≡ stop.Bad → LastFits s (length o) p → PutAt o p (last_line s place) (unwrap_or w p) o'
    bad_written stop.Bad e room =
        let f = bad_fits room in
        record {
          place = ap (λ (x : Option ℕ). unwrap_or x p) (l.answer ∙ cond_true _ _ _ f);
          bytes = l.bytes ∙ cond_true _ _ _ f;
        }
    bad_written s e room = absurd (let z : ◌≡◌ {A = ℕ} 0 1 = cc in omega arith)

-- ---- the loop's answer, with the line of a bad record after it

module _ (d : List ℕ) (k offset : ℕ) (b m o : List ℕ) (p : ℕ) (w : Went) (b' m' o' : List ℕ) (t : Taken d k b m o p w b' m' o') where
  fits_by : (s : Stop) → Stops d t.to (length o) w.put s b' m' → LastFits s (length o) w.put
  fits_by stop.Bytes h = tt
  fits_by stop.Room h = tt
  fits_by stop.Bad (a, r, e, f) = r
  fits_by stop.Lost h = tt
  fits_by stop.Long h = tt

  pub last_fits : length o' ≡ length o → LastFits w.stop (length o') w.put
  last_fits e = subst (λ (n : ℕ). LastFits w.stop n w.put) (sym e) (fits_by w.stop t.stops)

  pub place_small : is_long k offset (length d) ≡ false → offset + w.at < 2 ^ 64
  place_small e =
      let a = few_bytes k offset (length d) e in
      let f : w.at ≡ t.to.place = t.place in
      let g = t.within in
      omega arith

  same_written : (q : ℕ) (o₂ : List ℕ) → PutAt o' w.put [] q o₂ → PutAt o p (t.lines ++ []) q o₂
  same_written q o₂ v =
      let h : w.put ≡ p + length t.lines = t.written.place in
      let g : q ≡ w.put + 0 = v.place in
      subst (λ (l : List ℕ). PutAt o p l q o₂) (sym (append-nil t.lines))
      (record { place = omega arith; bytes = v.bytes ∙ put_nil o' w.put ∙ t.written.bytes })

  written_by : (s : Stop) → Stops d t.to (length o) w.put s b' m' → (place q : ℕ) (o₂ : List ℕ) → PutAt o' w.put (last_line s place) q o₂
      → PutAt o p (t.lines ++ last_line s place) q o₂
  written_by stop.Bad (a, r, e, f) place q o₂ v =
      let h : w.put ≡ p + length t.lines = t.written.place in
      put_then o p t.lines w.put o' (omega arith) t.written (bad_line place) q o₂ v
  written_by stop.Bytes h place q o₂ v = same_written q o₂ v
  written_by stop.Room h place q o₂ v = same_written q o₂ v
  written_by stop.Lost h place q o₂ v = same_written q o₂ v
  written_by stop.Long h place q o₂ v = same_written q o₂ v

  pub takes_of : (place q : ℕ) (o₂ : List ℕ) → place ≡ offset + w.at → PutAt o' w.put (last_line w.stop place) q o₂ → length o₂ ≡ length o
      → Takes d k offset b m o p (record { at = w.at; put = q; records = w.records; stop = w.stop }) b' m' o₂
  takes_of place q o₂ e v same =
      let f : place ≡ offset + t.to.place = e ∙ ap (λ (n : ℕ). offset + n) t.place in
      let all : PutAt o p (t.lines ++ last_line w.stop (offset + t.to.place)) q o₂ =
      subst (λ (n : ℕ). PutAt o p (t.lines ++ last_line w.stop n) q o₂) f (written_by w.stop t.stops place q o₂ v) in
      record {
        lines = t.lines;
        to = t.to;
        goes = t.goes;
        end = w.put;
        written = all;
        inside = λ h. subst (λ (n : ℕ). n ≤ length o) (sym all.place) (put_inside o p _ (sym (ap length all.bytes) ∙ same) h);
        records = t.records;
        place = t.place;
        within = t.within;
        stops = t.stops;
      }

-- ---- a trace that is too long, or not

pub by_long : (t : Bool) (d : List ℕ) (k offset : ℕ) (b m o : List ℕ) (p : ℕ) → t ≡ true → TakesOr t d k offset b m o p (nothing k p) b m o
by_long true d k offset b m o p e = (refl, refl, refl, refl)
by_long false d k offset b m o p e = absurd (false≢true e)

pub by_short : (t : Bool) (d : List ℕ) (k offset : ℕ) (b m o : List ℕ) (p : ℕ) (r : Went) (b' m' o' : List ℕ) → t ≡ false
    → Takes d k offset b m o p r b' m' o' → TakesOr t d k offset b m o p r b' m' o'
by_short true d k offset b m o p r b' m' o' e h = absurd (true≢false e)
by_short false d k offset b m o p r b' m' o' e h = h
