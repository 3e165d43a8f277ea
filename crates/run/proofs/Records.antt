-- One record as the code takes it: the engine's answer, its lines, and the place after both.
use Prim.Native.Nat.{ℕ, ◌+◌, ◌-◌}
use native.Mathlib.Omega.{arith}
use mathlib.Core.Path.{◌≡◌, refl, sym, ap, ◌∙◌}
use mathlib.Core.List.{List, []}
use lib.Dec.{ltb}
use lib.ListN.{length, take, drop}
use borrow.Author.Tests.{le-ltb}
use Rattle.laws.specs.Bools.{over_cond}
use Rattle.laws.specs.Choice.{else}
use Rattle.answer.specs.declared.Answer.{Answer}
use Rattle.answer.specs.declared.place.Place.{Place}
use Rattle.answer.specs.Places.{cut_of, place_of, place_bytes}
use Rattle.text.specs.Line.{fits, Placed, placed_by}
use Rattle.std.specs.Prelude.{Option, Some, Result, Ok, None, ℕ}
use Rattle.trace.specs.declared.Fault.{Fault}
use Rattle.trace.specs.declared.record.Record.{Record}
use Rattle.trace.specs.declared.record.Record.TheVariants.{Reading, Frame}
use Rattle.trace.specs.Records.{record_at}
use Rattle.report.specs.Lines.{answer_lines, reading_lines}
use Rattle.engine.specs.InBytes.{InBytes, frame_in}
use Rattle.engine.specs.Elapsing.{reading_in}
use Rattle.engine.specs.declared.reading.ReadingAnswer.{ReadingAnswer}
use Rattle.run.specs.Lines.{Done, took, framed, elapsed, turn_by, turn_at}
use Rattle.run.specs.Steps.{read_in_bytes, in_bytes, Left, stepped, step_of}
use Rattle.run.specs.Within.{frame_within}
use Rattle.run.specs.declared.step.Took.{Took}
use Rattle.run.specs.declared.step.Untaken.{Untaken}

pub made_frame : (b : List ℕ) (id : ℕ) (d m b' m' : List ℕ) (a : Answer) (p : Option Place) (y o : List ℕ) (at : ℕ) (r : Option ℕ) (o' : List ℕ)
    → (a, (b', m')) ≡ frame_in b id d m → p ≡ place_of a → y ≡ place_bytes p d m' → Placed o at (answer_lines d a y) r o'
    → ((b', m') ≡ (frame_in b id d m).1) × Placed o at (framed d (frame_in b id d m)).lines r o'
made_frame b id d m b' m' a p y o at r o' e f g w = (
  ap (λ (x : InBytes). x.1) e,
  placed_by
      (ap (λ (x : InBytes). (framed d x).lines) (sym e) ∙ ap (answer_lines d a) (sym (g ∙ ap (λ (q : Option Place). place_bytes q d m') f))) w,
)

pub made_reading : (b : List ℕ) (t : ℕ) (m b' : List ℕ) (a : ReadingAnswer) (o : List ℕ) (at : ℕ) (r : Option ℕ) (o' : List ℕ)
    → (a, b') ≡ reading_in b t m → Placed o at (reading_lines a.answer a.ends) r o'
    → (b' ≡ (reading_in b t m).1) × Placed o at (elapsed m (read_in_bytes (reading_in b t m))).lines r o'
made_reading b t m b' a o at r o' e w =
    (ap (λ (x : ReadingAnswer × List ℕ). x.1) e, placed_by (ap (λ (x : ReadingAnswer × List ℕ). (elapsed m (read_in_bytes x)).lines) (sym e)) w)

-- four equations are one
four : {s s' : Result Took Untaken} {b b' m m' o o' : List ℕ} → s ≡ s' → b ≡ b' → m ≡ m' → o ≡ o' → ◌≡◌ {A = Left} (s, (b, (m, o))) (s', (b', (m', o')))
four e f g h = rw (e, f, g, h)

-- a record whose lines a writer took
pub placed_step : (x : Done (List ℕ)) (next : ℕ) (b m o : List ℕ) (p : ℕ) (w : Option ℕ) (s : Result Took Untaken) (b' m' o' : List ℕ)
    → Placed o p x.lines w o' → s ≡ stepped w next → b' ≡ x.receiver → m' ≡ x.store
    → (s, (b', (m', o'))) ≡ step_of (took x next) b m o p
placed_step x next b m o p w s b' m' o' l e f g =
    four
    (e
    ∙ ap (λ (v : Option ℕ). stepped v next) l.answer
    ∙ sym (over_cond (λ (v : Option ℕ). stepped v next) (fits o p x.lines) (Some (p + length x.lines)) None))
    f g l.bytes

module _ (b m d : List ℕ) (at : ℕ) (o : List ℕ) (p : ℕ) where
  -- by the record that is at the place
  by_record : (q : Result (Option Record) Fault) {x : Left} → record_at d at ≡ q → x ≡ step_of (turn_by in_bytes b m d q) b m o p → x ≡ step_of (turn_at in_bytes b m d at) b m o p
  unfolding turn_at
  by_record q e h = h ∙ ap (λ (r : Result (Option Record) Fault). step_of (turn_by in_bytes b m d r) b m o p) (sym e)

  pub by_reading : (t next : ℕ) (w : Option ℕ) (s : Result Took Untaken) (b' o' : List ℕ) → record_at d at ≡ Ok (Some (Reading t next))
      → (b' ≡ (reading_in b t m).1) × Placed o p (elapsed m (read_in_bytes (reading_in b t m))).lines w o' → s ≡ stepped w next
      → (s, (b', (m, o'))) ≡ step_of (turn_at in_bytes b m d at) b m o p
  by_reading t next w s b' o' e (f, g) h =
      by_record (Ok (Some (Reading t next))) e (placed_step (elapsed m (read_in_bytes (reading_in b t m))) next b m o p w s b' m o' g h f refl)

  -- the frame's bytes, cut out of those that are there
  cut_frame : (id start n next : ℕ) → record_at d at ≡ Ok (Some (Frame id start n next)) → cut_of d start n ≡ take n (drop start d)
  cut_frame id start n next e =
      let (low, end, high, few) = frame_within d at e in
      sym
      (else (ltb (length d) start) _ [] _ (le-ltb (length d) start (omega arith))
      (else (ltb (length d - start) n) _ [] _ (le-ltb (length d - start) n (omega arith)) refl))

  pub by_frame : (id start n next : ℕ) (f : List ℕ) (w : Option ℕ) (s : Result Took Untaken) (b' m' o' : List ℕ) → record_at d at ≡ Ok (Some (Frame id start n next))
      → f ≡ cut_of d start n
      → ((b', m') ≡ (frame_in b id f m).1) × Placed o p (framed f (frame_in b id f m)).lines w o' → s ≡ stepped w next
      → (s, (b', (m', o'))) ≡ step_of (turn_at in_bytes b m d at) b m o p
  by_frame id start n next f w s b' m' o' e c (g, l) h =
      let x : Done (List ℕ) = framed f (frame_in b id f m) in
      by_record (Ok (Some (Frame id start n next))) e
      (placed_step x next b m o p w s b' m' o' l h (ap (λ (z : List ℕ × List ℕ). z.0) g) (ap (λ (z : List ℕ × List ℕ). z.1) g)
      ∙ ap (λ (k : List ℕ). step_of (took (framed k (frame_in b id k m)) next) b m o p) (c ∙ cut_frame id start n next e))
