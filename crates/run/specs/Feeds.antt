-- Each call of the run's functions is one step of a run over pieces.
use Rattle.std.specs.Prelude.{ℕ, ◌+◌, ◌≡◌, refl, true, List, [], ◌++◌, length, drop}
use Rattle.std.proofs.Common.{arith, sym, ap, subst, ◌∙◌}
use Rattle.report.specs.Lines.{bad_line}
use Rattle.run.specs.Lines.{State, bad}
use Rattle.run.specs.Steps.{in_bytes}
use Rattle.run.specs.Goes.{turn_in, is_open, lying, Stops}
use Rattle.run.specs.Takes.{Takes, final_line}
use Rattle.run.specs.Cuts.{further, Fed, takes, fails, ends, open_kept, bad_kept}
use Rattle.run.specs.declared.piece.Stop.{Stop}
use Rattle.run.specs.declared.piece.Stop.TheVariants as stop
use Rattle.run.specs.declared.piece.Went.{Went}

-- the call stops for bytes or for room
abbrev pub GoesOn : Stop → Type 0
GoesOn stop.Bytes = Unit {0}
GoesOn stop.Room = Unit {0}
GoesOn stop.Bad = ⊥
GoesOn stop.Lost = ⊥
GoesOn stop.Long = ⊥

module _ {d : List ℕ} {k offset : ℕ} {b m o : List ℕ} {p : ℕ} {r : Went} {b' m' o' : List ℕ} (t : Takes d k offset b m o p r b' m' o') where
  -- where it is then, counted from the trace's first byte
  stands : (s : Stop) → GoesOn s → Stops d t.to (length o) t.end s b' m' → further offset t.to ≡ lying b' m' t.to.records (offset + t.to.place)
  stands stop.Bytes g (a, e, f) = rw (e, f) refl
  stands stop.Room g (a, e, f) = rw (e, f) refl
  stands stop.Bad g h = absurd g
  stands stop.Lost g h = absurd g
  stands stop.Long g h = absurd g

  stands_told : GoesOn r.stop → further offset t.to ≡ lying b' m' r.records (offset + r.at)
  stands_told g =
      stands r.stop g t.stops
      ∙ ap (λ (n : ℕ). lying b' m' n (offset + t.to.place)) (sym t.records)
      ∙ ap (λ (n : ℕ). lying b' m' r.records (offset + n)) (sym t.place)

  -- a call that goes on, and then the rest of the run
  pub call_goes : GoesOn r.stop → {ps : List (List ℕ)} {l : List ℕ}
      → Fed in_bytes (lying b' m' r.records (offset + r.at)) (drop r.at d) ps l → Fed in_bytes (lying b m k offset) d ps (t.lines ++ l)
  call_goes g {ps} {l} f =
      takes t.lines t.to t.goes
      (subst (λ (s : State (List ℕ)). Fed in_bytes s (drop t.to.place d) ps l) (sym (stands_told g))
      (subst (λ (n : ℕ). Fed in_bytes (lying b' m' r.records (offset + r.at)) (drop n d) ps l) t.place f))

  -- a call that meets a bad record ends the run, with that record's line
  bad_by : (s : Stop) → s ≡ stop.Bad → Stops d t.to (length o) t.end s b' m' → turn_in in_bytes d t.to ≡ bad
  bad_by stop.Bad e h = h.0
  bad_by stop.Bytes e h = absurd (let z : ◌≡◌ {A = ℕ} 0 1 = cc in omega arith)
  bad_by stop.Room e h = absurd (let z : ◌≡◌ {A = ℕ} 0 1 = cc in omega arith)
  bad_by stop.Lost e h = absurd (let z : ◌≡◌ {A = ℕ} 0 1 = cc in omega arith)
  bad_by stop.Long e h = absurd h

  pub call_ends : r.stop ≡ stop.Bad → {ps : List (List ℕ)} → Fed in_bytes (lying b m k offset) d ps (t.lines ++ bad_line (offset + t.to.place))
  call_ends e = takes t.lines t.to t.goes (fails (bad_kept in_bytes d t.to t.within (bad_by r.stop e t.stops)))

  -- a call that asks for bytes where the input is over, and then the last line
  open_by : (s : Stop) → s ≡ stop.Bytes → Stops d t.to (length o) t.end s b' m' → is_open (turn_in in_bytes d t.to) ≡ true
  open_by stop.Bytes e h = h.0
  open_by stop.Bad e h = absurd (let z : ◌≡◌ {A = ℕ} 0 1 = cc in omega arith)
  open_by stop.Room e h = absurd (let z : ◌≡◌ {A = ℕ} 0 1 = cc in omega arith)
  open_by stop.Lost e h = absurd (let z : ◌≡◌ {A = ℕ} 0 1 = cc in omega arith)
  open_by stop.Long e h = absurd h

  pub call_over : r.stop ≡ stop.Bytes
      → Fed in_bytes (lying b m k offset) d [] (t.lines ++ final_line (length (drop t.to.place d)) t.to.records (offset + t.to.place))
  call_over e = takes t.lines t.to t.goes (ends (open_kept in_bytes d t.to t.within (open_by r.stop e t.stops)))
