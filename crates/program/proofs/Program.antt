-- The run over lent bytes prints what the receiver of 01 prints, however its trace is cut into pieces.
use Prim.Native.Nat.{ℕ, zero, suc, ◌+◌, ◌<◌}
use native.Mathlib.Omega.{arith}
use mathlib.Core.Path.{◌≡◌, refl, sym, ap, subst, ◌∙◌}
use mathlib.Core.Bool.{Bool, true, false, cond, ◌&&◌}
use mathlib.Core.List.{List, [], ◌++◌}
use lib.Dec.{eqb}
use lib.ListN.{length, get_or, take, drop, replicate, length-replicate}
use Rattle.frame.specs.declared.refusal.Refusal.TheVariants.{OutOfBounds}
use Rattle.answer.specs.declared.Answer.{Answer}
use Rattle.receiver.specs.declared.Receiver.{Receiver}
use Rattle.receiver.specs.Bounds.{in_bounds, opened, opened_with}
use Rattle.receiver.specs.Calls.{Elapsed, Outcome, is_ready, frame_all, stays, reading_kept, reading_step}
use Rattle.record_bytes.specs.Kept.{Bytes}
use Rattle.record_bytes.specs.Layout.{is_record, record_at, record_bytes, stored_in}
use Rattle.record_bytes.specs.RoundTrip.{RecordFits}
use Rattle.record_bytes.proofs.RoundTrip.{is_record_lem, read_back}
use Rattle.lent_record.specs.Ready.{ready_in}
use Rattle.engine.specs.declared.reading.ReadingAnswer.{ReadingAnswer}
use Rattle.engine.specs.InBytes.{InBytes, frame_in}
use Rattle.engine.specs.Elapsing.{elapsed_in, reading_in}
use Rattle.std.specs.Prelude.{Option, Some, None, Result, Ok, Err, ⊤}
use Rattle.trace.specs.declared.Fault.{Fault}
use Rattle.trace.specs.declared.Fault.TheVariants.{Cut}
use Rattle.trace.specs.declared.record.Record.{Record}
use Rattle.trace.specs.declared.record.Record.TheVariants as trace
use Rattle.trace.specs.Records as records
use Rattle.trace.specs.Records.{says, said, reading}
use Rattle.trace.specs.NumberTrips as numbers
use Rattle.trace.specs.RecordTrips.{record_stands}
use Rattle.report.specs.Lines.{answer_lines, reading_lines}
use Rattle.answer.specs.Places.{place_of, place_bytes}
use Rattle.isolation.specs.World.{frame, clock, lent}
use Rattle.isolation.specs.Observe.{record_after, store_after}
use Rattle.isolation.proofs.Demand3.{opens_in_bounds}
use Rattle.carried.proofs.Step.{HasRecord, Frames, frame_step_lem, put_holds}
use Rattle.carried.proofs.Run.{Fine, fine_fits, fine_after}
use Rattle.run.specs.Lines.{Receives, the_receiver, Done, framed, elapsed, read_by, Turn, took, over, cut, bad, turn_by, turn_at, State, after, on_turn, lines_from, lines_in, start, lines_of, own, limits}
use Rattle.run.specs.Steps.{read_in_bytes, in_bytes}
use Rattle.run.specs.Goes.{turn_in, lying}
use Rattle.run.specs.Cuts.{joined, Fed, cuts_agree}
use Rattle.program.specs.Opening.{opened_bytes, opening}
use Rattle.program.proofs.Numbers.{bytes_take}
use Rattle.answer.specs.declared.Ending.{Ending}
use Rattle.frame.specs.declared.refusal.Refusal.{Refusal}

-- ---- the bytes b hold the record r, which is in bounds beside a whole store

pub record Same (b : List ℕ) (r : Receiver) (m : List ℕ) : Type 0 where
  pub holds : HasRecord b r
  pub fine : Fine r m

-- ---- a reading

pub record ReadsSame (x : ReadingAnswer × List ℕ) (e : Elapsed) : Type 0 where
  pub answer : (read_in_bytes x).0 ≡ (e.answer, e.ends)
  pub next : HasRecord x.1 e.next

module _ (b : List ℕ) (is : is_record b ≡ true) where
  reading_same : (t : ℕ) (m : List ℕ) → RecordFits (reading_step (record_at b) t m).next → ReadsSame (reading_in b t m) (reading_step (record_at b) t m)
  unfolding reading_in ready_in reading_step
  reading_same t m f =
      subst (λ (u : Bool). ReadsSame (cond (u && (eqb (length m) 32768 && in_bounds r)) (elapsed_in b (reading_step r t m)) (none, b)) (reading_step r t m)) (sym is)
      (go (is_ready r m) f)
    where
      r : Receiver
      r = record_at b

      none : ReadingAnswer
      none = record { answer = Err OutOfBounds; ends = replicate 8 stays }

      by : Bool → Elapsed
      by u = cond u (reading_kept r t) (record { next = r; answer = Err OutOfBounds; ends = replicate 8 stays })

      go : (u : Bool) → RecordFits (by u).next → ReadsSame (cond u (elapsed_in b (by u)) (none, b)) (by u)
      go true f = record { answer = refl; next = put_holds b is (reading_kept r t).next f }
      go false f = record { answer = refl; next = record { codes = is; reads = refl } }

-- ---- one record

-- the same lines, the same store, and bytes that hold the same record
pub data SameTurn : Turn (List ℕ) → Turn Receiver → Type 0 where
  both_took : (x : Done (List ℕ)) (y : Done Receiver) (n : ℕ) → x.lines ≡ y.lines → x.store ≡ y.store → Same x.receiver y.receiver y.store
      → SameTurn (took x n) (took y n)
  both_over : SameTurn over over
  both_cut : SameTurn cut cut
  both_bad : SameTurn bad bad

module _ (b : List ℕ) (r : Receiver) (m : List ℕ) (h : Same b r m) where
  frame_after : (id : ℕ) (d : List ℕ) → Bytes d → Fine (frame_all r id d m).0.next (frame_all r id d m).1
  unfolding record_after store_after
  frame_after id d q = fine_after r m h.fine (lent (frame id d), replicate 36 0) (length-replicate {A = ℕ} 36 0, q)

  reading_after : (t : ℕ) → t < 4294967296 → Fine (reading_step r t m).next m
  unfolding record_after store_after
  reading_after t q = fine_after r m h.fine (lent (clock t), replicate 288 0) (length-replicate {A = ℕ} 288 0, q)

  frame_turn : (id : ℕ) (d : List ℕ) (next : ℕ) → Bytes d
      → SameTurn (took (framed d (in_bytes.frame b id d m)) next) (took (framed d (the_receiver.frame r id d m)) next)
  frame_turn id d next q =
      let f : Fine (frame_all r id d m).0.next (frame_all r id d m).1 = frame_after id d q in
      let fits : RecordFits (frame_all (record_at b) id d m).0.next =
      subst (λ (x : Receiver). RecordFits (frame_all x id d m).0.next) (sym h.holds.reads) (fine_fits _ _ f) in
      let g : Frames (frame_in b id d m) (frame_all r id d m) =
      subst (λ (x : Receiver). Frames (frame_in b id d m) (frame_all x id d m)) h.holds.reads (frame_step_lem b h.holds.codes id d m fits) in
      both_took _ _ next
      (ap (λ (a : Answer). answer_lines d a (place_bytes (place_of a) d (frame_in b id d m).1.1)) g.answer
      ∙ ap (λ (s : List ℕ). answer_lines d (frame_all r id d m).0.answer (place_bytes (place_of (frame_all r id d m).0.answer) d s)) g.store)
      g.store
      (record { holds = g.next; fine = f })

  reading_turn : (t next : ℕ) → t < 4294967296
      → SameTurn (took (elapsed m (in_bytes.reading b t m)) next) (took (elapsed m (the_receiver.reading r t m)) next)
  reading_turn t next q =
      let f : Fine (reading_step r t m).next m = reading_after t q in
      let fits : RecordFits (reading_step (record_at b) t m).next =
      subst (λ (x : Receiver). RecordFits (reading_step x t m).next) (sym h.holds.reads) (fine_fits _ _ f) in
      let g : ReadsSame (reading_in b t m) (reading_step r t m) =
      subst (λ (x : Receiver). ReadsSame (reading_in b t m) (reading_step x t m)) h.holds.reads (reading_same b h.holds.codes t m fits) in
      both_took _ _ next (ap (λ (x : Result ⊤ Refusal × List (Option Ending)). reading_lines x.0 x.1) g.answer) refl (record { holds = g.next; fine = f })

  by_record : (d : List ℕ) (at : ℕ) → Bytes d → (q : Result (Option Record) Fault) → records.record_at d at ≡ q → SameTurn (turn_by in_bytes b m d q) (turn_by the_receiver r m d q)
  by_record d at w (Ok (Some (trace.Reading t next))) e =
      reading_turn t next (record_stands d at w {x = reading t} {next = next} (ap (said d) e)).good
  by_record d at w (Ok (Some (trace.Frame id begin n next))) e =
      frame_turn id (take n (drop begin d)) next (bytes_take n (drop begin d) (numbers.bytes_drop d begin w))
  by_record d at w (Ok None) e = both_over
  by_record d at w (Err Cut) e = both_cut
  by_record d at w (Err f) e = both_bad

  pub same_turn : (d : List ℕ) (at : ℕ) → Bytes d → SameTurn (turn_at in_bytes b m d at) (turn_at the_receiver r m d at)
  unfolding turn_at
  same_turn d at w = by_record d at w (records.record_at d at) refl

-- ---- the whole trace

abbrev standing : Receiver → List ℕ → ℕ → ℕ → State Receiver
standing r m k at = record { receiver = r; store = m; records = k; place = at }

by_turn_lem : (b : List ℕ) (r : Receiver) (m : List ℕ) (k at : ℕ) {t : Turn (List ℕ)} {u : Turn Receiver} (f : State (List ℕ) → List ℕ) (g : State Receiver → List ℕ)
    → SameTurn t u
    → ((c : List ℕ) (s : Receiver) (o : List ℕ) (n : ℕ) → Same c s o → f (lying c o (k + 1) n) ≡ g (standing s o (k + 1) n))
    → on_turn (lying b m k at) t f ≡ on_turn (standing r m k at) u g
by_turn_lem b r m k at f g (both_took x y n l s h) same =
    ap (λ (z : List ℕ). z ++ f (lying x.receiver x.store (k + 1) n)) l
    ∙ ap (λ (z : List ℕ). y.lines ++ f (lying x.receiver z (k + 1) n)) s
    ∙ ap (λ (z : List ℕ). y.lines ++ z) (same x.receiver y.receiver y.store n h)
by_turn_lem b r m k at f g both_over same = refl
by_turn_lem b r m k at f g both_cut same = refl
by_turn_lem b r m k at f g both_bad same = refl

same_lines : (d : List ℕ) → Bytes d → (n : ℕ) (b : List ℕ) (r : Receiver) (m : List ℕ) (k at : ℕ) → Same b r m
    → lines_from in_bytes n (lying b m k at) d ≡ lines_from the_receiver n (standing r m k at) d
unfolding lines_from
same_lines d w zero b r m k at h = refl
same_lines d w (suc n) b r m k at h =
    by_turn_lem b r m k at (λ (t : State (List ℕ)). lines_from in_bytes n t d) (λ (t : State Receiver). lines_from the_receiver n t d)
    (same_turn b r m h d at w) (λ c s o i g. same_lines d w n c s o (k + 1) i g)

-- ---- as the program opens it

abbrev pub first : Receiver
first = opened_with own limits 0

opening_fine : Fine first (replicate 32768 0)
unfolding opened
opening_fine =
    record {
      bounds = opens_in_bounds own limits 0 refl;
      eight = refl;
      narrow = record { last = omega arith; slots = (tt, (tt, (tt, (tt, (tt, (tt, (tt, (tt, tt)))))))) };
      whole = length-replicate {A = ℕ} 32768 0;
    }

pub opening_same : Same opened_bytes first (replicate 32768 0)
unfolding opened stored_in
opening_same =
    record {
      holds = record { codes = is_record_lem first (fine_fits first (replicate 32768 0) opening_fine); reads = read_back first (fine_fits first (replicate 32768 0) opening_fine) };
      fine = opening_fine;
    }

-- over the bytes of a trace the run in lent buffers has the lines of the definition
pub run_lines : (d : List ℕ) → Bytes d → lines_in in_bytes opening d ≡ lines_of d
unfolding lines_in lines_of opened
run_lines d w = same_lines d w (suc (length d)) opened_bytes first (replicate 32768 0) 0 0 opening_same

-- THE PROGRAM. However a trace is cut into pieces, what a run writes over them is what the receiver of 01 prints for the whole.
pub program_prints : (ps : List (List ℕ)) (l : List ℕ) → Bytes (joined ps) → Fed in_bytes opening [] ps l → l ≡ lines_of (joined ps)
program_prints ps l w f = sym (cuts_agree in_bytes refl f) ∙ run_lines (joined ps) w
