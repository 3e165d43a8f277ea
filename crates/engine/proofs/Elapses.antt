-- What a reading wrote into the buffer, slot by slot, beside what the receiver's reading says.
use Rattle.std.specs.Prelude.{Err, None, Ok, Option, Some}
use Prim.Native.Nat.{ℕ, ◌+◌, ◌<◌}
use native.Mathlib.Omega.{arith}
use mathlib.Core.Path.{◌≡◌, refl, sym, ap, subst, ◌∙◌}
use mathlib.Core.Bool.{Bool, true, false, cond, not}
use mathlib.Core.List.{List, [], ◌++◌, map}
use lib.Dec.{eqb}
use lib.ListN.{length, get_or, set, take, drop, replicate, length-map, get_or-map}
use lib.Seq.{paste}
use borrow.Author.Tests.{eqb-true, ne_eqb, not-true, not-false}
use Rattle.laws.specs.Choice.{then, else}
use Rattle.laws.specs.Maps.{filled, filled_turn, filled_all}
use Rattle.frame.specs.declared.refusal.Refusal.TheVariants.{OutOfBounds}
use Rattle.session.specs.declared.Session.{Session}
use Rattle.session.specs.Decisions.{end_at}
use Rattle.progress.specs.declared.wait.IdleLimits.{IdleLimits}
use Rattle.slots.specs.Slots.{free_slot}
use Rattle.answer.specs.declared.Ending.{Ending}
use Rattle.receiver.specs.Calls.{is_ready, after_end, expired, end_of, stays, reading_kept, reading_step}
use Rattle.record_bytes.specs.Places.{record_length, head_length, slot_length, last_place, state_place, slot_place}
use Rattle.record_bytes.specs.Layout.{slot_at, pieces_of, slots_at, record_at}
use Rattle.words.specs.Words.{low4}
use Rattle.record_bytes.specs.Keeping.{kept, merged}
use Rattle.record_bytes.specs.Kept.{Bytes, Good}
use Rattle.record_bytes.proofs.Kept.{kept_same, good_piece, put_elapsed}
use Rattle.record_bytes.specs.Pieces.{piece_of}
use Rattle.laws.specs.Pastes.{paste_own}
use Rattle.record_bytes.proofs.Keeps.{keeps_long, keeps_same, keeps_turn, keeps_all}
use Rattle.lent_record.specs.Ready.{ready_in, Ready, ready_of}
use Rattle.lent_record.specs.Held.{slot_of_lem, length_slots}
use Rattle.engine.specs.InBytes.{Holds}
use Rattle.engine.proofs.Writes.{open_code}
use Rattle.engine.specs.declared.reading.ReadingAnswer.{ReadingAnswer}
use Rattle.engine.proofs.Frames.{ready_step}
use Rattle.engine.specs.Elapsing.{slot_elapsed, slots_elapsed, elapsed_in, reading_in}

-- ---- one slot, by its state

module _ (b : List ℕ) (i : ℕ) (limits : IdleLimits) (t : ℕ) (low : i < 8) (long : length b ≡ record_length) (g : Good (get_or (pieces_of b) i [])) where
  abbrev at : ℕ
  at = slot_place i

  abbrev piece : List ℕ
  piece = get_or (pieces_of b) i []

  abbrev state : Option Session
  state = (get_or (slots_at b) i free_slot)

  abbrev by : Option Session → Option Ending × List ℕ
  by st = ((end_of limits t st), paste b at (kept piece (expired limits t st)) slot_length)

  -- the slot as it was read
  same : (st : Option Session) → state ≡ st → paste b at (kept piece st) slot_length ≡ b
  same st e =
      ap (λ (x : Option Session). paste b at (kept piece x) slot_length) (sym e ∙ (slot_of_lem b i))
      ∙ ap (λ (l : List ℕ). paste b at l slot_length) (kept_same piece g ∙ piece_of b i low)
      ∙ paste_own b at slot_length (omega arith)

  pub free_stays : state ≡ None → ◌≡◌ {A = (Option Ending) × List ℕ} (stays, b) (slot_elapsed b i limits t)
  free_stays e = ap (λ (l : List ℕ). (stays, l)) (sym (same None e)) ∙ ap by (sym e)

  module _ (s : Session) (e : state ≡ Some s) (z : Option Ending) (ez : z ≡ end_at limits t s) where
    abbrev open_by : Option Ending → Option Ending × List ℕ
    open_by u = (u, paste b at (kept piece (after_end u (Some s))) slot_length)

    pub open_stays : z ≡ None → ◌≡◌ {A = (Option Ending) × List ℕ} (stays, b) (slot_elapsed b i limits t)
    open_stays h =
        ap (λ (l : List ℕ). (stays, l)) (sym (same (Some s) e))
        ∙ ap open_by (sym h ∙ ez)
        ∙ ap by (sym e)

    pub open_ends : (d : Ending) → z ≡ Some d → (o : List ℕ) → o ≡ paste b at (replicate slot_length 0) slot_length
        → ◌≡◌ {A = (Option Ending) × List ℕ} ((Some d), o) (slot_elapsed b i limits t)
    open_ends d h o p =
        let one : get_or piece state_place 0 ≡ 1 = eqb-true _ _ (open_code piece s (eqb (get_or piece state_place 0) 1) refl (sym (slot_of_lem b i) ∙ e)) in
        let w : Option Ending = Some d in
        ap (λ (l : List ℕ). (w, l)) (p ∙ ap (λ (u : Bool). paste b at (cond u piece (replicate slot_length 0)) slot_length) (sym (ne_eqb (get_or piece state_place 0) 0 (λ q. omega arith))))
        ∙ ap open_by (sym h ∙ ez)
        ∙ ap by (sym e)

-- ---- a turn over the slots: b₀ is the buffer as it was, b as it is

module _ (b₀ : List ℕ) (limits : IdleLimits) (t : ℕ) where
  abbrev pub slots_after : List (Option Session)
  slots_after = map (expired limits t) (slots_at b₀)

  after_eight : length slots_after ≡ 8
  after_eight = length-map (slots_at b₀) (expired limits t) ∙ length_slots b₀

  module _ (b : List ℕ) (i : ℕ) (long : length b ≡ record_length) (low : i < 8) (same : drop (slot_place i) b ≡ drop (slot_place i) b₀) where
    one_piece : get_or (pieces_of b) i [] ≡ get_or (pieces_of b₀) i []
    one_piece = piece_of b i low ∙ ap (take slot_length) same ∙ sym (piece_of b₀ i low)

    pub turn_good : Holds b₀ → Good (get_or (pieces_of b) i [])
    turn_good h = subst Good (sym one_piece) (good_piece b₀ h.bytes h.codes i low)

    one_slot : get_or (slots_at b) i free_slot ≡ get_or (slots_at b₀) i free_slot
    one_slot = slot_of_lem b i ∙ ap slot_at one_piece ∙ sym (slot_of_lem b₀ i)

    module _ (x : Option Ending) (o : List ℕ) (e : ◌≡◌ {A = (Option Ending) × List ℕ} (x, o) (slot_elapsed b i limits t)) where
      put_slot_after : o ≡ paste b (slot_place i) (kept (get_or (pieces_of b) i []) (get_or slots_after i free_slot)) slot_length
      put_slot_after =
          ap (λ (y : Option Ending × List ℕ). y.1) e
          ∙ ap (λ (s : Option Session). paste b (slot_place i) (kept (get_or (pieces_of b) i []) s) slot_length) (ap (expired limits t) one_slot ∙ sym (get_or-map (expired limits t) (slots_at b₀) i free_slot))

      pub turn_end : (ends ends₀ : List (Option Ending)) → length ends₀ ≡ 8 → ends ≡ filled (end_of limits t) (slots_at b₀) ends₀ i → set ends i x ≡ filled (end_of limits t) (slots_at b₀) ends₀ (i + 1)
      turn_end ends ends₀ eight q =
          let f : Option Session → Option Ending = end_of limits t in
          ap (λ (l : List (Option Ending)). set l i x) q
          ∙ ap (λ (y : Option Ending). set (filled f (slots_at b₀) ends₀ i) i y) (ap (λ (y : Option Ending × List ℕ). y.0) e ∙ ap f one_slot)
          ∙ filled_turn f (slots_at b₀) ends₀ i free_slot stays (omega (arith, length_slots b₀)) (omega arith)

      pub turn_long : length o ≡ record_length
      turn_long = keeps_long slots_after b₀ b o i free_slot after_eight long low put_slot_after

      pub turn_bytes : take (slot_place i) b ++ merged (drop i (pieces_of b₀)) (drop i slots_after) ≡ take head_length b₀ ++ merged (pieces_of b₀) slots_after
          → take (slot_place (i + 1)) o ++ merged (drop (i + 1) (pieces_of b₀)) (drop (i + 1) slots_after) ≡ take head_length b₀ ++ merged (pieces_of b₀) slots_after
      turn_bytes inv = keeps_turn slots_after b₀ b o i free_slot after_eight long low put_slot_after same inv

      pub turn_same : drop (slot_place (i + 1)) o ≡ drop (slot_place (i + 1)) b₀
      turn_same = keeps_same slots_after b₀ b o i free_slot after_eight long low put_slot_after same

  -- after the last slot
  pub turns_done : (b : List ℕ) (i : ℕ) (ends : List (Option Ending)) → length b ≡ record_length → i ≡ 8 → ends ≡ filled (end_of limits t) (slots_at b₀) (replicate 8 stays) i
      → take (slot_place i) b ++ merged (drop i (pieces_of b₀)) (drop i slots_after) ≡ take head_length b₀ ++ merged (pieces_of b₀) slots_after
      → ◌≡◌ {A = List (Option Ending) × List ℕ} (ends, b) (slots_elapsed b₀ limits t)
  turns_done b i ends long e q inv =
      let f : Option Session → Option Ending = end_of limits t in
      let o : List (Option Ending) = replicate 8 stays in
      ap (λ (l : List (Option Ending)). (l, b)) (q ∙ ap (filled f (slots_at b₀) o) e ∙ filled_all f (slots_at b₀) o 8 (length_slots b₀) refl)
      ∙ ap (λ (l : List ℕ). (map f (slots_at b₀), l)) (keeps_all slots_after b b₀ _ i after_eight long e inv)

-- ---- the whole reading: w is the code's test for 23

module _ (b : List ℕ) (t : ℕ) (m : List ℕ) (w : Bool) (ew : w ≡ ready_in b (length m)) where
  pub reading_refused : not w ≡ true → ◌≡◌ {A = ReadingAnswer × List ℕ} (record { answer = Err OutOfBounds; ends = replicate 8 stays }, b) (reading_in b t m)
  unfolding reading_in
  reading_refused h = else (ready_in b (length m)) _ _ _ (sym ew ∙ not-true _ h) refl

  module _ (h : not w ≡ false) where
    pub reading_ready : Ready b (length m)
    reading_ready = ready_of b (length m) (sym ew ∙ not-false _ h)

    pub reading_holds : Bytes b → Holds b
    reading_holds y = record { codes = reading_ready.codes; bytes = y }

    kept_in_lem : elapsed_in b (reading_kept (record_at b) t) ≡ reading_in b t m
    unfolding reading_in reading_step
    kept_in_lem =
        then (ready_in b (length m)) _ _ _ (sym ew ∙ not-false _ h)
        (ap (elapsed_in b) (then (is_ready (record_at b) m) _ _ _ (ready_step b m (sym ew ∙ not-false _ h)) refl))

    pub reading_kept_lem : Bytes b → (limits : IdleLimits) (x : List (Option Ending)) (o₁ o₂ : List ℕ) → limits ≡ (record_at b).limits
        → ◌≡◌ {A = List (Option Ending) × List ℕ} (x, o₁) (slots_elapsed b limits t) → o₂ ≡ paste o₁ last_place (low4 t []) 4
        → ◌≡◌ {A = ReadingAnswer × List ℕ} (record { answer = (Ok tt); ends = x }, o₂) (reading_in b t m)
    reading_kept_lem y limits x o₁ o₂ el e e₂ =
        let f : List (Option Ending) × List ℕ → ReadingAnswer × List ℕ =
        λ (z : List (Option Ending) × List ℕ). (record { answer = (Ok tt); ends = z.0 }, paste z.1 last_place (low4 t []) 4) in
        let a : ReadingAnswer = record { answer = (Ok tt); ends = map (end_of (record_at b).limits t) (slots_at b) } in
        ap (λ (l : List ℕ). (record { answer = (Ok tt); ends = x }, l)) e₂
        ∙ ap f (e ∙ ap (λ (n : IdleLimits). slots_elapsed b n t) el)
        ∙ ap (λ (l : List ℕ). (a, l)) (put_elapsed b y reading_ready.codes t (map (expired (record_at b).limits t) (slots_at b)))
        ∙ kept_in_lem
