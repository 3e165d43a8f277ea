-- A record that is written is read back as it was.
use Rattle.std.specs.Prelude.{ℕ, ◌*◌, ◌≡◌, Bool, true, false, cond, List, [], ◌∷◌, map, eqb, None, Option, Some}
use native.Mathlib.Omega.{arith}
use Rattle.std.proofs.Math.Path.{refl, sym, ap}
use Rattle.std.proofs.Common.{◌∙◌, eq-eqb}
use Rattle.std.proofs.Math.Bool.{not}
use Rattle.std.proofs.Math.ListN.{length, length-append}
use Rattle.laws.specs.Choice.{else}
use Rattle.transport.specs.declared.Kind.{Kind}
use Rattle.transport.specs.declared.Kind.TheVariants.{Rts, Bam}
use Rattle.progress.specs.declared.Announced.{Announced}
use Rattle.progress.specs.declared.Progress.{Progress}
use Rattle.progress.specs.declared.wait.Wait.{Wait}
use Rattle.progress.specs.declared.wait.Wait.TheVariants.{First, Second}
use Rattle.session.specs.declared.Session.{Session}
use Rattle.session.specs.Fits.{ProgressSmall, SessionSmall, StateSmall}
use Rattle.receiver.specs.declared.Receiver.{Receiver}
use Rattle.words.specs.Laws.{four_bytes, low32_read_back}
use Rattle.record_bytes.specs.Longs.{eight_bytes}
use Rattle.record_bytes.proofs.Longs.{low64_read_back}
use Rattle.record_bytes.specs.Places.{record_length, head_length, slot_length}
use Rattle.record_bytes.specs.Layout.{kind_byte, kind_at, wait_byte, wait_at, announced_at, progress_at, session_bytes, session_at, state_bytes, slot_bytes, slot_at, head_bytes, slots_bytes, record_bytes, pieces, pieces_of, codes_all, is_record, record_at}
use Rattle.record_bytes.specs.Pieces.{length_slots, pieces_slots}
use Rattle.record_bytes.specs.RoundTrip.{SlotsFit, RecordFits, codes_state}

kind_back : (k : Kind) → kind_at (kind_byte k) ≡ k
kind_back Rts = refl
kind_back Bam = refl

wait_back : (w : Wait) → wait_at (wait_byte w) ≡ w
wait_back First = refl
wait_back Second = refl

announced_back : (s : Session) → SessionSmall s → announced_at (session_bytes s) ≡ s.announced
unfolding session_bytes
announced_back s f =
    let a : Announced = s.announced in
    let made : Kind → ℕ → ℕ → ℕ → Announced =
    λ (k : Kind) (t g p : ℕ). record { key = a.key; kind = k; total = record { 0 = t }; segments = record { 0 = g }; max = a.max; pgn = p } in
    let W : ℕ → ℕ = four_bytes in
    ap (λ (k : Kind). made k (W a.total.0) (W a.segments.0) (W a.pgn)) (kind_back a.kind)
    ∙ ap (λ (x : ℕ). made a.kind x (W a.segments.0) (W a.pgn)) (low32_read_back a.total.0 f.total)
    ∙ ap (λ (x : ℕ). made a.kind a.total.0 x (W a.pgn)) (low32_read_back a.segments.0 f.segments)
    ∙ ap (λ (x : ℕ). made a.kind a.total.0 a.segments.0 x) (low32_read_back a.pgn f.pgn)

progress_back : (s : Session) → ProgressSmall s.progress → progress_at (session_bytes s) ≡ s.progress
unfolding session_bytes
progress_back s f =
    let p : Progress = s.progress in
    let made : Wait → ℕ → ℕ → ℕ → ℕ → ℕ → Progress =
    λ (w : Wait) (n l c g m : ℕ).
    record {
      next = record { 0 = n };
      taken = record { low = l; high = p.taken.high };
      missing = c;
      requests = p.requests;
      granted = record { 0 = g };
      mark = m;
      wait = w;
    } in
    let W : ℕ → ℕ = four_bytes in
    let n : ℕ = p.next.0 in
    let l : ℕ = p.taken.low in
    let c : ℕ = p.missing in
    let g : ℕ = p.granted.0 in
    ap (λ (w : Wait). made w (W n) (eight_bytes l) (W c) (W g) (W p.mark)) (wait_back p.wait)
    ∙ ap (λ (x : ℕ). made p.wait x (eight_bytes l) (W c) (W g) (W p.mark)) (low32_read_back n f.next)
    ∙ ap (λ (x : ℕ). made p.wait n x (W c) (W g) (W p.mark)) (low64_read_back l f.low)
    ∙ ap (λ (x : ℕ). made p.wait n l x (W g) (W p.mark)) (low32_read_back c f.missing)
    ∙ ap (λ (x : ℕ). made p.wait n l c x (W p.mark)) (low32_read_back g f.granted)
    ∙ ap (λ (x : ℕ). made p.wait n l c g x) (low32_read_back p.mark f.mark)

session_back : (s : Session) → SessionSmall s → session_at (session_bytes s) ≡ s
session_back s f =
    ap (λ (a : Announced). record { announced = a; progress = progress_at (session_bytes s) }) (announced_back s f)
    ∙ ap (λ (p : Progress). record { announced = s.announced; progress = p }) (progress_back s f.progress)

pub state_back : (st : Option Session) → StateSmall st → slot_at (state_bytes st) ≡ st
unfolding session_bytes
state_back None f = refl
state_back (Some s) f = ap (λ (x : Session). Some x) (session_back s f)

slots_back : (ss : List (Option Session)) → SlotsFit ss → map slot_at (map slot_bytes ss) ≡ ss
slots_back [] f = refl
slots_back (s ∷ ss) (p, q) =
    ap (λ (x : Option Session). x ∷ map slot_at (map slot_bytes ss)) (state_back s p)
    ∙ ap (λ (l : List (Option Session)). s ∷ l) (slots_back ss q)

codes_slots : (ss : List (Option Session)) → codes_all (map slot_bytes ss) ≡ true
unfolding codes_all
codes_slots [] = refl
codes_slots (s ∷ ss) =
    ap (λ (t : Bool). cond (not t) false (codes_all (map slot_bytes ss))) (codes_state s) ∙ codes_slots ss

module _ (r : Receiver) (f : RecordFits r) where
  -- a record of the same own address, with other numbers in its head
  abbrev pub headed : ℕ → ℕ → ℕ → List (Option Session) → Receiver
  headed first second last ss =
      record { own = r.own; limits = record { first = first; second = second }; last = last; slots = ss }

  pub head_back : headed (four_bytes r.limits.first) (four_bytes r.limits.second) (four_bytes r.last) r.slots ≡ r
  head_back =
      ap (λ (n : ℕ). headed n (four_bytes r.limits.second) (four_bytes r.last) r.slots) (low32_read_back r.limits.first f.first)
      ∙ ap (λ (n : ℕ). headed r.limits.first n (four_bytes r.last) r.slots) (low32_read_back r.limits.second f.second)
      ∙ ap (λ (n : ℕ). headed r.limits.first r.limits.second n r.slots) (low32_read_back r.last f.last)

  pub length_record : length (record_bytes r) ≡ record_length
  unfolding head_bytes
  length_record =
      let a : length (slots_bytes r.slots) ≡ slot_length * length r.slots = length_slots r.slots in
      let e : length r.slots ≡ 8 = f.eight in
      let h : length (head_bytes r) ≡ head_length = refl in
      length-append (head_bytes r) (slots_bytes r.slots) ∙ omega arith

  pieces_record : pieces_of (record_bytes r) ≡ map slot_bytes r.slots
  unfolding head_bytes
  pieces_record =
      ap (λ (n : ℕ). pieces n (slots_bytes r.slots)) (sym f.eight) ∙ pieces_slots r.slots

  -- what is written for a record is a record
  pub is_record_lem : is_record (record_bytes r) ≡ true
  unfolding is_record
  is_record_lem =
      sym (else (not (eqb (length (record_bytes r)) record_length)) _ _ _ (ap not (eq-eqb _ _ length_record)) refl)
      ∙ ap codes_all pieces_record
      ∙ codes_slots r.slots

  -- and is read as it was
  pub read_back : record_at (record_bytes r) ≡ r
  unfolding head_bytes
  read_back =
      ap (headed (four_bytes r.limits.first) (four_bytes r.limits.second) (four_bytes r.last)) (ap (map slot_at) pieces_record ∙ slots_back r.slots f.slots)
      ∙ head_back
