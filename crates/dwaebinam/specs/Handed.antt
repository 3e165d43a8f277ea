-- What a frame hands over is what is copied out of the store after it: 01, the last paragraph of "Life of a session".
use Prim.Native.Nat.{ℕ, ◌+◌, ◌≤◌, ◌<◌}
use Rattle.std.proofs.Common.{arith, sym, subst, ◌∙◌, eqb-true, eq-eqb, is_some}
use Rattle.std.specs.Prelude.{◌≡◌, Bool, eqb, drop, Err, None, Ok, Option, Result, Some, ℕ}
use Rattle.std.proofs.Math.Path.{refl, ap}
use Rattle.std.proofs.Math.Bool.{true, false, cond, not}
use mathlib.Core.List.{List, [], ◌∷◌, ◌++◌}
use Rattle.std.proofs.Math.ListN.{length, length-map}
use Rattle.laws.specs.Choice.{else, each_of}
use Rattle.frame.specs.Judge.{judged}
use Rattle.frame.specs.declared.judge.Route.{Route}
use Rattle.frame.specs.declared.judge.Content.TheVariants as verdict
use Rattle.frame.specs.declared.refusal.Refusal.TheVariants.{FormatIndicator, OutOfBounds}
use Rattle.multi_pg.specs.Groups.{GroupsRead, good, bad, groups_read}
use Rattle.transport.specs.declared.Key.{Key}
use Rattle.transport.specs.declared.control.Control.TheVariants as control
use Rattle.transport.specs.declared.segment.Segment.{Segment}
use Rattle.transport.specs.Control.{control_of}
use Rattle.transport.specs.Heads.{key_of}
use Rattle.transport.specs.Segments.{data_frame_of}
use Rattle.answer.specs.declared.Message.{Message}
use Rattle.answer.specs.declared.Answer.{Answer}
use Rattle.answer.specs.declared.Answer.TheVariants as answer
use Rattle.answer.specs.Answers.{message_bytes}
use Rattle.progress.specs.Forward.{cts_due}
use Rattle.session.specs.declared.Session.{Session}
use Rattle.session.specs.declared.segment.Judged.{Judged}
use Rattle.session.specs.declared.segment.Judged.TheVariants as judged-segment
use Rattle.session.specs.Segments.{judged_of}
use Rattle.session.specs.Decisions.{refused as refuses, if_open, on_judged, segment_open, segment_to}
use Rattle.session.specs.InBounds.{sound_of}
use Rattle.session.specs.Effects.{Hands, announce_hands, status_hands, abort_hands}
use Rattle.slots.specs.Slots.{Within, first_at, key_place, holds_key, first_free, is_free, slot_for, state_in, or_else}
use Rattle.slots.specs.Bounds.{values_ok, slots_ok}
use Rattle.slots.specs.Facts.{session_of_lem}
use Rattle.receiver.specs.declared.Receiver.{Receiver}
use Rattle.receiver.specs.Bounds.{in_bounds}
use Rattle.receiver.specs.Calls.{Outcome, is_ready, slot_of, announce_step, status_step, abort_step, on_control, control_step, segment_step, on_data, groups_step, on_verdict, refused, frame_all, frame_step, frame_store}
use Rattle.record_bytes.specs.Places.{head_length}
use Rattle.record_bytes.specs.Layout.{pieces_of, slot_at, record_at}
use Rattle.record_bytes.specs.Pieces.{length_pieces}
use Rattle.answer_bytes.specs.Places.{answer_length}
use Rattle.answer_bytes.specs.Answers.{answer_bytes}
use Rattle.lent_record.specs.Ready.{ready_in}
use Rattle.engine.specs.InBytes.{InBytes, outcome_in, frame_in}
use Rattle.dwaebinam.specs.Calls.{told, framed_in}
use Rattle.dwaebinam.specs.Message.{copied_in, message_copied}
use Rattle.frame.specs.declared.judge.Content.{Content}
use Rattle.frame.specs.declared.refusal.Refusal.{Refusal}
use Rattle.transport.specs.declared.control.Control.{Control}

-- a message of at most 4,096 bytes, in one of the eight slots of the store as it was
pub record Lies (m after : List ℕ) (x : Message) : Type 0 where
  pub slot : x.slot < 8
  pub total : x.total.0 ≤ 4096
  pub whole : length m ≡ 32768
  pub store : after ≡ m

abbrev LiesIn : List ℕ → List ℕ → Answer → Type 0
LiesIn m after (answer.Groups route) = Unit {0}
LiesIn m after (answer.Opened k) = Unit {0}
LiesIn m after (answer.Taken t) = Unit {0}
LiesIn m after (answer.Grant c) = Unit {0}
LiesIn m after (answer.HandedOver x) = Lies m after x
LiesIn m after (answer.Aborted k) = Unit {0}
LiesIn m after (answer.Ended e) = Unit {0}
LiesIn m after (answer.RefusedRts j) = Unit {0}
LiesIn m after (answer.Refused n) = Unit {0}

first_within : (test : Option Session → Bool) (i : ℕ) (ss : List (Option Session)) (n : ℕ) → i + length ss ≡ n → Within (first_at test i ss) n
first_within test i [] n e = tt
first_within test i (s ∷ ss) n e = by (test s) (first_within test (i + 1) ss n (omega arith))
  where
    by : (t : Bool) → Within (first_at test (i + 1) ss) n → Within (cond t (Some i) (first_at test (i + 1) ss)) n
    by true w = omega arith
    by false w = w

-- the slot for a key is one of eight
pub for_within : (k : Key) (ss : List (Option Session)) (n : ℕ) → length ss ≡ n → Within (slot_for k ss) n
for_within k ss n e = go (key_place k ss) (first_within (holds_key k) 0 ss n (omega arith))
  where
    go : (f : Option ℕ) → Within f n → Within (or_else f (first_free ss)) n
    go (Some i) w = w
    go None w = first_within is_free 0 ss n (omega arith)

-- ---- a frame: by the decision of the session in the slot for its key

module _ (m : List ℕ) (whole : length m ≡ 32768) (r : Receiver) (eight : length r.slots ≡ 8) (ok : slots_ok r.own r.slots ≡ true) where
  lies : (f : Option ℕ) → Within f 8 → (x : Option Session) → state_in f r.slots ≡ x → (a : Answer) → Hands x (slot_of f) a → LiesIn m m a
  lies f w x e (answer.Groups route) h = tt
  lies f w x e (answer.Opened k) h = tt
  lies f w x e (answer.Taken t) h = tt
  lies f w x e (answer.Grant c) h = tt
  lies f w x e (answer.Aborted k) h = tt
  lies f w x e (answer.Ended n) h = tt
  lies f w x e (answer.RefusedRts j) h = tt
  lies f w x e (answer.Refused n) h = tt
  lies f w None e (answer.HandedOver y) h = absurd h
  lies None w (Some s) e (answer.HandedOver y) h = absurd (let z : ◌≡◌ {A = ℕ} 0 1 = cc in omega arith)
  lies (Some i) w (Some s) e (answer.HandedOver y) h =
      let t : s.announced.total.0 ≤ 4096 = (sound_of r.own s (session_of_lem r.own r.slots i s ok e)).agreed.fits in
      let p : y.slot ≡ i = ap (λ (z : Message). z.slot) h in
      let q : y.total.0 ≡ s.announced.total.0 = ap (λ (z : Message). z.total.0) h in
      record { slot = omega arith; total = omega arith; whole = whole; store = refl }

  control_fine : (c : Result Control Refusal) (k : Key) → LiesIn m m (on_control c r k).answer
  unfolding announce_step status_step abort_step
  control_fine (Ok (control.Announce a)) k =
      let f : Option ℕ = slot_for k r.slots in
      lies f (for_within k r.slots 8 eight) (state_in f r.slots) refl (announce_step r k a).answer (announce_hands (state_in f r.slots) (is_some f) (slot_of f) k a r.last)
  control_fine (Ok (control.EndOfMessage st)) k =
      let f : Option ℕ = slot_for k r.slots in
      lies f (for_within k r.slots 8 eight) (state_in f r.slots) refl (status_step r k st).answer (status_hands (state_in f r.slots) (slot_of f) st r.last)
  control_fine (Ok (control.Abort pgn)) k =
      let f : Option ℕ = slot_for k r.slots in
      lies f (for_within k r.slots 8 eight) (state_in f r.slots) refl (abort_step r k pgn).answer (abort_hands (state_in f r.slots) (slot_of f) pgn)
  control_fine (Err n) k = tt

  -- a segment hands nothing over
  segment_fine : (after : List ℕ) (x : Option Session) (sg : Segment) → LiesIn m after (segment_to x sg r.last).answer
  unfolding segment_to
  segment_fine after x sg = go x (not (eqb sg.format 0))
    where
      either : (t : Bool) (a b : Answer) → LiesIn m after a → LiesIn m after b → LiesIn m after (cond t a b)
      either true a b p q = p
      either false a b p q = q

      judges : (s : Session) (j : Judged) → LiesIn m after (on_judged j s sg.number.0 r.last).answer
      judges s (judged-segment.Refused n) = tt
      judges s (judged-segment.Ends n) = tt
      judges s judged-segment.Takes = either (cts_due s.progress s.announced sg.number.0) _ _ tt tt

      go : (x : Option Session) (t : Bool) → LiesIn m after (cond t (refuses FormatIndicator) (if_open x (λ s. segment_open s sg.number.0 sg.room r.last))).answer
      go x true = tt
      go None false = tt
      go (Some s) false = judges s (judged_of s sg.number.0 sg.room)

  data_fine : (f : Result Segment Refusal) (k : Key) (d : List ℕ) → LiesIn m (on_data f r k d m).1 (on_data f r k d m).0.answer
  unfolding segment_step
  data_fine (Ok sg) k d = segment_fine _ (state_in (slot_for k r.slots) r.slots) sg
  data_fine (Err n) k d = tt

  groups_fine : (g : GroupsRead) (route : Route) → LiesIn m m (groups_step g route r).answer
  groups_fine (good gs) route = tt
  groups_fine (bad n) route = tt

  verdict_fine : (v : Result Content Refusal) (d : List ℕ) → LiesIn m (on_verdict v r d m).1 (on_verdict v r d m).0.answer
  unfolding control_step
  verdict_fine (Ok (verdict.MultiPg route)) d = groups_fine (groups_read d) route
  verdict_fine (Ok (verdict.Control route)) d = control_fine (control_of d) (key_of route d)
  verdict_fine (Ok (verdict.Data route)) d = data_fine (data_frame_of d) (key_of route d) d
  verdict_fine (Err n) d = tt

module _ (r : Receiver) (id : ℕ) (d m : List ℕ) (eight : length r.slots ≡ 8) where
  frame_fine : LiesIn m (frame_store r id d m) (frame_step r id d m).answer
  unfolding frame_all in_bounds
  frame_fine = by (is_ready r m) refl
    where
      by : (t : Bool) → is_ready r m ≡ t → let o : Outcome = cond t (on_verdict (judged r.own id (length d)) r d m) (refused r OutOfBounds, m) in LiesIn m o.1 o.0.answer
      by true h =
          let ready = each_of (eqb (length m) 32768 ∷ in_bounds r ∷ []) h in
          verdict_fine m (eqb-true _ _ ready.0) r eight (each_of (values_ok r.own r.limits ∷ slots_ok r.own r.slots ∷ []) ready.1.0).1.0 (judged r.own id (length d)) d
      by false h = tt

module _ (b : List ℕ) (id : ℕ) (d m : List ℕ) where
  seen_fine : LiesIn m (frame_in b id d m).1.1 (frame_in b id d m).0
  unfolding frame_in
  seen_fine = by (ready_in b (length m))
    where
      eight : length (record_at b).slots ≡ 8
      eight = length-map (pieces_of b) slot_at ∙ length_pieces 8 (drop head_length b)

      made : Bool → InBytes
      made t = cond t (outcome_in b (frame_all (record_at b) id d m)) (answer.Refused OutOfBounds, (b, m))

      by : (t : Bool) → LiesIn m (made t).1.1 (made t).0
      by true = frame_fine (record_at b) id d m eight
      by false = tt

  -- a message that a frame hands over lies in the store, which the frame left as it was
  pub frame_lies : (x : Message) → (frame_in b id d m).0 ≡ answer.HandedOver x → Lies m (frame_in b id d m).1.1 x
  frame_lies x e = subst (LiesIn m (frame_in b id d m).1.1) e seen_fine

  -- what is copied with the answer and the store that a frame left is the message that it handed over
  pub handed_copied : (a out : List ℕ) (x : Message) → length a ≡ answer_length → (frame_in b id d m).0 ≡ answer.HandedOver x → x.total.0 ≤ length out
      → copied_in (framed_in b id d m a).1.1.1 (framed_in b id d m a).1.1.0 out ≡ (x.total.0, message_bytes x m ++ drop x.total.0 out)
  unfolding framed_in
  handed_copied a out x long e room =
      let l : Lies m (frame_in b id d m).1.1 x = frame_lies x e in
      let w : told (frame_in b id d m) ≡ framed_in b id d m a = else (not (eqb (length a) answer_length)) _ _ _ (ap not (eq-eqb _ _ long)) refl in
      ap (λ (f : ℕ × (List ℕ × (List ℕ × List ℕ))). copied_in f.1.1.1 f.1.1.0 out) (sym w)
      ∙ ap (λ (y : Answer). copied_in (answer_bytes y) (frame_in b id d m).1.1 out) e
      ∙ ap (λ (s : List ℕ). copied_in (answer_bytes (answer.HandedOver x)) s out) l.store
      ∙ message_copied x m l.slot l.total l.whole out room
