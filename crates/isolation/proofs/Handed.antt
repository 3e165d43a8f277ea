-- The part of the store or of the frame that is handed over: 01, the last paragraph of "Life of a session".
use Rattle.std.specs.Prelude.{None, Option, Some, ℕ, is_some}
use Prim.Native.Nat.{ℕ, zero, suc, ◌*◌, ◌≤◌, ◌<◌}
use mathlib.Core.Path.{◌≡◌, refl, sym, ap, ◌∙◌, subst}
use mathlib.Core.Bool.{Bool, true, false, cond, not}
use mathlib.Core.List.{List}
use native.Mathlib.Omega.{arith}
use lib.Dec.{eqb}
use lib.ListN.{length, get_or, take, drop, length-drop}
use lib.Seq.{length-take-le}
use borrow.Author.Tests.{eqb-true}
use Rattle.frame.specs.Judge.{judged as judged-frame}
use Rattle.frame.specs.declared.refusal.Refusal.TheVariants.{FormatIndicator, OutOfBounds}
use Rattle.multi_pg.specs.declared.Group.{Group}
use Rattle.multi_pg.specs.Groups.{trailer_start, end_of, good, groups_read, content_of}
use Rattle.multi_pg.specs.Places.{here_end}
use Rattle.multi_pg.specs.Reader as chain
use Rattle.multi_pg.specs.Reader.{Chain, good_chain}
use Rattle.transport.specs.declared.Key.{Key}
use Rattle.transport.specs.declared.segment.Segment.{Segment}
use Rattle.answer.specs.declared.Answer.{Answer}
use Rattle.answer.specs.declared.Answer.TheVariants as answer
use Rattle.answer.specs.declared.Message.{Message}
use Rattle.answer.specs.declared.place.Place.TheVariants as place
use Rattle.answer.specs.Places.{place_of, place_bytes}
use Rattle.answer.specs.Lies.{message_lies, data_lies, trailer_lies}
use Rattle.progress.specs.Forward.{cts_due}
use Rattle.session.specs.declared.Session.{Session}
use Rattle.session.specs.declared.segment.Judged.{Judged}
use Rattle.session.specs.declared.segment.Judged.TheVariants as judged
use Rattle.session.specs.Segments.{judged_of, next_cts}
use Rattle.session.specs.Decisions.{refused as refuse, if_open, on_judged, segment_open, segment_to, message_of}
use Rattle.session.specs.Effects.{Hands, announce_hands, segment_hands, status_hands, abort_hands}
use Rattle.session.specs.InBounds.{Sound}
use Rattle.slots.specs.Slots.{key_place, slot_for, state_in}
use Rattle.receiver.specs.declared.Receiver.{Receiver}
use Rattle.receiver.specs.Bounds.{in_bounds}
use Rattle.receiver.specs.Calls.{Outcome, refused, slot_of, is_ready, on_verdict, frame_all, frame_step, frame_store}
use Rattle.isolation.specs.OwnFrames.{key_at, frame_key, Body, announce, segment, status, abort, body_of}
use Rattle.isolation.proofs.Tests.{clash, and_left, and_right}
use Rattle.isolation.proofs.Slots.{at, find_some}
use Rattle.isolation.proofs.Single.{asked, body_step}
use Rattle.isolation.proofs.Read.{Plain, groups, refusal, Takes, frame_agrees}
use Rattle.isolation.proofs.StoreKept.{sound_in, held_in}

-- ---- a message

-- it is that of the open session of the frame's key; the store stays as it was; and the part of it that the answer's place names is the
-- first Total Bytes of that slot, all of them
pub record Handed (r : Receiver) (id : ℕ) (d m : List ℕ) (x : Message) : Type 0 where
  pub session : Session
  pub found : key_place (key_at (frame_key id d)) r.slots ≡ Some x.slot
  pub state : at r.slots x.slot ≡ Some session
  pub message : x ≡ message_of x.slot session
  pub slot : x.slot < 8
  pub some_byte : 1 ≤ x.total.0
  pub at_most : x.total.0 ≤ 4096
  pub store : frame_store r id d m ≡ m
  pub bytes : place_bytes (place_of (frame_step r id d m).answer) d (frame_store r id d m) ≡ take x.total.0 (drop (4096 * x.slot) m)
  pub long : length (place_bytes (place_of (frame_step r id d m).answer) d (frame_store r id d m)) ≡ x.total.0

is_handed_over : Answer → Bool
is_handed_over (answer.HandedOver x) = true
is_handed_over (answer.Groups route) = false
is_handed_over (answer.Opened k) = false
is_handed_over (answer.Taken t) = false
is_handed_over (answer.Grant c) = false
is_handed_over (answer.Aborted k) = false
is_handed_over (answer.Ended e) = false
is_handed_over (answer.RefusedRts j) = false
is_handed_over (answer.Refused n) = false

not_plain : (a : Answer) (x : Message) → Plain a → a ≡ answer.HandedOver x → ⊥
unfolding is_handed_over
not_plain a x (groups ρ e) h = clash (is_handed_over a) (ap is_handed_over h) (ap is_handed_over e)
not_plain a x (refusal n e) h = clash (is_handed_over a) (ap is_handed_over h) (ap is_handed_over e)

-- a segment hands nothing over
segment_quiet : (y : Option Session) (sg : Segment) (last : ℕ) → is_handed_over (segment_to y sg last).answer ≡ false
unfolding segment_to is_handed_over
segment_quiet y sg last = go (not (eqb sg.format 0)) y
  where
    either : (t : Bool) (a b : Answer) → is_handed_over a ≡ false → is_handed_over b ≡ false → is_handed_over (cond t a b) ≡ false
    either true a b p q = p
    either false a b p q = q

    judges : (s : Session) (j : Judged) → is_handed_over (on_judged j s sg.number.0 last).answer ≡ false
    judges s (judged.Refused n) = refl
    judges s (judged.Ends n) = refl
    judges s judged.Takes =
        either (cts_due s.progress s.announced sg.number.0) (answer.Grant (next_cts s.announced sg.number.0))
        (answer.Taken (record { key = s.announced.key; number = record { 0 = sg.number.0 } })) refl refl

    go : (t : Bool) (y : Option Session) → is_handed_over (cond t (refuse FormatIndicator) (if_open y (λ s. segment_open s sg.number.0 sg.room last))).answer ≡ false
    go true y = refl
    go false None = refl
    go false (Some s) = judges s (judged_of s sg.number.0 sg.room)

asked_hands : (y : Option Session) (room : Bool) (slot last : ℕ) (κ : Key) (b : Body) → Hands y slot (asked y room slot last κ b).answer
asked_hands y room slot last κ (announce a) = announce_hands y room slot κ a last
asked_hands y room slot last κ (segment format n x) = segment_hands y slot (record { format = format; number = record { 0 = n }; room = length x }) last
asked_hands y room slot last κ (status st) = status_hands y slot st last
asked_hands y room slot last κ (abort pgn) = abort_hands y slot pgn

module _ (r : Receiver) (k : ℕ) (m d : List ℕ) (x : Message) where
  -- what is known of an own frame that hands over
  record Own (o : Outcome) : Type 0 where
    session : Session
    found : key_place (key_at k) r.slots ≡ Some x.slot
    state : at r.slots x.slot ≡ Some session
    message : x ≡ message_of x.slot session
    store : o.1 ≡ m

  kept : (b : Body) → (body_step r (key_at k) b d m).0.answer ≡ answer.HandedOver x → (body_step r (key_at k) b d m).1 ≡ m
  unfolding is_handed_over
  kept (announce a) e = refl
  kept (status st) e = refl
  kept (abort pgn) e = refl
  kept (segment format n z) e =
      absurd (clash (is_handed_over (answer.HandedOver x)) refl (ap is_handed_over (sym e) ∙ segment_quiet _ (record { format = format; number = record { 0 = n }; room = length z }) r.last))

  own_hands : (b : Body) → (body_step r (key_at k) b d m).0.answer ≡ answer.HandedOver x → Own (body_step r (key_at k) b d m)
  own_hands b e =
      by (slot_for (key_at k) r.slots) refl
      (subst (λ (a : Answer). Hands (state_in (slot_for (key_at k) r.slots) r.slots) (slot_of (slot_for (key_at k) r.slots)) a) e
      (asked_hands (state_in (slot_for (key_at k) r.slots) r.slots) (is_some (slot_for (key_at k) r.slots)) (slot_of (slot_for (key_at k) r.slots)) r.last (key_at k) b))
    where
      at_slot : (i : ℕ) (y : Option Session) → slot_for (key_at k) r.slots ≡ Some i → at r.slots i ≡ y → Hands y i (answer.HandedOver x) → Own (body_step r (key_at k) b d m)
      at_slot i None f g h = absurd h
      at_slot i (Some s) f g h =
          let q : x.slot ≡ i = ap (λ (z : Message). z.slot) h in
          record {
            session = s;
            found = rw q (held_in r k i s f g);
            state = rw q g;
            message = subst (λ (j : ℕ). x ≡ message_of j s) (sym q) h;
            store = kept b e;
          }

      by : (f : Option ℕ) → slot_for (key_at k) r.slots ≡ f → Hands (state_in f r.slots) (slot_of f) (answer.HandedOver x) → Own (body_step r (key_at k) b d m)
      by None f h = absurd h
      by (Some i) f h = at_slot i (at r.slots i) f refl h

module _ (r : Receiver) (id : ℕ) (d m : List ℕ) (eight : length r.slots ≡ 8) (x : Message) (hands : (frame_step r id d m).answer ≡ answer.HandedOver x) where
  facts : is_ready r m ≡ true → Own r (frame_key id d) m d x (frame_all r id d m) → Handed r id d m x
  facts e o =
      let whole : length m ≡ 32768 = eqb-true (length m) 32768 (and_left (eqb (length m) 32768) (in_bounds r) e) in
      let sound : Sound r.own o.session = sound_in r (and_right (eqb (length m) 32768) (in_bounds r) e) x.slot o.session o.state in
      let total : x.total.0 ≡ o.session.announced.total.0 = ap (λ (z : Message). z.total.0) o.message in
      let most : o.session.announced.total.0 ≤ 4096 = sound.agreed.fits in
      let least : 1 ≤ o.session.announced.total.0 = sound.agreed.some in
      let within : x.slot < length r.slots = (find_some (frame_key id d) r.slots x.slot o.found).1 in
      let low : x.slot < 8 = omega arith in
      let same : place_bytes (place_of (frame_step r id d m).answer) d (frame_store r id d m) ≡ take x.total.0 (drop (4096 * x.slot) m) =
      rw (hands, o.store) (message_lies x d m low (omega arith) whole) in
      record {
        session = o.session;
        found = o.found;
        state = o.state;
        message = o.message;
        slot = low;
        some_byte = omega arith;
        at_most = omega arith;
        store = o.store;
        bytes = same;
        long = ap length same ∙ length-take-le x.total.0 (drop (4096 * x.slot) m) (rw (length-drop (4096 * x.slot) m) (omega arith));
      }

-- For every frame call that hands a message over, on every record of eight slots: the function for a part of the frame or of the store
-- gives exactly the message's bytes.
pub handed_over : (r : Receiver) (id : ℕ) (d m : List ℕ) → length r.slots ≡ 8 → (x : Message) → (frame_step r id d m).answer ≡ answer.HandedOver x → Handed r id d m x
unfolding frame_all is_handed_over
handed_over r id d m eight x hands = go (is_ready r m) refl hands
  where
    o : Outcome
    o = on_verdict (judged-frame r.own id (length d)) r d m

    read : (b : Option Body) → Takes r d m (key_at (frame_key id d)) o b → o.0.answer ≡ answer.HandedOver x → Own r (frame_key id d) m d x o
    read None f e = absurd (not_plain o.0.answer x (subst (λ (z : Outcome). Plain z.0.answer) (sym f.same) f.plain) e)
    read (Some b) t e =
        subst (Own r (frame_key id d) m d x) (sym t.0) (own_hands r (frame_key id d) m d x b (ap (λ (z : Outcome). z.0.answer) (sym t.0) ∙ e))

    go : (t : Bool) → is_ready r m ≡ t → (cond t o (refused r OutOfBounds, m)).0.answer ≡ answer.HandedOver x → Handed r id d m x
    go true e h =
        facts r id d m eight x hands e
        (subst (Own r (frame_key id d) m d x) (ap (λ (t : Bool). cond t o (refused r OutOfBounds, m)) (sym e)) (read (body_of r.own id d) (frame_agrees r id d m).does h))
    go false e h = absurd (clash (is_handed_over (answer.HandedOver x)) refl (ap is_handed_over (sym h)))

-- ---- groups

chain_inside : (d : List ℕ) {at : ℕ} {gs : List Group} → Chain d at gs → (i : ℕ) (o : Group) → i < length gs → end_of (get_or gs i o) ≤ length d
chain_inside d (chain.last e) i o h = absurd (omega arith)
chain_inside d {at} (chain.link {n = n} p c) zero o h = omega (arith, p.whole, here_end d at n p)
chain_inside d (chain.link p c) (suc i) o h = chain_inside d c i o (omega arith)

-- For every group of a frame that is not refused the same function gives exactly the group's data, and its trailer.
pub groups_handed : (d m : List ℕ) (gs : List Group) → groups_read d ≡ good gs → (i : ℕ) (o : Group) → i < length gs
    → (place_bytes (Some (place.Group (get_or gs i o).start (get_or gs i o).len)) d m ≡ (content_of d (get_or gs i o)).bytes)
    × (place_bytes (Some (place.Group (trailer_start (get_or gs i o)) (get_or gs i o).trailer)) d m ≡ (content_of d (get_or gs i o)).trailer)
groups_handed d m gs e i o h =
    let inside : end_of (get_or gs i o) ≤ length d = chain_inside d (good_chain d gs e) i o h in
    (data_lies (get_or gs i o) d m inside, trailer_lies (get_or gs i o) d m inside)
