-- Lists of calls over lent bytes: each gives what the receiver's own call gives, and shows what it shows.
use Prim.Native.Nat.{ℕ}
use mathlib.Core.Path.{◌≡◌, refl, sym, ap, ap₂, ◌∙◌, subst}
use mathlib.Core.Bool.{true}
use mathlib.Core.List.{List, [], ◌∷◌, ◌++◌}
use lib.ListN.{length}
use Rattle.receiver.specs.declared.Receiver.{Receiver}
use Rattle.answer.specs.declared.Answer.{Answer}
use Rattle.answer.specs.declared.Answer.TheVariants.{Groups, Opened, Taken, Grant, HandedOver, Aborted, Ended, RefusedRts, Refused}
use Rattle.session.specs.Fits.{AnswerFits}
use Rattle.receiver.specs.Calls.{Elapsed}
use Rattle.receiver.specs.Bounds.{in_bounds}
use Rattle.receiver.specs.Calls.{Outcome, frame_all, reading_step}
use Rattle.record_bytes.specs.Layout.{is_record, record_at}
use Rattle.record_bytes.specs.RoundTrip.{RecordFits}
use Rattle.engine.specs.InBytes.{InBytes, frame_in}
use Rattle.answer_bytes.specs.Answers.{answer_bytes}
use Rattle.answer_bytes.specs.Ends.{ends_bytes}
use Rattle.dwaebinam.specs.Calls.{told, framed_in}
use Rattle.answer.specs.Answers.{acceptance_number, answer_sends, wire_of}
use Rattle.isolation.specs.Replies.{Reply}
use Rattle.dwaebinam.specs.Reading.{read_in}
use Rattle.isolation.specs.Rules as rules
use Rattle.isolation.specs.Rules.{Values}
use Rattle.isolation.specs.World.{frame, clock, lent, elsewhere}
use Rattle.isolation.specs.Observe.{reply_of, touches, is_bounds_refusal, frame_seen_as, frame_seen, frame_elsewhere_as, frame_elsewhere, endings_of, reading_seen_as, reading_seen, reading_elsewhere_as, reading_elsewhere, shows, record_after, store_after, observed, record_over, store_over}
use Rattle.isolation.proofs.Demand3.{Sound, stays_in_bounds}
use Rattle.carried.specs.Fitting.{Narrow}
use Rattle.carried.specs.Crossed.{Given, Lending, Proper, AllProper, frame_gives, gives, bytes_after, store_left, gives_over, bytes_over, left_over, calls_of, answer_given, ends_given, answers, answers_over}
use Rattle.carried.specs.ReadBack.{answer_at, unrouted}
use Rattle.carried.specs.Shown.{outcome_of, reply_at, reply_in, endings_at, shown, shown_over}
use Rattle.carried.proofs.Fits.{record_fits, frame_well, reading_narrow}
use Rattle.carried.proofs.Step.{HasRecord, Frames, Reads, frame_step_lem, reading_step_lem, framed_is}
use Rattle.carried.proofs.ReadBack.{EndsFit, WireFits, answer_back, reply_back, ends_back}
use Rattle.carried.proofs.Answers.{reading_eight, reading_ends}
use Rattle.carried.proofs.Sent.{frame_sends}

-- ---- what is kept from call to call

pub record Fine (r : Receiver) (m : List ℕ) : Type 0 where
  pub bounds : in_bounds r ≡ true
  pub eight : length r.slots ≡ 8
  pub narrow : Narrow r
  pub whole : length m ≡ 32768

pub fine_fits : (r : Receiver) (m : List ℕ) → Fine r m → RecordFits r
fine_fits r m h = record_fits r h.bounds h.eight h.narrow

narrow_after : (r : Receiver) (m : List ℕ) → Fine r m → (l : Lending) → Proper l → Narrow (record_after r m l.0)
unfolding record_after
narrow_after r m h (lent (frame id d), a) (p, q) = (frame_well r h.narrow (fine_fits r m h) id d m q).narrow
narrow_after r m h (lent (clock t), a) (p, q) = reading_narrow r h.narrow (fine_fits r m h) t m q
narrow_after r m h (elsewhere o e (frame id d), a) (p, q) = (frame_well r h.narrow (fine_fits r m h) id d o q).narrow
narrow_after r m h (elsewhere o e (clock t), a) (p, q) = reading_narrow r h.narrow (fine_fits r m h) t o q

pub fine_after : (r : Receiver) (m : List ℕ) → Fine r m → (l : Lending) → Proper l → Fine (record_after r m l.0) (store_after r m l.0)
fine_after r m h l p =
    let s : Sound r (record_after r m l.0) (store_after r m l.0) = stays_in_bounds r m h.bounds h.eight h.whole l.0 in
    record { bounds = s.bounds; eight = s.eight; narrow = narrow_after r m h l p; whole = s.whole }

-- ---- one call

-- a call over lent bytes gives and shows what the receiver's call does, leaves its store, and its bytes hold the receiver's next record
pub record Same (r : Receiver) (b m : List ℕ) (l : Lending) : Type 0 where
  pub given : gives b m l ≡ answers r m l.0
  pub store : store_left b m l ≡ store_after r m l.0
  pub next : HasRecord (bytes_after b m l) (record_after r m l.0)
  pub shows_it : (v : Values) (k : ℕ) → shown v k b m l ≡ shows v k r m l.0

told_given : (x : InBytes) (o : Outcome) → Frames x o → frame_gives (told x) ≡ answer_given o.0.answer
told_given x o f = ap answer_given f.answer

reads_given : (x : ℕ × (List ℕ × List ℕ)) (e : Elapsed) → Reads x e → ◌≡◌ {A = Given} (x.0, x.1.1) (ends_given e)
reads_given x e f = ap₂ (λ (n : ℕ) (l : List ℕ). (n, l)) f.number f.answers

outcome_same : (x : InBytes) (o : Outcome) → Frames x o → AnswerFits o.0.answer → outcome_of (told x) ≡ (record { next = o.0.next; answer = unrouted o.0.answer }, o.1)
outcome_same x o f g =
    ap (λ (r : Receiver). (record { next = r; answer = answer_at (answer_bytes x.0) }, x.1.1)) f.next.reads
    ∙ ap₂ (λ (a : Answer) (m : List ℕ). (record { next = o.0.next; answer = answer_at (answer_bytes a) }, m)) f.answer f.store
    ∙ ap (λ (a : Answer). (record { next = o.0.next; answer = a }, o.1)) (answer_back o.0.answer g)

-- the route of a Multi-PG frame is nothing that a key is shown
module _ (v : Values) (k : ℕ) (r : Receiver) (id : ℕ) (d : List ℕ) (n : Receiver) (m : List ℕ) (y : Reply) where
  seen_same : (a : Answer) → frame_seen_as v k r id d (record { next = n; answer = unrouted a }, m) y ≡ frame_seen_as v k r id d (record { next = n; answer = a }, m) y
  unfolding touches
  seen_same (Groups route) = refl
  seen_same (Opened j) = refl
  seen_same (Taken t) = refl
  seen_same (Grant c) = refl
  seen_same (HandedOver x) = refl
  seen_same (Aborted j) = refl
  seen_same (Ended e) = refl
  seen_same (RefusedRts j) = refl
  seen_same (Refused x) = refl

  elsewhere_same : (a : Answer) → frame_elsewhere_as v k r id d (record { next = n; answer = unrouted a }, m) y ≡ frame_elsewhere_as v k r id d (record { next = n; answer = a }, m) y
  unfolding touches is_bounds_refusal
  elsewhere_same (Groups route) = refl
  elsewhere_same (Opened j) = refl
  elsewhere_same (Taken t) = refl
  elsewhere_same (Grant c) = refl
  elsewhere_same (HandedOver x) = refl
  elsewhere_same (Aborted j) = refl
  elsewhere_same (Ended e) = refl
  elsewhere_same (RefusedRts j) = refl
  elsewhere_same (Refused x) = refl

-- the reply read off the bytes is the receiver's
reply_same : (x : InBytes) (o : Outcome) → Frames x o → AnswerFits o.0.answer → WireFits (wire_of (answer_sends o.0.answer)) → reply_in (told x) ≡ reply_of o.0.answer o.1
reply_same x o f g w =
    ap₂ (λ (a : Answer) (m : List ℕ). reply_at (answer_bytes a) m) f.answer f.store ∙ reply_back o.0.answer o.1 g w

-- the endings read off the bytes are the receiver's
ends_same : (k : ℕ) (e : Elapsed) → length e.ends ≡ 8 → EndsFit e.ends → endings_at k 8 (ends_bytes e.ends) ≡ endings_of k e.ends
ends_same k e l g = ap (λ (i : ℕ). endings_at k i (ends_bytes e.ends)) (sym l) ∙ ends_back k e.ends g

module _ (b m : List ℕ) (is : is_record b ≡ true) (fit : RecordFits (record_at b)) (thin : Narrow (record_at b)) where
  abbrev R : Receiver
  R = record_at b

  same_by : (l : Lending) → Proper l → RecordFits (record_after R m l.0) → Same R b m l
  unfolding gives answers store_left store_after bytes_after record_after shown shows frame_seen frame_elsewhere reading_seen reading_elsewhere
  same_by (lent (frame id d), a) (p, q) f =
      let g : Frames (frame_in b id d m) (frame_all R id d m) = frame_step_lem b is id d m f in
      let e : framed_in b id d m a ≡ told (frame_in b id d m) = framed_is b id d m a p in
      record {
        given = ap frame_gives e ∙ told_given (frame_in b id d m) (frame_all R id d m) g;
        store = ap (λ (x : ℕ × (List ℕ × (List ℕ × List ℕ))). x.1.1.0) e ∙ g.store;
        next = subst (λ (x : ℕ × (List ℕ × (List ℕ × List ℕ))). HasRecord x.1.0 (frame_all R id d m).0.next) (sym e) g.next;
        shows_it = λ v k.
            ap₂ (frame_seen_as v k R id d)
            (ap outcome_of e ∙ outcome_same (frame_in b id d m) (frame_all R id d m) g (frame_well R thin fit id d m q).answer)
            (ap reply_in e ∙ reply_same (frame_in b id d m) (frame_all R id d m) g (frame_well R thin fit id d m q).answer (frame_sends R id d m fit.eight))
            ∙ seen_same v k R id d (frame_all R id d m).0.next (frame_all R id d m).1 (reply_of (frame_all R id d m).0.answer (frame_all R id d m).1) (frame_all R id d m).0.answer;
      }
  same_by (lent (clock t), a) (p, q) f =
      let g : Reads (read_in b t m a) (reading_step R t m) = reading_step_lem b is t m a p f in
      record {
        given = reads_given (read_in b t m a) (reading_step R t m) g;
        store = refl;
        next = g.next;
        shows_it = λ v k. ap₂ (λ (n : ℕ) (l : List ℕ). reading_seen_as n (endings_at k 8 l)) g.number g.answers
            ∙ ap (reading_seen_as (acceptance_number (reading_step R t m).answer)) (ends_same k (reading_step R t m) (reading_eight R fit t m) (reading_ends R fit t m));
      }
  same_by (elsewhere o z (frame id d), a) (p, q) f =
      let g : Frames (frame_in b id d o) (frame_all R id d o) = frame_step_lem b is id d o f in
      let e : framed_in b id d o a ≡ told (frame_in b id d o) = framed_is b id d o a p in
      record {
        given = ap frame_gives e ∙ told_given (frame_in b id d o) (frame_all R id d o) g;
        store = refl;
        next = subst (λ (x : ℕ × (List ℕ × (List ℕ × List ℕ))). HasRecord x.1.0 (frame_all R id d o).0.next) (sym e) g.next;
        shows_it = λ v k.
            ap₂ (frame_elsewhere_as v k R id d)
            (ap outcome_of e ∙ outcome_same (frame_in b id d o) (frame_all R id d o) g (frame_well R thin fit id d o q).answer)
            (ap reply_in e ∙ reply_same (frame_in b id d o) (frame_all R id d o) g (frame_well R thin fit id d o q).answer (frame_sends R id d o fit.eight))
            ∙ elsewhere_same v k R id d (frame_all R id d o).0.next (frame_all R id d o).1 (reply_of (frame_all R id d o).0.answer (frame_all R id d o).1) (frame_all R id d o).0.answer;
      }
  same_by (elsewhere o z (clock t), a) (p, q) f =
      let g : Reads (read_in b t o a) (reading_step R t o) = reading_step_lem b is t o a p f in
      record {
        given = reads_given (read_in b t o a) (reading_step R t o) g;
        store = refl;
        next = g.next;
        shows_it = λ v k. ap (λ (r' : Receiver). reading_elsewhere_as k R r' (read_in b t o a).0 (endings_at k 8 (read_in b t o a).1.1)) g.next.reads
            ∙ ap₂ (λ (n : ℕ) (l : List ℕ). reading_elsewhere_as k R (reading_step R t o).next n (endings_at k 8 l)) g.number g.answers
            ∙ ap (reading_elsewhere_as k R (reading_step R t o).next (acceptance_number (reading_step R t o).answer)) (ends_same k (reading_step R t o) (reading_eight R fit t o) (reading_ends R fit t o));
      }

pub same_call : (r : Receiver) (b m : List ℕ) → HasRecord b r → Fine r m → (l : Lending) → Proper l → Same r b m l
same_call r b m k h l p =
    let n : Fine (record_after r m l.0) (store_after r m l.0) = fine_after r m h l p in
    let f : RecordFits (record_after r m l.0) = fine_fits (record_after r m l.0) (store_after r m l.0) n in
    subst (λ (x : Receiver). Same x b m l) k.reads
    (same_by b m k.codes (subst RecordFits (sym k.reads) (fine_fits r m h)) (subst Narrow (sym k.reads) h.narrow) l p
    (subst (λ (x : Receiver). RecordFits (record_after x m l.0)) (sym k.reads) f))

-- ---- a list of calls

pub record Carried (r : Receiver) (b m : List ℕ) (ls : List Lending) : Type 0 where
  pub given : gives_over b m ls ≡ answers_over r m (calls_of ls)
  pub store : left_over b m ls ≡ store_over r m (calls_of ls)
  pub next : HasRecord (bytes_over b m ls) (record_over r m (calls_of ls))
  pub shows_it : (v : Values) (k : ℕ) → shown_over v k b m ls ≡ observed v k r m (calls_of ls)

pub carried : (r : Receiver) (b m : List ℕ) → HasRecord b r → Fine r m → (ls : List Lending) → AllProper ls → Carried r b m ls
unfolding gives_over left_over bytes_over answers_over store_over record_over shown_over observed
carried r b m k h [] p = record { given = refl; store = refl; next = k; shows_it = λ v j. refl }
carried r b m k h (l ∷ ls) (p, ps) =
    let c : Same r b m l = same_call r b m k h l p in
    let r' : Receiver = record_after r m l.0 in
    let m' : List ℕ = store_after r m l.0 in
    let b' : List ℕ = bytes_after b m l in
    let n : Carried r' b' m' ls = carried r' b' m' c.next (fine_after r m h l p) ls ps in
    record {
      given =
          ap₂ (λ (x : Given) (s : List ℕ). x ∷ gives_over b' s ls) c.given c.store
          ∙ ap (λ (x : List Given). answers r m l.0 ∷ x) n.given;
      store = ap (λ (s : List ℕ). left_over b' s ls) c.store ∙ n.store;
      next = subst (λ (s : List ℕ). HasRecord (bytes_over b' s ls) (record_over r' m' (calls_of ls))) (sym c.store) n.next;
      shows_it = λ v j.
          ap₂ (λ (x : List rules.Seen) (s : List ℕ). x ++ shown_over v j b' s ls) (c.shows_it v j) c.store
          ∙ ap (λ (x : List rules.Seen). shows v j r m l.0 ++ x) (n.shows_it v j);
    }
