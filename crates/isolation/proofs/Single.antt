-- One session decides as its rules do. Only this file knows what a session does.
use Rattle.std.specs.Prelude.{None, Ok, Option, Result, Some, ℕ, ⊤, is_some}
use Prim.Native.Nat.{ℕ, suc, ◌+◌, ◌*◌, ◌-◌, ◌/◌, ◌≤◌, ◌<◌, min}
use mathlib.Core.Path.{◌≡◌, refl, sym, ap, ap₂, ◌∙◌, subst}
use lib.Seq.{paste}
use mathlib.Core.Logic.{◌⊎◌, inl, inr}
use mathlib.Core.Bool.{and_assoc, or_comm, Bool, true, false, cond, not, ◌&&◌, ◌||◌}
use mathlib.Core.List.{List, [], ◌∷◌}
use native.Mathlib.Omega.{arith}
use native.Mathlib.Decide.{ℕ_discrete}
use lib.Dec.{eqb, ltb}
use lib.ListN.{length, take}
use borrow.Author.Tests.{ltb-true, ltb-false, lt-ltb, le-ltb, eqb-true, eqb-false, eq-eqb, not-false}
use Rattle.laws.specs.Bools.{by_test, cond_true, cond_false}
use Rattle.segments.specs.declared.Segments.{Segments}
use Rattle.segments.specs.Model.{is_in, is_number, none_in, missing_of, first_missing}
use Rattle.segments.specs.Laws.{number_of_lem, none_in_lem, in_put, agreed, first_missing_lem}
use Rattle.frame.specs.Refusals.{number_of}
use Rattle.frame.specs.declared.refusal.Refusal.{Refusal}
use Rattle.frame.specs.declared.refusal.Refusal.TheVariants.{AnnouncementForm, KeyNotOpen, FormatIndicator, AlreadyTaken, SegmentCut}
use Rattle.frame.specs.Pgn.{pgn_ok}
use Rattle.transport.specs.Kinds.{is_rts}
use Rattle.transport.specs.declared.Key.{Key}
use Rattle.transport.specs.declared.announcement.Announcement.{Announcement}
use Rattle.transport.specs.declared.eoms.Status.{Status}
use Rattle.transport.specs.Segments.{data_at}
use Rattle.answer.specs.declared.Answer.{Answer}
use Rattle.answer.specs.declared.Answer.TheVariants as answer
use Rattle.answer.specs.Answers.{message_bytes, eoma_for}
use Rattle.answer.specs.Lies.{message_lies}
use Rattle.progress.specs.Forward.{cts_due, next_by, taken_by, missing_by, advanced_by}
use Rattle.progress.specs.Requests.{asked_count, requested_by}
use Rattle.progress.specs.Asked.{asked_from}
use Rattle.progress.specs.declared.wait.Wait.TheVariants.{First, Second}
use Rattle.session.specs.declared.Session.{Session}
use Rattle.session.specs.declared.Change.TheVariants as change
use Rattle.session.specs.declared.Step.{Step}
use Rattle.session.specs.declared.segment.Judged.{Judged}
use Rattle.session.specs.declared.segment.Judged.TheVariants as judged
use Rattle.session.specs.Announcements as S
use Rattle.session.specs.Announcements.{form_of, session_of, first_cts}
use Rattle.session.specs.Segments.{due_of, already_in, out_of_turn, judged_of, next_cts}
use Rattle.session.specs.Ends.{status_matches, all_in}
use Rattle.session.specs.Decisions as D
use Rattle.session.specs.Decisions.{stays, refused, rejection, is_restart, for_key, on_form, announced_to, on_judged, segment_to, message_of, hands_over, status_to, abort_to}
use Rattle.session.specs.Bounds.{session_ok}
use Rattle.session.specs.InBounds.{KeyTaken, Sound, opened_ok, moved_ok, asked_ok, sound_of}
use Rattle.session.specs.Laws.{Taking, takes_taking}
use Rattle.slots.specs.Slots.{slot_for, state_in}
use Rattle.receiver.specs.declared.Receiver.{Receiver}
use Rattle.receiver.specs.Calls.{Outcome, apply, stored, stored_by, slot_of}
use Rattle.isolation.specs.Standard.{Cause, pgn_wrong, numbers_wrong, too_long, assured, key_open, eight_open, out_of_order, unlike_announced, requests_spent, number_for, in_pgn_form}
use Rattle.isolation.specs.OwnFrames as F
use Rattle.isolation.specs.Replies as P
use Rattle.isolation.specs.Rules as R
use Rattle.isolation.specs.OwnFrames.{key_at, Body, announce, segment, status, abort}
use Rattle.isolation.specs.Replies.{Reply, reject, refuse, abort_frame, ending, cts, plain, sent, hand_over, handed}
use Rattle.isolation.specs.Rules.{Values, Open, Out, closes, opens, starts_anew, admitted, announced, grant, due, spent, adds, as_announced, missing_run, rule, joined, is_taken}
use Rattle.isolation.specs.Observe.{says_of, reply_of, touches}
use Rattle.isolation.proofs.Tests.{or_left, or_right, or-1, or-2, or_either, same_test}
use Rattle.isolation.proofs.Slots.{other_key}
use Rattle.isolation.proofs.Bytes.{part, within_self, length_part, take_part, part_paste, within_paste}
use Rattle.isolation.proofs.Same.{refusal_for, number_same, reason_same, pgn_same, kind_same, grant_same, wait_same, due_same, numbers_same, misdirected_same, eqb_next}
use Rattle.isolation.proofs.Pieces.{segment_inside}
use Rattle.isolation.proofs.Gathered.{Gathered, in_to, in_length, joined_gathered, gathered_more}
use Rattle.isolation.proofs.Recorded.{missing_rest, asked_first, asked_same, below_next}
use Rattle.isolation.proofs.Fit.{Kept, record_of, Rel, Tied, walk, walk_not, reply_cond, quiet_cond, wire_cond}

-- an own frame's key: addresses that are taken here
pub record Mine (v : Values) (k : ℕ) : Type 0 where
  pub own : v.own.0 ≤ 253
  pub taken : KeyTaken v.own (key_at k)

-- ---- what an own frame asks of the session, and the store after it

abbrev pub asked : Option Session → Bool → ℕ → ℕ → Key → Body → Step
asked y room slot last κ (announce a) = announced_to y room κ a last
asked y room slot last κ (segment format n x) = segment_to y (record { format = format; number = record { 0 = n }; room = length x }) last
asked y room slot last κ (status st) = status_to y slot st last
asked y room slot last κ (abort pgn) = abort_to y pgn

abbrev pub leaves : Body → Step → Option ℕ → Option Session → List ℕ → List ℕ → List ℕ
leaves (announce a) st f y d m = m
leaves (segment format n x) st f y d m = stored_by st.change f y n d m
leaves (status s) st f y d m = m
leaves (abort pgn) st f y d m = m

-- the slot for the key is found, its session is asked, and the change is applied
abbrev pub body_step : Receiver → Key → Body → List ℕ → List ℕ → Outcome
body_step r κ b d m =
    let f : Option ℕ = slot_for κ r.slots in
    let y : Option Session = state_in f r.slots in
    let st : Step = asked y (is_some f) (slot_of f) r.last κ b in
    (apply r f st, leaves b st f y d m)

-- a segment's data are the frame's from byte 5 on
abbrev pub Reads : List ℕ → Body → Type 0
Reads d (announce a) = Unit {0}
Reads d (segment format n x) = x ≡ data_at d
Reads d (status st) = Unit {0}
Reads d (abort pgn) = Unit {0}

-- ---- refusals, whatever the session

module _ (v : Values) (k : ℕ) (f : Option ℕ) (m : List ℕ) (x : Option Open) (y : Option Session) where
  refuse_tied : (n : Refusal) → Tied v k f m x y (refused n) m (x, refuse (number_of n))
  unfolding reply_of says_of touches
  refuse_tied n = record { reply = refl; only = λ j ne. refl; changed = (refl, refl) }

  reject_tied : (a : Announcement) (c : Cause) → Tied v k f m x y (stays (rejection (key_at k) a (refusal_for c))) m (x, reject k a c)
  unfolding reply_of says_of touches reject sent
  reject_tied a c =
      walk (λ (z : Answer) (p : Reply). Tied v k f m x y (stays z) m (x, p)) (is_rts a.kind) (F.is_rts a.kind) (kind_same a.kind)
      (λ _. record { reply = rw (reason_same c, number_same c); only = λ j ne. other_key k j ne; changed = (refl, refl) })
      (λ _. subst (λ (n : ℕ). Tied v k f m x y (refused (refusal_for c)) m (x, refuse n)) (number_same c) (refuse_tied (refusal_for c)))

  -- an announcement; what is left is one of good form
  announce_tied : Mine v k → (eight room : Bool) (last : ℕ) (a : Announcement)
      → (S.misdirected (key_at k).da a.kind ≡ false → form_of a ≡ Ok tt → a.assurance ≡ 0
      → Tied v k f m x y (for_key y room (key_at k) a last) m (admitted k last eight x a))
      → Tied v k f m x y (announced_to y room (key_at k) a last) m (announced v.own k last eight x a)
  unfolding announced_to announced form_of
  announce_tied me eight room last a good =
      walk (λ (z : Step) (q : Out). Tied v k f m x y z m q) (S.misdirected (key_at k).da a.kind) (R.misdirected v.own k a.kind)
      (misdirected_same v.own k a.kind me.own me.taken.da)
      (λ _. refuse_tied AnnouncementForm) (λ aimed.
      walk Formed (S.bad_numbers a) (R.bad_numbers a) (numbers_same a) (λ _. reject_tied a numbers_wrong) (λ bad.
      walk Formed (ltb 4096 a.total.0) (ltb 4096 a.total.0) refl (λ _. reject_tied a too_long) (λ long.
      walk Formed (not (eqb a.assurance 0)) (not (eqb a.assurance 0)) refl (λ _. reject_tied a assured) (λ sure.
      walk Formed (not (pgn_ok a.pgn)) (not (in_pgn_form a.pgn)) (ap not (pgn_same a.pgn)) (λ _. reject_tied a pgn_wrong) (λ pgn.
      good aimed (rw (bad, long, sure, pgn)) (eqb-true a.assurance 0 (not-false (eqb a.assurance 0) sure)))))))
    where
      Formed : Result ⊤ Refusal → Out → Type 0
      Formed z q = Tied v k f m x y (on_form z y room (key_at k) a last) m q

-- ---- an announcement that is accepted opens in the slot found, whatever was there

module _ (v : Values) (k : ℕ) (f : Option ℕ) (m : List ℕ) (whole : length m ≡ 32768) (me : Mine v k) (last : ℕ) where
  opens_tied : (x : Option Open) (y : Option Session) (i : ℕ) → f ≡ Some i → (a : Announcement) → S.misdirected (key_at k).da a.kind ≡ false → form_of a ≡ Ok tt → a.assurance ≡ 0
      → Tied v k f m x y (D.opening (key_at k) a last) m (opens k last a)
  unfolding opens reply_of says_of touches cts sent is_taken
  opens_tied x y i e a aimed good sure = record {
    reply = reply_cond m (answer.Grant (first_cts (key_at k) a)) (answer.Opened (key_at k)) (is_rts a.kind) (F.is_rts a.kind)
        (cts k 1 (grant a.max a.segments.0) a.pgn) (plain (P.opened (key_at k)))
        (kind_same a.kind) (rw (grant_same a.max a.segments.0)) refl;
    only = λ j ne. quiet_cond j (is_rts a.kind) (answer.Grant (first_cts (key_at k) a)) (answer.Opened (key_at k)) (other_key k j ne) (other_key k j ne);
    changed = record {
      slot = i;
      found = e;
      ses = (
        z,
        same,
        record {
          pieces = tt;
          same = none_already (is_rts a.kind);
          plain = sure;
          fine = subst (λ (s : Session). session_ok v.own s ≡ true) same (opened_ok v.own (key_at k) a last me.taken aimed good);
        },
      );
      store = within_self i m whole;
    };
  }
    where
      ρ : Open
      ρ = record {
        told = a;
        mark = last;
        wait = cond (F.is_rts a.kind) First Second;
        granted = cond (F.is_rts a.kind) (grant a.max a.segments.0) 0;
        requests = 0;
        pieces = [];
      }

      z : Kept
      z = record { next = cond (is_rts a.kind) 0 1; taken = none_in; missing = cond (is_rts a.kind) a.segments.0 0 }

      none_already : (rts : Bool) (n : ℕ) → 1 ≤ n → false ≡ cond rts (is_in none_in n) (ltb n (cond rts 0 1))
      none_already true n l = sym (none_in_lem n)
      none_already false n l = sym (le-ltb n 1 l)

      same : session_of (key_at k) a last ≡ record_of k ρ z
      same = rw (kind_same a.kind, grant_same a.max a.segments.0, wait_same (is_rts a.kind))

  -- ---- a key that is closed

  -- `eight` says that there is no slot
  room_tied : (eight : Bool) → eight ≡ not (is_some f) → (a : Announcement) → S.misdirected (key_at k).da a.kind ≡ false → form_of a ≡ Ok tt → a.assurance ≡ 0
      → Tied v k f m None None (for_key None (is_some f) (key_at k) a last) m (admitted k last eight None a)
  unfolding admitted
  room_tied eight e a aimed good sure = rw e (go f refl)
    where
      go : (g : Option ℕ) → f ≡ g → Tied v k f m None None (for_key None (is_some g) (key_at k) a last) m (cond (not (is_some g)) (None, reject k a eight_open) (opens k last a))
      go (Some i) h = opens_tied None None i h a aimed good sure
      go None h = reject_tied v k f m None None a eight_open

  pub shut_tied : (eight : Bool) → eight ≡ not (is_some f) → (b : Body) (d : List ℕ)
      → Tied v k f m None None (asked None (is_some f) (slot_of f) last (key_at k) b)
      (leaves b (asked None (is_some f) (slot_of f) last (key_at k) b) f None d m) (rule v k last eight None b)
  unfolding rule segment_to status_to abort_to
  shut_tied eight e (announce a) d = announce_tied v k f m None None me eight (is_some f) last a (room_tied eight e a)
  shut_tied eight e (segment format n z) d =
      walk (λ (st : Step) (q : Out). Tied v k f m None None st (stored_by st.change f None n d m) q) (not (eqb format 0)) (not (eqb format 0)) refl
      (λ _. refuse_tied v k f m None None FormatIndicator) (λ _. refuse_tied v k f m None None KeyNotOpen)
  shut_tied eight e (status st) d = refuse_tied v k f m None None KeyNotOpen
  shut_tied eight e (abort pgn) d = refuse_tied v k f m None None KeyNotOpen

-- ---- a key that is open, in slot i

and_chain : (a b c d : Bool) → (a && (b && (c && d))) ≡ (a && b && c && d)
and_chain a b c d = simp and_assoc

-- of two that make up the whole the one is none where the other is all
rest_test : (a b c : ℕ) → a + b ≡ c → eqb b c ≡ eqb a 0
rest_test a b c e = same_test (eqb b c) (eqb a 0)
    (λ h. let z : b ≡ c = eqb-true b c h in eq-eqb a 0 (omega arith))
    (λ h. let z : a ≡ 0 = eqb-true a 0 h in eq-eqb b c (omega arith))

module _ (v : Values) (k i : ℕ) (low : suc i ≤ 8) (m : List ℕ) (whole : length m ≡ 32768) (me : Mine v k) (ρ : Open) (x : Kept) (rel : Rel v k (part i m) ρ x) (last : ℕ) where
  abbrev s : Session
  s = record_of k ρ x

  abbrev rts : Bool
  rts = is_rts ρ.told.kind

  abbrev segments : ℕ
  segments = ρ.told.segments.0

  abbrev Ties : Step → List ℕ → Out → Type 0
  Ties st m' q = Tied v k (Some i) m (Some ρ) (Some s) st m' q

  -- a refusal that ends the session
  ends_tied : (c : Cause) → Ties (D.ended s (refusal_for c)) m (closes k ρ c)
  unfolding reply_of says_of touches ending
  ends_tied c = record {
    reply = rw (reason_same c, number_same c) (ap (λ (w : Option P.Wire). record { number = number_for c; says = P.ended (key_at k) ρ.told.kind ρ.told.pgn; sends = w })
        (wire_cond rts (F.is_rts ρ.told.kind) (abort_frame k c ρ.told.pgn) (kind_same ρ.told.kind)));
    only = λ j ne. other_key k j ne;
    changed = record { slot = i; found = refl; ses = tt; store = within_self i m whole };
  }

  sound : Sound v.own s
  sound = sound_of v.own s rel.fine

  most : ρ.told.total.0 ≤ 4096
  most = sound.agreed.fits

  count_fact : ρ.told.segments.0 ≡ (ρ.told.total.0 + 59) / 60
  count_fact = sound.agreed.count

  -- ---- what is kept of the data taken

  in_record : rts ≡ true → (n : ℕ) → 1 ≤ n → is_taken n ρ.pieces ≡ is_in x.taken n
  in_record r n l = rel.same n l ∙ cond_true rts _ _ r

  below : rts ≡ false → (n : ℕ) → 1 ≤ n → is_taken n ρ.pieces ≡ ltb n x.next
  below r n l = rel.same n l ∙ cond_false rts _ _ r

  how_many : in_to ρ.told.segments.0 ρ.pieces ≡ length ρ.pieces
  how_many = in_length ρ.told.total.0 ρ.told.segments.0 (part i m) ρ.pieces rel.pieces

  -- the number missing is what is left of an RTS, and a BAM's next is one more than were taken
  left_missing : rts ≡ true → x.missing + length ρ.pieces ≡ ρ.told.segments.0
  left_missing r =
      let g : missing_of x.taken ρ.told.segments.0 ≡ x.missing = (agreed x.taken segments x.missing (sound.reached.gathered r).agree).missing in
      let h : missing_of x.taken ρ.told.segments.0 + in_to ρ.told.segments.0 ρ.pieces ≡ ρ.told.segments.0 = missing_rest x.taken ρ.pieces (in_record r) segments in
      let e : in_to ρ.told.segments.0 ρ.pieces ≡ length ρ.pieces = how_many in
      omega arith

  next_same : rts ≡ false → x.next ≡ length ρ.pieces + 1
  next_same r =
      let q = sound.reached.sequence r in
      let a : 1 ≤ x.next = q.low in
      let b : x.next ≤ ρ.told.segments.0 + 1 = q.high in
      let h : in_to ρ.told.segments.0 ρ.pieces ≡ min ρ.told.segments.0 (x.next - 1) = below_next x.next ρ.pieces (below r) segments in
      let e : in_to ρ.told.segments.0 ρ.pieces ≡ length ρ.pieces = how_many in
      omega arith

  all_same : eqb (length ρ.pieces) ρ.told.segments.0 ≡ all_in s
  all_same = by_test rts
      (λ r. rest_test x.missing (length ρ.pieces) ρ.told.segments.0 (left_missing r) ∙ sym (cond_true rts _ _ r))
      (λ r. eqb_next (length ρ.pieces) ρ.told.segments.0 ∙ ap (λ (n : ℕ). eqb n (ρ.told.segments.0 + 1)) (sym (next_same r)) ∙ sym (cond_false rts _ _ r))

  -- ---- end of message

  status_same : (st : Status) → as_announced ρ st ≡ status_matches s st
  unfolding as_announced
  status_same st =
      rw rel.plain
      (and_chain (eqb st.total.0 ρ.told.total.0) (eqb st.segments.0 ρ.told.segments.0) (eqb st.assurance 0) (eqb st.pgn ρ.told.pgn))

  bytes_fact : length ρ.pieces ≡ ρ.told.segments.0 → message_bytes (message_of i s) m ≡ joined ρ.told.segments.0 ρ.pieces
  bytes_fact e =
      take_part m whole i low ρ.told.total.0 most
      ∙ sym (joined_gathered ρ.told.total.0 ρ.told.segments.0 (part i m) ρ.pieces count_fact rel.pieces e)

  handed_tied : length ρ.pieces ≡ ρ.told.segments.0 → Ties (hands_over i s) m (None, hand_over k ρ.told (joined ρ.told.segments.0 ρ.pieces))
  unfolding reply_of says_of touches hand_over
  handed_tied e = record {
    reply = ap₂ (λ (b : List ℕ) (w : Option P.Wire). record { number = 0; says = handed (key_at k) ρ.told.kind ρ.told.total.0 ρ.told.segments.0 ρ.told.pgn b; sends = w })
        (message_lies (message_of i s) [] m low most whole ∙ bytes_fact e)
        (wire_cond rts (F.is_rts ρ.told.kind) (eoma_for (message_of i s)) (kind_same ρ.told.kind));
    only = λ j ne. other_key k j ne;
    changed = record { slot = i; found = refl; ses = tt; store = within_self i m whole };
  }

  -- ---- what is missing is asked for: 02, E6

  module _ (r : rts ≡ true) (short : all_in s ≡ false) (few : ltb ρ.requests 5 ≡ true) where
    some_missing : 0 < missing_of x.taken ρ.told.segments.0
    some_missing =
        let g : missing_of x.taken ρ.told.segments.0 ≡ x.missing = (agreed x.taken segments x.missing (sound.reached.gathered r).agree).missing in
        let n : x.missing ≡ 0 → ⊥ = eqb-false x.missing 0 (sym (cond_true rts _ _ r) ∙ short) in
        omega arith

    first_asked : R.first_missing segments 1 ρ.pieces ≡ first_missing x.taken segments
    first_asked = asked_first x.taken ρ.pieces (in_record r) segments ρ.told.max

    count_asked : grant ρ.told.max (missing_run (segments + 1 - R.first_missing segments 1 ρ.pieces) (R.first_missing segments 1 ρ.pieces) ρ.pieces)
        ≡ asked_count x.taken segments ρ.told.max
    count_asked = asked_same x.taken ρ.pieces (in_record r) segments ρ.told.max (asked_from x.taken segments ρ.told.max) (first_missing_lem x.taken segments some_missing)

    asks_tied : Ties (D.asks s last) m (R.asks k last ρ)
    unfolding R.asks reply_of says_of touches cts sent
    asks_tied = record {
      reply = rw (count_asked, first_asked);
      only = λ j ne. other_key k j ne;
      changed = record {
        slot = i;
        found = refl;
        ses = (
          x,
          same,
          record {
            pieces = rel.pieces;
            same = rel.same;
            plain = rel.plain;
            fine = subst (λ (z : Session). session_ok v.own z ≡ true) same (asked_ok v.own s last rel.fine r short few);
          },
        );
        store = within_self i m whole;
      };
    }
      where
        ρ' : Open
        ρ' = record {
          told = ρ.told;
          mark = last;
          wait = First;
          granted =
              R.first_missing segments 1 ρ.pieces
              + grant ρ.told.max (missing_run (segments + 1 - R.first_missing segments 1 ρ.pieces) (R.first_missing segments 1 ρ.pieces) ρ.pieces)
              - 1;
          requests = ρ.requests + 1;
          pieces = ρ.pieces;
        }

        same : record { announced = s.announced; progress = requested_by s.progress s.announced last } ≡ record_of k ρ' x
        same = rw (count_asked, first_asked)

  lacks_tied : all_in s ≡ false → Ties (D.lacks s last) m (R.lacks k last ρ)
  unfolding R.lacks
  lacks_tied short =
      walk_not (λ (z : Step) (q : Out). Ties z m q) rts (not (F.is_rts ρ.told.kind)) (ap not (kind_same ρ.told.kind))
      (λ r.
      walk (λ (z : Step) (q : Out). Ties z m q) (ltb ρ.requests 5) (ltb ρ.requests 5) refl
      (λ few. asks_tied r short few) (λ _. ends_tied requests_spent))
      (λ _. ends_tied unlike_announced)

  status_tied : (st : Status) → Ties (D.status_open s i st last) m (R.status_open k last ρ st)
  unfolding R.status_open
  status_tied st =
      walk_not (λ (z : Step) (q : Out). Ties z m q) (status_matches s st) (not (as_announced ρ st)) (ap not (status_same st))
      (λ _.
      walk (λ (z : Step) (q : Out). Ties z m q) (all_in s) (eqb (length ρ.pieces) ρ.told.segments.0) all_same
      (λ all. handed_tied (eqb-true (length ρ.pieces) ρ.told.segments.0 (all_same ∙ all))) lacks_tied)
      (λ _. ends_tied unlike_announced)

  -- ---- an Abort

  abort_tied : (pgn : ℕ) → Ties (D.abort_open s pgn) m (R.abort_open k ρ pgn)
  unfolding R.abort_open reply_of says_of touches
  abort_tied pgn =
      walk (λ (z : Step) (q : Out). Ties z m q) (eqb pgn ρ.told.pgn) (eqb pgn ρ.told.pgn) refl
      (λ _. record {
        reply = refl;
        only = λ j ne. other_key k j ne;
        changed = record { slot = i; found = refl; ses = tt; store = within_self i m whole };
      })
      (λ _. refuse_tied v k (Some i) m (Some ρ) (Some s) KeyNotOpen)

  -- ---- a segment

  spent_same : (n : ℕ) → spent ρ n ≡ cts_due s.progress s.announced n
  unfolding spent
  spent_same n =
      rw (kind_same ρ.told.kind) (and_chain rts (eqb n ρ.granted) (ltb n ρ.told.segments.0) (eqb ρ.requests 0))

  -- the data due is added, and the segment is known as taken from then on
  adds_tied : (n : ℕ) (d : List ℕ) (room : ℕ) → judged_of s n room ≡ judged.Takes → is_taken n ρ.pieces ≡ false → due_of ρ.told.total.0 n ≤ length (data_at d)
      → Ties (D.taken s n last) (stored i s n d m) (adds k last ρ n (data_at d))
  unfolding adds reply_of says_of touches cts sent is_taken
  adds_tied n d room takes new enough = record {
    reply = reply_cond _ (answer.Grant (next_cts s.announced n)) (answer.Taken (record { key = key_at k; number = record { 0 = n } }))
        (cts_due s.progress s.announced n) (spent ρ n)
        (cts k (n + 1) (grant ρ.told.max (ρ.told.segments.0 - n)) ρ.told.pgn) (plain (P.took (key_at k) n))
        (spent_same n) (rw (grant_same ρ.told.max (ρ.told.segments.0 - n))) refl;
    only = λ j ne. quiet_cond j (cts_due s.progress s.announced n) (answer.Grant (next_cts s.announced n))
        (answer.Taken (record { key = key_at k; number = record { 0 = n } })) (other_key k j ne) (other_key k j ne);
    changed = record {
      slot = i;
      found = refl;
      ses = (
        x',
        same,
        record {
          pieces = pieces;
          same = known;
          plain = rel.plain;
          fine = subst (λ (z : Session). session_ok v.own z ≡ true) same (moved_ok v.own s n room last rel.fine takes);
        },
      );
      store = within_paste m whole i low (60 * (n - 1)) (data_at d) (due_of total n) fits enough;
    };
  }
    where
      total : ℕ
      total = ρ.told.total.0

      turn : Taking s n room
      turn = takes_taking s n room takes

      ρ' : Open
      ρ' = record {
        told = ρ.told;
        mark = last;
        wait = cond (spent ρ n) First Second;
        granted = cond (spent ρ n) (n + grant ρ.told.max (ρ.told.segments.0 - n)) ρ.granted;
        requests = ρ.requests;
        pieces = record { number = n; bytes = take (due total n) (data_at d) } ∷ ρ.pieces;
      }

      x' : Kept
      x' = record { next = next_by ρ.told.kind x.next n; taken = taken_by ρ.told.kind x.taken n; missing = missing_by ρ.told.kind x.missing }

      same : record { announced = s.announced; progress = advanced_by s.progress s.announced n last } ≡ record_of k ρ' x'
      same = rw (spent_same n, grant_same ρ.told.max (ρ.told.segments.0 - n), wait_same (cts_due s.progress s.announced n))

      fits : 60 * (n - 1) + due_of ρ.told.total.0 n ≤ 4096
      fits =
          let z : 60 * (n - 1) + due_of ρ.told.total.0 n ≤ ρ.told.total.0 = segment_inside total segments n count_fact turn.low turn.high in
          let y : ρ.told.total.0 ≤ 4096 = most in
          omega arith

      pieces : Gathered total segments (part i (stored i s n d m)) (record { number = n; bytes = take (due total n) (data_at d) } ∷ ρ.pieces)
      pieces =
          let size : length (part i m) ≡ 4096 = length_part m whole i low in
          let f : ρ.told.total.0 ≤ 4096 = most in
          subst (λ (p : List ℕ). Gathered total segments p (record { number = n; bytes = take (due total n) (data_at d) } ∷ ρ.pieces))
          (sym (part_paste m whole i low (60 * (n - 1)) (data_at d) (due_of total n) fits enough))
          (subst (λ (z : ℕ). Gathered total segments (paste (part i m) (60 * (n - 1)) (data_at d) (due_of total n)) (record { number = n; bytes = take z (data_at d) } ∷ ρ.pieces))
          (sym (due_same total n turn.low))
          (gathered_more total segments n (part i m) (data_at d) count_fact turn.low turn.high (omega arith) enough ρ.pieces rel.pieces new))

      -- in the record of an RTS, and below the next of a BAM
      known : (j : ℕ) → 1 ≤ j → is_taken j (record { number = n; bytes = take (due total n) (data_at d) } ∷ ρ.pieces) ≡ already_in (record_of k ρ' x') j
      known j l = by_test rts
          (λ r.
          let number : is_number n ≡ true = number_of_lem n turn.low (few_of segments turn.high (agreed x.taken segments x.missing (sound.reached.gathered r).agree).most) in
          ap (λ (t : Bool). eqb n j || t) (in_record r j l)
          ∙ swapped (eqb n j) (eqb j n) (is_in x.taken j) (same_test (eqb n j) (eqb j n) (λ h. eq-eqb j n (sym (eqb-true n j h))) (λ h. eq-eqb n j (sym (eqb-true j n h))))
          ∙ sym (in_put x.taken n number j)
          ∙ ap (λ (z : Segments). is_in z j) (sym (cond_true rts _ _ r))
          ∙ sym (cond_true rts _ _ r))
          (λ r.
          ap (λ (t : Bool). eqb n j || t) (below r j l)
          ∙ next_test j n x.next (turn.next r)
          ∙ ap (ltb j) (sym (cond_false rts _ _ r))
          ∙ sym (cond_false rts _ _ r))
        where
          few_of : (c : ℕ) → n ≤ c → c ≤ 69 → n ≤ 69
          few_of c a b = omega arith

          swapped : (a b t : Bool) → a ≡ b → (a || t) ≡ (t || b)
          swapped a b t e = rw e (or_comm b t)

          next_test : (j n next : ℕ) → n ≡ next → (eqb n j || ltb j next) ≡ ltb j (n + 1)
          next_test j n next e = same_test (eqb n j || ltb j next) (ltb j (n + 1)) there back
            where
              there : (eqb n j || ltb j next) ≡ true → ltb j (n + 1) ≡ true
              there h = go (or_either (eqb n j) (ltb j next) h)
                where
                  go : (eqb n j ≡ true) ⊎ (ltb j next ≡ true) → ltb j (n + 1) ≡ true
                  go (inl f) = let z : n ≡ j = eqb-true n j f in lt-ltb j (n + 1) (omega arith)
                  go (inr f) = let z : j < next = ltb-true j next f in lt-ltb j (n + 1) (omega arith)

              back : ltb j (n + 1) ≡ true → (eqb n j || ltb j next) ≡ true
              back h = go (ℕ_discrete n j)
                where
                  go : Dec (n ≡ j) → (eqb n j || ltb j next) ≡ true
                  go (yes z) = or-1 _ _ (eq-eqb n j z)
                  go (no z) = let y : j < n + 1 = ltb-true j (n + 1) h in or-2 (eqb n j) _ (lt-ltb j next (omega arith))

  turn_same : (n : ℕ) → R.out_of_turn ρ n ≡ out_of_turn s n
  unfolding R.out_of_turn
  turn_same n = rw (kind_same ρ.told.kind) (by_test rts (λ r. rw r) (λ r. ap (λ (z : ℕ). not rts && ltb z n) (sym (next_same r))))

  segment_tied : (n : ℕ) (d : List ℕ)
      → let st : Step = D.segment_open s n (length (data_at d)) last in
      Ties st (stored_by st.change (Some i) (Some s) n d m) (R.segment_open k last ρ n (data_at d))
  unfolding R.segment_open judged_of
  segment_tied n d =
      walk Judges (eqb n 0 || already_in s n) (eqb n 0 || is_taken n ρ.pieces) before (λ _. refuse_tied v k (Some i) m (Some ρ) (Some s) AlreadyTaken) (λ a.
      walk Judges (out_of_turn s n || ltb ρ.told.segments.0 n) (R.out_of_turn ρ n || ltb ρ.told.segments.0 n) turn (λ _. ends_tied out_of_order) (λ b.
      let l₀ : n ≡ 0 → ⊥ = eqb-false n 0 (or_left (eqb n 0) (already_in s n) a) in
      walk Judges (ltb (length (data_at d)) (due_of ρ.told.total.0 n)) (ltb (length (data_at d)) (due ρ.told.total.0 n))
      (rw (due_same ρ.told.total.0 n (omega arith))) (λ _. refuse_tied v k (Some i) m (Some ρ) (Some s) SegmentCut) (λ c.
      adds_tied n d (length (data_at d)) (rw (a, b, c)) (or_right (eqb n 0) (is_taken n ρ.pieces) (before ∙ a)) (ltb-false (length (data_at d)) (due_of ρ.told.total.0 n) c))))
    where
      Judges : Judged → Out → Type 0
      Judges j q = let st : Step = on_judged j s n last in Ties st (stored_by st.change (Some i) (Some s) n d m) q

      before : (eqb n 0 || is_taken n ρ.pieces) ≡ (eqb n 0 || already_in s n)
      before = by_test (eqb n 0)
          (λ z. rw z)
          (λ z. let l : n ≡ 0 → ⊥ = eqb-false n 0 z in ap (λ (t : Bool). eqb n 0 || t) (rel.same n (omega arith)))

      turn : (R.out_of_turn ρ n || ltb ρ.told.segments.0 n) ≡ (out_of_turn s n || ltb ρ.told.segments.0 n)
      turn = ap (λ (t : Bool). t || ltb ρ.told.segments.0 n) (turn_same n)

  -- ---- an announcement: the RTS of the session once more starts it anew (02, E1), all else is 14

  anew_same : (a : Announcement) → starts_anew a ρ ≡ is_restart s a
  unfolding starts_anew
  anew_same a = ap (λ (t : Bool). t && eqb a.pgn ρ.told.pgn) (kind_same a.kind)

  again_tied : (eight room : Bool) (a : Announcement) → S.misdirected (key_at k).da a.kind ≡ false → form_of a ≡ Ok tt → a.assurance ≡ 0
      → Ties (for_key (Some s) room (key_at k) a last) m (admitted k last eight (Some ρ) a)
  unfolding admitted
  again_tied eight room a aimed good sure =
      walk (λ (z : Step) (q : Out). Ties z m q) (is_restart s a) (starts_anew a ρ) (anew_same a)
      (λ _. opens_tied v k (Some i) m whole me last (Some ρ) (Some s) i refl a aimed good sure)
      (λ _. reject_tied v k (Some i) m (Some ρ) (Some s) a key_open)

  -- ---- an own frame, by what it says

  pub held_tied : (eight room : Bool) (b : Body) (d : List ℕ) → Reads d b
      → let y : Option Session = Some s in
      Ties (asked y room i last (key_at k) b) (leaves b (asked y room i last (key_at k) b) (Some i) y d m) (rule v k last eight (Some ρ) b)
  unfolding rule segment_to status_to abort_to
  held_tied eight room (announce a) d e =
      announce_tied v k (Some i) m (Some ρ) (Some s) me eight room last a (again_tied eight room a)
  held_tied eight room (segment format n z) d e =
      rw e (walk (λ (st : Step) (q : Out). Ties st (stored_by st.change (Some i) (Some s) n d m) q) (not (eqb format 0)) (not (eqb format 0)) refl
      (λ _. refuse_tied v k (Some i) m (Some ρ) (Some s) FormatIndicator) (λ _. segment_tied n d))
  held_tied eight room (status st) d e = status_tied st
  held_tied eight room (abort pgn) d e = abort_tied pgn
