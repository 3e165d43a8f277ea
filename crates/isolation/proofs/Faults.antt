-- A frame with several faults: 01, "Numbered refusals", the order for a frame.
use Rattle.std.specs.Prelude.{Err, None, Ok, Option, Result, Some, ⊤}
use Prim.Native.Nat.{ℕ, ◌≤◌}
use mathlib.Core.Path.{◌≡◌, refl, sym, ap, subst, ◌∙◌}
use mathlib.Core.Bool.{Bool, true, false, cond, not, ◌&&◌, ◌||◌}
use mathlib.Core.List.{List, [], ◌∷◌}
use native.Mathlib.Omega.{arith}
use lib.Dec.{eqb, leb, ltb}
use lib.ListN.{length}
use borrow.Author.Tests.{eqb-true, ne_eqb, leb-true}
use Rattle.frame.specs.Judge.{by_format, route_of, route_taken, judged as judged-frame}
use Rattle.frame.specs.Identifiers.{identifier_of}
use Rattle.frame.specs.Lengths.{is_length}
use Rattle.frame.specs.Refusals.{number_of}
use Rattle.frame.specs.declared.judge.Route.{Route}
use Rattle.frame.specs.declared.judge.Content.TheVariants as verdict
use Rattle.frame.specs.declared.refusal.Refusal.{Refusal}
use Rattle.frame.specs.declared.refusal.Refusal.TheVariants.{FrameLength, IdentifierRange, NotTaken, TransferLength, NeitherTakes, KeyNotOpen, PgnForm, AnnouncementForm, TooLong, Assurance, KeyOpen, SlotsFull, OutOfBounds}
use Rattle.frame.specs.Pgn.{pgn_ok}
use Rattle.multi_pg.specs.Groups.{GroupsRead, good, bad, groups_read}
use Rattle.transport.specs.Kinds.{is_rts}
use Rattle.transport.specs.declared.Key.{Key}
use Rattle.transport.specs.declared.announcement.Announcement.{Announcement}
use Rattle.transport.specs.declared.eoms.Status.{Status}
use Rattle.transport.specs.declared.segment.Segment.{Segment}
use Rattle.transport.specs.declared.Kind.TheVariants.{Rts, Bam}
use Rattle.transport.specs.declared.control.Control.TheVariants as control
use Rattle.transport.specs.Control.{not_receivers, control_of}
use Rattle.transport.specs.Heads.{control_at, key_of}
use Rattle.transport.specs.Announcements.{announcement_at}
use Rattle.transport.specs.Eoms.{status_at}
use Rattle.transport.specs.Aborts.{role_at, abort_pgn_at}
use Rattle.transport.specs.Segments.{segment_at, data_frame_of}
use Rattle.answer.specs.declared.Answer.{Answer}
use Rattle.answer.specs.declared.Answer.TheVariants as answer
use Rattle.answer.specs.Answers.{answer_number}
use Rattle.progress.specs.Forward.{cts_due}
use Rattle.session.specs.declared.Session.{Session}
use Rattle.session.specs.declared.Step.{Step}
use Rattle.session.specs.declared.segment.Judged.{Judged}
use Rattle.session.specs.Announcements.{misdirected, bad_numbers, form_of, first_cts}
use Rattle.session.specs.Segments.{due_of, already_in, out_of_turn, judged_of, next_cts}
use Rattle.session.specs.Cases.{by_status}
use Rattle.session.specs.Decisions.{if_open, rejection, accepted_if, is_restart, on_form, announced_to, on_judged, segment_open, segment_to, status_to, abort_to}
use Rattle.receiver.specs.declared.Receiver.{Receiver}
use Rattle.receiver.specs.Calls.{Outcome, refused, announce_step, status_step, abort_step, control_step, on_control, segment_step, on_data, is_ready, groups_step, on_verdict, frame_all}
use Rattle.isolation.specs.Standard.{fd_lengths, is_one_of}
use Rattle.isolation.specs.Faults.{is_taken_here, is_cut_short, is_not_receivers, from_responder, first_fault}
use Rattle.isolation.proofs.Tests.{and_left, and_right}
use Rattle.isolation.proofs.Same.{length_same}
use Rattle.isolation.proofs.Fit.{walk}
use Rattle.isolation.proofs.Lowest.{some_number}
use Rattle.isolation.proofs.Read.{mild_groups, reading_mild}
use Rattle.frame.specs.declared.judge.Content.{Content}
use Rattle.transport.specs.declared.control.Control.{Control}

-- none of 23, 2, 1, 3, 9 and 10
unfoldable pub is_later : ℕ → Bool
is_later n = not (is_one_of n (23 ∷ 2 ∷ 1 ∷ 3 ∷ 9 ∷ 10 ∷ []))

-- ---- the answers of a session's decisions come later

abbrev Late : Answer → Type 0
Late a = is_later (answer_number a) ≡ true

late : (t : Bool) (a b : Answer) → Late a → Late b → Late (cond t a b)
late true a b e f = e
late false a b e f = f

late_step : (t : Bool) (a b : Step) → Late a.answer → Late b.answer → Late (cond t a b).answer
late_step true a b e f = e
late_step false a b e f = f

late_rejection : (κ : Key) (a : Announcement) (n : Refusal) → is_later (number_of n) ≡ true → Late (rejection κ a n)
late_rejection κ a n e = late (is_rts a.kind) (answer.RefusedRts (record { key = κ; refusal = n; pgn = a.pgn })) (answer.Refused n) e e

module _ (x : Option Session) (room : Bool) (κ : Key) (a : Announcement) (last : ℕ) where
  late_form : (t : Bool) (f g : Result ⊤ Refusal) → Late (on_form f x room κ a last).answer → Late (on_form g x room κ a last).answer → Late (on_form (cond t f g) x room κ a last).answer
  late_form true f g e h = e
  late_form false f g e h = h

  late_accepted : (t : Bool) (n : Refusal) → is_later (number_of n) ≡ true → Late (accepted_if t n κ a last).answer
  unfolding is_later is_one_of
  late_accepted true n e = late (is_rts a.kind) (answer.Grant (first_cts κ a)) (answer.Opened κ) refl refl
  late_accepted false n e = late_rejection κ a n e

  late_good : (y : Option Session) (u : Bool) → Late (on_form (Ok tt) y u κ a last).answer
  unfolding is_later is_one_of
  late_good (Some s) u = late_accepted (is_restart s a) KeyOpen refl
  late_good None u = late_accepted u SlotsFull refl

  announce_late : Late (announced_to x room κ a last).answer
  unfolding announced_to form_of is_later is_one_of
  announce_late =
      late_step (misdirected κ.da a.kind) _ _ refl
      (late_form (bad_numbers a) _ _ (late_rejection κ a AnnouncementForm refl)
      (late_form (ltb 4096 a.total.0) _ _ (late_rejection κ a TooLong refl)
      (late_form (not (eqb a.assurance 0)) _ _ (late_rejection κ a Assurance refl)
      (late_form (not (pgn_ok a.pgn)) _ _ (late_rejection κ a PgnForm refl) (late_good x room)))))

late_judged : (s : Session) (n last : ℕ) (t : Bool) (j k : Judged) → Late (on_judged j s n last).answer → Late (on_judged k s n last).answer → Late (on_judged (cond t j k) s n last).answer
late_judged s n last true j k e f = e
late_judged s n last false j k e f = f

judged_late : (s : Session) (n room last : ℕ) → Late (on_judged (judged_of s n room) s n last).answer
unfolding judged_of is_later is_one_of
judged_late s n room last =
    late_judged s n last (eqb n 0 || already_in s n) _ _ refl
    (late_judged s n last (out_of_turn s n || ltb s.announced.segments.0 n) _ _ refl
    (late_judged s n last (ltb room (due_of s.announced.total.0 n)) _ _ refl
    (late (cts_due s.progress s.announced n) (answer.Grant (next_cts s.announced n)) (answer.Taken (record { key = s.announced.key; number = record { 0 = n } })) refl refl)))

segment_late : (x : Option Session) (sg : Segment) (last : ℕ) → Late (segment_to x sg last).answer
unfolding segment_to is_later is_one_of
segment_late x sg last = late_step (not (eqb sg.format 0)) _ _ refl (go x)
  where
    go : (y : Option Session) → Late (if_open y (λ s. segment_open s sg.number.0 sg.room last)).answer
    go None = refl
    go (Some s) = judged_late s sg.number.0 sg.room last

status_late : (x : Option Session) (slot : ℕ) (st : Status) (last : ℕ) → Late (status_to x slot st last).answer
unfolding status_to is_later is_one_of
status_late None slot st last = refl
status_late (Some s) slot st last = by_status (λ (r : Step). Late r.answer) s slot st last refl (λ _ _. refl) (λ _ _ _. refl) refl

abort_late : (x : Option Session) (pgn : ℕ) → Late (abort_to x pgn).answer
unfolding abort_to is_later is_one_of
abort_late None pgn = refl
abort_late (Some s) pgn = late_step (eqb pgn s.announced.pgn) _ _ refl refl

-- ---- a frame

-- with fault n it is refused with n, and nothing changes; where it has none (0) its number is none of the six
pub record Told (r : Receiver) (m : List ℕ) (n : ℕ) (o : Outcome) : Type 0 where
  pub fault : (n ≡ 0 → ⊥) → (x : Refusal) × (number_of x ≡ n) × (o ≡ (refused r x, m))
  pub none : n ≡ 0 → is_later (answer_number o.0.answer) ≡ true

module _ (r : Receiver) (d m : List ℕ) where
  at_fault : (x : Refusal) → Told r m (number_of x) (refused r x, m)
  at_fault x = record { fault = λ _. (x, refl, refl); none = λ e. absurd (some_number x e) }

  no_fault : (o : Outcome) → Late o.0.answer → Told r m 0 o
  no_fault o e = record { fault = λ z. absurd (z refl); none = λ _. e }

  -- groups: 4 to 8
  groups_late : (g : GroupsRead) (ρ : Route) → mild_groups g ≡ true → Late (groups_step g ρ r).answer
  unfolding is_later is_one_of
  groups_late (good gs) ρ e = refl
  groups_late (bad n) ρ e =
      let l : 4 ≤ number_of n = leb-true 4 (number_of n) (and_left (leb 4 (number_of n)) (leb (number_of n) 8) e) in
      let u : number_of n ≤ 8 = leb-true (number_of n) 8 (and_right (leb 4 (number_of n)) (leb (number_of n) 8) e) in
      rw (ne_eqb (number_of n) 23 (λ y. omega arith), ne_eqb (number_of n) 2 (λ y. omega arith), ne_eqb (number_of n) 1 (λ y. omega arith))
      (rw (ne_eqb (number_of n) 3 (λ y. omega arith), ne_eqb (number_of n) 9 (λ y. omega arith), ne_eqb (number_of n) 10 (λ y. omega arith)))

  -- a control, and in an Abort a role, that is a receiver's
  receivers : Bool
  receivers = is_one_of (control_at d) (0 ∷ 2 ∷ 4 ∷ []) || (eqb (control_at d) 15 && eqb (role_at d) 0)

  -- 16 for a responder's frame, else 10
  senders_number : number_of (not_receivers d) ≡ cond (from_responder d) 16 10
  unfolding from_responder is_one_of
  senders_number = go (eqb (control_at d) 1) (eqb (control_at d) 3) (eqb (control_at d) 15 && eqb (role_at d) 1)
    where
      go : (a b x : Bool) → number_of (cond (a || b || x) KeyNotOpen NeitherTakes) ≡ cond ((a || (b || false)) || x) 16 10
      go true b x = refl
      go false true x = refl
      go false false true = refl
      go false false false = refl

  control_told : (κ : Key) → Told r m (cond (not (eqb (length d) 12)) 9 (cond (not receivers) (cond (from_responder d) 16 10) 0)) (on_control (control_of d) r κ, m)
  unfolding control_of announce_step status_step abort_step is_later is_one_of receivers
  control_told κ =
      walk (λ (c : Result Control Refusal) (n : ℕ). Told r m n (on_control c r κ, m)) (not (eqb (length d) 12)) (not (eqb (length d) 12)) refl (λ _. at_fault TransferLength)
      (λ _. go (eqb (control_at d) 0) (eqb (control_at d) 4) (eqb (control_at d) 2) (eqb (control_at d) 15 && eqb (role_at d) 0))
    where
      go : (a b s x : Bool)
          → Told r m (cond (not ((a || (s || (b || false))) || x)) (cond (from_responder d) 16 10) 0) (
            on_control (cond a (Ok (control.Announce (announcement_at Rts d)))
                (cond b (Ok (control.Announce (announcement_at Bam d)))
                (cond s (Ok (control.EndOfMessage (status_at d))) (cond x (Ok (control.Abort (abort_pgn_at d))) (Err (not_receivers d)))))) r κ,
            m,
          )
      go true b s x = no_fault _ (announce_late _ _ κ _ r.last)
      go false true true x = no_fault _ (announce_late _ _ κ _ r.last)
      go false true false x = no_fault _ (announce_late _ _ κ _ r.last)
      go false false true x = no_fault _ (status_late _ _ _ _)
      go false false false true = no_fault _ (abort_late _ _)
      go false false false false = subst (λ (n : ℕ). Told r m n (refused r (not_receivers d), m)) senders_number (at_fault (not_receivers d))

  data_told : (κ : Key) → Told r m (cond (ltb (length d) 5) 9 0) (on_data (data_frame_of d) r κ d m)
  unfolding data_frame_of segment_step
  data_told κ =
      walk (λ (c : Result Segment Refusal) (n : ℕ). Told r m n (on_data c r κ d m)) (ltb (length d) 5) (ltb (length d) 5) refl (λ _. at_fault TransferLength)
      (λ _. no_fault (on_data (Ok (segment_at d)) r κ d m) (segment_late _ (segment_at d) r.last))

  -- by PF
  by_pf : (pf : ℕ) (ρ : Route)
      → Told r m (cond (not (is_one_of pf (37 ∷ 77 ∷ 78 ∷ []))) 3 (cond (is_cut_short pf (length d)) 9 (cond (is_not_receivers pf d) (cond (from_responder d) 16 10) 0))) (on_verdict (by_format pf ρ) r d m)
  unfolding by_format control_step is_one_of is_cut_short is_not_receivers receivers
  by_pf pf ρ = go (eqb pf 37) (eqb pf 77) (eqb pf 78) refl refl refl
    where
      alone : (t : Bool) → (t || false) ≡ t
      alone true = refl
      alone false = refl

      go : (a b c : Bool) → eqb pf 37 ≡ a → eqb pf 77 ≡ b → eqb pf 78 ≡ c
          → Told r m (cond (not (a || (b || (c || false)))) 3 (cond ((b && not (eqb (length d) 12)) || (c && ltb (length d) 5)) 9 (cond (b && not receivers) (cond (from_responder d) 16 10) 0)))
          (on_verdict (cond a (Ok (verdict.MultiPg ρ)) (cond b (Ok (verdict.Control ρ)) (cond c (Ok (verdict.Data ρ)) (Err NotTaken)))) r d m)
      go true b c e f g =
          let z : pf ≡ 37 = eqb-true pf 37 e in
          let no-77 : b ≡ false = sym f ∙ ne_eqb pf 77 (λ y. omega arith) in
          let no-78 : c ≡ false = sym g ∙ ne_eqb pf 78 (λ y. omega arith) in
          rw (no-77, no-78) (no_fault (groups_step (groups_read d) ρ r, m) (groups_late (groups_read d) ρ (reading_mild d)))
      go false true c e f g =
          let z : pf ≡ 77 = eqb-true pf 77 f in
          let no-78 : c ≡ false = sym g ∙ ne_eqb pf 78 (λ y. omega arith) in
          rw (no-78, alone (not (eqb (length d) 12))) (control_told (key_of ρ d))
      go false false true e f g = data_told (key_of ρ d)
      go false false false e f g = at_fault NotTaken

-- SA, DA and pages, in the receiver's order
pub route_same : (x a b c : Bool) → (x && not (a || (b || (c || false)))) ≡ (x && not a && not b && not c)
route_same false a b c = refl
route_same true true b c = refl
route_same true false true c = refl
route_same true false false true = refl
route_same true false false false = refl

split : (x y : Bool) (n : ℕ) → cond (not (x && y)) 3 n ≡ cond (not x) 3 (cond (not y) 3 n)
split true y n = refl
split false y n = refl

-- Every frame, on every record and with every buffer: of 23, 2, 1, 3, 9, 16 for a sender's frame and 10 the first that applies is answered
-- and changes nothing; where none applies, none of the six but 16 is answered.
pub first_fault_lem : (r : Receiver) (id : ℕ) (d m : List ℕ) → Told r m (first_fault (is_ready r m) r.own id d) (frame_all r id d m)
unfolding frame_all judged-frame first_fault is_taken_here is_one_of
first_fault_lem r id d m = go (is_ready r m)
  where
    P : Result Content Refusal → ℕ → Type 0
    P v n = Told r m n (on_verdict v r d m)

    routed : P (cond (not (route_taken r.own (identifier_of id))) (Err NotTaken) (by_format (identifier_of id).pf (route_of (identifier_of id))))
        (cond (not (is_taken_here r.own id)) 3 (cond (is_cut_short (identifier_of id).pf (length d)) 9 (cond (is_not_receivers (identifier_of id).pf d) (cond (from_responder d) 16 10) 0)))
    routed =
        let t : Bool = eqb (identifier_of id).extended_data_page 0 && eqb (identifier_of id).data_page 0 && (eqb (identifier_of id).ps r.own.0 || eqb (identifier_of id).ps 255) in
        rw (split (t && not (is_one_of (identifier_of id).sa.0 (254 ∷ 255 ∷ r.own.0 ∷ []))) (is_one_of (identifier_of id).pf (37 ∷ 77 ∷ 78 ∷ []))
        (cond (is_cut_short (identifier_of id).pf (length d)) 9 (cond (is_not_receivers (identifier_of id).pf d) (cond (from_responder d) 16 10) 0)))
        (walk P (not (route_taken r.own (identifier_of id))) (not (t && not (is_one_of (identifier_of id).sa.0 (254 ∷ 255 ∷ r.own.0 ∷ []))))
        (ap not (route_same t (eqb (identifier_of id).sa.0 254) (eqb (identifier_of id).sa.0 255) (eqb (identifier_of id).sa.0 r.own.0)))
        (λ _. at_fault r d m NotTaken) (λ _. by_pf r d m (identifier_of id).pf (route_of (identifier_of id))))

    go : (t : Bool) → Told r m (first_fault t r.own id d) (cond t (on_verdict (judged-frame r.own id (length d)) r d m) (refused r OutOfBounds, m))
    go true =
        walk P (leb 536870912 id) (leb 536870912 id) refl (λ _. at_fault r d m IdentifierRange) (λ _.
        walk P (not (is_length (length d))) (not (is_one_of (length d) fd_lengths)) (ap not (length_same (length d))) (λ _. at_fault r d m FrameLength) (λ _. routed))
    go false = at_fault r d m OutOfBounds
