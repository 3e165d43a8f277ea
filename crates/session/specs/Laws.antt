-- What follows from the rules of one session: its bounds are kept, and its segments lie in the message.
use Rattle.std.specs.Prelude.{Result, ⊤, ◌≡◌, ℕ, ◌+◌, ◌-◌, ◌*◌, ◌/◌, ◌<◌, ◌≤◌, Bool, true, false, cond, not, ◌&&◌, ◌||◌, List, [], ◌∷◌, ◌==◌, ◌≢◌, nat_eq, nat_le, nat_lt, refl, Err, Ok}
use Rattle.std.proofs.Common.{sym, ap, subst, ◌∙◌, arith}
use borrow.Author.Tests.{ltb-false, leb-true, eqb-true, eqb-false, le-leb, eq-eqb, not-false}
use Rattle.laws.specs.Choice.{each_of, all_of_lem}
use Rattle.laws.specs.Bools.{clash, by_test, passed, neither_left, neither_right, not_both, implied, implies, cond_true, cond_false}
use Rattle.segments.specs.declared.Segments.{Segments}
use Rattle.segments.specs.Model.{is_in, put_in, missing_of, first_missing, agrees}
use Rattle.segments.specs.Laws.{agreed, agree_none, agree_put}
use Rattle.frame.specs.Pgn.{pgn_ok}
use Rattle.frame.specs.declared.refusal.Refusal.{Refusal}
use Rattle.transport.specs.declared.Key.{Key}
use Rattle.transport.specs.declared.Kind.{Kind}
use Rattle.transport.specs.declared.announcement.Announcement.{Announcement}
use Rattle.session.specs.declared.Session.{Session}
use Rattle.session.specs.declared.segment.Judged.TheVariants.{Refused, Ends, Takes}
use Rattle.transport.specs.Kinds.{is_rts}
use Rattle.progress.specs.declared.Announced.{Announced}
use Rattle.progress.specs.declared.Progress.{Progress}
use Rattle.progress.specs.declared.wait.Wait.{Wait}
use Rattle.progress.specs.Forward.{grant_of, cts_due, advanced_by}
use Rattle.progress.specs.Requests.{asked_count, requested_by}
use Rattle.progress.specs.Asked.{asked_from, asked_to_lem, asked_some}
use Rattle.progress.specs.Waits.{is_second}
use Rattle.session.specs.Announcements.{bad_numbers, form_of, announced_by, session_of}
use Rattle.session.specs.Segments.{due_of, already_in, out_of_turn, judged_of}
use Rattle.session.specs.Bounds.{announced_ok, gathered_ok, sequence_ok, progress_ok, Agreed, AgreedIn, Gathered, InSequence, Reached}

-- ---- grants

pub grant_left : (max left : ℕ) → grant_of max left ≤ left
unfolding grant_of
grant_left max left = omega arith

pub grant_some : (max left : ℕ) → 1 ≤ max → 1 ≤ left → 1 ≤ grant_of max left
unfolding grant_of
grant_some max left m l = omega arith

-- the last granted after segment n, whether or not a CTS is due
pub grant_next : (due : Bool) (n granted segments max : ℕ) → 1 ≤ n → n ≤ segments → 1 ≤ granted → granted ≤ segments
    → (1 ≤ cond due (n + grant_of max (segments - n)) granted) × (cond due (n + grant_of max (segments - n)) granted ≤ segments)
grant_next true n granted segments max l u g h =
    let left : grant_of max (segments - n) ≤ segments - n = grant_left max (segments - n) in
    (omega arith, omega arith)
grant_next false n granted segments max l u g h = (g, h)

-- ---- an announcement of good form

bad≢good : (x : Refusal) → ◌≢◌ {A = Result ⊤ Refusal} (Err x) (Ok tt)
bad≢good x e = let z : ◌≡◌ {A = ℕ} 0 1 = cc in omega arith

-- the numbers agree, and no assurance data is announced
pub form_agreed : (a : Announcement) → form_of a ≡ Ok tt
    → Agreed a.kind a.total.0 a.segments.0 a.max a.pgn × (a.assurance ≡ 0)
unfolding form_of
form_agreed a e =
    let p₁ = passed (bad_numbers a) _ _ _ (bad≢good _) e in
    let p₂ = passed (nat_lt 4096 a.total.0) _ _ _ (bad≢good _) p₁.1 in
    let p₃ = passed (not (a.assurance == 0)) _ _ _ (bad≢good _) p₂.1 in
    let p₄ = passed (not (pgn_ok a.pgn)) _ _ _ (bad≢good _) p₃.1 in
    let none : Bool = nat_eq a.total.0 0 in
    let right : Bool = nat_eq a.segments.0 ((a.total.0 + 59) / 60) in
    let mute : Bool = is_rts a.kind && nat_eq a.max 0 in
    let q = neither_left (none || not right) mute p₁.0 in
    let some : a.total.0 ≡ 0 → ⊥ = eqb-false _ _ (neither_left none (not right) q) in (
      record {
        some = omega arith;
        fits = ltb-false _ _ p₂.0;
        count = eqb-true _ _ (not-false right (neither_right none (not right) q));
        form = not-false _ p₄.0;
        grants =
            λ r.
            let m : a.max ≡ 0 → ⊥ = eqb-false _ _ (not_both _ _ (neither_right (none || not right) mute p₁.0) r) in
            omega arith;
      },
      eqb-true _ _ (not-false _ p₃.0),
    )

-- ---- bounds as tests and as facts

announced_tests : Announced → List Bool
announced_tests a =
    nat_le 1 a.total.0
    ∷ nat_le a.total.0 4096
    ∷ (a.segments.0 == (a.total.0 + 59) / 60)
    ∷ pgn_ok a.pgn
    ∷ (not (is_rts a.kind) || nat_le 1 a.max)
    ∷ []

pub announced_agreed : (a : Announced) → announced_ok a ≡ true → AgreedIn a
unfolding announced_tests
announced_agreed a e =
    let t = each_of (announced_tests a) e in
    record {
      some = leb-true _ _ t.0;
      fits = leb-true _ _ t.1.0;
      count = eqb-true _ _ t.1.1.0;
      form = t.1.1.1.0;
      grants = λ r. leb-true _ _ (implied _ _ t.1.1.1.1.0 r);
    }

pub agreed_announced : (a : Announced) → AgreedIn a → announced_ok a ≡ true
unfolding announced_tests
agreed_announced a h =
    all_of_lem (announced_tests a) (
      le-leb _ _ h.some,
      (
        le-leb _ _ h.fits,
        (eq-eqb _ _ h.count, (h.form, (implies _ _ (λ r. le-leb _ _ (h.grants r)), tt))),
      ),
    )

module _ (taken : Segments) (missing requests granted segments : ℕ) where
  gathered_tests : List Bool
  gathered_tests = agrees taken segments missing ∷ nat_le requests 5 ∷ nat_le 1 granted ∷ nat_le granted segments ∷ []

  gathered_of : gathered_ok taken missing requests granted segments ≡ true → Gathered taken missing requests granted segments
  unfolding gathered_tests
  gathered_of e =
      let t = each_of gathered_tests e in
      record { agree = t.0; few = leb-true _ _ t.1.0; low = leb-true _ _ t.1.1.0; high = leb-true _ _ t.1.1.1.0 }

  of_gathered : Gathered taken missing requests granted segments → gathered_ok taken missing requests granted segments ≡ true
  unfolding gathered_tests
  of_gathered h = all_of_lem gathered_tests (h.agree, (le-leb _ _ h.few, (le-leb _ _ h.low, (le-leb _ _ h.high, tt))))

module _ (next segments : ℕ) (wait : Wait) where
  sequence_tests : List Bool
  sequence_tests = nat_le 1 next ∷ nat_le next (segments + 1) ∷ is_second wait ∷ []

  sequence_of : sequence_ok next segments wait ≡ true → InSequence next segments wait
  unfolding sequence_tests
  sequence_of e =
      let t = each_of sequence_tests e in
      record { low = leb-true _ _ t.0; high = leb-true _ _ t.1.0; second = t.1.1.0 }

  of_sequence : InSequence next segments wait → sequence_ok next segments wait ≡ true
  unfolding sequence_tests
  of_sequence h = all_of_lem sequence_tests (le-leb _ _ h.low, (le-leb _ _ h.high, (h.second, tt)))

module _ (a : Announced) (p : Progress) where
  pub progress_reached : progress_ok a p ≡ true → Reached a p
  progress_reached e = record {
    gathered = λ r. gathered_of p.taken p.missing p.requests p.granted.0 a.segments.0 (sym (cond_true (is_rts a.kind) _ _ r) ∙ e);
    sequence = λ r. sequence_of p.next.0 a.segments.0 p.wait (sym (cond_false (is_rts a.kind) _ _ r) ∙ e);
  }

  pub reached_progress : Reached a p → progress_ok a p ≡ true
  reached_progress h = by_test (is_rts a.kind)
      (λ r. cond_true (is_rts a.kind) _ _ r ∙ of_gathered p.taken p.missing p.requests p.granted.0 a.segments.0 (h.gathered r))
      (λ r. cond_false (is_rts a.kind) _ _ r ∙ of_sequence p.next.0 a.segments.0 p.wait (h.sequence r))

-- ---- a session is in bounds when it opens

pub opened_agreed : (k : Key) (a : Announcement) → form_of a ≡ Ok tt → AgreedIn (announced_by k a)
opened_agreed k a e = (form_agreed a e).0

few_segments : (kind : Kind) (total segments max pgn : ℕ) → Agreed kind total segments max pgn → (1 ≤ segments) × (segments ≤ 69)
few_segments kind total segments max pgn h = (omega arith, omega arith)

pub opened_reached : (k : Key) (a : Announcement) (last : ℕ) → form_of a ≡ Ok tt → Reached (announced_by k a) (session_of k a last).progress
opened_reached k a last e =
    let f = (form_agreed a e).0 in
    let few = few_segments a.kind a.total.0 a.segments.0 a.max a.pgn f in
    record {
      gathered = λ r. rw r (record {
        agree = agree_none a.segments.0 few.1;
        few = omega arith;
        low = grant_some a.max a.segments.0 (f.grants r) few.0;
        high = grant_left a.max a.segments.0;
      });
      sequence = λ r. rw r (record { low = omega arith; high = omega arith; second = refl });
    }

-- ---- a segment that is taken

pub record Taking (s : Session) (n room : ℕ) : Type 0 where
  pub low : 1 ≤ n
  pub high : n ≤ s.announced.segments.0
  pub enough : due_of s.announced.total.0 n ≤ room
  -- it is not in an RTS's record, and is a BAM's next
  pub new : is_rts s.announced.kind ≡ true → is_in s.progress.taken n ≡ false
  pub next : is_rts s.announced.kind ≡ false → n ≡ s.progress.next.0

refused≢takes : (x : Refusal) → Refused x ≢ Takes
refused≢takes x e = let z : ◌≡◌ {A = ℕ} 0 1 = cc in omega arith

ends≢takes : (x : Refusal) → Ends x ≢ Takes
ends≢takes x e = let z : ◌≡◌ {A = ℕ} 0 1 = cc in omega arith

pub takes_taking : (s : Session) (n room : ℕ) → judged_of s n room ≡ Takes → Taking s n room
unfolding judged_of
takes_taking s n room e =
    let rts : Bool = is_rts s.announced.kind in
    let next : ℕ = s.progress.next.0 in
    let p₁ = passed (n == 0 || already_in s n) _ _ _ (refused≢takes _) e in
    let p₂ = passed (out_of_turn s n || nat_lt s.announced.segments.0 n) _ _ _ (ends≢takes _) p₁.1 in
    let p₃ = passed (nat_lt room (due_of s.announced.total.0 n)) _ _ _ (refused≢takes _) p₂.1 in
    let not_zero : n ≡ 0 → ⊥ = eqb-false _ _ (neither_left _ _ p₁.0) in
    record {
      low = omega arith;
      high = ltb-false _ _ (neither_right (out_of_turn s n) _ p₂.0);
      enough = ltb-false _ _ p₃.0;
      new = λ r. sym (cond_true rts _ _ r) ∙ neither_right (n == 0) (already_in s n) p₁.0;
      next =
          λ r.
          let not-below : s.progress.next.0 ≤ n = ltb-false _ _ (sym (cond_false rts _ _ r) ∙ neither_right (n == 0) (already_in s n) p₁.0) in
          let not-above : n ≤ s.progress.next.0 = ltb-false _ _ (not_both (not rts) (nat_lt next n) (neither_left (out_of_turn s n) (nat_lt s.announced.segments.0 n) p₂.0) (ap not r)) in
          omega arith;
    }

-- ---- a session stays in bounds as segments are taken

pub advanced_reached : (s : Session) (n room last : ℕ) → AgreedIn s.announced → Reached s.announced s.progress → judged_of s n room ≡ Takes
    → Reached s.announced (advanced_by s.progress s.announced n last)
advanced_reached s n room last a p e =
    let t = takes_taking s n room e in
    record {
      gathered =
          λ r.
          let g = p.gathered r in
          let put = agree_put s.progress.taken s.announced.segments.0 s.progress.missing n g.agree t.low t.high (t.new r) in
          let next = grant_next (cts_due s.progress s.announced n) n s.progress.granted.0 s.announced.segments.0 s.announced.max t.low t.high g.low g.high in
          record {
            agree = subst (λ (u : Bool). agrees (cond u (put_in s.progress.taken n) s.progress.taken) s.announced.segments.0 (cond u (s.progress.missing - 1) s.progress.missing) ≡ true) (sym r) put.1;
            few = g.few;
            low = next.0;
            high = next.1;
          };
      sequence =
          λ r.
          let q = p.sequence r in
          rw r (record { low = omega arith; high = omega arith; second = refl });
    }

-- and as missing ones are asked for
pub requested_reached : (s : Session) (last : ℕ) → AgreedIn s.announced → Reached s.announced s.progress → is_rts s.announced.kind ≡ true
    → (s.progress.missing ≢ 0) → s.progress.requests < 5 → Reached s.announced (requested_by s.progress s.announced last)
requested_reached s last a p r some few =
    let g = p.gathered r in
    let taken : Segments = s.progress.taken in
    let segments : ℕ = s.announced.segments.0 in
    let left : missing_of s.progress.taken s.announced.segments.0 ≡ s.progress.missing = (agreed taken segments s.progress.missing g.agree).missing in
    let from : 1 ≤ first_missing s.progress.taken s.announced.segments.0 = asked_from taken segments s.announced.max in
    let to : first_missing s.progress.taken s.announced.segments.0 - 1 + asked_count s.progress.taken s.announced.segments.0 s.announced.max ≤ s.announced.segments.0 =
    asked_to_lem taken segments s.announced.max in
    let one : 1 ≤ asked_count s.progress.taken s.announced.segments.0 s.announced.max =
    asked_some taken segments s.announced.max (omega arith) (a.grants r) in
    record {
      gathered = λ _. record { agree = g.agree; few = omega arith; low = omega arith; high = omega arith };
      sequence = λ q. absurd (clash (is_rts s.announced.kind) r q);
    }

-- ---- where the data of a segment lies

-- in the message
pub segment_inside : (total n : ℕ) → 1 ≤ n → n ≤ (total + 59) / 60 → 60 * (n - 1) + due_of total n ≤ total
unfolding due_of
segment_inside total n l u = omega arith

-- before every later one
pub segment_apart : (total i n : ℕ) → 1 ≤ i → i < n → 60 * (i - 1) + due_of total i ≤ 60 * (n - 1)
unfolding due_of
segment_apart total i n l u = omega arith

-- the data of a segment that is taken lies in the message, and so in a slot
pub taken_inside : (s : Session) (n room : ℕ) → AgreedIn s.announced → judged_of s n room ≡ Takes → 60 * (n - 1) + due_of s.announced.total.0 n ≤ s.announced.total.0
taken_inside s n room a e =
    let t = takes_taking s n room e in
    segment_inside s.announced.total.0 n t.low (omega arith)
