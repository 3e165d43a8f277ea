-- What the receiver does with the frame expected next, and with what a broadcast finds after a loss. It and Requests know its rules; the
-- rest sees `session_at` shut.
use Rattle.std.specs.Prelude.{None, Option, Some}
use Prim.Native.Nat.{ℕ, suc, ◌+◌, ◌-◌, ◌/◌, ◌%◌, ◌≤◌, ◌<◌}
use mathlib.Core.Path.{◌≡◌, refl, ap, ◌∙◌}
use mathlib.Core.Logic.{◌⊎◌, inl, inr}
use mathlib.Core.Bool.{true, false, cond, not, ◌&&◌, and-false}
use mathlib.Core.List.{List, ◌∷◌}
use native.Mathlib.Omega.{arith}
use native.Mathlib.Decide.{ℕ_discrete}
use lib.Dec.{eqb}
use lib.ListN.{length, take}
use borrow.Author.Tests.{eqb-true, eq-eqb, ne_eqb, le-ltb, lt-ltb}
use Rattle.progress.specs.declared.wait.Wait.{Wait}
use Rattle.progress.specs.declared.wait.Wait.TheVariants.{First, Second}
use Rattle.transport.specs.declared.Kind.{Kind}
use Rattle.transport.specs.declared.Kind.TheVariants.{Rts, Bam}
use Rattle.transport.specs.declared.announcement.Announcement.{Announcement}
use Rattle.transport.specs.Segments.{data_at}
use Rattle.progress.specs.Forward.{grant_of}
use Rattle.session.specs.Segments.{due_of}
use Rattle.transfer.specs.Transfers.{segments_of, kind_of, max_of, announcement_of}
use Rattle.transfer.specs.Sends.{piece_of, offer_wire, segment_wire, status_wire}
use Rattle.isolation.specs.Standard.{number_for}
use Rattle.isolation.specs.OwnFrames.{key_at, is_rts, announce}
use Rattle.isolation.specs.Replies.{Wire, Says, Reply, handed, opened, took, ended, refuse, ending, sent, cts, plain, hand_over}
use Rattle.isolation.specs.Rules.{Piece, Open, joined, misdirected, bad_numbers, opens, admitted, announced, due, spent, adds, out_of_turn, segment_open, as_announced, lacks, status_open, rule}
use Rattle.isolation.proofs.Same.{pgn_same, sixties_same, grant_same, due_same}
use Rattle.delivery.specs.Link.{Setting, key_in, offer, by_body, received}
use Rattle.delivery.specs.Arrival.{Fair}
use Rattle.delivery.specs.Losses.{to_answer}
use Rattle.delivery.proofs.InSequence.{cut, length_cut, taken_same, joined_cut}
use Rattle.delivery.proofs.Wires.{frame_of, eoma_wire, few_segments, reads_for, on_offer, on_status, on_segment, data_taken, data_long}

-- ---- the segments of the message; its kind, by its destination

abbrev pub count : Setting → ℕ
count s = segments_of (length s.message)

abbrev pub Goes : Kind → ℕ → Type 0
Goes Rts k = eqb (k / 16 % 256) 255 ≡ false
Goes Bam k = eqb (k / 16 % 256) 255 ≡ true

pub kind_is : (κ : Kind) (k : ℕ) → Goes κ k → kind_of (key_at k).da ≡ κ
kind_is Rts k e = rw e
kind_is Bam k e = rw e

unfoldable pub announcement_for : Kind → Setting → Announcement
announcement_for κ s = record { kind = κ; total = record { 0 = length s.message }; segments = record { 0 = count s }; max = max_of κ (count s); assurance = 0; pgn = s.pgn }

announced_is : (κ : Kind) (s : Setting) → Goes κ s.key → announcement_of (offer s) ≡ announcement_for κ s
unfolding announcement_for
announced_is κ s e = rw (kind_is κ s.key e)

-- ---- the session with segments 1 to j taken, granted to g

-- from when its silence counts, and which of the two it is
pub record Silence : Type 0 where
  pub mark : ℕ
  pub wait : Wait

pub session_at : Kind → Setting → Silence → ℕ → ℕ → Open
session_at κ s q j g = record {
  told = announcement_for κ s;
  mark = q.mark;
  wait = q.wait;
  granted = cond (is_rts κ) g 0;
  requests = 0;
  pieces = cut (length s.message) j s.message;
}

abbrev pub from : ℕ → Wait → Silence
from last wait = record { mark = last; wait = wait }

-- ---- the announcement

module _ (s : Setting) (fair : Fair s) where
  pub some_segments : 1 ≤ count s
  unfolding segments_of
  some_segments = let h : 1 ≤ length s.message = fair.some_bytes in omega arith

  aimed_well : (κ : Kind) → Goes κ s.key → misdirected s.values.own s.key κ ≡ false
  unfolding misdirected
  aimed_well Rts e = e
  aimed_well Bam e =
      let z : s.key / 16 % 256 ≡ 255 = eqb-true (s.key / 16 % 256) 255 e in
      let r : s.values.own.0 < 254 = fair.receiver in
      ne_eqb (s.key / 16 % 256) s.values.own.0 (λ y. omega arith)

  good_numbers : (κ : Kind) → bad_numbers (announcement_for κ s) ≡ false
  unfolding bad_numbers announcement_for is_rts segments_of
  good_numbers κ =
      let h : 1 ≤ length s.message = fair.some_bytes in
      rw (ne_eqb (length s.message) 0 (λ e. omega arith), sixties_same (length s.message), eq-eqb ((length s.message + 59) / 60) ((length s.message + 59) / 60) refl) (go κ)
    where
      go : (κ : Kind) → (is_rts κ && eqb (max_of κ (segments_of (length s.message))) 0) ≡ false
      go Rts =
          let l : 1 ≤ count s = some_segments in
          let u : count s ≤ 69 = few_segments s fair in
          ne_eqb (count s % 256) 0 (λ e. omega arith)
      go Bam = refl

  pub accepted : (κ : Kind) → Goes κ s.key → (last : ℕ) → received s None last (offer_wire (offer s)) ≡ opens s.key last (announcement_for κ s)
  unfolding rule announced admitted announcement_for
  accepted κ e last =
      ap (by_body s None last) (reads_for s _ _ (on_offer s fair) ∙ ap (λ (a : Announcement). Some (announce a)) (announced_is κ s e))
      ∙ rw (aimed_well κ e, good_numbers κ, le-ltb 4096 (length s.message) fair.few_bytes, pgn_same s.pgn, fair.in_form)

  -- an RTS is answered by a first grant; a broadcast has all from the start
  abbrev pub Opened : Kind → ℕ → Type 0
  Opened Rts last =
      (c : ℕ) × (1 ≤ c) × (c ≤ count s)
      × (received s None last (offer_wire (offer s)) ≡ (Some (session_at Rts s (from last First) 0 c), cts s.key 1 c s.pgn))
  Opened Bam last =
      received s None last (offer_wire (offer s)) ≡ (Some (session_at Bam s (from last Second) 0 (count s)), plain (opened (key_in s)))

  -- the grants that an RTS session gives
  granted_next : (left : ℕ) → 1 ≤ left → left ≤ count s → (1 ≤ grant_of (count s % 256) left) × (grant_of (count s % 256) left ≤ left)
  unfolding grant_of
  granted_next left l u = let h : count s ≤ 69 = few_segments s fair in (omega arith, omega arith)

  pub on_announcement : (κ : Kind) → Goes κ s.key → (last : ℕ) → Opened κ last
  unfolding opens session_at announcement_for is_rts cut
  on_announcement Rts e last =
      let g = granted_next (count s) some_segments (omega arith) in
      (grant_of (count s % 256) (count s), g.0, g.1, accepted Rts e last ∙ rw (grant_same (count s % 256) (count s)))
  on_announcement Bam e last = accepted Bam e last

-- ---- the next segment

next_piece : (m : List ℕ) (j : ℕ) → ◌≡◌ {A = List Piece} (record { number = j + 1; bytes = piece_of m (j + 1) } ∷ cut (length m) j m) (cut (length m) (j + 1) m)
unfolding cut
next_piece m j = let z : j + 1 ≡ suc j = omega arith in rw z

module _ (s : Setting) (fair : Fair s) (last : ℕ) (q : Silence) (j g : ℕ) (l : j < count s) where
  in_turn : (κ : Kind) → out_of_turn (session_at κ s q j g) (j + 1) ≡ false
  unfolding out_of_turn session_at
  in_turn κ = rw (length_cut (length s.message) j s.message, le-ltb (j + 1) (j + 1) (omega arith)) (and-false (not (is_rts (session_at κ s q j g).told.kind)))

  -- it is in order and whole, so it is added
  in_order : (κ : Kind) → received s (Some (session_at κ s q j g)) last (segment_wire (key_in s) s.message (j + 1))
      ≡ adds s.key last (session_at κ s q j g) (j + 1) (data_at (frame_of s fair (j + 1)))
  unfolding rule segment_open session_at announcement_for
  in_order κ =
      ap (by_body s (Some (session_at κ s q j g)) last) (reads_for s _ _ (on_segment s fair (j + 1) (omega arith) (omega arith)))
      ∙ rw (
        in_turn κ,
        taken_same (length s.message) j s.message (j + 1),
        ne_eqb (j + 1) 0 (λ e. omega arith),
        le-ltb (j + 1) (j + 1) (omega arith),
        le-ltb (count s) (j + 1) (omega arith),
        due_same (length s.message) (j + 1) (omega arith),
        le-ltb (length (data_at (frame_of s fair (j + 1)))) (due_of (length s.message) (j + 1)) (data_long s fair (j + 1) (omega arith) (omega arith)),
      )

  -- an RTS session: as yet no answer, or the grant is used up and the next one goes out
  pub data SegmentTaken : Type 0 where
    quiet : (j + 1 < g) ⊎ (j + 1 ≡ count s)
        → received s (Some (session_at Rts s q j g)) last (segment_wire (key_in s) s.message (j + 1))
        ≡ (Some (session_at Rts s (from last Second) (j + 1) g), plain (took (key_in s) (j + 1)))
        → SegmentTaken
    grants : j + 1 ≡ g → (c : ℕ) → 1 ≤ c → j + 1 + c ≤ count s
        → received s (Some (session_at Rts s q j g)) last (segment_wire (key_in s) s.message (j + 1))
        ≡ (Some (session_at Rts s (from last First) (j + 1) (j + 1 + c)), cts s.key (j + 1 + 1) c s.pgn)
        → SegmentTaken

  piece_here : take (due (length s.message) (j + 1)) (data_at (frame_of s fair (j + 1))) ≡ piece_of s.message (j + 1)
  piece_here = data_taken s fair (j + 1) (omega arith) (omega arith)

  pub on_segment_rts : j < g → g ≤ count s → SegmentTaken
  unfolding session_at announcement_for adds spent is_rts
  on_segment_rts h u = go (ℕ_discrete (j + 1) g) (ℕ_discrete (j + 1) (count s))
    where
      go : Dec (j + 1 ≡ g) → Dec (j + 1 ≡ count s) → SegmentTaken
      go (no e) f = quiet (inl (omega arith)) (in_order Rts ∙ rw (ne_eqb (j + 1) g e, piece_here, next_piece s.message j))
      go (yes e) (yes f) =
          quiet (inr f) (in_order Rts ∙ rw (eq-eqb (j + 1) g e, le-ltb (j + 1) (count s) (omega arith), piece_here, next_piece s.message j))
      go (yes e) (no f) =
          let left : j + 1 < count s = omega arith in
          let b = granted_next s fair (count s - (j + 1)) (omega arith) (omega arith) in
          let c : ℕ = grant_of (count s % 256) (count s - (j + 1)) in
          let c₁ : c ≤ count s - (j + 1) = b.1 in
          grants e c b.0 (omega arith)
          (in_order Rts
          ∙ rw (eq-eqb (j + 1) g e, lt-ltb (j + 1) (count s) left, piece_here, next_piece s.message j, grant_same (count s % 256) (count s - (j + 1))))

  pub on_segment_bam : received s (Some (session_at Bam s q j g)) last (segment_wire (key_in s) s.message (j + 1))
      ≡ (Some (session_at Bam s (from last Second) (j + 1) g), plain (took (key_in s) (j + 1)))
  unfolding session_at announcement_for adds spent is_rts
  on_segment_bam = in_order Bam ∙ rw (piece_here, next_piece s.message j)

-- ---- the EOMS with all in

joined_all : (m : List ℕ) → joined (segments_of (length m)) (cut (length m) (segments_of (length m)) m) ≡ m
unfolding segments_of
joined_all m = joined_cut (segments_of (length m)) m refl

-- the message is handed over, and an EOMA goes out for an RTS
abbrev pub handed_by : Kind → Setting → Says
handed_by κ s = handed (key_in s) κ (length s.message) (count s) s.pgn s.message

abbrev pub acknowledged : Kind → Setting → Option Wire
acknowledged Rts s = Some (eoma_wire s)
acknowledged Bam s = None

pub hands_over_lem : (κ : Kind) (s : Setting) → hand_over s.key (announcement_for κ s) s.message ≡ record { number = 0; says = handed_by κ s; sends = acknowledged κ s }
unfolding hand_over announcement_for is_rts sent
hands_over_lem Rts s = refl
hands_over_lem Bam s = refl

pub on_eoms : (s : Setting) → Fair s → (κ : Kind) (last : ℕ) (q : Silence) (g : ℕ)
    → received s (Some (session_at κ s q (count s) g)) last (status_wire (offer s)) ≡ (None, record { number = 0; says = handed_by κ s; sends = acknowledged κ s })
unfolding rule status_open as_announced session_at announcement_for
on_eoms s fair κ last q g =
    ap (by_body s (Some (session_at κ s q (count s) g)) last) (reads_for s _ _ (on_status s fair))
    ∙ rw (
      length_cut (length s.message) (count s) s.message,
      eq-eqb (count s) (count s) refl,
      eq-eqb (length s.message) (length s.message) refl,
      eq-eqb s.pgn s.pgn refl,
      joined_all s.message,
    )
    (ap (λ (r : Reply). (None, r)) (hands_over_lem κ s))

-- ---- a broadcast that has lost a segment, and one that has ended

-- the session has ended by a refusal
abbrev pub broken_off : Setting → ℕ → Reply
broken_off s n = record { number = n; says = ended (key_in s) Bam s.pgn; sends = None }

module _ (s : Setting) (fair : Fair s) (last : ℕ) (q : Silence) where
  pub later_segment : (a j g : ℕ) → a < j → j < count s
      → received s (Some (session_at Bam s q a g)) last (segment_wire (key_in s) s.message (j + 1)) ≡ (None, broken_off s 19)
  unfolding rule segment_open out_of_turn session_at announcement_for is_rts
  later_segment a j g l u =
      ap (by_body s (Some (session_at Bam s q a g)) last) (reads_for s _ _ (on_segment s fair (j + 1) (omega arith) (omega arith)))
      ∙ rw (
        taken_same (length s.message) a s.message (j + 1),
        ne_eqb (j + 1) 0 (λ e. omega arith),
        le-ltb (j + 1) (a + 1) (omega arith),
        length_cut (length s.message) a s.message,
        lt-ltb (a + 1) (j + 1) (omega arith),
      )
      (unfold ending number_for in refl)

  pub early_eoms : (a g : ℕ) → a < count s → received s (Some (session_at Bam s q a g)) last (status_wire (offer s)) ≡ (None, broken_off s 21)
  unfolding rule status_open as_announced lacks session_at announcement_for is_rts
  early_eoms a g l =
      ap (by_body s (Some (session_at Bam s q a g)) last) (reads_for s _ _ (on_status s fair))
      ∙ rw (
        length_cut (length s.message) a s.message,
        ne_eqb a (count s) (λ e. omega arith),
        eq-eqb (count s) (count s) refl,
        eq-eqb (length s.message) (length s.message) refl,
        eq-eqb s.pgn s.pgn refl,
      )
      (unfold ending number_for in refl)

  pub closed_segment : (j : ℕ) → j < count s → received s None last (segment_wire (key_in s) s.message (j + 1)) ≡ (None, refuse 16)
  unfolding rule
  closed_segment j l = ap (by_body s None last) (reads_for s _ _ (on_segment s fair (j + 1) (omega arith) (omega arith)))

  pub closed_eoms : received s None last (status_wire (offer s)) ≡ (None, refuse 16)
  unfolding rule
  closed_eoms = ap (by_body s None last) (reads_for s _ _ (on_status s fair))

-- it sends no CTS
pub answers_none : (s : Setting) (q : Silence) (a g : ℕ) → to_answer s (Some (session_at Bam s q a g)) ≡ 0
unfolding to_answer session_at announcement_for is_rts
answers_none s q a g = refl
