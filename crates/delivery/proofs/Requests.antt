-- What an RTS session does with its segments and its EOMS, whatever is in. It and Expected know the receiver's rules; the rest sees `sess`
-- shut.
use Rattle.std.specs.Prelude.{None, Some}
use Prim.Native.Nat.{ℕ, zero, suc, ◌+◌, ◌*◌, ◌-◌, ◌%◌, ◌≤◌, ◌<◌}
use mathlib.Core.Path.{◌≡◌, refl, sym, ap, ◌∙◌}
use mathlib.Core.Logic.{◌⊎◌, inl, inr}
use mathlib.Core.Bool.{Bool, true, false, cond, not, and-false, false≢true}
use mathlib.Core.List.{List, [], ◌∷◌}
use native.Mathlib.Omega.{arith}
use native.Mathlib.Decide.{ℕ_discrete, dec_lt}
use lib.Dec.{eqb, ltb}
use lib.ListN.{length, take}
use borrow.Author.Tests.{eq-eqb, ne_eqb, le-ltb, lt-ltb}
use Rattle.laws.specs.Bools.{both}
use Rattle.progress.specs.declared.wait.Wait.TheVariants.{First, Second}
use Rattle.transport.specs.declared.Kind.TheVariants.{Rts}
use Rattle.transport.specs.Segments.{data_at}
use Rattle.progress.specs.Forward.{grant_of}
use Rattle.session.specs.Segments.{due_of}
use Rattle.transfer.specs.Transfers.{segments_of}
use Rattle.transfer.specs.Sends.{piece_of, offer_wire, segment_wire, status_wire}
use Rattle.isolation.specs.Standard.{requests_spent, number_for}
use Rattle.isolation.specs.OwnFrames.{is_rts, segment}
use Rattle.isolation.specs.Replies.{Wire, Reply, ended, took, sent, cts, plain, ending, hand_over}
use Rattle.isolation.specs.Rules.{Piece, Open, is_taken, joined, opens, due, spent, adds, out_of_turn, segment_open, as_announced, asks, lacks, status_open, rule}
use Rattle.isolation.proofs.Same.{grant_same, due_same}
use Rattle.delivery.specs.Link.{Setting, key_in, offer, body_for, by_body, received}
use Rattle.delivery.specs.Arrival.{Fair}
use Rattle.delivery.specs.Losses.{is_needed, may_lose, MayLoseOldest, to_answer, Spent}
use Rattle.delivery.proofs.Wires.{frame_of, few_segments, reads_for, on_status, on_segment, data_taken, data_long, abort_wire}
use Rattle.delivery.proofs.Expected.{count, Goes, Silence, from, announcement_for, accepted, some_segments, handed_by, acknowledged, hands_over_lem}
use Rattle.isolation.proofs.Gathered.{Gathered, joined_whole, not_yet}
use Rattle.delivery.proofs.Missing.{gap_from, gap_length, first_gap}

-- granted to g, r requests made, xs taken
pub sess : Setting → Silence → ℕ → ℕ → List Piece → Open
sess s q g r xs = record { told = announcement_for Rts s; mark = q.mark; wait = q.wait; granted = g; requests = r; pieces = xs }

abbrev pub piece_no : Setting → ℕ → Piece
piece_no s n = record { number = n; bytes = piece_of s.message n }

-- what is in is the message's, none twice
abbrev pub Good : Setting → List Piece → Type 0
Good s xs = Gathered (length s.message) (count s) s.message xs

-- after this grant the sender owes an EOMS: requests have been made, or it goes to the end
abbrev pub Last : Setting → ℕ → ℕ → Type 0
Last s r g = (1 ≤ r) ⊎ (g ≡ count s)

pub last_or_not : (s : Setting) (r g : ℕ) → g ≤ count s → Last s r g ⊎ ((r ≡ 0) × (g < count s))
last_or_not s (suc r) g b = inl (inl (omega arith))
last_or_not s zero g b = go (dec_lt g (count s))
  where
    go : Dec (g < count s) → Last s 0 g ⊎ ((◌≡◌ {A = ℕ} 0 0) × (g < count s))
    go (yes l) = inr (refl, l)
    go (no l) = inl (inr (omega arith))

-- after j, what is granted is not in, and before the first request nothing is
abbrev pub Fresh : ℕ → ℕ → List Piece → ℕ → Type 0
Fresh g r xs j = (i : ℕ) → j < i → (i ≤ g) ⊎ (r ≡ 0) → is_taken i xs ≡ false

pub fresh_first : (g r : ℕ) → Fresh g r [] 0
unfolding is_taken
fresh_first g r i l h = refl

pub fresh_next : (g g' r : ℕ) (s : Setting) (xs : List Piece) (j : ℕ) → Fresh g r xs j → ((g' ≡ g) ⊎ (r ≡ 0)) → Fresh g' r (piece_no s (j + 1) ∷ xs) (j + 1)
unfolding is_taken
fresh_next g g' r s xs j f w i l h = rw (ne_eqb (j + 1) i (λ e. omega arith)) (f i (omega arith) (both w h))
  where
    both : (g' ≡ g) ⊎ (r ≡ 0) → (i ≤ g') ⊎ (r ≡ 0) → (i ≤ g) ⊎ (r ≡ 0)
    both (inr z) h = inr z
    both (inl e) (inr z) = inr z
    both (inl e) (inl h) = inl (omega arith)

-- the grants that it gives
module _ (s : Setting) (fair : Fair s) where
  granted_of : (left : ℕ) → 1 ≤ left → left ≤ count s
      → (1 ≤ grant_of (count s % 256) left) × (grant_of (count s % 256) left ≤ 16) × (grant_of (count s % 256) left ≤ left)
  unfolding grant_of
  granted_of left l u = let h : count s ≤ 69 = few_segments s fair in (omega arith, omega arith, omega arith)

  -- ---- the announcement

  pub opens_first : Goes Rts s.key → (last : ℕ)
      → (c : ℕ) × (1 ≤ c) × (c ≤ 16) × (c ≤ count s)
      × (received s None last (offer_wire (offer s)) ≡ (Some (sess s (from last First) c 0 []), cts s.key 1 c s.pgn))
  unfolding opens sess announcement_for is_rts
  opens_first goes last =
      let g = granted_of (count s) (some_segments s fair) (omega arith) in
      (grant_of (count s % 256) (count s), g.0, g.1, g.2, accepted s fair Rts goes last ∙ rw (grant_same (count s % 256) (count s)))

-- ---- a segment

pub data SegmentIn (s : Setting) (last : ℕ) (q : Silence) (g r : ℕ) (xs : List Piece) (j : ℕ) : Type 0 where
  quiet : (j + 1 < g) ⊎ Last s r g
      → received s (Some (sess s q g r xs)) last (segment_wire (key_in s) s.message (j + 1))
      ≡ (Some (sess s (from last Second) g r (piece_no s (j + 1) ∷ xs)), plain (took (key_in s) (j + 1)))
      → SegmentIn s last q g r xs j
  grants : j + 1 ≡ g → r ≡ 0 → (c : ℕ) → 1 ≤ c → c ≤ 16 → j + 1 + c ≤ count s
      → received s (Some (sess s q g r xs)) last (segment_wire (key_in s) s.message (j + 1))
      ≡ (Some (sess s (from last First) (j + 1 + c) r (piece_no s (j + 1) ∷ xs)), cts s.key (j + 1 + 1) c s.pgn)
      → SegmentIn s last q g r xs j

module _ (s : Setting) (fair : Fair s) (last : ℕ) (q : Silence) (g : ℕ) (xs : List Piece) (j : ℕ) (l : j < count s) where
  added : (r : ℕ) → is_taken (j + 1) xs ≡ false
      → received s (Some (sess s q g r xs)) last (segment_wire (key_in s) s.message (j + 1))
      ≡ adds s.key last (sess s q g r xs) (j + 1) (data_at (frame_of s fair (j + 1)))
  unfolding rule segment_open out_of_turn sess announcement_for is_rts
  added r u =
      ap (by_body s (Some (sess s q g r xs)) last) (reads_for s _ _ (on_segment s fair (j + 1) (omega arith) (omega arith)))
      ∙ rw (
        ne_eqb (j + 1) 0 (λ e. omega arith),
        u,
        le-ltb (count s) (j + 1) (omega arith),
        due_same (length s.message) (j + 1) (omega arith),
        le-ltb (length (data_at (frame_of s fair (j + 1)))) (due_of (length s.message) (j + 1)) (data_long s fair (j + 1) (omega arith) (omega arith)),
      )

  piece_here : take (due (length s.message) (j + 1)) (data_at (frame_of s fair (j + 1))) ≡ piece_of s.message (j + 1)
  piece_here = data_taken s fair (j + 1) (omega arith) (omega arith)

  -- no CTS
  adds_quietly : (r : ℕ) → spent (sess s q g r xs) (j + 1) ≡ false
      → adds s.key last (sess s q g r xs) (j + 1) (data_at (frame_of s fair (j + 1)))
      ≡ (Some (sess s (from last Second) g r (piece_no s (j + 1) ∷ xs)), plain (took (key_in s) (j + 1)))
  unfolding sess announcement_for adds
  adds_quietly r e = rw (e, piece_here)

  asked_before : (r : ℕ) → spent (sess s q g (suc r) xs) (j + 1) ≡ false
  unfolding sess announcement_for spent is_rts
  asked_before r = rw (ne_eqb (suc r) 0 (λ e. omega arith), and-false (ltb (j + 1) (count s))) (and-false (eqb (j + 1) g))

  pub on_segment_any : (r : ℕ) → j < g → g ≤ count s → is_taken (j + 1) xs ≡ false → SegmentIn s last q g r xs j
  unfolding sess announcement_for adds spent is_rts
  on_segment_any r h b u = go r (ℕ_discrete (j + 1) g) (ℕ_discrete (j + 1) (count s))
    where
      go : (r : ℕ) → Dec (j + 1 ≡ g) → Dec (j + 1 ≡ count s) → SegmentIn s last q g r xs j
      go (suc r) d f = quiet (inr (inl (omega arith))) (added (suc r) u ∙ adds_quietly (suc r) (asked_before r))
      go zero (no e) f = quiet (inl (omega arith)) (added 0 u ∙ adds_quietly 0 (rw (ne_eqb (j + 1) g e)))
      go zero (yes e) (yes f) =
          quiet (inr (inr (omega arith))) (added 0 u ∙ adds_quietly 0 (rw (eq-eqb (j + 1) g e, le-ltb (j + 1) (count s) (omega arith))))
      go zero (yes e) (no f) =
          let left : j + 1 < count s = omega arith in
          let c : ℕ = grant_of (count s % 256) (count s - (j + 1)) in
          let k = granted_of s fair (count s - (j + 1)) (omega arith) (omega arith) in
          let k₁ : c ≤ count s - (j + 1) = k.2 in
          grants e refl c k.0 k.1 (omega arith)
          (added 0 u
          ∙ rw (eq-eqb (j + 1) g e, lt-ltb (j + 1) (count s) left, piece_here, grant_same (count s % 256) (count s - (j + 1))))

-- ---- the EOMS

-- the session's end by spent requests, and its Abort
abbrev pub given_up : Setting → Reply
given_up s = record { number = 21; says = ended (key_in s) Rts s.pgn; sends = Some (abort_wire s requests_spent) }

pub data EomsIn (s : Setting) (last : ℕ) (q : Silence) (g r : ℕ) (xs : List Piece) : Type 0 where
  whole_in : received s (Some (sess s q g r xs)) last (status_wire (offer s)) ≡ (None, record { number = 0; says = handed_by Rts s; sends = acknowledged Rts s })
      → EomsIn s last q g r xs
  given_up_lem : Spent s (Some (sess s q g r xs)) → received s (Some (sess s q g r xs)) last (status_wire (offer s)) ≡ (None, given_up s)
      → EomsIn s last q g r xs
  asks_for_lem : r < 5 → (a c : ℕ) → 1 ≤ c → c ≤ 16 → a + c ≤ count s → Fresh (a + c) (r + 1) xs a
      → received s (Some (sess s q g r xs)) last (status_wire (offer s))
      ≡ (Some (sess s (from last First) (a + c) (r + 1) xs), cts s.key (a + 1) c s.pgn)
      → EomsIn s last q g r xs

module _ (s : Setting) (fair : Fair s) (last : ℕ) (q : Silence) (g r : ℕ) (xs : List Piece) where
  -- it is as announced
  by_eoms : received s (Some (sess s q g r xs)) last (status_wire (offer s))
      ≡ cond (eqb (length xs) (count s)) (None, hand_over s.key (announcement_for Rts s) (joined (count s) xs)) (lacks s.key last (sess s q g r xs))
  unfolding rule status_open as_announced sess announcement_for
  by_eoms =
      ap (by_body s (Some (sess s q g r xs)) last) (reads_for s _ _ (on_status s fair))
      ∙ rw (eq-eqb (count s) (count s) refl, eq-eqb (length s.message) (length s.message) refl, eq-eqb s.pgn s.pgn refl)

  -- segments a + 1 to a + c are asked for
  asks_of : (a : ℕ) → gap_from (count s) xs ≡ a + 1 → asks s.key last (sess s q g r xs)
      ≡ (
        Some (sess s (from last First) (a + grant_of (count s % 256) (gap_length (count s) xs)) (r + 1) xs),
        cts s.key (a + 1) (grant_of (count s % 256) (gap_length (count s) xs)) s.pgn,
      )
  unfolding asks sess announcement_for
  asks_of a e =
      let c : ℕ = grant_of (count s % 256) (gap_length (count s) xs) in
      let z : gap_from (count s) xs + c - 1 ≡ a + c = omega arith in
      rw (grant_same (count s % 256) (gap_length (count s) xs), z, e)

  asks_it : r < 5 → (length xs ≡ count s → ⊥) → Good s xs → (a : ℕ) → gap_from (count s) xs ≡ a + 1 → EomsIn s last q g r xs
  unfolding lacks sess announcement_for is_rts
  asks_it l n good a e =
      let h = first_gap (length s.message) (count s) s.message xs good n in
      let to : gap_from (count s) xs + gap_length (count s) xs ≤ count s + 1 = h.to in
      let k = granted_of s fair (gap_length (count s) xs) h.some (omega arith) in
      let c : ℕ = grant_of (count s % 256) (gap_length (count s) xs) in
      let k₁ : c ≤ gap_length (count s) xs = k.2 in
      asks_for_lem l a c k.0 k.1 (omega arith) (fresh c k₁ h.missing)
      (by_eoms ∙ rw (ne_eqb (length xs) (count s) n, lt-ltb r 5 l) (asks_of a e))
    where
      fresh : (c : ℕ) → c ≤ gap_length (count s) xs
          → ((i : ℕ) → gap_from (count s) xs ≤ i → i < gap_from (count s) xs + gap_length (count s) xs → is_taken i xs ≡ false) → Fresh (a + c) (r + 1) xs a
      fresh c m h i p (inl b) = h i (omega arith) (omega arith)
      fresh c m h i p (inr b) = absurd (omega arith)

  pub on_eoms_any : r ≤ 5 → Good s xs → EomsIn s last q g r xs
  unfolding lacks sess announcement_for is_rts
  on_eoms_any few good = go (ℕ_discrete (length xs) (count s)) (dec_lt r 5)
    where
      joined_here : length xs ≡ count s → joined (count s) xs ≡ s.message
      joined_here e = joined_whole (count s) s.message xs (unfold segments_of in refl) good e

      go : Dec (length xs ≡ count s) → Dec (r < 5) → EomsIn s last q g r xs
      go (yes e) d =
          whole_in (by_eoms ∙ rw (eq-eqb (length xs) (count s) e, joined_here e) (ap (λ (x : Reply). (None, x)) (hands_over_lem Rts s)))
      go (no n) (yes l) =
          let h : 1 ≤ gap_from (count s) xs = (first_gap (length s.message) (count s) s.message xs good n).from in
          asks_it l n good (gap_from (count s) xs - 1) (omega arith)
      go (no n) (no l) =
          given_up_lem (omega arith, not_yet (length s.message) (count s) s.message xs good n)
          (by_eoms ∙ rw (ne_eqb (length xs) (count s) n, le-ltb r 5 (omega arith)) (unfold ending sent number_for in refl))

-- ---- a segment that may be lost: more of its grant follow, or an EOMS does

module _ (s : Setting) (fair : Fair s) (q : Silence) (g r : ℕ) (xs : List Piece) (j : ℕ) (l : j < g) (b : g ≤ count s) where
  segment_body : body_for s (segment_wire (key_in s) s.message (j + 1)) ≡ Some (segment 0 (j + 1) (data_at (frame_of s fair (j + 1))))
  segment_body = reads_for s _ _ (on_segment s fair (j + 1) (omega arith) (omega arith))

  -- the last of a grant that is not the message's last
  needed : j + 1 ≡ g → (j + 1 ≡ count s → ⊥) → is_needed s (Some (sess s q g 0 xs)) (j + 1) ≡ true
  unfolding is_needed sess announcement_for is_rts
  needed e f = both (eqb (j + 1) g) (not (eqb (j + 1) (count s))) (eq-eqb (j + 1) g e) (ap not (ne_eqb (j + 1) (count s) f))

  pub lost_segment : (fs : List Wire) → MayLoseOldest s (Some (sess s q g r xs)) (segment_wire (key_in s) s.message (j + 1) ∷ fs) → (j + 1 < g) ⊎ Last s r g
  unfolding may_lose is_needed sess announcement_for is_rts
  lost_segment fs h = go r (ℕ_discrete (j + 1) g) (ℕ_discrete (j + 1) (count s)) (rw segment_body at h)
    where
      go : (r : ℕ) → Dec (j + 1 ≡ g) → Dec (j + 1 ≡ count s) → may_lose s (Some (sess s q g r xs)) (Some (segment 0 (j + 1) (data_at (frame_of s fair (j + 1))))) ≡ true → (j + 1 < g) ⊎ Last s r g
      go (suc r) d f h = inr (inl (omega arith))
      go zero (no e) f h = inl (omega arith)
      go zero (yes e) (yes f) h = inr (inr (omega arith))
      go zero (yes e) (no f) h = absurd (false≢true (sym (ap not (needed e f)) ∙ h))

-- ---- the CTSs that may still come

pub answers_first : (s : Setting) (q : Silence) (c : ℕ) → 1 ≤ c → c ≤ count s → to_answer s (Some (sess s q c 0 [])) + 53 ≤ 53 * (5 + count s)
unfolding to_answer sess announcement_for is_rts
answers_first s q c l u = omega arith

pub answers_same : (s : Setting) (q q' : Silence) (g r : ℕ) (xs ys : List Piece) → to_answer s (Some (sess s q g r xs)) ≡ to_answer s (Some (sess s q' g r ys))
unfolding to_answer sess announcement_for
answers_same s q q' g r xs ys = refl

pub answers_next : (s : Setting) (q q' : Silence) (g g' r : ℕ) (xs ys : List Piece) → r ≡ 0 → g < g' → g' ≤ count s
    → to_answer s (Some (sess s q' g' r ys)) + 53 ≤ to_answer s (Some (sess s q g r xs))
unfolding to_answer sess announcement_for is_rts
answers_next s q q' g g' r xs ys z l u = rw z (omega arith)

pub answers_request : (s : Setting) (q q' : Silence) (g g' r : ℕ) (xs : List Piece) → r < 5
    → to_answer s (Some (sess s q' g' (r + 1) xs)) + 53 ≤ to_answer s (Some (sess s q g r xs))
unfolding to_answer sess announcement_for is_rts
answers_request s q q' g g' r xs l = rw (ne_eqb (r + 1) 0 (λ e. omega arith)) (omega arith)

-- ---- every request is paid for by a loss: k segments lost, and from j on those to come are not in

abbrev pub pending : Setting → ℕ → ℕ → ℕ → ℕ
pending s r g j = cond (eqb r 0) (count s - j) (g - j)

abbrev pub Paid : Setting → ℕ → ℕ → ℕ → List Piece → ℕ → Type 0
Paid s k g r xs j = count s + r ≤ length xs + pending s r g j + k

pub paid_taken : (s : Setting) (k g g' r : ℕ) (xs : List Piece) (j : ℕ) → j < g → g ≤ count s → ((g' ≡ g) ⊎ (r ≡ 0)) → Paid s k g r xs j → Paid s k g' r (piece_no s (j + 1) ∷ xs) (j + 1)
paid_taken s k g g' r xs j l b (inl e) h = go (eqb r 0) h
  where
    go : (t : Bool) → count s + r ≤ length xs + cond t (count s - j) (g - j) + k → count s + r ≤ suc (length xs) + cond t (count s - (j + 1)) (g' - (j + 1)) + k
    go true h = omega arith
    go false h = omega arith
paid_taken s k g g' r xs j l b (inr e) h = go h
  where
    go : count s + r ≤ length xs + cond (eqb r 0) (count s - j) (g - j) + k → count s + r ≤ suc (length xs) + cond (eqb r 0) (count s - (j + 1)) (g' - (j + 1)) + k
    go = rw (eq-eqb r 0 e) (λ h. omega arith)

pub paid_lost : (s : Setting) (k g r : ℕ) (xs : List Piece) (j : ℕ) → j < g → g ≤ count s → Paid s k g r xs j → Paid s (suc k) g r xs (j + 1)
paid_lost s k g r xs j l b h = go (eqb r 0) h
  where
    go : (t : Bool) → count s + r ≤ length xs + cond t (count s - j) (g - j) + k → count s + r ≤ length xs + cond t (count s - (j + 1)) (g - (j + 1)) + suc k
    go true h = omega arith
    go false h = omega arith

-- at the EOMS nothing is to come
paid_all : (s : Setting) (k g r : ℕ) (xs : List Piece) (j : ℕ) → j ≡ g → Last s r g → Paid s k g r xs j → count s + r ≤ length xs + k
paid_all s k g r xs j e (inl l) h = go h
  where
    go : count s + r ≤ length xs + cond (eqb r 0) (count s - j) (g - j) + k → count s + r ≤ length xs + k
    go = rw (ne_eqb r 0 (λ z. omega arith)) (λ h. omega arith)
paid_all s k g r xs j e (inr l) h = go (eqb r 0) h
  where
    go : (t : Bool) → count s + r ≤ length xs + cond t (count s - j) (g - j) + k → count s + r ≤ length xs + k
    go true h = omega arith
    go false h = omega arith

pub paid_request : (s : Setting) (k g r : ℕ) (xs : List Piece) (j a c : ℕ) → j ≡ g → Last s r g → 1 ≤ c → Paid s k g r xs j → Paid s k (a + c) (r + 1) xs a
paid_request s k g r xs j a c e l m h = let p = paid_all s k g r xs j e l h in rw (ne_eqb (r + 1) 0 (λ z. omega arith)) (omega arith)

pub paid_up : (s : Setting) (k : ℕ) (q : Silence) (g r : ℕ) (xs : List Piece) (j : ℕ) → j ≡ g → Last s r g → Spent s (Some (sess s q g r xs)) → Paid s k g r xs j → 6 ≤ k
unfolding sess
paid_up s k q g r xs j e l (five, few) h = let p = paid_all s k g r xs j e l h in omega arith
