-- What the receiver holds and hands over, whatever of the message's frames it takes, in any order. It, Expected and Requests know its rules.
use Rattle.std.specs.Prelude.{None, Option, Some}
use Prim.Native.Nat.{ℕ, ◌+◌, ◌≤◌}
use mathlib.Core.Path.{◌≡◌, refl, ap, ◌∙◌}
use mathlib.Core.Bool.{Bool, false, cond, not, ◌||◌}
use mathlib.Core.List.{List, [], ◌∷◌}
use native.Mathlib.Omega.{arith}
use lib.Dec.{eqb, ltb}
use lib.ListN.{length, take}
use borrow.Author.Tests.{eqb-true, eqb-false, ltb-false}
use Rattle.laws.specs.Bools.{neither_left, neither_right, either_way}
use Rattle.transport.specs.declared.announcement.Announcement.{Announcement}
use Rattle.transport.specs.declared.eoms.Status.{Status}
use Rattle.transfer.specs.Transfers.{segments_of, announcement_of, kind_of}
use Rattle.transfer.specs.Sends.{piece_of}
use Rattle.isolation.specs.Standard.{Cause, key_open, numbers_wrong, too_long, assured, pgn_wrong, in_pgn_form}
use Rattle.isolation.specs.OwnFrames.{is_rts, Body, announce, segment, status, abort}
use Rattle.isolation.specs.Replies.{Says, Reply, handed, refuse, reject, ending, cts, hand_over}
use Rattle.isolation.specs.Rules as rules
use Rattle.isolation.specs.Rules.{Piece, Out, due, is_taken, joined, misdirected, bad_numbers, opens, starts_anew, admitted, announced, spent, adds, out_of_turn, segment_open, as_announced, asks, lacks, status_open, abort_open, rule}
use Rattle.delivery.specs.Link.{Setting, key_in, by_body, hand_overs, offer}
use Rattle.delivery.specs.Arrival.{whole}
use Rattle.delivery.proofs.Expected.{count}
use Rattle.isolation.proofs.Gathered.{joined_whole}
use Rattle.delivery.proofs.Requests.{Good}
use Rattle.delivery.proofs.Rights.{Right, opening}

-- a session is of what was announced, and holds pieces of the message, none twice
abbrev pub Holds : Setting → Option rules.Open → Type 0
Holds s None = Unit {0}
Holds s (Some r) = (r.told ≡ announcement_of (offer s)) × Good s r.pieces

abbrev pub is_one : Option rules.Open → ℕ
is_one None = 0
is_one (Some r) = 1

abbrev pub Wholes : Setting → List Says → Type 0
Wholes s [] = Unit {0}
Wholes s (h ∷ hs) = (h ≡ whole s) × Wholes s hs

-- what a frame leads to; o: the announcements and sessions before it
pub record Takes (s : Setting) (o : ℕ) (r : Out) : Type 0 where
  pub holds : Holds s r.0
  pub once : is_one r.0 + length (hand_overs r.1.says) ≤ o
  pub wholes : Wholes s (hand_overs r.1.says)

module _ (s : Setting) where
  -- nothing is handed over
  quiet : (o : ℕ) (x : Option rules.Open) (r : Reply) → Holds s x → is_one x ≤ o → hand_overs r.says ≡ [] → Takes s o (x, r)
  quiet o x r h l e = record { holds = h; once = rw e (omega arith); wholes = rw e tt }

  -- by either of two replies
  either_reply : (o : ℕ) (x : Option rules.Open) (t : Bool) {a b : Reply} → Takes s o (x, a) → Takes s o (x, b) → Takes s o (x, cond t a b)
  either_reply o x t f g = either_way (λ r. Takes s o (x, r)) t (λ e. f) (λ e. g)

  -- ---- an announcement

  module _ (last : ℕ) (a : Announcement) (ours : a ≡ announcement_of (offer s)) where
    takes_rejected : (x : Option rules.Open) → Holds s x → (c : Cause) → Takes s (1 + is_one x) (x, reject s.key a c)
    unfolding reject
    takes_rejected x h c = either_reply (1 + is_one x) x (is_rts a.kind) (quiet _ x _ h (omega arith) refl) (quiet _ x _ h (omega arith) refl)

    takes_opens : (o : ℕ) → Takes s (1 + o) (opens s.key last a)
    unfolding opens cts
    takes_opens o = either_reply (1 + o) _ (is_rts a.kind) (quiet _ _ _ (ours, tt) (omega arith) refl) (quiet _ _ _ (ours, tt) (omega arith) refl)

    takes_admitted : (x : Option rules.Open) → Holds s x → Takes s (1 + is_one x) (admitted s.key last false x a)
    unfolding admitted
    takes_admitted None h = takes_opens 0
    takes_admitted (Some r) h = either_way (Takes s 2) (starts_anew a r) (λ e. takes_opens 1) (λ e. takes_rejected (Some r) h key_open)

    takes_announced : (x : Option rules.Open) → Holds s x → Takes s (1 + is_one x) (announced s.values.own s.key last false x a)
    unfolding announced
    takes_announced x h =
        either_way (Takes s (1 + is_one x)) (misdirected s.values.own s.key a.kind) (λ e. quiet _ x _ h (omega arith) refl)
        (λ e. either_way (Takes s (1 + is_one x)) (bad_numbers a) (λ e. takes_rejected x h numbers_wrong)
        (λ e. either_way (Takes s (1 + is_one x)) (ltb 4096 a.total.0) (λ e. takes_rejected x h too_long)
        (λ e. either_way (Takes s (1 + is_one x)) (not (eqb a.assurance 0)) (λ e. takes_rejected x h assured)
        (λ e. either_way (Takes s (1 + is_one x)) (not (in_pgn_form a.pgn)) (λ e. takes_rejected x h pgn_wrong)
        (λ e. takes_admitted x h)))))

  -- ---- an open session

  takes_ends : (a : Announcement) (c : Cause) → Takes s 1 (None, ending s.key a c)
  unfolding ending
  takes_ends a c = quiet 1 None _ tt (omega arith) refl

  module _ (last : ℕ) (r : rules.Open) (told : r.told ≡ announcement_of (offer s)) (good : Good s r.pieces) where
    stays : (n : ℕ) → Takes s 1 (Some r, refuse n)
    stays n = quiet 1 (Some r) (refuse n) (told, good) (omega arith) refl

    told_count : r.told.segments.0 ≡ count s
    told_count = ap (λ (a : Announcement). a.segments.0) told

    -- the piece that a data frame adds
    abbrev added : ℕ → List ℕ → Piece
    added n d = record { number = n; bytes = take (due r.told.total.0 n) d }

    takes_adds : (n : ℕ) (d : List ℕ) → Good s (added n d ∷ r.pieces) → Takes s 1 (adds s.key last r n d)
    unfolding adds cts
    takes_adds n d more = either_reply 1 _ (spent r n) (quiet _ _ _ (told, more) (omega arith) refl) (quiet _ _ _ (told, more) (omega arith) refl)

    takes_segment : (n : ℕ) (d : List ℕ) → take (due (length s.message) n) d ≡ piece_of s.message n → Takes s 1 (segment_open s.key last r n d)
    unfolding segment_open
    takes_segment n d right =
        either_way (Takes s 1) (eqb n 0 || is_taken n r.pieces) (λ e. stays 18)
        (λ e. either_way (Takes s 1) (out_of_turn r n || ltb r.told.segments.0 n) (λ f. takes_ends _ _)
        (λ f. either_way (Takes s 1) (ltb (length d) (due r.told.total.0 n)) (λ z. stays 20)
        (λ z. takes_adds n d (more e f))))
      where
        more : (eqb n 0 || is_taken n r.pieces) ≡ false → (out_of_turn r n || ltb r.told.segments.0 n) ≡ false → Good s (added n d ∷ r.pieces)
        more e f =
            let z = eqb-false n 0 (neither_left (eqb n 0) _ e) in
            let u : n ≤ r.told.segments.0 = ltb-false r.told.segments.0 n (neither_right (out_of_turn r n) _ f) in
            let c = told_count in
            (omega arith, omega arith, neither_right (eqb n 0) _ e, ap (λ (a : Announcement). take (due a.total.0 n) d) told ∙ right, good)

    takes_asks : Takes s 1 (asks s.key last r)
    unfolding asks cts
    takes_asks = quiet 1 _ _ (told, good) (omega arith) refl

    takes_lacks : Takes s 1 (lacks s.key last r)
    unfolding lacks
    takes_lacks =
        either_way (Takes s 1) (not (is_rts r.told.kind)) (λ e. takes_ends _ _)
        (λ e. either_way (Takes s 1) (ltb r.requests 5) (λ f. takes_asks) (λ f. takes_ends _ _))

    -- as many pieces as there are segments are the message
    handed_whole : length r.pieces ≡ r.told.segments.0 → (hand_over s.key r.told (joined r.told.segments.0 r.pieces)).says ≡ whole s
    unfolding hand_over
    handed_whole e =
        ap (λ (a : Announcement). handed (key_in s) a.kind a.total.0 a.segments.0 a.pgn (joined a.segments.0 r.pieces)) told
        ∙ ap (λ (d : List ℕ). handed (key_in s) (kind_of (key_in s).da) (length s.message) (count s) s.pgn d)
        (joined_whole (count s) s.message r.pieces (unfold segments_of in refl) good (e ∙ told_count))

    takes_whole : length r.pieces ≡ r.told.segments.0 → Takes s 1 (None, hand_over s.key r.told (joined r.told.segments.0 r.pieces))
    unfolding hand_over
    takes_whole e = record { holds = tt; once = omega arith; wholes = (handed_whole e, tt) }

    takes_status : (st : Status) → Takes s 1 (status_open s.key last r st)
    unfolding status_open
    takes_status st =
        either_way (Takes s 1) (not (as_announced r st)) (λ e. takes_ends _ _)
        (λ e. either_way (Takes s 1) (eqb (length r.pieces) r.told.segments.0) (λ f. takes_whole (eqb-true _ _ f)) (λ f. takes_lacks))

    takes_abort : (pgn : ℕ) → Takes s 1 (abort_open s.key r pgn)
    unfolding abort_open
    takes_abort pgn = either_way (Takes s 1) (eqb pgn r.told.pgn) (λ e. quiet 1 None _ tt (omega arith) refl) (λ e. stays 16)

  -- ---- any frame

  not_open : (n : ℕ) → Takes s 0 (None, refuse n)
  not_open n = quiet 0 None (refuse n) tt (omega arith) refl

  pub takes_any : (x : Option rules.Open) → Holds s x → (last : ℕ) (b : Option Body) → Right s b → Takes s (opening b + is_one x) (by_body s x last b)
  unfolding rule
  takes_any x h last None right = absurd right
  takes_any x h last (Some (announce a)) right = takes_announced last a right x h
  takes_any None h last (Some (segment format n d)) right = either_way (Takes s 0) (not (eqb format 0)) (λ e. not_open 17) (λ e. not_open 16)
  takes_any None h last (Some (status st)) right = not_open 16
  takes_any None h last (Some (abort pgn)) right = not_open 16
  takes_any (Some r) h last (Some (segment format n d)) right =
      either_way (Takes s 1) (not (eqb format 0)) (λ e. stays last r h.0 h.1 17) (λ e. takes_segment last r h.0 h.1 n d right)
  takes_any (Some r) h last (Some (status st)) right = takes_status last r h.0 h.1 st
  takes_any (Some r) h last (Some (abort pgn)) right = takes_abort last r h.0 h.1 pgn
