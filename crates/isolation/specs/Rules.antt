-- One session by itself: 01, "One session by itself", with the checks, answers and marks of "Life of a session", as 02 changes them. One
-- key; no slots, no store.
use Rattle.std.specs.Prelude.{ℕ, zero, suc, ◌+◌, ◌-◌, ◌*◌, ◌/◌, ◌%◌, ◌^◌, Bool, true, false, cond, not, ◌&&◌, ◌||◌, List, [], ◌∷◌, ◌++◌, eqb, leb, ltb, length, take, None, Option, Some}
use Rattle.frame.specs.declared.Address.{Address}
use Rattle.transport.specs.declared.Kind.{Kind}
use Rattle.transport.specs.declared.Kind.TheVariants.{Rts, Bam}
use Rattle.transport.specs.declared.announcement.Announcement.{Announcement}
use Rattle.transport.specs.declared.eoms.Status.{Status}
use Rattle.progress.specs.declared.wait.Wait.{Wait}
use Rattle.progress.specs.declared.wait.Wait.TheVariants.{First, Second}
use Rattle.progress.specs.declared.wait.IdleLimits.{IdleLimits}
use Rattle.progress.specs.Waits.{limit_in}
use Rattle.isolation.specs.Standard.{Cause, pgn_wrong, numbers_wrong, too_long, assured, key_open, eight_open, out_of_order, unlike_announced, requests_spent, silent, in_pgn_form}
use Rattle.isolation.specs.OwnFrames.{key_at, is_rts, Body, announce, segment, status, abort}
use Rattle.isolation.specs.Replies.{Reply, opened, took, aborted, refuse, reject, ending, cts, plain, hand_over}

-- the opening values
pub record Values : Type 0 where
  pub own : Address
  pub limits : IdleLimits

-- ---- state: the last reading; closed, or open with the fields announced, mark, wait, last granted, requests made and the data taken by
-- segment number

pub record Piece : Type 0 where
  pub number : ℕ
  pub bytes : List ℕ

pub record Open : Type 0 where
  pub told : Announcement
  pub mark : ℕ
  -- which silence counts from the mark: 02, E4
  pub wait : Wait
  -- the last segment granted; a BAM has no grants, and 0
  pub granted : ℕ
  -- how often an EOMS was answered by asking for what is missing: 02, E6
  pub requests : ℕ
  pub pieces : List Piece

pub record State : Type 0 where
  pub last : ℕ
  pub session : Option Open

-- an own frame gives the session after it and the reply
abbrev pub Out : Type 0
Out = Option Open × Reply

unfoldable pub is_open : Option Open → Bool
is_open None = false
is_open (Some r) = true

unfoldable pub is_taken : ℕ → List Piece → Bool
is_taken n [] = false
is_taken n (x ∷ xs) = eqb x.number n || is_taken n xs

-- the data taken of segment n
unfoldable pub piece_at : ℕ → List Piece → List ℕ
piece_at n [] = []
piece_at n (x ∷ xs) = cond (eqb x.number n) x.bytes (piece_at n xs)

-- the data of segments 1 to n, joined in order of segment number
unfoldable pub joined : ℕ → List Piece → List ℕ
joined zero xs = []
joined (suc n) xs = joined n xs ++ piece_at (suc n) xs

-- one more than the number of segments taken
abbrev pub next_of : Open → ℕ
next_of r = length r.pieces + 1

-- ---- an announcement

-- RTS to 255, or BAM to the own address
unfoldable pub misdirected : Address → ℕ → Kind → Bool
misdirected own k Rts = eqb (key_at k).da.0 255
misdirected own k Bam = eqb (key_at k).da.0 own.0

-- a number divided by 60, rounded up
unfoldable pub sixties : ℕ → ℕ
sixties n = cond (eqb (n % 60) 0) (n / 60) (n / 60 + 1)

-- Total Bytes 0, segments not Total Bytes divided by 60 rounded up, or MAX SGMTS 0 in an RTS
unfoldable pub bad_numbers : Announcement → Bool
bad_numbers a =
    eqb a.total.0 0 || (not (eqb a.segments.0 (sixties a.total.0)) || (is_rts a.kind && eqb a.max 0))

unfoldable pub least : ℕ → ℕ → ℕ
least a b = cond (leb a b) a b

-- the smallest of MAX SGMTS, 16 and the segments left
unfoldable pub grant : ℕ → ℕ → ℕ
grant max left = least (least max 16) left

-- opens with none taken; an RTS is answered by CTS from segment 1, and the first wait is on; a BAM has only the second
unfoldable pub opens : ℕ → ℕ → Announcement → Out
opens k last a =
    let count : ℕ = grant a.max a.segments.0 in (
      Some (record {
        told = a;
        mark = last;
        wait = cond (is_rts a.kind) First Second;
        granted = cond (is_rts a.kind) count 0;
        requests = 0;
        pieces = [];
      }),
      cond (is_rts a.kind) (cts k 1 count a.pgn) (plain (opened (key_at k))),
    )

-- an RTS of the PGN announced: 02, E1
unfoldable pub starts_anew : Announcement → Open → Bool
starts_anew a r = is_rts a.kind && eqb a.pgn r.told.pgn

-- one in good form. A closed key opens, or 15 where eight others are open. An open one opens anew, with none taken, whatever others are
-- open; or 14
unfoldable pub admitted : ℕ → ℕ → Bool → Option Open → Announcement → Out
admitted k last eight None a = cond eight (None, reject k a eight_open) (opens k last a)
admitted k last eight (Some r) a = cond (starts_anew a r) (opens k last a) (Some r, reject k a key_open)

-- 11 with nothing sent, 11, 12, 13, 8, then by the session
unfoldable pub announced : Address → ℕ → ℕ → Bool → Option Open → Announcement → Out
announced own k last eight x a =
    cond (misdirected own k a.kind) (x, refuse 11)
    (cond (bad_numbers a) (x, reject k a numbers_wrong)
    (cond (ltb 4096 a.total.0) (x, reject k a too_long)
    (cond (not (eqb a.assurance 0)) (x, reject k a assured)
    (cond (not (in_pgn_form a.pgn)) (x, reject k a pgn_wrong)
    (admitted k last eight x a)))))

-- ---- a segment

-- 60 bytes, or what remains of the message
unfoldable pub due : ℕ → ℕ → ℕ
due total n = cond (leb (60 * n) total) 60 (total - 60 * (n - 1))

-- the session ends by a refusal
abbrev pub closes : ℕ → Open → Cause → Out
closes k r c = (None, ending k r.told c)

-- the last segment granted, and segments remain after it; once missing ones were asked for, no segment brings a CTS (02, E6)
unfoldable pub spent : Open → ℕ → Bool
spent r n = is_rts r.told.kind && (eqb n r.granted && (ltb n r.told.segments.0 && eqb r.requests 0))

-- the data due is added, and the mark is the last reading; a grant used up is followed by a CTS and so by the first wait, any other segment
-- by the second
unfoldable pub adds : ℕ → ℕ → Open → ℕ → List ℕ → Out
adds k last r n d =
    let count : ℕ = grant r.told.max (r.told.segments.0 - n) in (
      Some (record {
        told = r.told;
        mark = last;
        wait = cond (spent r n) First Second;
        granted = cond (spent r n) (n + count) r.granted;
        requests = r.requests;
        pieces = record { number = n; bytes = take (due r.told.total.0 n) d } ∷ r.pieces;
      }),
      cond (spent r n) (cts k (n + 1) count r.told.pgn) (plain (took (key_at k) n)),
    )

-- a BAM's segments come in sequence, an RTS's in any order: 02, E6
unfoldable pub out_of_turn : Open → ℕ → Bool
out_of_turn r n = not (is_rts r.told.kind) && ltb (next_of r) n

-- 18, 19, 20
unfoldable pub segment_open : ℕ → ℕ → Open → ℕ → List ℕ → Out
segment_open k last r n d =
    cond (eqb n 0 || is_taken n r.pieces) (Some r, refuse 18)
    (cond (out_of_turn r n || ltb r.told.segments.0 n) (closes k r out_of_order)
    (cond (ltb (length d) (due r.told.total.0 n)) (Some r, refuse 20)
    (adds k last r n d)))

-- ---- the end

-- totals, assurance type and PGN are as announced
unfoldable pub as_announced : Open → Status → Bool
as_announced r s =
    eqb s.total.0 r.told.total.0
    && (eqb s.segments.0 r.told.segments.0
    && (eqb s.assurance r.told.assurance
    && eqb s.pgn r.told.pgn))

-- ---- what is missing: 02, E6

-- the first segment that is missing, of the f from n on; n + f where none is
unfoldable pub first_missing : ℕ → ℕ → List Piece → ℕ
first_missing zero n xs = n
first_missing (suc f) n xs = cond (is_taken n xs) (first_missing f (n + 1) xs) n

-- how many are missing in a row, of the f segments from n on
unfoldable pub missing_run : ℕ → ℕ → List Piece → ℕ
missing_run zero n xs = 0
missing_run (suc f) n xs = cond (is_taken n xs) 0 (1 + missing_run f (n + 1) xs)

-- a CTS for the first missing run, at most 16 and at most MAX SGMTS; the mark is the last reading, and the first wait is on
unfoldable pub asks : ℕ → ℕ → Open → Out
asks k last r =
    let n : ℕ = first_missing r.told.segments.0 1 r.pieces in
    let count : ℕ = grant r.told.max (missing_run (r.told.segments.0 + 1 - n) n r.pieces) in (
      Some (record {
        told = r.told;
        mark = last;
        wait = First;
        granted = n + count - 1;
        requests = r.requests + 1;
        pieces = r.pieces;
      }),
      cts k n count r.told.pgn,
    )

-- segments are missing: an RTS session asks for them, five times at most
unfoldable pub lacks : ℕ → ℕ → Open → Out
lacks k last r =
    cond (not (is_rts r.told.kind)) (closes k r unlike_announced)
    (cond (ltb r.requests 5) (asks k last r) (closes k r requests_spent))

unfoldable pub status_open : ℕ → ℕ → Open → Status → Out
status_open k last r s =
    cond (not (as_announced r s)) (closes k r unlike_announced)
    (cond (eqb (length r.pieces) r.told.segments.0) (None, hand_over k r.told (joined r.told.segments.0 r.pieces))
    (lacks k last r))

unfoldable pub abort_open : ℕ → Open → ℕ → Out
abort_open k r pgn = cond (eqb pgn r.told.pgn) (None, plain (aborted (key_at k))) (Some r, refuse 16)

-- ---- an own frame of key k. `eight`: eight other keys are open

-- by the session, if it is open; else 16
abbrev pub if_open : Option Open → (Open → Out) → Out
if_open None f = (None, refuse 16)
if_open (Some r) f = f r

unfoldable pub rule : Values → ℕ → ℕ → Bool → Option Open → Body → Out
rule v k last eight x (announce a) = announced v.own k last eight x a
rule v k last eight x (segment format n d) =
    cond (not (eqb format 0)) (x, refuse 17) (if_open x (λ r. segment_open k last r n d))
rule v k last eight x (status s) = if_open x (λ r. status_open k last r s)
rule v k last eight x (abort pgn) = if_open x (λ r. abort_open k r pgn)

-- ---- a reading

-- milliseconds from mark to reading, on a count of 32 bits that runs round
unfoldable pub since : ℕ → ℕ → ℕ
since mark t = (t + 2 ^ 32 - mark) % 2 ^ 32

-- for as long as the limit in force
unfoldable pub is_silent : Values → ℕ → Open → Bool
is_silent v t r = leb (limit_in v.limits r.wait) (since r.mark t)

-- the session after the reading, and its ending if it ends
unfoldable pub judged_at : Values → ℕ → Option Open → Option Open
judged_at v t None = None
judged_at v t (Some r) = cond (is_silent v t r) None (Some r)

unfoldable pub ends_at : Values → ℕ → ℕ → Option Open → List Reply
ends_at v k t None = []
ends_at v k t (Some r) = cond (is_silent v t r) (ending k r.told silent ∷ []) []

-- ---- the rules over what they see and are told

pub data Input : Type 0 where
  -- an own frame; with an announcement, whether eight other keys are open
  mine : Bool → Body → Input
  now : ℕ → Input

pub data Seen : Type 0 where
  answer : Reply → Seen
  -- at a reading: the number of its answer, and the endings
  reading : ℕ → List Reply → Seen
  -- a call that is no business of the key is answered with it, or ends its session: no output of the rules
  stray : Reply → Seen

unfoldable pub next_state : Values → ℕ → State → Input → State
next_state v k s (mine eight b) = record { last = s.last; session = (rule v k s.last eight s.session b).0 }
next_state v k s (now t) = record { last = t; session = judged_at v t s.session }

unfoldable pub output : Values → ℕ → State → Input → Seen
output v k s (mine eight b) = answer (rule v k s.last eight s.session b).1
output v k s (now t) = reading 0 (ends_at v k t s.session)

unfoldable pub outputs : Values → ℕ → State → List Input → List Seen
outputs v k s [] = []
outputs v k s (x ∷ xs) = output v k s x ∷ outputs v k (next_state v k s x) xs

-- closed, with the opening's reading
abbrev pub fresh : ℕ → State
fresh first = record { last = first; session = None }
