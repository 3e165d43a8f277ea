-- The record as bytes of a fixed layout: own address, both idle limits and last reading, then eight slots (01, "Life of a session").
-- Numbers of 32 bits, and of 64, have their low byte first.
use Rattle.std.specs.Prelude.{ℕ, zero, suc, ◌+◌, ◌*◌, ◌/◌, ◌%◌, Bool, true, false, cond, not, ◌&&◌, ◌||◌, List, [], ◌∷◌, ◌++◌, map, eqb, length, get_or, take, drop, replicate, None, Option, Some}
use Rattle.words.specs.Words.{low4, low32}
use Rattle.record_bytes.specs.Longs.{low8, low64}
use Rattle.transport.specs.declared.Kind.{Kind}
use Rattle.transport.specs.declared.Kind.TheVariants.{Rts, Bam}
use Rattle.progress.specs.declared.Announced.{Announced}
use Rattle.progress.specs.declared.Progress.{Progress}
use Rattle.progress.specs.declared.wait.Wait.{Wait}
use Rattle.progress.specs.declared.wait.Wait.TheVariants.{First, Second}
use Rattle.progress.specs.declared.wait.IdleLimits.{IdleLimits}
use Rattle.session.specs.declared.Session.{Session}
use Rattle.receiver.specs.declared.Receiver.{Receiver}
use Rattle.record_bytes.specs.Places.{record_length, head_length, slot_length, own_place, first_limit_place, second_limit_place, last_place}
use Rattle.record_bytes.specs.Places.{state_place, kind_place, sa_place, da_place, session_place, total_place, segments_place, max_place, pgn_place, next_place, granted_place, mark_place, wait_place, taken_place, taken_high_place, missing_place, requests_place}

-- ---- a slot

-- how the message is transferred: 1 RTS, 2 BAM
abbrev pub kind_byte : Kind → ℕ
kind_byte Rts = 1
kind_byte Bam = 2

abbrev pub kind_at : ℕ → Kind
kind_at n = cond (eqb n 2) Bam Rts

-- which silence the session is in: 1 the first, 2 the second
abbrev pub wait_byte : Wait → ℕ
wait_byte First = 1
wait_byte Second = 2

abbrev pub wait_at : ℕ → Wait
wait_at n = cond (eqb n 2) Second First

-- open: 1, kind, SA, DA, session number, Total Bytes, segments, MAX SGMTS, PGN
abbrev pub announced_bytes : Announced → List ℕ
announced_bytes a =
    1
    ∷ kind_byte a.kind
    ∷ a.key.sa.0
    ∷ a.key.da.0
    ∷ a.key.session.0
    ∷ low4 a.total.0 (low4 a.segments.0 (a.max ∷ low4 a.pgn []))

-- which segments are in, how many are not, and the requests made for them (02, E6)
abbrev pub gathered_bytes : Progress → List ℕ
gathered_bytes p = low8 p.taken.low (p.taken.high ∷ low4 p.missing (p.requests ∷ []))

-- what each segment brings forward: next segment, last granted, mark, wait, and what is gathered
abbrev pub progress_bytes : Progress → List ℕ
progress_bytes p = low4 p.next.0 (low4 p.granted.0 (low4 p.mark (wait_byte p.wait ∷ gathered_bytes p)))

unfoldable pub session_bytes : Session → List ℕ
session_bytes s = announced_bytes s.announced ++ progress_bytes s.progress

abbrev pub announced_at : List ℕ → Announced
announced_at b =
    record {
      key = record {
        sa = record { 0 = get_or b sa_place 0 };
        da = record { 0 = get_or b da_place 0 };
        session = record { 0 = get_or b session_place 0 };
      };
      kind = kind_at (get_or b kind_place 0);
      total = record { 0 = low32 b total_place };
      segments = record { 0 = low32 b segments_place };
      max = get_or b max_place 0;
      pgn = low32 b pgn_place;
    }

abbrev pub progress_at : List ℕ → Progress
progress_at b =
    record {
      next = record { 0 = low32 b next_place };
      taken = record { low = low64 b taken_place; high = get_or b taken_high_place 0 };
      missing = low32 b missing_place;
      requests = get_or b requests_place 0;
      granted = record { 0 = low32 b granted_place };
      mark = low32 b mark_place;
      wait = wait_at (get_or b wait_place 0);
    }

abbrev pub session_at : List ℕ → Session
session_at b = record { announced = announced_at b; progress = progress_at b }

-- free: zeros
abbrev pub state_bytes : Option Session → List ℕ
state_bytes None = replicate slot_length 0
state_bytes (Some s) = session_bytes s

abbrev pub slot_bytes : Option Session → List ℕ
slot_bytes s = state_bytes s

-- a kind, and a wait, is 1 or 2
abbrev pub is_code : ℕ → Bool
is_code n = eqb n 1 || eqb n 2

-- Whether state, kind and wait are codes: 0 free, with whatever follows; 1 open, and then the others too.
abbrev pub codes_ok : ℕ → ℕ → ℕ → Bool
codes_ok state kind wait = eqb state 0 || (eqb state 1 && (is_code kind && is_code wait))

abbrev pub codes_in : List ℕ → Bool
codes_in p = codes_ok (get_or p state_place 0) (get_or p kind_place 0) (get_or p wait_place 0)

abbrev pub slot_at : List ℕ → Option Session
slot_at b = cond (eqb (get_or b state_place 0) 1) (Some (session_at b)) None

-- ---- the record: its head, and the slots

unfoldable pub head_bytes : Receiver → List ℕ
head_bytes r = r.own.0 ∷ low4 r.limits.first (low4 r.limits.second (low4 r.last []))

unfoldable pub slots_bytes : List (Option Session) → List ℕ
slots_bytes [] = []
slots_bytes (s ∷ ss) = slot_bytes s ++ slots_bytes ss

abbrev pub record_bytes : Receiver → List ℕ
record_bytes r = head_bytes r ++ slots_bytes r.slots

-- slots put after the head in a buffer
abbrev pub written : List (Option Session) → List ℕ → List ℕ
written ss d = take head_length d ++ slots_bytes ss

-- A buffer of a record's length takes the record; any other is left as it is.
unfoldable pub stored_in : Receiver → List ℕ → Bool × List ℕ
stored_in r d = cond (not (eqb (length d) record_length)) (false, d) (true, record_bytes r)

-- n pieces, each as long as a slot
unfoldable pub pieces : ℕ → List ℕ → List (List ℕ)
pieces zero b = []
pieces (suc n) b = take slot_length b ∷ pieces n (drop slot_length b)

abbrev pub pieces_of : List ℕ → List (List ℕ)
pieces_of b = pieces 8 (drop head_length b)

unfoldable pub codes_all : List (List ℕ) → Bool
codes_all [] = true
codes_all (p ∷ ps) = cond (not (codes_in p)) false (codes_all ps)

abbrev pub slots_at : List ℕ → List (Option Session)
slots_at b = map slot_at (pieces_of b)

-- A buffer is a record if it has a record's length and each slot has codes.
unfoldable pub is_record : List ℕ → Bool
is_record b = cond (not (eqb (length b) record_length)) false (codes_all (pieces_of b))

abbrev pub limits_at : List ℕ → IdleLimits
limits_at b = record { first = low32 b first_limit_place; second = low32 b second_limit_place }

abbrev pub record_at : List ℕ → Receiver
record_at b =
    record { own = record { 0 = get_or b own_place 0 }; limits = limits_at b; last = low32 b last_place; slots = slots_at b }
