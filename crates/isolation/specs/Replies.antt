-- What the rules answer to an own frame: 01, "Numbered refusals" and "Life of a session". Taken from transport: how
-- the bytes of a frame are written.
use Rattle.std.specs.Prelude.{ℕ, cond, List, None, Option, Some}
use Rattle.transport.specs.declared.Key.{Key}
use Rattle.transport.specs.declared.Kind.{Kind}
use Rattle.transport.specs.declared.announcement.Announcement.{Announcement}
use Rattle.transport.specs.declared.response.Response.{Response}
use Rattle.transport.specs.declared.response.Response.TheVariants as response
use Rattle.transport.specs.Responses.{response_bytes, response_id}
use Rattle.isolation.specs.Standard.{Cause, number_for, reason_for}
use Rattle.isolation.specs.OwnFrames.{key_at, is_rts}

-- ---- replies: 01's number (0 where nothing is refused), the values, and the frame sent, as identifier and bytes, or none

abbrev pub Wire : Type 0
Wire = ℕ × List ℕ

pub data Says : Type 0 where
  nothing : Says
  -- a BAM was accepted
  opened : Key → Says
  -- a segment was taken, with no CTS due: its number
  took : Key → ℕ → Says
  -- a CTS: next segment, count, PGN
  granted : Key → ℕ → ℕ → ℕ → Says
  -- a message: Total Bytes, segments, PGN, and its bytes
  handed : Key → Kind → ℕ → ℕ → ℕ → List ℕ → Says
  -- the originator's Abort ended the session
  aborted : Key → Says
  -- a refusal ended the session: its PGN
  ended : Key → Kind → ℕ → Says
  -- an RTS to the own address was refused: its PGN as it came
  rejected : Key → ℕ → Says

pub record Reply : Type 0 where
  pub number : ℕ
  pub says : Says
  pub sends : Option Wire

unfoldable pub sent : Response → Option Wire
sent f = Some (response_id f, response_bytes f)

-- an Abort, by its cause
abbrev pub abort_frame : ℕ → Cause → ℕ → Response
abort_frame k c pgn = response.Abort (record { key = key_at k; reason = reason_for c; pgn = pgn })

abbrev pub cts_frame : ℕ → ℕ → ℕ → ℕ → Response
cts_frame k next count pgn = response.Cts (record { key = key_at k; next = record { 0 = next }; count = count; pgn = pgn })

abbrev pub eoma_frame : ℕ → Announcement → Response
eoma_frame k a = response.Eoma (record { key = key_at k; total = a.total; segments = a.segments; pgn = a.pgn })

-- a refusal by which nothing is sent
abbrev pub refuse : ℕ → Reply
refuse n = record { number = n; says = nothing; sends = None }

-- an announcement refused: an RTS is answered by Abort, a BAM by nothing
unfoldable pub reject : ℕ → Announcement → Cause → Reply
reject k a c =
    cond (is_rts a.kind)
    (record { number = number_for c; says = rejected (key_at k) a.pgn; sends = sent (abort_frame k c a.pgn) })
    (refuse (number_for c))

-- the session ends by a refusal: RTS sessions send Abort
unfoldable pub ending : ℕ → Announcement → Cause → Reply
ending k a c =
    record {
      number = number_for c;
      says = ended (key_at k) a.kind a.pgn;
      sends = cond (is_rts a.kind) (sent (abort_frame k c a.pgn)) None;
    }

unfoldable pub cts : ℕ → ℕ → ℕ → ℕ → Reply
cts k next count pgn =
    record { number = 0; says = granted (key_at k) next count pgn; sends = sent (cts_frame k next count pgn) }

abbrev pub plain : Says → Reply
plain s = record { number = 0; says = s; sends = None }

-- the message, with EOMA for RTS
unfoldable pub hand_over : ℕ → Announcement → List ℕ → Reply
hand_over k a bytes =
    record {
      number = 0;
      says = handed (key_at k) a.kind a.total.0 a.segments.0 a.pgn bytes;
      sends = cond (is_rts a.kind) (sent (eoma_frame k a)) None;
    }
