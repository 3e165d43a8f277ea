-- Which frames are a key's own: 01, the last paragraph of "Transfer frames". Taken from other crates: where the bits of an identifier and
-- the bytes of a frame are.
use Rattle.std.specs.Prelude.{ℕ, ◌+◌, ◌*◌, ◌/◌, ◌%◌, ◌^◌, Bool, true, false, cond, not, ◌&&◌, ◌||◌, List, eqb, ltb, length, None, Option, Some}
use Rattle.frame.specs.declared.Address.{Address}
use Rattle.frame.specs.Identifiers.{identifier_of}
use Rattle.transport.specs.declared.Key.{Key}
use Rattle.transport.specs.declared.Kind.{Kind}
use Rattle.transport.specs.declared.Kind.TheVariants.{Rts, Bam}
use Rattle.transport.specs.declared.announcement.Announcement.{Announcement}
use Rattle.transport.specs.declared.eoms.Status.{Status}
use Rattle.transport.specs.Heads.{control_at, session_at}
use Rattle.transport.specs.Announcements.{announcement_at}
use Rattle.transport.specs.Eoms.{status_at}
use Rattle.transport.specs.Aborts.{role_at, abort_pgn_at}
use Rattle.transport.specs.Segments.{format_at, number_at, data_at}
use Rattle.isolation.specs.Standard.{fd_lengths, is_one_of}

-- ---- keys: SA, DA and session number, as one number below 2^20

abbrev pub all_keys : ℕ
all_keys = 1048576

abbrev pub key_at : ℕ → Key
key_at k =
    record { sa = record { 0 = k / 4096 }; da = record { 0 = k / 16 % 256 }; session = record { 0 = k % 16 } }

-- the key of a control or data frame, by its identifier and its bytes
unfoldable pub frame_key : ℕ → List ℕ → ℕ
frame_key id d = (identifier_of id).sa.0 * 4096 + (identifier_of id).ps * 16 + session_at d

-- ---- own frames: control and data frames to which none of 2, 1, 3, 9 and 10 applies

pub data Body : Type 0 where
  -- RTS or BAM
  announce : Announcement → Body
  -- format indicator, segment number, the bytes from byte 5 on
  segment : ℕ → ℕ → List ℕ → Body
  -- EOMS
  status : Status → Body
  -- an Abort from the originator, with its PGN
  abort : ℕ → Body

-- RTS 0, BAM 4, EOMS 2, Abort 15 in the originator's role, in 12 bytes
unfoldable pub control_body : List ℕ → Option Body
control_body d =
    cond (not (eqb (length d) 12)) None
    (cond (eqb (control_at d) 0) (Some (announce (announcement_at Rts d)))
    (cond (eqb (control_at d) 4) (Some (announce (announcement_at Bam d)))
    (cond (eqb (control_at d) 2) (Some (status (status_at d)))
    (cond (eqb (control_at d) 15 && eqb (role_at d) 0) (Some (abort (abort_pgn_at d)))
    None))))

-- a data frame has 5 bytes at least
unfoldable pub data_body : List ℕ → Option Body
data_body d = cond (ltb (length d) 5) None (Some (segment (format_at d) (number_at d) (data_at d)))

-- 29 bits; a CAN FD length; both pages 0; DA the own address or 255; SA not 254, 255 or the own address
unfoldable pub taken : Address → ℕ → List ℕ → Bool
taken own id d =
    ltb id (2 ^ 29)
    && (is_one_of (length d) fd_lengths
    && (eqb (identifier_of id).extended_data_page 0
    && (eqb (identifier_of id).data_page 0
    && ((eqb (identifier_of id).ps own.0 || eqb (identifier_of id).ps 255)
    && (ltb (identifier_of id).sa.0 254
    && not (eqb (identifier_of id).sa.0 own.0))))))

-- what an own frame says; none for any other frame. PF 77 is a control frame, 78 a data frame
unfoldable pub body_of : Address → ℕ → List ℕ → Option Body
body_of own id d =
    cond (not (taken own id d)) None
    (cond (eqb (identifier_of id).pf 77) (control_body d)
    (cond (eqb (identifier_of id).pf 78) (data_body d)
    None))

-- ---- RTS or BAM

unfoldable pub is_rts : Kind → Bool
is_rts Rts = true
is_rts Bam = false
