-- When an open session is in bounds: 01, "Numbered refusals"; 02, E4 and E6.
use Rattle.std.specs.Prelude.{◌≡◌, ℕ, ◌+◌, ◌/◌, ◌≤◌, Bool, true, false, cond, not, ◌&&◌, ◌||◌, ◌==◌, nat_le, None, Option, Some}
use Rattle.segments.specs.declared.Segments.{Segments}
use Rattle.segments.specs.Model.{agrees}
use Rattle.frame.specs.declared.Address.{Address}
use Rattle.frame.specs.Pgn.{pgn_ok}
use Rattle.transport.specs.declared.Key.{Key}
use Rattle.transport.specs.declared.Kind.{Kind}
use Rattle.transport.specs.Kinds.{is_rts}
use Rattle.progress.specs.declared.Announced.{Announced}
use Rattle.progress.specs.declared.Progress.{Progress}
use Rattle.progress.specs.declared.wait.Wait.{Wait}
use Rattle.progress.specs.Waits.{is_second}
use Rattle.session.specs.declared.Session.{Session}

-- Total Bytes, segment count and PGN as an announcement allows, MAX SGMTS at least 1 for RTS
abbrev pub counts_ok : ℕ → ℕ → ℕ → Bool → ℕ → Bool
counts_ok total segments pgn rts max =
    nat_le 1 total && nat_le total 4096 && segments == (total + 59) / 60 && pgn_ok pgn && (not rts || nat_le 1 max)

abbrev pub announced_ok : Announced → Bool
announced_ok a = counts_ok a.total.0 a.segments.0 a.pgn (is_rts a.kind) a.max

-- SA and DA as they are taken here, and a session number to 15
abbrev pub taken_here : Key → ℕ → Address → Bool
taken_here k da own =
    nat_le k.sa.0 253 && not (k.sa.0 == own.0) && k.da.0 == da && nat_le k.session.0 15

-- with the DA of the kind
abbrev pub key_ok : Address → Announced → Bool
key_ok own a = taken_here a.key (cond (is_rts a.kind) own.0 255) own

-- an RTS: nothing past the segment count, the number missing as the record has it, at most five requests, last granted from 1 to the
-- count
abbrev pub gathered_ok : Segments → ℕ → ℕ → ℕ → ℕ → Bool
gathered_ok taken missing requests granted segments =
    agrees taken segments missing && nat_le requests 5 && nat_le 1 granted && nat_le granted segments

-- a BAM: the next segment from 1 to segments + 1; it has no CTS, and so only the second wait
abbrev pub sequence_ok : ℕ → ℕ → Wait → Bool
sequence_ok next segments wait = nat_le 1 next && nat_le next (segments + 1) && is_second wait

abbrev pub progress_ok : Announced → Progress → Bool
progress_ok a p =
    cond (is_rts a.kind) (gathered_ok p.taken p.missing p.requests p.granted.0 a.segments.0)
    (sequence_ok p.next.0 a.segments.0 p.wait)

abbrev pub session_ok : Address → Session → Bool
session_ok own s = announced_ok s.announced && key_ok own s.announced && progress_ok s.announced s.progress

abbrev pub state_ok : Address → Option Session → Bool
state_ok own None = true
state_ok own (Some s) = session_ok own s

-- the same as facts

pub record Agreed (kind : Kind) (total segments max pgn : ℕ) : Type 0 where
  pub some : 1 ≤ total
  pub fits : total ≤ 4096
  pub count : segments ≡ (total + 59) / 60
  pub form : pgn_ok pgn ≡ true
  pub grants : is_rts kind ≡ true → 1 ≤ max

abbrev pub AgreedIn : Announced → Type 0
AgreedIn a = Agreed a.kind a.total.0 a.segments.0 a.max a.pgn

pub record Gathered (taken : Segments) (missing requests granted segments : ℕ) : Type 0 where
  pub agree : agrees taken segments missing ≡ true
  pub few : requests ≤ 5
  pub low : 1 ≤ granted
  pub high : granted ≤ segments

pub record InSequence (next segments : ℕ) (wait : Wait) : Type 0 where
  pub low : 1 ≤ next
  pub high : next ≤ segments + 1
  pub second : is_second wait ≡ true

pub record Reached (a : Announced) (p : Progress) : Type 0 where
  pub gathered : is_rts a.kind ≡ true → Gathered p.taken p.missing p.requests p.granted.0 a.segments.0
  pub sequence : is_rts a.kind ≡ false → InSequence p.next.0 a.segments.0 p.wait
