-- The end of a session: 01, "End" and "Clock"; 02, E6.
use Rattle.std.specs.Prelude.{ℕ, ◌+◌, ◌-◌, ◌%◌, ◌^◌, Bool, cond, ◌&&◌, ◌==◌, nat_le}
use Rattle.segments.specs.Model.{first_missing}
use Rattle.transport.specs.Kinds.{is_rts}
use Rattle.transport.specs.declared.cts.Cts.{Cts}
use Rattle.transport.specs.declared.eoms.Status.{Status}
use Rattle.progress.specs.Requests.{asked_count}
use Rattle.session.specs.declared.Session.{Session}

-- totals, PGN and assurance type (none) are as announced
abbrev pub status_matches : Session → Status → Bool
status_matches s st =
    (st.total.0 == s.announced.total.0)
    && st.segments.0 == s.announced.segments.0
    && st.assurance == 0
    && st.pgn == s.announced.pgn

-- no segment is missing
abbrev pub all_in : Session → Bool
all_in s =
    cond (is_rts s.announced.kind) (s.progress.missing == 0)
    (s.progress.next.0 == s.announced.segments.0 + 1)

-- how many segments are not in: kept of an RTS; of a BAM they are those from the next on
abbrev pub lacking : Session → ℕ
lacking s =
    cond (is_rts s.announced.kind) s.progress.missing (s.announced.segments.0 + 1 - s.progress.next.0)

-- the CTS for the first missing run
abbrev pub request_cts : Session → Cts
request_cts s =
    record {
      key = s.announced.key;
      next = record { 0 = first_missing s.progress.taken s.announced.segments.0 };
      count = asked_count s.progress.taken s.announced.segments.0 s.announced.max;
      pgn = s.announced.pgn;
    }

-- the milliseconds from mark to reading, on a 32-bit clock that runs round
unfoldable pub elapsed : ℕ → ℕ → ℕ
elapsed mark reading = (reading + 2 ^ 32 - mark) % 2 ^ 32

abbrev pub is_idle : ℕ → ℕ → ℕ → Bool
is_idle limit mark reading = nat_le limit (elapsed mark reading)
