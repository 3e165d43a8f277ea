-- A segment judged, and the CTS after it: 01, "Segment"; 02, E6.
use Rattle.std.specs.Prelude.{ℕ, ◌+◌, ◌-◌, ◌*◌, min, Bool, cond, not, ◌&&◌, ◌||◌, ◌==◌, nat_lt}
use Rattle.frame.specs.declared.refusal.Refusal.TheVariants.{AlreadyTaken, OutOfSequence, SegmentCut}
use Rattle.transport.specs.declared.cts.Cts.{Cts}
use Rattle.segments.specs.Model.{is_in}
use Rattle.transport.specs.Kinds.{is_rts}
use Rattle.progress.specs.declared.Announced.{Announced}
use Rattle.progress.specs.Forward.{next_count}
use Rattle.session.specs.declared.Session.{Session}
use Rattle.session.specs.declared.segment.Judged.{Judged}
use Rattle.session.specs.declared.segment.Judged.TheVariants.{Refused, Ends, Takes}

-- the bytes due in segment n: 60, or what remains
unfoldable pub due_of : ℕ → ℕ → ℕ
due_of total n = min 60 (total - 60 * (n - 1))

-- by the record of an RTS; a BAM's segments come in sequence, so those already taken are the ones below the next
abbrev pub already_in : Session → ℕ → Bool
already_in s n = cond (is_rts s.announced.kind) (is_in s.progress.taken n) (nat_lt n s.progress.next.0)

-- an RTS takes its segments in any order
abbrev pub out_of_turn : Session → ℕ → Bool
out_of_turn s n = not (is_rts s.announced.kind) && nat_lt s.progress.next.0 n

-- 18, 19, 20
unfoldable pub judged_of : Session → ℕ → ℕ → Judged
judged_of s n room =
    cond (n == 0 || already_in s n) (Refused AlreadyTaken)
    (cond (out_of_turn s n || nat_lt s.announced.segments.0 n) (Ends OutOfSequence)
    (cond (nat_lt room (due_of s.announced.total.0 n)) (Refused SegmentCut)
    Takes))

-- after segment n
abbrev pub next_cts : Announced → ℕ → Cts
next_cts a n = record { key = a.key; next = record { 0 = n + 1 }; count = next_count a n; pgn = a.pgn }
