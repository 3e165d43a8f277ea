-- Progress brought forward by a segment: 01, "Segment"; 02, E6.
use Rattle.std.specs.Prelude.{ℕ, ◌+◌, ◌-◌, min, Bool, cond, ◌&&◌, eqb, ltb}
use Rattle.segments.specs.declared.Segments.{Segments}
use Rattle.segments.specs.Model.{put_in}
use Rattle.transport.specs.declared.Kind.{Kind}
use Rattle.transport.specs.Kinds.{is_rts}
use Rattle.progress.specs.declared.Announced.{Announced}
use Rattle.progress.specs.declared.Progress.{Progress}
use Rattle.progress.specs.Waits.{wait_after}

-- the smallest of MAX SGMTS, 16 and the segments left
unfoldable pub grant_of : ℕ → ℕ → ℕ
grant_of max left = min (min max 16) left

-- segment n is the last granted and segments remain after it, in or not; after the first request no segment brings a CTS
abbrev pub cts_due : Progress → Announced → ℕ → Bool
cts_due p a n = is_rts a.kind && eqb n p.granted.0 && ltb n a.segments.0 && eqb p.requests 0

-- the count of the next CTS, after segment n
abbrev pub next_count : Announced → ℕ → ℕ
next_count a n = grant_of a.max (a.segments.0 - n)

-- the last granted segment after segment n: a CTS moves it, nothing else does
abbrev pub granted_by : Progress → Announced → ℕ → ℕ
granted_by p a n = cond (cts_due p a n) (n + next_count a n) p.granted.0

-- a BAM's segments come in sequence; of an RTS it is kept which are in, and how many are not
abbrev pub next_by : Kind → ℕ → ℕ → ℕ
next_by κ next n = cond (is_rts κ) next (n + 1)

abbrev pub taken_by : Kind → Segments → ℕ → Segments
taken_by κ taken n = cond (is_rts κ) (put_in taken n) taken

abbrev pub missing_by : Kind → ℕ → ℕ
missing_by κ missing = cond (is_rts κ) (missing - 1) missing

-- the progress after segment n was taken
abbrev pub advanced_by : Progress → Announced → ℕ → ℕ → Progress
advanced_by p a n last =
    record {
      next = record { 0 = next_by a.kind p.next.0 n };
      taken = taken_by a.kind p.taken n;
      missing = missing_by a.kind p.missing;
      requests = p.requests;
      granted = record { 0 = granted_by p a n };
      mark = last;
      wait = wait_after (cts_due p a n);
    }
