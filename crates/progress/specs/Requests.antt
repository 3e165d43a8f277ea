-- What is asked for when an RTS message ends with segments missing: 02, E6.
use Rattle.std.specs.Prelude.{ℕ, ◌+◌, ◌-◌, min}
use Rattle.segments.specs.declared.Segments.{Segments}
use Rattle.segments.specs.Model.{first_missing, run_of}
use Rattle.progress.specs.declared.Announced.{Announced}
use Rattle.progress.specs.declared.Progress.{Progress}
use Rattle.progress.specs.declared.wait.Wait.TheVariants.{First}

-- of the first missing run at most 16, and at most MAX SGMTS
abbrev pub asked_count : Segments → ℕ → ℕ → ℕ
asked_count taken segments max = run_of taken (first_missing taken segments) segments (min max 16)

-- the last segment asked for
abbrev pub last_asked : Segments → ℕ → ℕ → ℕ
last_asked taken segments max = first_missing taken segments + asked_count taken segments max - 1

-- a request renews the mark and starts the first wait; nothing is taken by it
abbrev pub requested_by : Progress → Announced → ℕ → Progress
requested_by p a last =
    record {
      next = p.next;
      taken = p.taken;
      missing = p.missing;
      requests = p.requests + 1;
      granted = record { 0 = last_asked p.taken a.segments.0 a.max };
      mark = last;
      wait = First;
    }
