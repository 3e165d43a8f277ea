-- What is asked for lies in the message, and something is where something is missing. Nothing here needs to be believed.
use Rattle.std.specs.Prelude.{ℕ, ◌+◌, ◌-◌, ◌≤◌, ◌<◌, min, ◌≡◌, false, leb}
use Rattle.std.proofs.Common.{arith, le-leb}
use Rattle.std.proofs.Math.Decide.{dec_lt}
use Rattle.std.proofs.lemmas.Bool.{lt-leb}
use Rattle.segments.specs.declared.Segments.{Segments}
use Rattle.segments.specs.Model.{missing_of, first_missing}
use Rattle.segments.specs.Laws.{first_is, run_of_lem, run_some}
use Rattle.progress.specs.Requests.{asked_count}

module _ (taken : Segments) (segments max : ℕ) where
  pub asked_from : 1 ≤ first_missing taken segments
  asked_from = (first_is taken 1 segments).from

  pub asked_to_lem : first_missing taken segments - 1 + asked_count taken segments max ≤ segments
  asked_to_lem = go (dec_lt segments (first_missing taken segments))
    where
      go : Dec (segments < first_missing taken segments) → first_missing taken segments - 1 + asked_count taken segments max ≤ segments
      go (yes h) =
          let t : first_missing taken segments ≤ 1 + segments = (first_is taken 1 segments).to in
          let none : leb (first_missing taken segments) segments ≡ false = lt-leb (first_missing taken segments) segments h in
          rw (none, le-leb 1 (first_missing taken segments) asked_from) (omega arith)
      go (no h) =
          let f : 1 ≤ first_missing taken segments = asked_from in
          let r = run_of_lem taken (first_missing taken segments) segments (min max 16) f (omega arith) in
          omega (arith, r.most)

  -- where something is missing
  pub asked_some : 0 < missing_of taken segments → 1 ≤ max → 1 ≤ asked_count taken segments max
  asked_some h m = run_some taken segments (min max 16) h (omega arith)
