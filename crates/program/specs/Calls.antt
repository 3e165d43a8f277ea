-- A run as the calls that it makes, with whatever each of them answers.
use Rattle.std.specs.Prelude.{ℕ, ◌+◌, ◌≡◌, true, List, [], ◌∷◌, ◌++◌, length, drop}
use Rattle.record_bytes.specs.Kept.{Bytes}
use Rattle.report.specs.Lines.{bad_line}
use Rattle.run.specs.Lines.{State}
use Rattle.run.specs.Goes.{lying}
use Rattle.run.specs.Takes.{is_long, Takes, final_line}
use Rattle.run.specs.Feeds.{GoesOn}
use Rattle.run.specs.declared.piece.Stop.TheVariants as stop
use Rattle.run.specs.declared.piece.Went.{Went}
use Rattle.program.specs.Opening.{opening}

-- A call of `take` over the bytes d, where the run has come to s: any buffer for lines, filled up to any place
pub record Call (s : State (List ℕ)) (d : List ℕ) : Type 0 where
  pub buffer : List ℕ
  pub from : ℕ
  pub went : Went
  pub receiver : List ℕ
  pub store : List ℕ
  pub written : List ℕ
  pub takes : Takes d s.records s.place s.receiver s.store buffer from went receiver store written

-- where the run is then
abbrev pub moved_to : {s : State (List ℕ)} {d : List ℕ} → Call s d → State (List ℕ)
moved_to {s} c = lying c.receiver c.store c.went.records (s.place + c.went.at)

-- what a run can come to: the opening, and what a call leaves that goes on
pub data Reached : State (List ℕ) → Type 0 where
  opens : Reached opening
  goes_on : {s : State (List ℕ)} {d : List ℕ} → Reached s → Bytes d → (c : Call s d) → GoesOn c.went.stop → Reached (moved_to c)

-- The lines of a run from s on, over the bytes that are kept and the pieces still to come. A call goes on, meets a bad record, loses a
-- record, or finds the trace too long; a piece is read after what is kept; or the input ends where a call asks for bytes.
pub data Ran : State (List ℕ) → List ℕ → List (List ℕ) → List ℕ → Type 0 where
  goes : {s : State (List ℕ)} {d : List ℕ} {ps : List (List ℕ)} {l : List ℕ} (c : Call s d) → GoesOn c.went.stop
      → Ran (moved_to c) (drop c.went.at d) ps l → Ran s d ps (c.takes.lines ++ l)
  fails : {s : State (List ℕ)} {d : List ℕ} {ps : List (List ℕ)} (c : Call s d) → c.went.stop ≡ stop.Bad
      → Ran s d ps (c.takes.lines ++ bad_line (s.place + c.went.at))
  loses : {s : State (List ℕ)} {d : List ℕ} {ps : List (List ℕ)} (c : Call s d) → c.went.stop ≡ stop.Lost
      → Ran s d ps c.takes.lines
  stops : {s : State (List ℕ)} {d : List ℕ} {ps : List (List ℕ)} → is_long s.records s.place (length d) ≡ true → Ran s d ps []
  reads : {s : State (List ℕ)} {d : List ℕ} {ps : List (List ℕ)} {l : List ℕ} (q : List ℕ) → Ran s (d ++ q) ps l → Ran s d (q ∷ ps) l
  ends : {s : State (List ℕ)} {d : List ℕ} (c : Call s d) → c.went.stop ≡ stop.Bytes
      → Ran s d [] (c.takes.lines ++ final_line (length (drop c.went.at d)) c.went.records (s.place + c.went.at))
