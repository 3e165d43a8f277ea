-- The bytes that are there, taken as far as they go; the line of a bad record after the others; and the input's end.
use Rattle.std.specs.Prelude.{ℕ, ◌+◌, ◌-◌, ◌≤◌, ◌^◌, ◌≡◌, Bool, true, false, cond, ◌&&◌, ◌||◌, List, [], ◌++◌, eqb, leb, length, drop}
use Rattle.std.proofs.Math.Seq.{paste}
use Rattle.text.specs.Put.{PutAt}
use Rattle.report.specs.Lines.{end_line, bad_line}
use Rattle.run.specs.Lines.{State}
use Rattle.run.specs.Steps.{in_bytes}
use Rattle.run.specs.Goes.{Goes, lying, record_room, Stops}
use Rattle.run.specs.declared.piece.Stop.{Stop}
use Rattle.run.specs.declared.piece.Stop.TheVariants as stop
use Rattle.run.specs.declared.piece.Went.{Went}

-- records and bytes are counted in 64 bits
abbrev pub is_long : ℕ → ℕ → ℕ → Bool
is_long records offset n = leb (2 ^ 64) (records + n) || leb (2 ^ 64) (offset + n)

-- a bad record, which begins at the place, has a line of its own, and nothing follows it
abbrev pub last_line : Stop → ℕ → List ℕ
last_line stop.Bad place = bad_line place
last_line stop.Bytes place = []
last_line stop.Room place = []
last_line stop.Lost place = []
last_line stop.Long place = []

abbrev pub LastFits : Stop → ℕ → ℕ → Type 0
LastFits stop.Bad n p = p + record_room ≤ n
LastFits stop.Bytes n p = Unit {0}
LastFits stop.Room n p = Unit {0}
LastFits stop.Lost n p = Unit {0}
LastFits stop.Long n p = Unit {0}

-- The trace's bytes d, after `offset` others and `k` good records, taken on the record b, the store m and the lines o, filled up to p
pub record Takes (d : List ℕ) (k offset : ℕ) (b m o : List ℕ) (p : ℕ) (r : Went) (b' m' o' : List ℕ) : Type 0 where
  pub lines : List ℕ
  pub to : State (List ℕ)
  pub goes : Goes in_bytes d (lying b m k 0) lines to
  pub end : ℕ
  pub written : PutAt o p (lines ++ last_line r.stop (offset + to.place)) r.put o'
  pub inside : p ≤ length o → r.put ≤ length o
  pub records : r.records ≡ to.records
  pub place : r.at ≡ to.place
  pub within : to.place ≤ length d
  pub stops : Stops d to (length o) end r.stop b' m'

abbrev pub nothing : ℕ → ℕ → Went
nothing k p = record { at = 0; put = p; records = k; stop = stop.Long }

-- a trace that is too long is left where it is
abbrev pub TakesOr : Bool → List ℕ → ℕ → ℕ → List ℕ → List ℕ → List ℕ → ℕ → Went → List ℕ → List ℕ → List ℕ → Type 0
TakesOr true d k offset b m o p r b' m' o' = (r ≡ nothing k p) × (b' ≡ b) × (m' ≡ m) × (o' ≡ o)
TakesOr false d k offset b m o p r b' m' o' = Takes d k offset b m o p r b' m' o'

-- ---- the input is over, and n bytes of it are left
abbrev pub final_line : ℕ → ℕ → ℕ → List ℕ
final_line n records place = cond (eqb n 0) (end_line records) (bad_line place)

-- ---- the bytes from `from` to `to` moved to the front of the window
abbrev pub kept_in : List ℕ → ℕ → ℕ → ℕ × List ℕ
kept_in w from to =
    cond (leb from to && leb to (length w)) (to - from, paste w 0 (drop from w) (to - from)) (0, w)
