-- Record after record, as far as the bytes and the room for lines go.
use Rattle.std.specs.Prelude.{ℕ, ◌+◌, ◌<◌, ◌≤◌, ◌≡◌, Bool, true, false, List, [], ◌++◌, length}
use Rattle.text.specs.Put.{PutAt}
use Rattle.run.specs.Lines.{Receives, Done, Turn, took, over, cut, bad, turn_at, State, after}
use Rattle.run.specs.Steps.{in_bytes}
use Rattle.run.specs.declared.step.Untaken.{Untaken}
use Rattle.run.specs.declared.step.Untaken.TheVariants as untaken
use Rattle.run.specs.declared.piece.Stop.{Stop}
use Rattle.run.specs.declared.piece.Stop.TheVariants as stop
use Rattle.run.specs.declared.piece.Went.{Went}

-- what is at the place that s has come to, in the bytes d
abbrev pub turn_in : {R : Type 0} → Receives R → List ℕ → State R → Turn R
turn_in M d s = turn_at M s.receiver s.store d s.place

-- from s on, the records of d up to t, and their lines
pub data Goes {R : Type 0} (M : Receives R) (d : List ℕ) (s : State R) : List ℕ → State R → Type 0 where
  none : Goes M d s [] s
  more : {l : List ℕ} {t : State R} (x : Done R) (next : ℕ) → Goes M d s l t → turn_in M d t ≡ took x next → Goes M d s (l ++ x.lines) (after t.records x next)

-- the record and the store as they lie in lent buffers
abbrev pub lying : List ℕ → List ℕ → ℕ → ℕ → State (List ℕ)
lying b m k at = record { receiver = b; store = m; records = k; place = at }

-- the bytes end: between two records, or inside one
abbrev pub is_open : {R : Type 0} → Turn R → Bool
is_open (took x next) = false
is_open over = true
is_open cut = true
is_open bad = false

-- the room that is kept free for the lines of one record
abbrev pub record_room : ℕ
record_room = 20000

-- why a step is the last
abbrev pub why_of : Untaken → Stop
why_of untaken.End = stop.Bytes
why_of untaken.More = stop.Bytes
why_of untaken.Bad = stop.Bad
why_of untaken.Short = stop.Lost

-- Why it stops at t, where the lines end at the place q of a buffer of n bytes. A record that is lost was taken, and its lines were too many
abbrev pub Stops : List ℕ → State (List ℕ) → ℕ → ℕ → Stop → List ℕ → List ℕ → Type 0
Stops d t n q stop.Bytes b m = (is_open (turn_in in_bytes d t) ≡ true) × (b ≡ t.receiver) × (m ≡ t.store)
Stops d t n q stop.Room b m = (n < q + record_room) × (b ≡ t.receiver) × (m ≡ t.store)
Stops d t n q stop.Bad b m = (turn_in in_bytes d t ≡ bad) × (q + record_room ≤ n) × (b ≡ t.receiver) × (m ≡ t.store)
Stops d t n q stop.Lost b m =
    (x : Done (List ℕ)) × (next : ℕ)
    × (turn_in in_bytes d t ≡ took x next) × (q + record_room ≤ n) × (n < q + length x.lines) × (b ≡ x.receiver) × (m ≡ x.store)
Stops d t n q stop.Long b m = ⊥

-- What the records of d make of a record b, a store m and lines o, which are filled up to p; k records were good before
pub record Taken (d : List ℕ) (k : ℕ) (b m o : List ℕ) (p : ℕ) (r : Went) (b' m' o' : List ℕ) : Type 0 where
  pub lines : List ℕ
  pub to : State (List ℕ)
  pub goes : Goes in_bytes d (lying b m k 0) lines to
  pub written : PutAt o p lines r.put o'
  pub inside : p ≤ length o → r.put ≤ length o
  pub records : r.records ≡ to.records
  pub place : r.at ≡ to.place
  pub within : to.place ≤ length d
  pub stops : Stops d to (length o) r.put r.stop b' m'
