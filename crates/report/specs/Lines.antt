-- What the program prints: 01, "Program".
use Rattle.std.specs.Prelude.{ℕ, List, [], ◌∷◌, ◌++◌, Err, None, Ok, Option, Result, Some, ⊤}
use Rattle.frame.specs.Refusals.{number_of}
use Rattle.frame.specs.declared.judge.Route.{Route}
use Rattle.multi_pg.specs.declared.Group.{Group}
use Rattle.multi_pg.specs.Groups.{groups_of}
use Rattle.answer.specs.declared.Answer.{Answer}
use Rattle.answer.specs.declared.Answer.TheVariants.{Groups, Opened, Taken, Grant, HandedOver, Aborted, Ended, RefusedRts, Refused}
use Rattle.text.specs.Ascii.{ascii}
use Rattle.text.specs.Line.{line_of}
use Rattle.session_lines.specs.Lines.{session_line, refused_line, ending_line, message_lines, open_word, took_word, cts_word, abort_word, ended_word}
use Rattle.answer.specs.declared.Ending.{Ending}
use Rattle.frame.specs.declared.refusal.Refusal.{Refusal}

-- ---- a Multi-PG frame

abbrev pub pg_word : List ℕ
pg_word = ascii "pg"

-- SA and DA are the frame's; the length is that of the group's data
abbrev pub group_numbers : Route → Group → List ℕ
group_numbers route g = route.sa.0 ∷ route.da.0 ∷ g.pgn ∷ g.len ∷ []

abbrev pub group_line : Route → Group → List ℕ
group_line route g = line_of pg_word (group_numbers route g)

-- a line for each group, in the frame's order
unfoldable pub group_lines : Route → List Group → List ℕ
group_lines route [] = []
group_lines route (g ∷ gs) = group_line route g ++ group_lines route gs

-- ---- the answer to a frame

-- The lines of the answer to a frame of data d; bytes are those of a message handed over.
unfoldable pub answer_lines : List ℕ → Answer → List ℕ → List ℕ
answer_lines d (Groups route) bytes = group_lines route (groups_of d)
answer_lines d (Opened k) bytes = session_line open_word k []
answer_lines d (Taken t) bytes = session_line took_word t.key (t.number.0 ∷ [])
answer_lines d (Grant f) bytes = session_line cts_word f.key (f.next.0 ∷ f.count ∷ [])
answer_lines d (HandedOver m) bytes = message_lines m bytes
-- 0: an Abort was received
answer_lines d (Aborted k) bytes = session_line ended_word k (0 ∷ [])
answer_lines d (Ended e) bytes = ending_line e
answer_lines d (RefusedRts j) bytes = session_line abort_word j.key (number_of j.refusal ∷ [])
answer_lines d (Refused n) bytes = refused_line n

-- ---- a reading: a refusal of the call, or for each slot, in slot order, its ending

abbrev pub end_lines : Option Ending → List ℕ
end_lines None = []
end_lines (Some e) = ending_line e

unfoldable pub ends_lines : List (Option Ending) → List ℕ
ends_lines [] = []
ends_lines (s ∷ ss) = end_lines s ++ ends_lines ss

abbrev pub reading_lines : Result ⊤ Refusal → List (Option Ending) → List ℕ
reading_lines (Ok tt) ends = ends_lines ends
reading_lines (Err n) ends = refused_line n

-- ---- the end of a run

abbrev pub end_word : List ℕ
end_word = ascii "end"

abbrev pub bad_word : List ℕ
bad_word = ascii "bad record at"

abbrev pub end_line : ℕ → List ℕ
end_line records = line_of end_word (records ∷ [])

abbrev pub bad_line : ℕ → List ℕ
bad_line offset = line_of bad_word (offset ∷ [])
