-- What the program prints of one session, and of a refusal: 01, "Program".
use Rattle.std.specs.Prelude.{ℕ, cond, List, [], ◌∷◌, ◌++◌}
use Rattle.frame.specs.Refusals.{number_of}
use Rattle.frame.specs.declared.refusal.Refusal.{Refusal}
use Rattle.transport.specs.declared.Key.{Key}
use Rattle.transport.specs.declared.Kind.{Kind}
use Rattle.transport.specs.Kinds.{is_rts}
use Rattle.answer.specs.declared.Message.{Message}
use Rattle.answer.specs.declared.Ending.{Ending}
use Rattle.text.specs.Ascii.{ascii}
use Rattle.text.specs.Line.{line_of}

-- ---- the words

abbrev pub open_word : List ℕ
open_word = ascii "open"

abbrev pub took_word : List ℕ
took_word = ascii "took"

abbrev pub cts_word : List ℕ
cts_word = ascii "send cts"

abbrev pub abort_word : List ℕ
abort_word = ascii "send abort"

abbrev pub eoma_word : List ℕ
eoma_word = ascii "send eoma"

abbrev pub msg_word : List ℕ
msg_word = ascii "msg"

abbrev pub ended_word : List ℕ
ended_word = ascii "ended"

abbrev pub refused_word : List ℕ
refused_word = ascii "refused"

-- ---- lines

-- a line that begins with a session's SA and number
abbrev pub session_line : List ℕ → Key → List ℕ → List ℕ
session_line word k ns = line_of word (k.sa.0 ∷ k.session.0 ∷ ns)

abbrev pub refused_line : Refusal → List ℕ
refused_line n = line_of refused_word (number_of n ∷ [])

-- an RTS session that a refusal ends sends Abort, a BAM session nothing; the number is 01's, not the wire reason
abbrev pub ending_word : Kind → List ℕ
ending_word k = cond (is_rts k) abort_word ended_word

abbrev pub ending_numbers : Ending → List ℕ
ending_numbers e = e.key.sa.0 ∷ e.key.session.0 ∷ number_of e.refusal ∷ []

abbrev pub ending_line : Ending → List ℕ
ending_line e = line_of (ending_word e.kind) (ending_numbers e)

abbrev pub message_numbers : Message → List ℕ
message_numbers m = m.key.sa.0 ∷ m.key.da.0 ∷ m.key.session.0 ∷ m.pgn ∷ m.total.0 ∷ []

-- the message's bytes follow its length on the line
abbrev pub message_line : Message → List ℕ → List ℕ
message_line m bytes = line_of msg_word (message_numbers m ++ bytes)

-- an RTS session is acknowledged first
abbrev pub message_lines : Message → List ℕ → List ℕ
message_lines m bytes = cond (is_rts m.kind) (session_line eoma_word m.key []) [] ++ message_line m bytes
