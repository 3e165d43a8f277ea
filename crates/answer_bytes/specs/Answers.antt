-- An answer as bytes of a fixed layout: number, code, key, kind, one byte by the code, PGN, Total Bytes, segment; then the frame that is due.
use Rattle.std.specs.Prelude.{ℕ, ◌%◌, List, [], ◌∷◌, ◌++◌, replicate, None, Option, Some}
use Rattle.frame.specs.declared.refusal.Refusal.{Refusal}
use Rattle.frame.specs.Refusals.{number_of, spent_of}
use Rattle.transport.specs.declared.Key.{Key}
use Rattle.transport.specs.declared.cts.Cts.{Cts}
use Rattle.transport.specs.declared.response.Response.{Response}
use Rattle.transport.specs.Responses.{response_bytes, response_id}
use Rattle.answer.specs.declared.Message.{Message}
use Rattle.answer.specs.declared.Ending.{Ending}
use Rattle.answer.specs.declared.Rejection.{Rejection}
use Rattle.answer.specs.declared.Taken as taken
use Rattle.answer.specs.declared.Answer.{Answer}
use Rattle.answer.specs.declared.Answer.TheVariants.{Groups, Opened, Taken, Grant, HandedOver, Aborted, Ended, RefusedRts, Refused}
use Rattle.answer.specs.Answers.{answer_sends}
use Rattle.answer_bytes.specs.declared.Fields.{Fields}
use Rattle.answer_bytes.specs.declared.Outgoing.{Outgoing}
use Rattle.record_bytes.specs.Layout.{kind_byte}
use Rattle.words.specs.Words.{low4}
use Rattle.answer_bytes.specs.Places.{sent_length}

abbrev pub no_key : Key
no_key = record { sa = record { 0 = 0 }; da = record { 0 = 0 }; session = record { 0 = 0 } }

-- an answer that says a key, or not even that
abbrev pub keyed : ℕ → ℕ → Key → Fields
keyed code n k =
    record { number = n; code = code; key = k; kind = 0; extra = 0; pgn = 0; total = 0; segment = 0 }

abbrev pub taken_fields : taken.Taken → Fields
taken_fields t =
    record { number = 0; code = 3; key = t.key; kind = 0; extra = 0; pgn = 0; total = 0; segment = t.number.0 }

-- an RTS alone has grants
abbrev pub grant_fields : Cts → Fields
grant_fields c =
    record { number = 0; code = 4; key = c.key; kind = 1; extra = c.count; pgn = c.pgn; total = 0; segment = c.next.0 }

-- a slot's number is below 8
abbrev pub message_fields : Message → Fields
message_fields m =
    record { number = 0; code = 5; key = m.key; kind = kind_byte m.kind; extra = m.slot % 256; pgn = m.pgn; total = m.total.0; segment = m.segments.0 }

-- of a refusal that byte tells the two of number 21 apart (02, E6)

-- under the code of the end that answers
abbrev pub ended_fields : ℕ → ℕ → Ending → Fields
ended_fields code extra e =
    record { number = number_of e.refusal; code = code; key = e.key; kind = kind_byte e.kind; extra = extra; pgn = e.pgn; total = 0; segment = 0 }

abbrev pub session_ended : Ending → Fields
session_ended e = ended_fields 7 (spent_of e.refusal) e

abbrev pub rejection_fields : Rejection → Fields
rejection_fields j =
    record { number = number_of j.refusal; code = 8; key = j.key; kind = 1; extra = spent_of j.refusal; pgn = j.pgn; total = 0; segment = 0 }

abbrev pub refused_fields : Refusal → Fields
refused_fields n =
    record { number = number_of n; code = 9; key = no_key; kind = 0; extra = spent_of n; pgn = 0; total = 0; segment = 0 }

abbrev pub fields_of : Answer → Fields
fields_of (Groups route) = keyed 1 0 no_key
fields_of (Opened k) = keyed 2 0 k
fields_of (Taken t) = taken_fields t
fields_of (Grant c) = grant_fields c
fields_of (HandedOver m) = message_fields m
fields_of (Aborted k) = keyed 6 0 k
fields_of (Ended e) = session_ended e
fields_of (RefusedRts j) = rejection_fields j
fields_of (Refused n) = refused_fields n

unfoldable pub fields_bytes : Fields → List ℕ
fields_bytes f =
    f.number
    ∷ f.code
    ∷ f.key.sa.0
    ∷ f.key.da.0
    ∷ f.key.session.0
    ∷ f.kind
    ∷ f.extra
    ∷ low4 f.pgn (low4 f.total (low4 f.segment []))

abbrev pub sent_head : ℕ → List ℕ
sent_head id = 1 ∷ low4 id []

-- a frame that goes out: 1, identifier and 12 bytes; zeros where none does
abbrev pub outgoing_bytes : Option Outgoing → List ℕ
outgoing_bytes None = replicate sent_length 0
outgoing_bytes (Some f) = 1 ∷ low4 f.id f.data

abbrev pub response_sent : Response → List ℕ
response_sent f = sent_head (response_id f) ++ response_bytes f

-- 1, identifier and 12 bytes; zeros where nothing is sent
abbrev pub sent_bytes : Option Response → List ℕ
sent_bytes None = replicate sent_length 0
sent_bytes (Some f) = response_sent f

abbrev pub answer_bytes : Answer → List ℕ
answer_bytes a = fields_bytes (fields_of a) ++ sent_bytes (answer_sends a)
