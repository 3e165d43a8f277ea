-- What each answer means: 01's number, and the frame that it sends, as identifier and bytes, or none.
use Rattle.std.specs.Prelude.{ℕ, ◌*◌, cond, List, take, drop, Err, None, Ok, Option, Result, Some, ⊤}
use Rattle.frame.specs.Refusals.{number_of}
use Rattle.frame.specs.declared.refusal.Refusal.{Refusal}
use Rattle.transport.specs.declared.Key.{Key}
use Rattle.transport.specs.declared.response.Response.{Response}
use Rattle.transport.specs.declared.response.Response.TheVariants as response
use Rattle.transport.specs.Responses.{response_bytes, response_id}
use Rattle.transport.specs.Reasons.{wire_reason}
use Rattle.transport.specs.Kinds.{is_rts}
use Rattle.answer.specs.declared.Message.{Message}
use Rattle.answer.specs.declared.Ending.{Ending}
use Rattle.answer.specs.declared.Answer.{Answer}
use Rattle.answer.specs.declared.Answer.TheVariants.{Groups, Opened, Taken, Grant, HandedOver, Aborted, Ended, RefusedRts, Refused}

-- 01's number; 0 where nothing is refused
abbrev pub answer_number : Answer → ℕ
answer_number (Groups route) = 0
answer_number (Opened k) = 0
answer_number (Taken t) = 0
answer_number (Grant c) = 0
answer_number (HandedOver m) = 0
answer_number (Aborted k) = 0
answer_number (Ended e) = number_of e.refusal
answer_number (RefusedRts j) = number_of j.refusal
answer_number (Refused n) = number_of n

-- the same of an opening or a reading
abbrev pub acceptance_number : Result ⊤ Refusal → ℕ
acceptance_number (Ok tt) = 0
acceptance_number (Err n) = number_of n

abbrev pub abort_for : Key → Refusal → ℕ → Response
abort_for k n pgn = response.Abort (record { key = k; reason = wire_reason n; pgn = pgn })

-- an RTS session that ends sends Abort, a BAM nothing
abbrev pub ending_sends : Ending → Option Response
ending_sends e = cond (is_rts e.kind) (Some (abort_for e.key e.refusal e.pgn)) None

abbrev pub eoma_for : Message → Response
eoma_for m = response.Eoma (record { key = m.key; total = m.total; segments = m.segments; pgn = m.pgn })

-- a message by RTS is acknowledged, a BAM not
abbrev pub message_sends : Message → Option Response
message_sends m = cond (is_rts m.kind) (Some (eoma_for m)) None

abbrev pub answer_sends : Answer → Option Response
answer_sends (Groups route) = None
answer_sends (Opened k) = None
answer_sends (Taken t) = None
answer_sends (Grant c) = Some (response.Cts c)
answer_sends (HandedOver m) = message_sends m
answer_sends (Aborted k) = None
answer_sends (Ended e) = ending_sends e
answer_sends (RefusedRts j) = Some (abort_for j.key j.refusal j.pgn)
answer_sends (Refused n) = None

abbrev pub end_sends : Option Ending → Option Response
end_sends None = None
end_sends (Some e) = ending_sends e

-- a frame on the bus: identifier and bytes
abbrev pub Wire : Type 0
Wire = ℕ × List ℕ

abbrev pub wire_of : Option Response → Option Wire
wire_of None = None
wire_of (Some f) = Some (response_id f, response_bytes f)

-- the bytes of a message: the first Total Bytes of its slot
abbrev pub message_bytes : Message → List ℕ → List ℕ
message_bytes m store = take m.total.0 (drop (4096 * m.slot) store)
