-- A sender's reply as bytes, in the layout of an answer: codes 10 to 18, then the frame that goes out (docs/WIRE.md).
use Rattle.std.specs.Prelude.{ℕ, ◌%◌, List, ◌++◌, replicate, None, Option, Some}
use Rattle.frame.specs.Refusals.{number_of}
use Rattle.answer.specs.declared.Ending.{Ending}
use Rattle.answer.specs.Answers.{Wire}
use Rattle.transfer.specs.declared.Offer.{Offer}
use Rattle.transfer.specs.declared.Reply.{Reply}
use Rattle.transfer.specs.declared.Reply.TheVariants as reply
use Rattle.transfer.specs.Transfers.{segments_of, offer_kind}
use Rattle.transfer.specs.Sends.{ending_wire}
use Rattle.sender.specs.declared.Laid.{Laid}
use Rattle.sender.specs.declared.Sent.{Sent}
use Rattle.record_bytes.specs.Layout.{kind_byte}
use Rattle.answer_bytes.specs.declared.Fields.{Fields}
use Rattle.answer_bytes.specs.Places.{answer_length, sent_length, data_length}
use Rattle.answer_bytes.specs.Ends.{ends_by}
use Rattle.answer_bytes.specs.Answers.{no_key, keyed, ended_fields, fields_bytes, sent_head}

-- ---- fields

-- an RTS, a BAM or an EOMS of so many bytes
abbrev pub offer_fields : ℕ → Offer → ℕ → Fields
offer_fields code o len =
    record {
      number = 0;
      code = code;
      key = o.key;
      kind = kind_byte (offer_kind o);
      extra = len % 256;
      pgn = o.pgn;
      total = o.total.0;
      segment = segments_of o.total.0;
    }

abbrev pub segment_fields : ℕ → ℕ → Fields
segment_fields n len =
    record { number = 0; code = 11; key = no_key; kind = 0; extra = len % 256; pgn = 0; total = 0; segment = n }

-- of a reply whose frame, if there is one, is of len bytes
abbrev pub reply_fields : Reply → ℕ → Fields
reply_fields (reply.Announced o) len = offer_fields 10 o len
reply_fields (reply.Segment n) len = segment_fields n.0 len
reply_fields (reply.Status o) len = offer_fields 12 o len
reply_fields reply.NothingDue len = keyed 13 0 no_key
reply_fields reply.Granted len = keyed 14 0 no_key
reply_fields (reply.Acknowledged k) len = keyed 15 0 k
reply_fields (reply.Aborted k) len = keyed 16 0 k
reply_fields (reply.Ended e) len = ended_fields 17 0 e
reply_fields (reply.Refused n) len = keyed 18 (number_of n) no_key

-- the refusal's number, 0 where nothing is refused
abbrev pub reply_number : Reply → ℕ
reply_number r = (reply_fields r 0).number

-- ---- what goes out

-- the Abort of a transfer that a refusal has ended
abbrev pub abort_of : Reply → Option Wire
abort_of (reply.Ended e) = ending_wire e
abort_of (reply.Announced o) = None
abort_of (reply.Segment n) = None
abort_of (reply.Status o) = None
abort_of reply.NothingDue = None
abort_of reply.Granted = None
abort_of (reply.Acknowledged k) = None
abort_of (reply.Aborted k) = None
abort_of (reply.Refused n) = None

-- a control frame in the answer itself: 1, identifier, 12 bytes; zeros where there is none
abbrev pub wire_bytes : Option Wire → List ℕ
wire_bytes None = replicate sent_length 0
wire_bytes (Some w) = sent_head w.0 ++ w.1

-- a frame in the lent output: 1, identifier, and zeros for its data
abbrev pub laid_bytes : Option Laid → List ℕ
laid_bytes None = replicate sent_length 0
laid_bytes (Some f) = sent_head f.id ++ replicate data_length 0

abbrev pub laid_length : Option Laid → ℕ
laid_length None = 0
laid_length (Some f) = f.len

-- ---- whole

-- of a control frame taken
abbrev pub reply_bytes : Reply → List ℕ
reply_bytes r = fields_bytes (reply_fields r 0) ++ wire_bytes (abort_of r)

-- of an announcement, and of a call for a frame
abbrev pub given_bytes : Sent → List ℕ
given_bytes s = fields_bytes (reply_fields s.reply (laid_length s.frame)) ++ laid_bytes s.frame

-- of a reading: a transfer that ended is answered as a control frame that ends one; zeros where none did
abbrev pub transfer_end_bytes : Option Ending → List ℕ
transfer_end_bytes None = replicate answer_length 0
transfer_end_bytes (Some e) = reply_bytes (reply.Ended e)

abbrev pub transfer_ends_bytes : List (Option Ending) → List ℕ
transfer_ends_bytes es = ends_by transfer_end_bytes es
