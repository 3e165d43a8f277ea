-- The frame that a reply sends, as identifier and bytes: 02, E2; docs/WIRE.md.
use Rattle.std.specs.Prelude.{ℕ, ◌-◌, ◌*◌, cond, List, length, take, drop, None, Option, Some}
use Rattle.transport.specs.declared.Key.{Key}
use Rattle.transport.specs.declared.abort.Abort.{Abort}
use Rattle.transport.specs.declared.abort.Role.TheVariants.{Originator}
use Rattle.transport.specs.Kinds.{is_rts}
use Rattle.transport.specs.Heads.{to_responder, data_id}
use Rattle.transport.specs.Announcements.{announcement_bytes}
use Rattle.transport.specs.Segments.{segment_bytes}
use Rattle.transport.specs.Eoms.{status_bytes}
use Rattle.transport.specs.Aborts.{abort_bytes}
use Rattle.transport.specs.Reasons.{wire_reason}
use Rattle.answer.specs.declared.Ending.{Ending}
use Rattle.answer.specs.Answers.{Wire}
use Rattle.session.specs.Segments.{due_of}
use Rattle.transfer.specs.declared.Offer.{Offer}
use Rattle.transfer.specs.declared.Reply.{Reply}
use Rattle.transfer.specs.declared.Reply.TheVariants as reply
use Rattle.transfer.specs.Transfers.{announcement_of, status_of}

-- the data of segment n of a message: 60 bytes, or what remains
abbrev pub piece_of : List ℕ → ℕ → List ℕ
piece_of m n = take (due_of (length m) n) (drop (60 * (n - 1)) m)

abbrev pub offer_wire : Offer → Wire
offer_wire o = (to_responder o.key, announcement_bytes o.key (announcement_of o))

abbrev pub segment_wire : Key → List ℕ → ℕ → Wire
segment_wire k m n = (data_id k, segment_bytes k n (piece_of m n))

abbrev pub status_wire : Offer → Wire
status_wire o = (to_responder o.key, status_bytes o.key (status_of o))

-- in the originator's role
abbrev pub abort_for : Ending → Abort
abort_for e = record { key = e.key; reason = wire_reason e.refusal; pgn = e.pgn }

-- a BAM that is silent ends without one, as a broadcast session does
abbrev pub ending_wire : Ending → Option Wire
ending_wire e = cond (is_rts e.kind) (Some (to_responder e.key, abort_bytes Originator (abort_for e))) None

-- of a transfer of the key, whose message is m
abbrev pub sends : Key → List ℕ → Reply → Option Wire
sends k m (reply.Announced o) = Some (offer_wire o)
sends k m (reply.Segment n) = Some (segment_wire k m n.0)
sends k m (reply.Status o) = Some (status_wire o)
sends k m reply.NothingDue = None
sends k m reply.Granted = None
sends k m (reply.Acknowledged κ) = None
sends k m (reply.Aborted κ) = None
sends k m (reply.Ended e) = ending_wire e
sends k m (reply.Refused n) = None
