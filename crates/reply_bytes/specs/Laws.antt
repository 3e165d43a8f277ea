-- How long a sender's answers are, and what is where in those of a reading.
use Rattle.std.specs.Prelude.{ℕ, ◌<◌, ◌≡◌, refl, Bool, true, false, cond, List, length, get_or, take, drop, None, Option, Some}
use Rattle.transport.specs.Kinds.{is_rts}
use Rattle.transport.specs.Heads.{to_responder}
use Rattle.transport.specs.Aborts.{abort_bytes}
use Rattle.transport.specs.declared.abort.Role.TheVariants.{Originator}
use Rattle.answer.specs.declared.Ending.{Ending}
use Rattle.transfer.specs.declared.Reply.{Reply}
use Rattle.transfer.specs.declared.Reply.TheVariants as reply
use Rattle.transfer.specs.Sends.{abort_for, ending_wire}
use Rattle.sender.specs.declared.Laid.{Laid}
use Rattle.sender.specs.declared.Sent.{Sent}
use Rattle.answer_bytes.specs.Places.{answer_length, answer_place, sent_length}
use Rattle.answer_bytes.specs.Sizes.{length_whole}
use Rattle.answer_bytes.specs.EndLaws.{place_by}
use Rattle.reply_bytes.specs.Replies.{reply_fields, abort_of, wire_bytes, laid_bytes, laid_length, reply_bytes, given_bytes, transfer_end_bytes, transfer_ends_bytes}

-- ---- what goes out

pub length_ending : (e : Ending) → length (wire_bytes (ending_wire e)) ≡ sent_length
length_ending e = go (is_rts e.kind)
  where
    go : (b : Bool) → length (wire_bytes (cond b (Some (to_responder e.key, abort_bytes Originator (abort_for e))) None)) ≡ sent_length
    go true = refl
    go false = refl

pub length_abort : (r : Reply) → length (wire_bytes (abort_of r)) ≡ sent_length
length_abort (reply.Announced o) = refl
length_abort (reply.Segment n) = refl
length_abort (reply.Status o) = refl
length_abort reply.NothingDue = refl
length_abort reply.Granted = refl
length_abort (reply.Acknowledged k) = refl
length_abort (reply.Aborted k) = refl
length_abort (reply.Ended e) = length_ending e
length_abort (reply.Refused n) = refl

pub length_laid : (f : Option Laid) → length (laid_bytes f) ≡ sent_length
length_laid None = refl
length_laid (Some f) = refl

-- ---- whole

pub length_reply : (r : Reply) → length (reply_bytes r) ≡ answer_length
length_reply r = length_whole (reply_fields r 0) (wire_bytes (abort_of r)) (length_abort r)

pub length_given : (s : Sent) → length (given_bytes s) ≡ answer_length
length_given s = length_whole (reply_fields s.reply (laid_length s.frame)) (laid_bytes s.frame) (length_laid s.frame)

pub length_transfer_end : (e : Option Ending) → length (transfer_end_bytes e) ≡ answer_length
length_transfer_end None = refl
length_transfer_end (Some e) = length_reply (reply.Ended e)

-- where transfer i's answer is
pub transfer_end_place : (es : List (Option Ending)) (i : ℕ) (d : Option Ending) → i < length es
    → take answer_length (drop (answer_place i) (transfer_ends_bytes es)) ≡ transfer_end_bytes (get_or es i d)
transfer_end_place = place_by transfer_end_bytes length_transfer_end
