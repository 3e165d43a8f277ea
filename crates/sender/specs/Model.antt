-- The calls on a sender's record by value: what the theorems are about. Calls.antt says the same of its bytes.
use Rattle.std.specs.Prelude.{ℕ, cond, List, map, length, replicate, Err, None, Ok, Option, Result}
use Rattle.frame.specs.Judge.{judged}
use Rattle.frame.specs.declared.Address.{Address}
use Rattle.frame.specs.declared.SessionNumber.{SessionNumber}
use Rattle.frame.specs.declared.judge.Content.TheVariants as verdict
use Rattle.frame.specs.declared.refusal.Refusal.{Refusal}
use Rattle.frame.specs.declared.refusal.Refusal.TheVariants.{OutOfBounds, NotTaken}
use Rattle.transport.specs.declared.Key.{Key}
use Rattle.transfer.specs.declared.Reply.{Reply}
use Rattle.transfer.specs.declared.Reply.TheVariants as reply
use Rattle.transfer.specs.Decisions.{after}
use Rattle.sender_bytes.specs.Layout.{Sender}
use Rattle.sender.specs.Transfers.{in_bounds}
use Rattle.sender.specs.Calls.{Decides, announces, asks, hears_from, applied}
use Rattle.sender.specs.Clock.{end_of, change_by}
use Rattle.answer.specs.declared.Ending.{Ending}
use Rattle.frame.specs.declared.judge.Content.{Content}
use Rattle.transfer.specs.declared.Transfer.{Transfer}

abbrev pub Stepped : Type 0
Stepped = Reply × Sender

abbrev pub stepped : Sender → Decides → Stepped
stepped s d = (d.step.reply, applied s d.place d.step.change)

-- a refusal that changes nothing
abbrev pub refused : Sender → Refusal → Stepped
refused s n = (reply.Refused n, s)

abbrev pub key_of : Sender → Address → SessionNumber → Key
key_of s da session = record { sa = s.own; da = da; session = session }

-- a message of n bytes
unfoldable pub announce_step : Sender → Address → SessionNumber → ℕ → ℕ → Stepped
announce_step s da session pgn n = cond (in_bounds s) (stepped s (announces s (key_of s da session) pgn n)) (refused s OutOfBounds)

unfoldable pub ask_step : Sender → Address → SessionNumber → ℕ → Stepped
ask_step s da session n = cond (in_bounds s) (stepped s (asks s (key_of s da session) n)) (refused s OutOfBounds)

abbrev pub by_verdict : Result Content Refusal → Sender → List ℕ → Stepped
by_verdict (Ok (verdict.Control route)) s d = stepped s (hears_from s route d)
by_verdict (Ok (verdict.MultiPg route)) s d = refused s NotTaken
by_verdict (Ok (verdict.Data route)) s d = refused s NotTaken
by_verdict (Err n) s d = refused s n

-- a frame at a sender with no receiver beside it
unfoldable pub frame_step : Sender → ℕ → List ℕ → Stepped
frame_step s id d = cond (in_bounds s) (by_verdict (judged s.own id (length d)) s d) (refused s OutOfBounds)

-- ---- a reading: the ending of each transfer, and the record after it

abbrev pub elapsed : ℕ → ℕ → Option Transfer → Option Transfer
elapsed limit t x = after x (change_by (end_of limit t x))

unfoldable pub reading_step : Sender → ℕ → List (Option Ending) × Sender
reading_step s t =
    cond (in_bounds s)
    (map (end_of s.limit t) s.transfers, record { own = s.own; limit = s.limit; last = t; transfers = map (elapsed s.limit t) s.transfers })
    (replicate 4 None, s)
