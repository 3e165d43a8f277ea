-- Runs from record to record, with another transfer and another session open: the theorems are not about nothing.
use Rattle.std.specs.Prelude.{None}
use Prim.Native.Nat.{ℕ, zero, suc}
use native.Mathlib.Omega.{arith}
use mathlib.Core.Logic.{inl}
use mathlib.Core.Path.{◌≡◌, refl}
use mathlib.Core.Bool.{true}
use mathlib.Core.List.{List, [], ◌∷◌}
use lib.ListN.{length, replicate, length-replicate}
use Rattle.segments.specs.Digits.{digit}
use Rattle.segments.specs.Model.{is_in, missing_of, first_from, run_from}
use Rattle.progress.specs.declared.wait.IdleLimits.{IdleLimits}
use Rattle.frame.specs.Judge.{judged, by_format}
use Rattle.frame.specs.Lengths.{frame_length}
use Rattle.transport.specs.Control.{control_of}
use Rattle.transport.specs.Heads.{id_to}
use Rattle.transport.specs.Segments.{segment_bytes, data_frame_of}
use Rattle.transport.specs.Responses.{response_bytes, response_of}
use Rattle.progress.specs.Forward.{grant_of}
use Rattle.session.specs.Announcements.{form_of}
use Rattle.session.specs.Decisions.{segment_to, status_to}
use Rattle.session.specs.Decisions as session
use Rattle.session.specs.Segments.{due_of, judged_of}
use Rattle.session.specs.Ends.{elapsed}
use Rattle.slots.specs.Slots.{free_slot}
use Rattle.slots.specs.Bounds.{slots_ok}
use Rattle.transfer.specs.Transfers.{segments_of}
use Rattle.transfer.specs.Decisions.{announced_to, next_frame, asked_to, cts_open, eoma_open, hears}
use Rattle.sender_bytes.specs.Layout.{Sender}
use Rattle.sender.specs.Transfers as sender
use Rattle.sender.specs.Model as model
use Rattle.receiver.specs.declared.Receiver.{Receiver}
use Rattle.receiver.specs.Bounds.{in_bounds, opened_with}
use Rattle.receiver.specs.Calls.{announce_step, status_step, control_step, segment_step, frame_all, reading_step}
use Rattle.isolation.specs.Standard.{fd_lengths, is_one_of}
use Rattle.isolation.specs.OwnFrames.{frame_key, body_of, taken, control_body, data_body, is_rts}
use Rattle.isolation.specs.Stands.{open_of, stands_for}
use Rattle.isolation.specs.Observe.{is_own, is_body, lost, open_in, reply_of, says_of, end_reply, ending_of, endings_of}
use Rattle.delivery.specs.Link.{Setting, body_for}
use Rattle.delivery.specs.Arrival.{whole}
use Rattle.delivery.specs.System as system
use Rattle.delivery.specs.System.{System, Move, ask, take_forward, take_backward, read_sender, read_receiver, frame_aside, announce_aside, ask_aside, hear_aside, asked, heard, taken_forward, taken_backward, aside, start, step, run}
use Rattle.delivery.specs.Whole.{Starts, Meets, AtRest}
use Rattle.delivery.specs.Losses.{is_needed, may_lose, HandedOver}
use Rattle.delivery.specs.WholeLosses.{Lossy, keeps, loses_forward, loses_backward, queues, lossy, lossy_run, Borne, link_in}

ramp : ℕ → List ℕ
ramp zero = []
ramp (suc n) = n ∷ ramp n

-- the standard's two limits
abbrev limits : IdleLimits
limits = record { first = 1250; second = 750 }

-- 100 bytes from 80 hex, session 3, to 20 hex; PGN FEF1 hex
abbrev setting : Setting
setting = record { values = record { own = record { 0 = 32 }; limits = limits }; key = 524803; limit = 2500; pgn = 65265; message = ramp 100 }

abbrev originator : Sender
originator = record { own = record { 0 = 128 }; limit = 2500; last = 0; transfers = replicate 4 None }

abbrev responder : Receiver
responder = opened_with (record { 0 = 32 }) limits 0

abbrev before : System
before = start setting originator responder (replicate 32768 0)

starts : Starts setting originator responder (replicate 32768 0)
unfolding sender.in_bounds in_bounds slots_ok model.announce_step announced_to open_in ramp
starts = record {
  sender_ready = refl;
  receiver_ready = refl;
  eight = refl;
  store = length-replicate {A = ℕ} 32768 0;
  own = refl;
  limit = refl;
  values = refl;
  apart = λ e. omega arith;
  aimed = inl refl;
  accepted = refl;
  unknown = refl;
}

-- beside it a transfer to 21 hex, with its CTS and a segment, and a BAM from 81 hex
abbrev moves : List Move
moves =
    announce_aside (record { 0 = 33 }) (record { 0 = 1 }) 65265 50
    ∷ frame_aside 0x1C4DFF81 (0x54 ∷ 61 ∷ 0 ∷ 0 ∷ 2 ∷ 0 ∷ 0 ∷ 255 ∷ 0 ∷ 0xCA ∷ 0xFE ∷ 0 ∷ [])
    ∷ take_forward
    ∷ hear_aside 0x1C4D8021 (0x11 ∷ 255 ∷ 255 ∷ 255 ∷ 1 ∷ 0 ∷ 0 ∷ 1 ∷ 0 ∷ 0xF1 ∷ 0xFE ∷ 0 ∷ [])
    ∷ take_backward
    ∷ ask_aside (record { 0 = 33 }) (record { 0 = 1 }) 50
    ∷ read_sender 500
    ∷ read_receiver 700
    ∷ ask
    ∷ ask
    ∷ ask
    ∷ take_forward
    ∷ take_forward
    ∷ take_forward
    ∷ take_backward
    ∷ []

abbrev after : System
after = run setting before moves

meets : Meets setting before moves
unfolding sender.in_bounds in_bounds slots_ok model.announce_step model.ask_step model.frame_step model.reading_step announced_to next_frame asked_to cts_open eoma_open hears ramp
    judged by_format frame_length control_of id_to segment_bytes data_frame_of response_bytes response_of grant_of form_of segment_to status_to session.announced_to due_of judged_of is_in missing_of digit elapsed segments_of
    announce_step status_step control_step segment_step frame_all reading_step reply_of says_of asked heard system.taken taken_forward taken_backward aside start step run
    is_own is_body lost open_in frame_key body_of taken is_one_of fd_lengths control_body data_body body_for
meets = (refl, (refl, ((λ e. refl), (refl, (tt, (refl, (refl, (refl, (tt, (tt, (tt, ((λ e. refl), ((λ e. refl), ((λ e. refl), (tt, tt)))))))))))))))

abbrev Rests : Type 0
Rests = AtRest setting after × (after.handed ≡ whole setting ∷ []) × (after.well ≡ true)

rests : Rests
unfolding sender.in_bounds in_bounds slots_ok model.announce_step model.ask_step model.frame_step model.reading_step announced_to next_frame asked_to cts_open eoma_open hears ramp
    judged by_format frame_length control_of id_to segment_bytes data_frame_of response_bytes response_of grant_of form_of segment_to status_to session.announced_to due_of judged_of is_in missing_of digit elapsed segments_of
    announce_step status_step control_step segment_step frame_all reading_step reply_of says_of asked heard system.taken taken_forward taken_backward aside start step run
rests = (record { forward = refl; backward = refl; nothing = tt }, refl, refl)

-- ---- the same with losses: of two segments the first is lost, and asked for

-- the same beside it
abbrev opening : List Lossy → List Lossy
opening vs =
    keeps (announce_aside (record { 0 = 33 }) (record { 0 = 1 }) 65265 50)
    ∷ keeps (frame_aside 0x1C4DFF81 (0x54 ∷ 61 ∷ 0 ∷ 0 ∷ 2 ∷ 0 ∷ 0 ∷ 255 ∷ 0 ∷ 0xCA ∷ 0xFE ∷ 0 ∷ []))
    ∷ keeps take_forward
    ∷ vs

abbrev first_lost : List Lossy
first_lost =
    opening (keeps take_backward ∷ keeps ask ∷ loses_forward ∷ keeps ask ∷ keeps take_forward ∷ keeps ask ∷ keeps take_forward ∷ keeps take_backward
    ∷ keeps ask ∷ keeps take_forward ∷ keeps ask ∷ keeps take_forward ∷ keeps take_backward ∷ [])

abbrev recovered : System
recovered = lossy_run setting before first_lost

borne : Borne setting before first_lost
unfolding sender.in_bounds in_bounds slots_ok model.announce_step model.ask_step model.frame_step model.reading_step announced_to next_frame asked_to cts_open eoma_open hears ramp
    judged by_format frame_length control_of id_to segment_bytes data_frame_of response_bytes response_of grant_of form_of segment_to status_to session.announced_to due_of judged_of is_in missing_of digit elapsed segments_of
    announce_step status_step control_step segment_step frame_all reading_step reply_of says_of asked heard system.taken taken_forward taken_backward aside start step
    is_own is_body lost open_in frame_key body_of taken is_one_of fd_lengths control_body data_body body_for queues lossy is_needed may_lose stands_for open_of is_rts first_from run_from
borne = (refl, (refl, ((λ e. refl), (tt, (tt, (refl, (tt, ((λ e. refl), (tt, ((λ e. refl), (tt, (tt, ((λ e. refl), (tt, ((λ e. refl), (tt, tt))))))))))))))))

recovers : AtRest setting recovered × HandedOver setting (link_in setting recovered)
unfolding sender.in_bounds in_bounds slots_ok model.announce_step model.ask_step model.frame_step model.reading_step announced_to next_frame asked_to cts_open eoma_open hears ramp
    judged by_format frame_length control_of id_to segment_bytes data_frame_of response_bytes response_of grant_of form_of segment_to status_to session.announced_to due_of judged_of is_in missing_of digit elapsed segments_of
    announce_step status_step control_step segment_step frame_all reading_step reply_of says_of asked heard system.taken taken_forward taken_backward aside start step
    queues lossy lossy_run first_from run_from
recovers = (record { forward = refl; backward = refl; nothing = tt }, (refl, refl, refl))

-- ---- the CTS is lost: a silence ends the session, and one the transfer, each with its Abort; of the other session and the other transfer,
-- which end by the same readings, none joins a queue

abbrev silences : List Lossy
silences = opening (loses_backward ∷ keeps (read_receiver 1250) ∷ keeps (read_sender 2500) ∷ [])

abbrev silent : System
silent = lossy_run setting before silences

falls_silent : (length silent.forward ≡ 1) × (length silent.backward ≡ 1) × (silent.sender.transfers ≡ replicate 4 None) × (silent.receiver.slots ≡ replicate 8 free_slot)
unfolding sender.in_bounds in_bounds slots_ok model.announce_step model.ask_step model.frame_step model.reading_step announced_to next_frame asked_to cts_open eoma_open hears ramp
    judged by_format frame_length control_of id_to segment_bytes data_frame_of response_bytes response_of grant_of form_of segment_to status_to session.announced_to due_of judged_of is_in missing_of digit elapsed segments_of
    announce_step status_step control_step segment_step frame_all reading_step reply_of says_of asked heard system.taken taken_forward taken_backward aside start step
    queues lossy lossy_run end_reply ending_of endings_of
falls_silent = (refl, refl, refl, refl)
