-- Runs with losses: the facts are not about nothing, and the conditions on the losses are needed.
use Rattle.std.specs.Prelude.{None}
use Prim.Native.Nat.{ℕ, zero, suc}
use mathlib.Core.Path.{◌≡◌, refl}
use mathlib.Core.Bool.{true}
use mathlib.Core.List.{List, [], ◌∷◌}
use Rattle.frame.specs.Lengths.{frame_length}
use Rattle.transport.specs.Heads.{id_to}
use Rattle.transport.specs.Segments.{segment_bytes}
use Rattle.transport.specs.Responses.{response_bytes, response_of}
use Rattle.session.specs.Segments.{due_of}
use Rattle.session.specs.Ends.{elapsed}
use Rattle.transfer.specs.Transfers.{segments_of}
use Rattle.transfer.specs.Decisions.{next_frame, cts_open, eoma_open, hears}
use Rattle.isolation.specs.Standard.{number_for, reason_for, fd_lengths, is_one_of, in_pgn_form}
use Rattle.isolation.specs.OwnFrames.{frame_key, control_body, data_body, taken, body_of, is_rts}
use Rattle.isolation.specs.Replies.{sent, ending, cts, hand_over}
use Rattle.isolation.specs.Rules.{is_open, is_taken, piece_at, joined, misdirected, sixties, bad_numbers, least, grant, opens, admitted, announced, due, spent, adds, out_of_turn, segment_open, as_announced, first_missing, missing_run, asks, lacks, status_open, abort_open, rule, since, is_silent, judged_at, ends_at}
use Rattle.delivery.specs.Link.{Setting, Link, ask, take_forward, take_backward, read_sender, read_receiver, answered, asked, body_for, at_receiver, taken_forward, heard, at_sender, taken_backward, kept_at, read, step, start}
use Rattle.delivery.specs.Arrival.{AtRest}
use Rattle.delivery.specs.Losses.{Lossy, keeps, loses_forward, queues, lossy, lossy_run, is_needed, may_lose, Borne, losses, HandedOver}

ramp : ℕ → List ℕ
ramp zero = []
ramp (suc n) = n ∷ ramp n

-- n bytes from 80 hex, session 3, to 20 hex or to all; PGN FEF1 hex
abbrev setting : ℕ → ℕ → Setting
setting k n = record { values = record { own = record { 0 = 32 }; limits = record { first = 1250; second = 750 } }; key = k; limit = 2500; pgn = 65265; message = ramp n }

abbrev to_one : ℕ → Setting
to_one n = setting 524803 n

abbrev to_all : ℕ → Setting
to_all n = setting 528371 n

abbrev ended : Setting → List Lossy → Link
ended s vs = lossy_run s (start s 0 0) vs

-- n times, before others: ask, take at the receiver, take at the sender
rounds : ℕ → List Lossy → List Lossy
rounds zero vs = vs
rounds (suc n) vs = keeps ask ∷ keeps take_forward ∷ keeps take_backward ∷ rounds n vs

-- the frame given is lost
abbrev loss : List Lossy → List Lossy
loss vs = keeps ask ∷ loses_forward ∷ vs

-- the announcement is taken, and its answer
abbrev opening : List Lossy → List Lossy
opening vs = keeps take_forward ∷ keeps take_backward ∷ vs

-- ---- of 3 segments 1 and 3 are lost, and asked for one after the other

abbrev two_lost : List Lossy
two_lost = opening (loss (rounds 1 (loss (rounds 5 []))))

recovers : Borne (to_one 150) (start (to_one 150) 0 0) two_lost × AtRest (ended (to_one 150) two_lost) × HandedOver (to_one 150) (ended (to_one 150) two_lost) × (losses two_lost ≡ 2)
unfolding ramp rounds frame_length id_to segment_bytes response_bytes response_of due_of elapsed segments_of next_frame cts_open eoma_open hears number_for reason_for fd_lengths is_one_of in_pgn_form frame_key control_body data_body taken body_of is_rts sent ending cts hand_over is_taken piece_at joined misdirected sixties bad_numbers least grant opens admitted announced due spent adds out_of_turn segment_open as_announced first_missing missing_run asks lacks status_open rule answered asked body_for at_receiver taken_forward heard at_sender taken_backward step start queues lossy lossy_run is_needed may_lose losses
recovers = (
  (tt, (tt, (tt, (refl, (tt, (tt, (tt, (tt, (refl, (tt, (tt, (tt, (tt, (tt, (tt, (tt, (tt, (tt, (tt, (tt, (tt, (tt, (tt, (tt, tt)))))))))))))))))))))))),
  record { forward = refl; backward = refl; nothing = tt },
  (refl, refl, refl),
  refl,
)

-- ---- one segment, lost six times: it, then what is asked for after each EOMS

abbrev six_lost : List Lossy
six_lost = opening (loss (rounds 1 (loss (rounds 1 (loss (rounds 1 (loss (rounds 1 (loss (rounds 1 (loss (rounds 1 []))))))))))))

gives_up : AtRest (ended (to_one 60) six_lost) × ((ended (to_one 60) six_lost).refused ≡ 21 ∷ []) × ((ended (to_one 60) six_lost).handed ≡ []) × ((ended (to_one 60) six_lost).transfer ≡ None) × (losses six_lost ≡ 6)
unfolding ramp rounds frame_length id_to segment_bytes response_bytes response_of due_of elapsed segments_of next_frame cts_open eoma_open hears number_for reason_for fd_lengths is_one_of in_pgn_form frame_key control_body data_body taken body_of is_rts sent ending cts hand_over is_taken piece_at joined misdirected sixties bad_numbers least grant opens admitted announced due spent adds out_of_turn segment_open as_announced first_missing missing_run asks lacks status_open rule answered asked body_for at_receiver taken_forward heard at_sender taken_backward step start queues lossy lossy_run is_needed may_lose losses
gives_up = (record { forward = refl; backward = refl; nothing = tt }, refl, refl, refl, refl)

-- ---- a broadcast of two segments, the first lost

abbrev first_lost : List Lossy
first_lost = opening (loss (rounds 2 []))

broadcast_ends : AtRest (ended (to_all 100) first_lost) × ((ended (to_all 100) first_lost).refused ≡ 19 ∷ 16 ∷ []) × ((ended (to_all 100) first_lost).handed ≡ [])
unfolding ramp rounds frame_length id_to segment_bytes response_bytes response_of due_of elapsed segments_of next_frame cts_open eoma_open hears number_for reason_for fd_lengths is_one_of in_pgn_form frame_key control_body data_body taken body_of is_rts sent ending cts hand_over is_taken piece_at joined misdirected sixties bad_numbers least grant opens admitted announced due spent adds out_of_turn segment_open as_announced first_missing missing_run asks lacks status_open rule answered asked body_for at_receiver taken_forward heard at_sender taken_backward step start queues lossy lossy_run is_needed may_lose losses
broadcast_ends = (record { forward = refl; backward = refl; nothing = tt }, refl, refl)

-- ---- the conditions are needed: at rest with the session open, until a silence ends it

-- of 17 segments the 16th is lost, the last of the first grant
abbrev grant_lost : List Lossy
grant_lost = opening (rounds 15 (loss []))

grant_lost_lem : AtRest (ended (to_one 1000) grant_lost) × ((ended (to_one 1000) grant_lost).handed ≡ []) × (is_open (ended (to_one 1000) grant_lost).session ≡ true)
unfolding ramp rounds frame_length id_to segment_bytes response_bytes response_of due_of elapsed segments_of next_frame cts_open eoma_open hears number_for reason_for fd_lengths is_one_of in_pgn_form frame_key control_body data_body taken body_of is_rts sent ending cts hand_over is_open is_taken piece_at joined misdirected sixties bad_numbers least grant opens admitted announced due spent adds out_of_turn segment_open as_announced first_missing missing_run asks lacks status_open rule answered asked body_for at_receiver taken_forward heard at_sender taken_backward step start queues lossy lossy_run is_needed may_lose
grant_lost_lem = (record { forward = refl; backward = refl; nothing = refl }, refl, refl)

-- the EOMS after one segment is lost
abbrev status_lost : List Lossy
status_lost = opening (rounds 1 (loss []))

status_lost_lem : AtRest (ended (to_one 60) status_lost) × ((ended (to_one 60) status_lost).handed ≡ []) × (is_open (ended (to_one 60) status_lost).session ≡ true)
unfolding ramp rounds frame_length id_to segment_bytes response_bytes response_of due_of elapsed segments_of next_frame cts_open eoma_open hears number_for reason_for fd_lengths is_one_of in_pgn_form frame_key control_body data_body taken body_of is_rts sent ending cts hand_over is_open is_taken piece_at joined misdirected sixties bad_numbers least grant opens admitted announced due spent adds out_of_turn segment_open as_announced first_missing missing_run asks lacks status_open rule answered asked body_for at_receiver taken_forward heard at_sender taken_backward step start queues lossy lossy_run is_needed may_lose
status_lost_lem = (record { forward = refl; backward = refl; nothing = refl }, refl, refl)

-- a silence then ends it at the receiver, and its Abort the transfer; or the other way about
abbrev silences : List Lossy → List Lossy
silences vs = opening (rounds 1 (loss vs))

abbrev receiver_first : List Lossy
receiver_first = silences (keeps (read_receiver 750) ∷ keeps take_backward ∷ [])

abbrev sender_first : List Lossy
sender_first = silences (keeps (read_sender 2500) ∷ keeps take_forward ∷ [])

silence_ends : AtRest (ended (to_one 60) receiver_first) × ((ended (to_one 60) receiver_first).session ≡ None) × ((ended (to_one 60) receiver_first).transfer ≡ None)
    × AtRest (ended (to_one 60) sender_first) × ((ended (to_one 60) sender_first).session ≡ None) × ((ended (to_one 60) sender_first).transfer ≡ None)
unfolding ramp rounds frame_length id_to segment_bytes response_bytes response_of due_of elapsed segments_of next_frame cts_open eoma_open hears number_for reason_for fd_lengths is_one_of in_pgn_form frame_key control_body data_body taken body_of is_rts sent ending cts hand_over is_taken piece_at joined misdirected sixties bad_numbers least grant opens admitted announced due spent adds out_of_turn segment_open as_announced first_missing missing_run asks lacks status_open rule answered asked body_for at_receiver taken_forward heard at_sender taken_backward step start queues lossy lossy_run is_needed may_lose since is_silent judged_at ends_at abort_open kept_at read
silence_ends = (record { forward = refl; backward = refl; nothing = tt }, refl, refl, record { forward = refl; backward = refl; nothing = tt }, refl, refl)
