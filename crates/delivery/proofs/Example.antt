-- Runs that come to rest: the facts are not about nothing.
use Prim.Native.Nat.{ℕ, zero, suc}
use native.Mathlib.Omega.{arith}
use mathlib.Core.Logic.{inl, inr}
use mathlib.Core.Path.{◌≡◌, refl}
use mathlib.Core.Bool.{true}
use mathlib.Core.List.{List, [], ◌∷◌, ◌++◌}
use Rattle.frame.specs.Lengths.{frame_length}
use Rattle.transport.specs.Heads.{id_to}
use Rattle.transport.specs.Segments.{segment_bytes}
use Rattle.transport.specs.Responses.{response_bytes, response_of}
use Rattle.session.specs.Segments.{due_of}
use Rattle.session.specs.Ends.{elapsed}
use Rattle.transfer.specs.Transfers.{segments_of}
use Rattle.transfer.specs.Decisions.{next_frame, cts_open, eoma_open, hears}
use Rattle.isolation.specs.Standard.{fd_lengths, is_one_of, in_pgn_form}
use Rattle.isolation.specs.OwnFrames.{frame_key, control_body, data_body, taken, body_of, is_rts}
use Rattle.isolation.specs.Replies.{sent, cts, hand_over}
use Rattle.isolation.specs.Rules.{is_taken, piece_at, joined, misdirected, sixties, bad_numbers, least, grant, opens, admitted, announced, due, spent, adds, out_of_turn, segment_open, as_announced, status_open, rule, since, is_silent, judged_at}
use Rattle.delivery.specs.Link.{Setting, Link, Move, ask, take_forward, take_backward, read_sender, read_receiver, answered, asked, body_for, at_receiver, taken_forward, heard, at_sender, taken_backward, kept_at, read, step, run, start}
use Rattle.delivery.specs.Arrival.{Fair, Calm, AtRest, whole}

-- n times: ask, take at the receiver, take at the sender
rounds : ℕ → List Move
rounds zero = []
rounds (suc n) = ask ∷ take_forward ∷ take_backward ∷ rounds n

ramp : ℕ → List ℕ
ramp zero = []
ramp (suc n) = n ∷ ramp n

-- from 80 hex, session 3, to 20 hex or to all; PGN FEF1 hex
abbrev setting : ℕ → Setting
setting k = record { values = record { own = record { 0 = 32 }; limits = record { first = 1250; second = 750 } }; key = k; limit = 2500; pgn = 65265; message = ramp 1000 }

fair_to_one : Fair (setting 524803)
unfolding ramp
fair_to_one = record {
  some_bytes = omega arith;
  few_bytes = omega arith;
  in_form = refl;
  sender = omega arith;
  receiver = omega arith;
  apart = λ e. omega arith;
  aimed = inl refl;
}

fair_to_all : Fair (setting 528371)
unfolding ramp
fair_to_all = record {
  some_bytes = omega arith;
  few_bytes = omega arith;
  in_form = refl;
  sender = omega arith;
  receiver = omega arith;
  apart = λ e. omega arith;
  aimed = inr refl;
}

-- a reading at each end once the session is open
abbrev opening : List Move
opening = ask ∷ take_forward ∷ take_backward ∷ read_sender 500 ∷ read_receiver 700 ∷ []

abbrev opened : ℕ → Link
opened k = run (setting k) (start (setting k) 0 0) opening

abbrev turns : List Move
turns = opening ++ rounds 19

abbrev ended : ℕ → Link
ended k = run (setting k) (start (setting k) 0 0) turns

calm_rounds : (s : Setting) (x : Link) (n : ℕ) → Calm s x (rounds n)
unfolding rounds
calm_rounds s x zero = tt
calm_rounds s x (suc n) = (tt, (tt, (tt, calm_rounds s (step s (step s (step s x ask) take_forward) take_backward) n)))

abbrev Rests : ℕ → Type 0
Rests k = Calm (setting k) (start (setting k) 0 0) turns × AtRest (ended k) × ((ended k).handed ≡ whole (setting k) ∷ []) × ((ended k).well ≡ true)

-- 1,000 bytes are 17 segments, so two grants
both_rest : Rests 524803 × Rests 528371
unfolding rounds ramp frame_length id_to segment_bytes response_bytes response_of due_of elapsed segments_of next_frame cts_open eoma_open hears fd_lengths is_one_of in_pgn_form frame_key control_body data_body taken body_of is_rts sent cts hand_over is_taken piece_at joined misdirected sixties bad_numbers least grant opens admitted announced due spent adds out_of_turn segment_open as_announced status_open rule since is_silent judged_at answered asked body_for at_receiver taken_forward heard at_sender taken_backward kept_at read step run start
both_rest = (
  ((tt, (tt, (tt, (refl, (refl, calm_rounds (setting 524803) (opened 524803) 19))))), record { forward = refl; backward = refl; nothing = tt }, refl, refl),
  ((tt, (tt, (tt, (refl, (refl, calm_rounds (setting 528371) (opened 528371) 19))))), record { forward = refl; backward = refl; nothing = tt }, refl, refl),
)
