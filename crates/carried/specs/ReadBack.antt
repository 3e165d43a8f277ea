-- Answers read off the bytes that a call gives: what a program in C can take from them.
use Rattle.std.specs.Prelude.{ℕ, cond, List, eqb, get_or, drop, None, Option, Some}
use Rattle.frame.specs.Numbers.{refusal_at}
use Rattle.frame.specs.declared.judge.Route.{Route}
use Rattle.transport.specs.declared.Key.{Key}
use Rattle.answer.specs.declared.Ending.{Ending}
use Rattle.answer.specs.declared.Answer.{Answer}
use Rattle.answer.specs.declared.Answer.TheVariants.{Groups, Opened, Taken, Grant, HandedOver, Aborted, Ended, RefusedRts, Refused}
use Rattle.isolation.specs.Replies.{Wire}
use Rattle.record_bytes.specs.Layout.{kind_at}
use Rattle.words.specs.Words.{low32}
use Rattle.answer_bytes.specs.Places.{number_place, code_place, sa_place, da_place, session_place, kind_place, extra_place, pgn_place, total_place, segment_place, sent_place, identifier_place, data_place}

abbrev pub key_in : List ℕ → Key
key_in p = record { sa = record { 0 = get_or p sa_place 0 }; da = record { 0 = get_or p da_place 0 }; session = record { 0 = get_or p session_place 0 } }

abbrev pub ending_in : List ℕ → Ending
ending_in p = record { key = key_in p; kind = kind_at (get_or p kind_place 0); refusal = refusal_at (get_or p number_place 0) (get_or p extra_place 0); pgn = low32 p pgn_place }

-- the bytes of an answer do not say where a Multi-PG frame came from and went: who lent the frame has its identifier
abbrev pub no_route : Route
no_route = record { sa = record { 0 = 0 }; da = record { 0 = 0 } }

abbrev pub unrouted : Answer → Answer
unrouted (Groups route) = Groups no_route
unrouted (Opened k) = Opened k
unrouted (Taken t) = Taken t
unrouted (Grant c) = Grant c
unrouted (HandedOver x) = HandedOver x
unrouted (Aborted k) = Aborted k
unrouted (Ended e) = Ended e
unrouted (RefusedRts j) = RefusedRts j
unrouted (Refused n) = Refused n

abbrev pub answer_by : ℕ → List ℕ → Answer
answer_by code p =
    cond (eqb code 1) (Groups no_route)
    (cond (eqb code 2) (Opened (key_in p))
    (cond (eqb code 3) (Taken (record { key = key_in p; number = record { 0 = low32 p segment_place } }))
    (cond (eqb code 4) (Grant (record { key = key_in p; next = record { 0 = low32 p segment_place }; count = get_or p extra_place 0; pgn = low32 p pgn_place }))
    (cond (eqb code 5) (HandedOver
    (record {
      key = key_in p;
      kind = kind_at
          (get_or p kind_place 0);
      total = record { 0 = low32 p total_place };
      segments = record { 0 = low32 p segment_place };
      pgn = low32 p pgn_place;
      slot = get_or p extra_place 0;
    }))
    (cond (eqb code 6) (Aborted (key_in p))
    (cond (eqb code 7) (Ended (ending_in p))
    (cond (eqb code 8) (RefusedRts (record { key = key_in p; refusal = refusal_at (get_or p number_place 0) (get_or p extra_place 0); pgn = low32 p pgn_place }))
    (Refused (refusal_at (get_or p number_place 0) (get_or p extra_place 0))))))))))

-- by the code that is second
abbrev pub answer_at : List ℕ → Answer
answer_at p = answer_by (get_or p code_place 0) p

-- ---- the frame sent, off its own bytes: 1 where there is one, its identifier, its 12 bytes

abbrev pub wire_at : List ℕ → Option Wire
wire_at p = cond (eqb (get_or p sent_place 0) 1) (Some (low32 p identifier_place, drop data_place p)) None
