-- 01's whole case, line by line, and a line of each kind that it leaves out. Every one is computed.
use Rattle.std.specs.Prelude.{ℕ, ◌≡◌, refl, List, [], ◌∷◌, replicate, Err, None, Ok, Option, Some}
use Rattle.frame.specs.declared.refusal.Refusal.TheVariants.{OutOfSequence, RequestsSpent, Silence, OutOfBounds, AnnouncementForm, FrameLength}
use Rattle.frame.specs.declared.judge.Route.{Route}
use Rattle.multi_pg.specs.Groups.{groups_read, read_from}
use Rattle.transport.specs.declared.Key.{Key}
use Rattle.transport.specs.declared.Kind.{Kind}
use Rattle.transport.specs.declared.Kind.TheVariants.{Rts, Bam}
use Rattle.answer.specs.declared.Message.{Message}
use Rattle.answer.specs.declared.Answer.{Answer}
use Rattle.answer.specs.declared.Answer.TheVariants.{Groups, Opened, Taken, Grant, HandedOver, Aborted, Ended, RefusedRts, Refused}
use Rattle.text.specs.Ascii.{ascii}
use Rattle.text.specs.Decimal.{decimal, digits_of, width_of, width_from}
use Rattle.text.specs.Line.{line_of, numbers, spaced}
use Rattle.report.specs.Lines.{answer_lines, group_lines, reading_lines, ends_lines, end_line, bad_line}
use Rattle.answer.specs.declared.Ending.{Ending}

abbrev key : Key
key = record { sa = record { 0 = 128 }; da = record { 0 = 33 }; session = record { 0 = 3 } }

abbrev route : Route
route = record { sa = record { 0 = 128 }; da = record { 0 = 33 } }

-- the answer to a control or data frame, whose bytes show only in a message
abbrev printed : Answer → List ℕ → List ℕ
printed a bytes = answer_lines [] a bytes

abbrev stays : Option Ending
stays = None

abbrev silent : Kind → Option Ending
silent k = Some (record { key = key; kind = k; refusal = Silence; pgn = 65226 })

abbrev message : Kind → Message
message k =
    record { key = key; kind = k; total = record { 0 = 3 }; segments = record { 0 = 1 }; pgn = 65226; slot = 0 }

pub record WholeCase : Type 0 where
  pub a : reading_lines (Ok tt) (replicate 8 stays) ≡ []
  pub b : answer_lines (0x40 ∷ 0xEA ∷ 0x00 ∷ 0x03 ∷ 0xCA ∷ 0xFE ∷ 0x00 ∷ []) (Groups route) [] ≡ ascii "pg 128 33 59904 3\n"
  pub c : printed (Grant (record { key = key; next = record { 0 = 1 }; count = 2; pgn = 65226 })) [] ≡ ascii "send cts 128 3 1 2\n"
  pub d : printed (Taken (record { key = key; number = record { 0 = 2 } })) [] ≡ ascii "took 128 3 2\n"
  pub last : end_line 4 ≡ ascii "end 4\n"

pub whole_case_lem : WholeCase
unfolding answer_lines group_lines ends_lines line_of numbers spaced decimal digits_of width_of width_from groups_read read_from
whole_case_lem = record { a = refl; b = refl; c = refl; d = refl; last = refl }

pub record OtherLines : Type 0 where
  pub opened : printed (Opened key) [] ≡ ascii "open 128 3\n"
  pub taken : printed (Taken (record { key = key; number = record { 0 = 10 } })) [] ≡ ascii "took 128 3 10\n"
  pub handed_rts : printed (HandedOver (message Rts)) (0 ∷ 99 ∷ 255 ∷ []) ≡ ascii "send eoma 128 3\nmsg 128 33 3 65226 3 0 99 255\n"
  pub handed_bam : printed (HandedOver (message Bam)) (0 ∷ 99 ∷ 255 ∷ []) ≡ ascii "msg 128 33 3 65226 3 0 99 255\n"
  pub aborted : printed (Aborted key) [] ≡ ascii "ended 128 3 0\n"
  pub ended_rts : printed (Ended (record { key = key; kind = Rts; refusal = OutOfSequence; pgn = 65226 })) [] ≡ ascii "send abort 128 3 19\n"
  pub ended_spent : printed (Ended (record { key = key; kind = Rts; refusal = RequestsSpent; pgn = 65226 })) [] ≡ ascii "send abort 128 3 21\n"
  pub ended_bam : printed (Ended (record { key = key; kind = Bam; refusal = OutOfSequence; pgn = 65226 })) [] ≡ ascii "ended 128 3 19\n"
  pub rejected : printed (RefusedRts (record { key = key; refusal = AnnouncementForm; pgn = 65226 })) [] ≡ ascii "send abort 128 3 11\n"
  pub refused : printed (Refused FrameLength) [] ≡ ascii "refused 1\n"
  pub silence : reading_lines (Ok tt) (stays ∷ silent Rts ∷ silent Bam ∷ replicate 5 stays) ≡ ascii "send abort 128 3 22\nended 128 3 22\n"
  pub out_of_bounds : reading_lines (Err OutOfBounds) (replicate 8 stays) ≡ ascii "refused 23\n"
  pub bad : bad_line 1000 ≡ ascii "bad record at 1000\n"

pub other_lines : OtherLines
unfolding answer_lines ends_lines line_of numbers spaced decimal digits_of width_of width_from
other_lines =
    record {
      opened = refl;
      taken = refl;
      handed_rts = refl;
      handed_bam = refl;
      aborted = refl;
      ended_rts = refl;
      ended_spent = refl;
      ended_bam = refl;
      rejected = refl;
      refused = refl;
      silence = refl;
      out_of_bounds = refl;
      bad = refl;
    }
