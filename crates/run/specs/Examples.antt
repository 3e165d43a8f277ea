-- 01's whole case, from the trace's bytes to the program's lines; and traces that end otherwise. Each is computed.
use Rattle.std.specs.Prelude.{ℕ, ◌≡◌, refl, List, [], ◌∷◌, ◌++◌}
use Rattle.segments.specs.Digits.{digit}
use Rattle.segments.specs.Model.{is_in, missing_of}
use Rattle.frame.specs.Judge.{judged, by_format}
use Rattle.multi_pg.specs.Groups.{groups_read, read_from}
use Rattle.transport.specs.Control.{control_of}
use Rattle.transport.specs.Segments.{data_frame_of}
use Rattle.progress.specs.Forward.{grant_of}
use Rattle.session.specs.Announcements.{form_of}
use Rattle.session.specs.Segments.{judged_of, due_of}
use Rattle.session.specs.Decisions.{announced_to, segment_to}
use Rattle.slots.specs.Bounds.{slots_ok}
use Rattle.receiver.specs.Bounds.{opened, in_bounds}
use Rattle.receiver.specs.Calls.{frame_all, control_step, announce_step, segment_step, reading_step}
use Rattle.text.specs.Ascii.{ascii}
use Rattle.text.specs.Decimal.{decimal, digits_of, width_of, width_from}
use Rattle.text.specs.Line.{line_of, numbers, spaced}
use Rattle.trace.specs.Numbers.{number_at}
use Rattle.trace.specs.Records.{record_at}
use Rattle.report.specs.Lines.{answer_lines, group_lines, ends_lines}
use Rattle.run.specs.Lines.{turn_at, lines_from, lines_in, lines_of}

abbrev line : List ℕ → List ℕ
line text = text ++ (10 ∷ [])

-- (a) reading 0; (b) one group; (c) an RTS for 61 bytes in 2 segments; (d) its second segment first, which is taken (02, E6)
abbrev whole_case : List ℕ
whole_case =
    0x00 ∷ 0x00
    ∷ 0x01 ∷ 0x80 ∷ 0xC3 ∷ 0x94 ∷ 0xC1 ∷ 0x01 ∷ 0x07 ∷ 0x40 ∷ 0xEA ∷ 0x00 ∷ 0x03 ∷ 0xCA ∷ 0xFE ∷ 0x00
    ∷ 0x01 ∷ 0x80 ∷ 0xC3 ∷ 0xB4 ∷ 0xE2 ∷ 0x01 ∷ 0x0C ∷ 0x30 ∷ 0x3D ∷ 0x00 ∷ 0x00 ∷ 0x02 ∷ 0x00 ∷ 0x00 ∷ 0xFF ∷ 0x00 ∷ 0xCA ∷ 0xFE ∷ 0x00
    ∷ 0x01 ∷ 0x80 ∷ 0xC3 ∷ 0xB8 ∷ 0xE2 ∷ 0x01 ∷ 0x05 ∷ 0x30 ∷ 0x02 ∷ 0x00 ∷ 0x00 ∷ 0x11 ∷ []

pub whole_case_lem : lines_of whole_case ≡ line (ascii "pg 128 33 59904 3") ++ (line (ascii "send cts 128 3 1 2") ++ (line (ascii "took 128 3 2") ++ line (ascii "end 4")))
unfolding lines_of lines_in lines_from turn_at record_at number_at opened in_bounds slots_ok frame_all judged by_format control_step control_of
    announce_step form_of announced_to grant_of data_frame_of segment_step segment_to judged_of is_in missing_of digit due_of reading_step groups_read read_from
    answer_lines group_lines ends_lines line_of numbers spaced decimal digits_of width_of width_from
whole_case_lem = refl

-- no record
pub no_record : lines_of [] ≡ line (ascii "end 0")
unfolding lines_of lines_in lines_from turn_at record_at line_of numbers spaced decimal digits_of width_of width_from
no_record = refl

-- a reading, then a record that is cut off, that is bad, and bytes after a bad one
pub cut_record : lines_of (0x00 ∷ 0x07 ∷ 0x01 ∷ 0x80 ∷ []) ≡ line (ascii "bad record at 2")
unfolding lines_of lines_in lines_from turn_at record_at number_at opened in_bounds slots_ok reading_step ends_lines line_of numbers spaced decimal digits_of width_of width_from
cut_record = refl

pub bad_record : lines_of (0x00 ∷ 0x07 ∷ 0x02 ∷ 0x00 ∷ 0x07 ∷ []) ≡ line (ascii "bad record at 2")
unfolding lines_of lines_in lines_from turn_at record_at number_at opened in_bounds slots_ok reading_step ends_lines line_of numbers spaced decimal digits_of width_of width_from
bad_record = refl
