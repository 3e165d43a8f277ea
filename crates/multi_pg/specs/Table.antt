-- The reader's rows of 01's table, P1 to P5, one frame for each order of tests that they leave open, and groups with trailers.
use Rattle.std.specs.Prelude.{ℕ, ◌≡◌, refl, List, [], ◌∷◌}
use Rattle.frame.specs.Refusals.{number_of}
use Rattle.multi_pg.specs.Groups.{GroupsRead, good, bad, read_from, groups_read, Content, contents, plain}

-- what a frame shows: its groups, without their places, or the number of its refusal
pub data Shown : Type 0 where
  groups : List Content → Shown
  refused : ℕ → Shown

abbrev pub shown_by : List ℕ → GroupsRead → Shown
shown_by d (good gs) = groups (contents d gs)
shown_by d (bad r) = refused (number_of r)

abbrev pub shown : List ℕ → Shown
shown d = shown_by d (groups_read d)

-- the rows, as one statement
pub record Rows : Type 0 where
  pub p1 : shown (0x40 ∷ 0xEA ∷ 0x00 ∷ 0x03 ∷ 0xCA ∷ 0xFE ∷ 0x00 ∷ []) ≡ groups (plain 59904 (0xCA ∷ 0xFE ∷ 0x00 ∷ []) ∷ [])
  pub p2 : shown [] ≡ groups []
  pub p3 : shown (0x40 ∷ 0xFE ∷ 0xCA ∷ []) ≡ refused 4
  pub p4 : shown (0x40 ∷ 0xFE ∷ 0xCA ∷ 0x01 ∷ []) ≡ refused 5
  pub p5 : shown (0x40 ∷ 0xEA ∷ 0x21 ∷ 0x00 ∷ []) ≡ refused 8

pub rows : Rows
unfolding groups_read read_from
rows = record { p1 = refl; p2 = refl; p3 = refl; p4 = refl; p5 = refl }

-- each of these frames has two faults, or one after an end
pub record Orders : Type 0 where
  -- padding that is cut: its rest is not read
  pub end_4 : shown (0x00 ∷ 0xFE ∷ []) ≡ groups []
  pub four_6 : shown (0x60 ∷ 0xFE ∷ []) ≡ refused 4
  pub six_7 : shown (0x64 ∷ 0xFE ∷ 0xCA ∷ 0x00 ∷ []) ≡ refused 6
  pub seven_8 : shown (0x44 ∷ 0xEA ∷ 0x21 ∷ 0x00 ∷ []) ≡ refused 7
  pub eight_5 : shown (0x40 ∷ 0xEA ∷ 0x21 ∷ 0x01 ∷ []) ≡ refused 8
  -- the fault of a later place, after a whole group
  pub later : shown (0x40 ∷ 0xFE ∷ 0xCA ∷ 0x01 ∷ 0x07 ∷ 0x40 ∷ []) ≡ refused 4

pub orders : Orders
unfolding groups_read read_from
orders = record { end_4 = refl; four_6 = refl; six_7 = refl; seven_8 = refl; eight_5 = refl; later = refl }

-- E5 of 02
pub record Trailers : Type 0 where
  -- Figure 17 of 001: the length byte is 12, for 8 bytes of data and a trailer of 4
  pub figure_17 : shown (0x28 ∷ 0x64 ∷ 0x00 ∷ 0x0C ∷ 0x67 ∷ 0x20 ∷ 0x79 ∷ 0xE0 ∷ 0xFF ∷ 0xFF ∷ 0xFF ∷ 0xFF ∷ 0xAF ∷ 0x03 ∷ 0x87 ∷ 0xEF ∷ [])
      ≡ groups (record {
        pgn = 25600;
        service = 1;
        format = 2;
        bytes = 0x67 ∷ 0x20 ∷ 0x79 ∷ 0xE0 ∷ 0xFF ∷ 0xFF ∷ 0xFF ∷ 0xFF ∷ [];
        trailer = 0xAF ∷ 0x03 ∷ 0x87 ∷ 0xEF ∷ [];
      } ∷ [])
  -- a group of a trailer alone, then a plain one
  pub two : shown (0x24 ∷ 0xFE ∷ 0xCA ∷ 0x04 ∷ 1 ∷ 2 ∷ 3 ∷ 4 ∷ 0x40 ∷ 0xFE ∷ 0xCA ∷ 0x00 ∷ [])
      ≡ groups (record { pgn = 65226; service = 1; format = 1; bytes = []; trailer = 1 ∷ 2 ∷ 3 ∷ 4 ∷ [] } ∷ plain 65226 [] ∷ [])
  -- a trailer longer than the length byte, with room in the frame and at its end; a length byte that passes the end by one
  pub longer : shown (0x24 ∷ 0xFE ∷ 0xCA ∷ 0x03 ∷ 1 ∷ 2 ∷ 3 ∷ 4 ∷ []) ≡ refused 5
  pub longer_end : shown (0x24 ∷ 0xFE ∷ 0xCA ∷ 0x00 ∷ []) ≡ refused 5
  pub by_one : shown (0x24 ∷ 0xFE ∷ 0xCA ∷ 0x05 ∷ 1 ∷ 2 ∷ 3 ∷ 4 ∷ []) ≡ refused 5
  -- a reserved format of service type 1, before 8 and 5; a header cut, before it
  pub seven : shown (0x30 ∷ 0xEA ∷ 0x21 ∷ 0x00 ∷ []) ≡ refused 7
  pub eight : shown (0x24 ∷ 0xEA ∷ 0x21 ∷ 0x00 ∷ []) ≡ refused 8
  pub four : shown (0x30 ∷ 0xEA ∷ []) ≡ refused 4

pub trailers : Trailers
unfolding groups_read read_from
trailers =
    record {
      figure_17 = refl;
      two = refl;
      longer = refl;
      longer_end = refl;
      by_one = refl;
      seven = refl;
      eight = refl;
      four = refl;
    }
