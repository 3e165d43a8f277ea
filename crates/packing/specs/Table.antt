-- The packer's rows of 01's table, P6 and P7, groups with trailers, and a request for each refusal and each place where the order decides:
-- each into an output of any content.
use Rattle.std.specs.Prelude.{ℕ, ◌≡◌, refl, Ok, Err, List, [], ◌∷◌, ◌++◌, length, drop, replicate}
use Rattle.std.proofs.Common.{ne_eqb}
use Rattle.frame.specs.Lengths.{frame_length}
use Rattle.frame.specs.declared.refusal.Refusal.TheVariants.{ServiceType, TrailerFormat, PgnForm, PackRequest}
use Rattle.packing.specs.Packing.{Request, asked_by, body, request_fits, packed}

-- groups of service type 2, by PGN and data length
abbrev twos : List ℕ → List ℕ
twos [] = []
twos (p ∷ ps) = 2 ∷ twos ps

abbrev zeros : List ℕ → List ℕ
zeros [] = []
zeros (p ∷ ps) = 0 ∷ zeros ps

abbrev plain : List ℕ → List ℕ → List ℕ → Request
plain ps ns d = record { services = twos ps; formats = zeros ps; pgns = ps; lengths = ns; trailers = zeros ps; joined = d; assured = [] }

-- one group without data
abbrev bare : ℕ → ℕ → ℕ → List ℕ → Request
bare service format pgn t =
    record { services = service ∷ []; formats = format ∷ []; pgns = pgn ∷ []; lengths = 0 ∷ []; trailers = length t ∷ []; joined = []; assured = t }

-- 21 bytes
abbrev some : List ℕ
some = 1 ∷ 2 ∷ 3 ∷ 4 ∷ 5 ∷ 6 ∷ 7 ∷ 8 ∷ 9 ∷ 10 ∷ 11 ∷ 12 ∷ 13 ∷ 14 ∷ 15 ∷ 16 ∷ 17 ∷ 18 ∷ 19 ∷ 20 ∷ 21 ∷ []

-- the rows, as one statement; what comes after the frame stays
pub record Rows (out : List ℕ) : Type 0 where
  pub p6 : packed (plain (59904 ∷ []) (5 ∷ []) (1 ∷ 2 ∷ 3 ∷ 4 ∷ 5 ∷ [])) out
      ≡ (Ok 12, (0x40 ∷ 0xEA ∷ 0x00 ∷ 5 ∷ 1 ∷ 2 ∷ 3 ∷ 4 ∷ 5 ∷ 0x00 ∷ 0x00 ∷ 0x00 ∷ []) ++ drop 12 out)
  pub p7 : packed (plain (65226 ∷ []) (21 ∷ []) some) out
      ≡ (Ok 32, (0x40 ∷ 0xFE ∷ 0xCA ∷ 21 ∷ some) ++ (0x00 ∷ 0x00 ∷ 0x00 ∷ 0xAA ∷ 0xAA ∷ 0xAA ∷ 0xAA ∷ []) ++ drop 32 out)

pub rows : (out : List ℕ) → length out ≡ 64 → Rows out
unfolding packed request_fits frame_length body asked_by
rows out h = record { p6 = rw h; p7 = rw h }

-- into 64 bytes
pub record Cases (out : List ℕ) : Type 0 where
  -- no groups: an empty frame
  pub none : packed (plain [] [] []) out ≡ (Ok 0, out)
  -- a gap of 2 bytes, and a frame that is full
  pub gap_2 : packed (plain (65226 ∷ 59904 ∷ []) (2 ∷ 0 ∷ []) (7 ∷ 8 ∷ [])) out
      ≡ (Ok 12, (0x40 ∷ 0xFE ∷ 0xCA ∷ 2 ∷ 7 ∷ 8 ∷ 0x40 ∷ 0xEA ∷ 0x00 ∷ 0 ∷ 0x00 ∷ 0x00 ∷ []) ++ drop 12 out)
  pub full : packed (plain (0 ∷ []) (60 ∷ []) (replicate 60 9)) out ≡ (Ok 64, (0x40 ∷ 0x00 ∷ 0x00 ∷ 60 ∷ []) ++ replicate 60 9 ++ drop 64 out)
  -- Figure 17 of 001: 8 bytes of data and a trailer of 4, so the length byte is 12
  pub figure_17 : packed (record {
    services = 1 ∷ [];
    formats = 2 ∷ [];
    pgns = 25600 ∷ [];
    lengths = 8 ∷ [];
    trailers = 4 ∷ [];
    joined = 0x67 ∷ 0x20 ∷ 0x79 ∷ 0xE0 ∷ 0xFF ∷ 0xFF ∷ 0xFF ∷ 0xFF ∷ [];
    assured = 0xAF ∷ 0x03 ∷ 0x87 ∷ 0xEF ∷ [];
  }) out
      ≡ (Ok 16, (0x28 ∷ 0x64 ∷ 0x00 ∷ 0x0C ∷ 0x67 ∷ 0x20 ∷ 0x79 ∷ 0xE0 ∷ 0xFF ∷ 0xFF ∷ 0xFF ∷ 0xFF ∷ 0xAF ∷ 0x03 ∷ 0x87 ∷ 0xEF ∷ []) ++ drop 16 out)
  -- one byte more than 64; data of another length than the lengths say; lists of two lengths
  pub over : packed (plain (0 ∷ []) (61 ∷ []) (replicate 61 9)) out ≡ (Err PackRequest, out)
  pub short : packed (plain (0 ∷ []) (3 ∷ []) (1 ∷ 2 ∷ [])) out ≡ (Err PackRequest, out)
  pub long : packed (plain (0 ∷ []) (3 ∷ []) (1 ∷ 2 ∷ 3 ∷ 4 ∷ [])) out ≡ (Err PackRequest, out)
  pub uneven : packed (plain (0 ∷ []) (0 ∷ 0 ∷ []) []) out ≡ (Err PackRequest, out)
  -- a trailer of 4 where 8 is due
  pub four_for_8 : packed (bare 1 3 0 (1 ∷ 2 ∷ 3 ∷ 4 ∷ [])) out ≡ (Err PackRequest, out)

pub cases : (out : List ℕ) → length out ≡ 64 → Cases out
unfolding packed request_fits frame_length body asked_by
cases out h =
    record {
      none = rw h;
      gap_2 = rw h;
      full = rw h;
      figure_17 = rw h;
      over = refl;
      short = refl;
      long = refl;
      uneven = refl;
      four_for_8 = rw h;
    }

-- an output of another length is 24, also for no groups
pub another_length : (out : List ℕ) → (length out ≡ 64 → ⊥) → packed (plain [] [] []) out ≡ (Err PackRequest, out)
unfolding packed request_fits
another_length out h = rw (ne_eqb (length out) 64 h)

-- Whatever the output, also where a case of 24 applies: PF 234 with a low byte, and a PGN of 19 bits, are 8; a reserved format and a
-- format of 9 are 7, before 8; a service type of 0 or 3 is 6, before 7, also where the 7 is at an earlier group.
pub record Firsts (out : List ℕ) : Type 0 where
  pub low : packed (plain (59937 ∷ []) (0 ∷ []) []) out ≡ (Err PgnForm, out)
  pub wide : packed (plain (262144 ∷ []) (0 ∷ []) []) out ≡ (Err PgnForm, out)
  pub low_uneven : packed (plain (0 ∷ 59937 ∷ []) (61 ∷ []) []) out ≡ (Err PgnForm, out)
  pub reserved : packed (bare 1 4 59937 []) out ≡ (Err TrailerFormat, out)
  pub nine : packed (bare 1 9 59937 []) out ≡ (Err TrailerFormat, out)
  pub none : packed (bare 0 9 0 []) out ≡ (Err ServiceType, out)
  pub three : packed (bare 3 0 0 []) out ≡ (Err ServiceType, out)
  pub later_6 : packed (record { services = 1 ∷ 3 ∷ []; formats = 0 ∷ []; pgns = []; lengths = []; trailers = []; joined = []; assured = [] }) out
      ≡ (Err ServiceType, out)

pub firsts : (out : List ℕ) → Firsts out
unfolding packed
firsts out =
    record {
      low = refl;
      wide = refl;
      low_uneven = refl;
      reserved = refl;
      nine = refl;
      none = refl;
      three = refl;
      later_6 = refl;
    }
