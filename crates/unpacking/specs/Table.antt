-- What a caller sees of P1, P2 and P5 of 01's table, of a frame with two groups, and of Figure 17 of 001, whose group has a trailer, in a list that held 96 sevens.
use Rattle.std.specs.Prelude.{◌≡◌, refl, [], ◌∷◌, replicate, Ok, Err}
use Rattle.frame.specs.declared.refusal.Refusal.TheVariants.{PgnForm}
use Rattle.multi_pg.specs.Groups.{read_from, groups_read}
use Rattle.unpacking.specs.Unpacking.{unpacked}

pub record Rows : Type 0 where
  pub p1 : unpacked (0x40 ∷ 0xEA ∷ 0x00 ∷ 0x03 ∷ 0xCA ∷ 0xFE ∷ 0x00 ∷ []) (replicate 96 7) ≡ (Ok 1, 59904 ∷ 2 ∷ 0 ∷ 4 ∷ 3 ∷ 0 ∷ replicate 90 7)
  pub p2 : unpacked [] (replicate 96 7) ≡ (Ok 0, replicate 96 7)
  pub p5 : unpacked (0x40 ∷ 0xEA ∷ 0x21 ∷ 0x00 ∷ []) (replicate 96 7) ≡ (Err PgnForm, replicate 96 7)
  pub two : unpacked (0x40 ∷ 0xFE ∷ 0xCA ∷ 0x01 ∷ 0x09 ∷ 0x41 ∷ 0xEA ∷ 0x00 ∷ 0x00 ∷ 0x00 ∷ 0x00 ∷ 0x00 ∷ []) (replicate 96 7)
      ≡ (Ok 2, 65226 ∷ 2 ∷ 0 ∷ 4 ∷ 1 ∷ 0 ∷ 125440 ∷ 2 ∷ 0 ∷ 9 ∷ 0 ∷ 0 ∷ replicate 84 7)
  pub figure_17 : unpacked (0x28 ∷ 0x64 ∷ 0x00 ∷ 0x0C ∷ 0x67 ∷ 0x20 ∷ 0x79 ∷ 0xE0 ∷ 0xFF ∷ 0xFF ∷ 0xFF ∷ 0xFF ∷ 0xAF ∷ 0x03 ∷ 0x87 ∷ 0xEF ∷ []) (replicate 96 7)
      ≡ (Ok 1, 25600 ∷ 1 ∷ 2 ∷ 4 ∷ 8 ∷ 4 ∷ replicate 90 7)

pub table : Rows
unfolding unpacked groups_read read_from
table = record { p1 = refl; p2 = refl; p5 = refl; two = refl; figure_17 = refl }
