-- The 29-bit identifier: 01, "Identifier".
use Rattle.std.specs.Prelude.{ℕ, ◌+◌, ◌*◌, ◌/◌, ◌%◌, cond, leb, None, Option, Some}
use Rattle.frame.specs.declared.identifier.Identifier.{Identifier}

-- from the top: priority 3 bits, extended data page 1, data page 1, PF 8, PS 8, SA 8
abbrev pub identifier_of : ℕ → Identifier
identifier_of id =
    record {
      priority = id / 67108864 % 8;
      extended_data_page = id / 33554432 % 2;
      data_page = id / 16777216 % 2;
      pf = id / 65536 % 256;
      ps = id / 256 % 256;
      sa = record { 0 = id % 256 };
    }

-- each field at its place
abbrev pub id_of : Identifier → ℕ
id_of f =
    67108864 * f.priority
    + 33554432 * f.extended_data_page
    + 16777216 * f.data_page
    + 65536 * f.pf
    + 256 * f.ps
    + f.sa.0

abbrev pub built : Identifier → Option ℕ
built f =
    cond (leb 8 f.priority) None
    (cond (leb 2 f.extended_data_page) None
    (cond (leb 2 f.data_page) None
    (Some (id_of f))))
