-- CTS: 001, Figure 32, with the choices of docs/WIRE.md.
use Rattle.std.specs.Prelude.{ℕ, List, [], ◌∷◌, get_or}
use Rattle.frame.specs.Octets.{low3, low24}
use Rattle.transport.specs.declared.Key.{Key}
use Rattle.transport.specs.declared.cts.Cts as cts
use Rattle.transport.specs.declared.cts.CtsRead.{CtsRead}
use Rattle.transport.specs.Heads.{head}

-- next segment 5 to 7, the number of segments granted 8, request code 9, PGN 10 to 12
abbrev pub cts_at : Key → List ℕ → CtsRead
cts_at k d =
    record {
      cts = record { key = k; next = record { 0 = low24 d 4 }; count = get_or d 7 0; pgn = low24 d 9 };
      request = get_or d 8 0;
    }

-- three reserved bytes before them, request code 0
abbrev pub cts_bytes : cts.Cts → List ℕ
cts_bytes f = head 1 f.key ∷ 255 ∷ 255 ∷ 255 ∷ low3 f.next.0 (f.count ∷ 0 ∷ low3 f.pgn [])
