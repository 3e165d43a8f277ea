-- EOMA: 001, Figure 34, with the choices of docs/WIRE.md.
use Rattle.std.specs.Prelude.{ℕ, List, [], ◌∷◌}
use Rattle.frame.specs.Octets.{low3, low24}
use Rattle.transport.specs.declared.Key.{Key}
use Rattle.transport.specs.declared.eoma.Eoma as eoma
use Rattle.transport.specs.Heads.{head}

-- Total Bytes 2 to 4, segments 5 to 7, PGN 10 to 12
abbrev pub eoma_at : Key → List ℕ → eoma.Eoma
eoma_at k d =
    record { key = k; total = record { 0 = low24 d 1 }; segments = record { 0 = low24 d 4 }; pgn = low24 d 9 }

-- two reserved bytes before the PGN
abbrev pub eoma_bytes : eoma.Eoma → List ℕ
eoma_bytes f = head 3 f.key ∷ low3 f.total.0 (low3 f.segments.0 (255 ∷ 255 ∷ low3 f.pgn []))
