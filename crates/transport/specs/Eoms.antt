-- EOMS: 01, "Transfer frames"; 001, Figure 33.
use Rattle.std.specs.Prelude.{ℕ, List, [], ◌∷◌, get_or}
use Rattle.frame.specs.Octets.{low3, low24}
use Rattle.transport.specs.declared.Key.{Key}
use Rattle.transport.specs.declared.eoms.Status.{Status}
use Rattle.transport.specs.Heads.{head}

-- Total Bytes 2 to 4, segments 5 to 7, assurance type 9, PGN 10 to 12; the size of the assurance data, in byte 8, is not judged
abbrev pub status_at : List ℕ → Status
status_at d =
    record {
      total = record { 0 = low24 d 1 };
      segments = record { 0 = low24 d 4 };
      assurance = get_or d 8 0;
      pgn = low24 d 9;
    }

-- with no assurance data
abbrev pub status_bytes : Key → Status → List ℕ
status_bytes k st = head 2 k ∷ low3 st.total.0 (low3 st.segments.0 (0 ∷ st.assurance ∷ low3 st.pgn []))
