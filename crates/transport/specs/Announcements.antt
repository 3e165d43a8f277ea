-- RTS and BAM: 01, "Transfer frames"; 001, Figures 31 and 36.
use Rattle.std.specs.Prelude.{ℕ, List, [], ◌∷◌, get_or}
use Rattle.frame.specs.Octets.{low3, low24}
use Rattle.transport.specs.declared.Key.{Key}
use Rattle.transport.specs.declared.Kind.{Kind}
use Rattle.transport.specs.declared.Kind.TheVariants.{Rts, Bam}
use Rattle.transport.specs.declared.announcement.Announcement.{Announcement}
use Rattle.transport.specs.Heads.{head}

-- Total Bytes 2 to 4, segments 5 to 7, MAX SGMTS 8, assurance type 9, PGN 10 to 12
abbrev pub announcement_at : Kind → List ℕ → Announcement
announcement_at kind d =
    record {
      kind = kind;
      total = record { 0 = low24 d 1 };
      segments = record { 0 = low24 d 4 };
      max = get_or d 7 0;
      assurance = get_or d 8 0;
      pgn = low24 d 9;
    }

abbrev pub control_for : Kind → ℕ
control_for Rts = 0
control_for Bam = 4

abbrev pub announcement_bytes : Key → Announcement → List ℕ
announcement_bytes k a =
    head (control_for a.kind) k
    ∷ low3 a.total.0 (low3 a.segments.0 (a.max ∷ a.assurance ∷ low3 a.pgn []))
