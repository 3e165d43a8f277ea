-- A message on its way out: what is announced, and the frames that say so (02, E2; 001, 6.6.3.1 and Figures 31, 33 and 36).
use Rattle.std.specs.Prelude.{ℕ, ◌+◌, ◌/◌, ◌%◌, false, cond, eqb}
use Rattle.frame.specs.declared.Address.{Address}
use Rattle.transport.specs.declared.Kind.{Kind}
use Rattle.transport.specs.declared.Kind.TheVariants.{Rts, Bam}
use Rattle.transport.specs.declared.announcement.Announcement.{Announcement}
use Rattle.transport.specs.declared.eoms.Status.{Status}
use Rattle.transport.specs.Kinds.{is_rts}
use Rattle.transfer.specs.declared.Offer.{Offer}
use Rattle.transfer.specs.declared.Transfer.{Transfer}

-- 60 bytes a segment
unfoldable pub segments_of : ℕ → ℕ
segments_of total = (total + 59) / 60

-- to 255 a BAM, else an RTS
abbrev pub kind_of : Address → Kind
kind_of da = cond (eqb da.0 255) Bam Rts

abbrev pub offer_kind : Offer → Kind
offer_kind o = kind_of o.key.da

abbrev pub offer_segments : Offer → ℕ
offer_segments o = segments_of o.total.0

-- MAX SGMTS: the segment count in an RTS; reserved, so FF, in a BAM
abbrev pub max_of : Kind → ℕ → ℕ
max_of Rts segments = segments % 256
max_of Bam segments = 255

-- no assurance data
abbrev pub announcement_of : Offer → Announcement
announcement_of o =
    record {
      kind = offer_kind o;
      total = o.total;
      segments = record { 0 = offer_segments o };
      max = max_of (offer_kind o) (offer_segments o);
      assurance = 0;
      pgn = o.pgn;
    }

abbrev pub status_of : Offer → Status
status_of o = record { total = o.total; segments = record { 0 = offer_segments o }; assurance = 0; pgn = o.pgn }

-- ---- as the announcement goes out

-- an RTS waits for its first CTS, a BAM for none
abbrev pub first_granted : Offer → ℕ
first_granted o = cond (is_rts (offer_kind o)) 0 (offer_segments o)

-- nothing sent yet, and marked with the last reading
abbrev pub transfer_of : Offer → ℕ → Transfer
transfer_of o last =
    record {
      offer = o;
      course = record {
        next = record { 0 = 1 };
        granted = record { 0 = first_granted o };
        complete = false;
        reported = false;
        owed = false;
        mark = last;
      };
    }
