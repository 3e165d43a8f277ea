-- When a transfer is in bounds: 02, E2, "Sender's state in bounds", and what an announcement allows.
use Rattle.std.specs.Prelude.{ℕ, ◌+◌, Bool, true, not, ◌&&◌, ◌||◌, eqb, leb, None, Option, Some}
use Rattle.frame.specs.Pgn.{pgn_ok}
use Rattle.transport.specs.declared.Key.{Key}
use Rattle.transfer.specs.declared.Offer.{Offer}
use Rattle.transfer.specs.declared.Course.{Course}
use Rattle.transfer.specs.declared.Transfer.{Transfer}
use Rattle.transfer.specs.Transfers.{offer_segments}

-- the destination is neither 254 nor our own address, the session number at most 15; else 3
abbrev pub destination_ok : Key → Bool
destination_ok k = not (eqb k.da.0 254) && not (eqb k.da.0 k.sa.0) && leb k.session.0 15

-- 1 to 4,096 bytes; else 26
abbrev pub length_ok : ℕ → Bool
length_ok n = leb 1 n && leb n 4096

abbrev pub offer_ok : Offer → Bool
offer_ok o = destination_ok o.key && pgn_ok o.pgn && length_ok o.total.0

-- the last granted at most the segment count, and the count for BAM; the next from 1 to one more than the last granted
abbrev pub course_ok : Offer → Course → Bool
course_ok o c =
    leb c.granted.0 (offer_segments o)
    && (not (eqb o.key.da.0 255) || eqb c.granted.0 (offer_segments o))
    && leb 1 c.next.0
    && leb c.next.0 (c.granted.0 + 1)

abbrev pub transfer_ok : Transfer → Bool
transfer_ok t = offer_ok t.offer && course_ok t.offer t.course

abbrev pub state_ok : Option Transfer → Bool
state_ok None = true
state_ok (Some t) = transfer_ok t
