-- A refusal and its number: each says the other, but for the two of number 21.
use Rattle.std.specs.Prelude.{◌≤◌, ◌≡◌, refl, cond, eqb}
use Rattle.std.proofs.Common.{arith}
use Rattle.frame.specs.declared.refusal.Refusal.{Refusal}
use Rattle.frame.specs.declared.refusal.Refusal.TheVariants.{FrameLength, IdentifierRange, NotTaken, HeaderCut, DataCut, ServiceType, TrailerFormat, PgnForm, TransferLength, NeitherTakes, AnnouncementForm, TooLong, Assurance, KeyOpen, SlotsFull, KeyNotOpen, FormatIndicator, AlreadyTaken, OutOfSequence, SegmentCut, StatusMismatch, Silence, OutOfBounds, PackRequest, TransfersFull, MessageLength, GrantRange, RequestsSpent}
use Rattle.frame.specs.Refusals.{place_of, number_of, spent_of}
use Rattle.frame.specs.Numbers.{refusal_at}

-- what every refusal has; the laws below are the fields
record Numbered (n : Refusal) : Type 0 where
  back : refusal_at (number_of n) (spent_of n) ≡ n
  some : 1 ≤ number_of n
  few : number_of n ≤ 99
  placed : cond (eqb (place_of n) 28) 21 (place_of n) ≡ number_of n
  last : cond (eqb (place_of n) 28) 1 0 ≡ spent_of n

numbered : (n : Refusal) → Numbered n
numbered FrameLength = record { back = refl; some = omega arith; few = omega arith; placed = refl; last = refl }
numbered IdentifierRange = record { back = refl; some = omega arith; few = omega arith; placed = refl; last = refl }
numbered NotTaken = record { back = refl; some = omega arith; few = omega arith; placed = refl; last = refl }
numbered HeaderCut = record { back = refl; some = omega arith; few = omega arith; placed = refl; last = refl }
numbered DataCut = record { back = refl; some = omega arith; few = omega arith; placed = refl; last = refl }
numbered ServiceType = record { back = refl; some = omega arith; few = omega arith; placed = refl; last = refl }
numbered TrailerFormat = record { back = refl; some = omega arith; few = omega arith; placed = refl; last = refl }
numbered PgnForm = record { back = refl; some = omega arith; few = omega arith; placed = refl; last = refl }
numbered TransferLength = record { back = refl; some = omega arith; few = omega arith; placed = refl; last = refl }
numbered NeitherTakes = record { back = refl; some = omega arith; few = omega arith; placed = refl; last = refl }
numbered AnnouncementForm = record { back = refl; some = omega arith; few = omega arith; placed = refl; last = refl }
numbered TooLong = record { back = refl; some = omega arith; few = omega arith; placed = refl; last = refl }
numbered Assurance = record { back = refl; some = omega arith; few = omega arith; placed = refl; last = refl }
numbered KeyOpen = record { back = refl; some = omega arith; few = omega arith; placed = refl; last = refl }
numbered SlotsFull = record { back = refl; some = omega arith; few = omega arith; placed = refl; last = refl }
numbered KeyNotOpen = record { back = refl; some = omega arith; few = omega arith; placed = refl; last = refl }
numbered FormatIndicator = record { back = refl; some = omega arith; few = omega arith; placed = refl; last = refl }
numbered AlreadyTaken = record { back = refl; some = omega arith; few = omega arith; placed = refl; last = refl }
numbered OutOfSequence = record { back = refl; some = omega arith; few = omega arith; placed = refl; last = refl }
numbered SegmentCut = record { back = refl; some = omega arith; few = omega arith; placed = refl; last = refl }
numbered StatusMismatch = record { back = refl; some = omega arith; few = omega arith; placed = refl; last = refl }
numbered Silence = record { back = refl; some = omega arith; few = omega arith; placed = refl; last = refl }
numbered OutOfBounds = record { back = refl; some = omega arith; few = omega arith; placed = refl; last = refl }
numbered PackRequest = record { back = refl; some = omega arith; few = omega arith; placed = refl; last = refl }
numbered TransfersFull = record { back = refl; some = omega arith; few = omega arith; placed = refl; last = refl }
numbered MessageLength = record { back = refl; some = omega arith; few = omega arith; placed = refl; last = refl }
numbered GrantRange = record { back = refl; some = omega arith; few = omega arith; placed = refl; last = refl }
numbered RequestsSpent = record { back = refl; some = omega arith; few = omega arith; placed = refl; last = refl }

pub refusal_back : (n : Refusal) → refusal_at (number_of n) (spent_of n) ≡ n
refusal_back n = (numbered n).back

-- at least 1, and of two digits at most
pub number_range : (n : Refusal) → (1 ≤ number_of n) × (number_of n ≤ 99)
number_range n = ((numbered n).some, (numbered n).few)

-- by its place: the last has the number 21 once more
pub number_placed : (n : Refusal) → cond (eqb (place_of n) 28) 21 (place_of n) ≡ number_of n
number_placed n = (numbered n).placed

pub spent_placed : (n : Refusal) → cond (eqb (place_of n) 28) 1 0 ≡ spent_of n
spent_placed n = (numbered n).last
