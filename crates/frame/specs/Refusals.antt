-- The numbers of the refusals: 01, "Numbered refusals", and 02.
use Rattle.std.specs.Prelude.{ℕ}
use Rattle.frame.specs.declared.refusal.Refusal.{Refusal}
use Rattle.frame.specs.declared.refusal.Refusal.TheVariants.{FrameLength, IdentifierRange, NotTaken, HeaderCut, DataCut, ServiceType, TrailerFormat, PgnForm, TransferLength, NeitherTakes, AnnouncementForm, TooLong, Assurance, KeyOpen, SlotsFull, KeyNotOpen, FormatIndicator, AlreadyTaken, OutOfSequence, SegmentCut, StatusMismatch, Silence, OutOfBounds, PackRequest, TransfersFull, MessageLength, GrantRange, RequestsSpent}

abbrev pub number_of : Refusal → ℕ
number_of FrameLength = 1
number_of IdentifierRange = 2
number_of NotTaken = 3
number_of HeaderCut = 4
number_of DataCut = 5
number_of ServiceType = 6
number_of TrailerFormat = 7
number_of PgnForm = 8
number_of TransferLength = 9
number_of NeitherTakes = 10
number_of AnnouncementForm = 11
number_of TooLong = 12
number_of Assurance = 13
number_of KeyOpen = 14
number_of SlotsFull = 15
number_of KeyNotOpen = 16
number_of FormatIndicator = 17
number_of AlreadyTaken = 18
number_of OutOfSequence = 19
number_of SegmentCut = 20
number_of StatusMismatch = 21
number_of Silence = 22
number_of OutOfBounds = 23
number_of PackRequest = 24
-- 02, E2: the sender's
number_of TransfersFull = 25
number_of MessageLength = 26
number_of GrantRange = 27
-- 02, E6: the number of a status that is not as announced, with another wire reason
number_of RequestsSpent = 21

-- the place in the enum, from 1
abbrev pub place_of : Refusal → ℕ
place_of FrameLength = 1
place_of IdentifierRange = 2
place_of NotTaken = 3
place_of HeaderCut = 4
place_of DataCut = 5
place_of ServiceType = 6
place_of TrailerFormat = 7
place_of PgnForm = 8
place_of TransferLength = 9
place_of NeitherTakes = 10
place_of AnnouncementForm = 11
place_of TooLong = 12
place_of Assurance = 13
place_of KeyOpen = 14
place_of SlotsFull = 15
place_of KeyNotOpen = 16
place_of FormatIndicator = 17
place_of AlreadyTaken = 18
place_of OutOfSequence = 19
place_of SegmentCut = 20
place_of StatusMismatch = 21
place_of Silence = 22
place_of OutOfBounds = 23
place_of PackRequest = 24
place_of TransfersFull = 25
place_of MessageLength = 26
place_of GrantRange = 27
place_of RequestsSpent = 28

-- tells the two of number 21 apart
abbrev pub spent_of : Refusal → ℕ
spent_of FrameLength = 0
spent_of IdentifierRange = 0
spent_of NotTaken = 0
spent_of HeaderCut = 0
spent_of DataCut = 0
spent_of ServiceType = 0
spent_of TrailerFormat = 0
spent_of PgnForm = 0
spent_of TransferLength = 0
spent_of NeitherTakes = 0
spent_of AnnouncementForm = 0
spent_of TooLong = 0
spent_of Assurance = 0
spent_of KeyOpen = 0
spent_of SlotsFull = 0
spent_of KeyNotOpen = 0
spent_of FormatIndicator = 0
spent_of AlreadyTaken = 0
spent_of OutOfSequence = 0
spent_of SegmentCut = 0
spent_of StatusMismatch = 0
spent_of Silence = 0
spent_of OutOfBounds = 0
spent_of PackRequest = 0
spent_of TransfersFull = 0
spent_of MessageLength = 0
spent_of GrantRange = 0
spent_of RequestsSpent = 1
