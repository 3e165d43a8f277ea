-- A refusal and its number: each says the other, but for the two of number 21.
use Rattle.std.specs.Prelude.{ℕ, suc, cond, List, [], ◌∷◌, eqb}
use Rattle.frame.specs.declared.refusal.Refusal.{Refusal}
use Rattle.frame.specs.declared.refusal.Refusal.TheVariants.{FrameLength, IdentifierRange, NotTaken, HeaderCut, DataCut, ServiceType, TrailerFormat, PgnForm, TransferLength, NeitherTakes, AnnouncementForm, TooLong, Assurance, KeyOpen, SlotsFull, KeyNotOpen, FormatIndicator, AlreadyTaken, OutOfSequence, SegmentCut, StatusMismatch, Silence, OutOfBounds, PackRequest, TransfersFull, MessageLength, GrantRange, RequestsSpent}

abbrev first_of : ℕ → ℕ → List Refusal → Refusal
first_of n i [] = GrantRange
first_of n i (x ∷ l) = cond (eqb n i) x (first_of n (suc i) l)

-- by its number, from 1 on, and by which of the two it is
abbrev pub refusal_at : ℕ → ℕ → Refusal
refusal_at n spent =
    cond (eqb spent 1) RequestsSpent (first_of n 1
    (FrameLength ∷ IdentifierRange ∷ NotTaken ∷ HeaderCut ∷ DataCut ∷ ServiceType ∷ TrailerFormat ∷ PgnForm ∷
    TransferLength ∷ NeitherTakes ∷ AnnouncementForm ∷ TooLong ∷ Assurance ∷ KeyOpen ∷ SlotsFull ∷ KeyNotOpen ∷
    FormatIndicator ∷ AlreadyTaken ∷ OutOfSequence ∷ SegmentCut ∷ StatusMismatch ∷ Silence ∷ OutOfBounds ∷ PackRequest ∷
    TransfersFull ∷ MessageLength ∷ []))
