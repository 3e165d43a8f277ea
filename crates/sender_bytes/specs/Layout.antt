-- The sender's record as bytes of a fixed layout: own address, idle limit and last reading, then four transfers (02, E2). Numbers of 32
-- bits have their low byte first.
use Rattle.std.specs.Prelude.{ℕ, Bool, true, false, cond, not, List, [], ◌∷◌, ◌++◌, eqb, length, get_or, set, take, drop, replicate, None, Option, Some}
use Rattle.std.specs.Int.{from_bool}
use Rattle.std.proofs.Math.Seq.{paste}
use Rattle.frame.specs.declared.Address.{Address}
use Rattle.words.specs.Words.{low4, low32}
use Rattle.transfer.specs.declared.Offer.{Offer}
use Rattle.transfer.specs.declared.Course.{Course}
use Rattle.transfer.specs.declared.Transfer.{Transfer}
use Rattle.session.specs.declared.Change.{Change}
use Rattle.session.specs.declared.Change.TheVariants.{Stays, Opens, Moves, Ends}
use Rattle.transfer.specs.Decisions.{after}
use Rattle.sender_bytes.specs.Places.{record_length, transfer_length, course_length, transfer_place, course_place, own_place, limit_place, last_place, state_place}
use Rattle.sender_bytes.specs.Places.{da_place, session_place, total_place, pgn_place, complete_place, reported_place, owed_place, next_place, granted_place, mark_place}

-- ---- a transfer

-- a flag is 1 or 0; any other byte than 1 is no
abbrev pub flag_at : ℕ → Bool
flag_at n = eqb n 1

-- open: 1, DA, session number, Total Bytes, PGN; the SA is the record's own address
abbrev pub offer_bytes : Offer → List ℕ
offer_bytes o = 1 ∷ o.key.da.0 ∷ o.key.session.0 ∷ low4 o.total.0 (low4 o.pgn [])

-- the last segment has gone out, an EOMS has, one is owed; next segment, last granted, mark
abbrev pub course_bytes : Course → List ℕ
course_bytes c =
    from_bool c.complete
    ∷ from_bool c.reported
    ∷ from_bool c.owed
    ∷ low4 c.next.0 (low4 c.granted.0 (low4 c.mark []))

abbrev pub transfer_bytes : Transfer → List ℕ
transfer_bytes t = offer_bytes t.offer ++ course_bytes t.course

abbrev pub offer_at : Address → List ℕ → Offer
offer_at own p =
    record {
      key = record { sa = own; da = record { 0 = get_or p da_place 0 }; session = record { 0 = get_or p session_place 0 } };
      total = record { 0 = low32 p total_place };
      pgn = low32 p pgn_place;
    }

abbrev pub course_at : List ℕ → Course
course_at p =
    record {
      next = record { 0 = low32 p next_place };
      granted = record { 0 = low32 p granted_place };
      complete = flag_at (get_or p complete_place 0);
      reported = flag_at (get_or p reported_place 0);
      owed = flag_at (get_or p owed_place 0);
      mark = low32 p mark_place;
    }

abbrev pub transfer_at : Address → List ℕ → Transfer
transfer_at own p = record { offer = offer_at own p; course = course_at p }

-- any other first byte than 1 is free, whatever follows
abbrev pub state_at : Address → List ℕ → Option Transfer
state_at own p = cond (eqb (get_or p state_place 0) 1) (Some (transfer_at own p)) None

-- ---- the record

pub record Sender : Type 0 where
  pub own : Address
  pub limit : ℕ
  pub last : ℕ
  pub transfers : List (Option Transfer)

abbrev pub piece_at : List ℕ → ℕ → List ℕ
piece_at b i = take transfer_length (drop (transfer_place i) b)

abbrev pub own_at : List ℕ → Address
own_at b = record { 0 = get_or b own_place 0 }

unfoldable pub transfers_at : List ℕ → List (Option Transfer)
transfers_at b =
    state_at (own_at b) (piece_at b 0)
    ∷ state_at (own_at b) (piece_at b 1)
    ∷ state_at (own_at b) (piece_at b 2)
    ∷ state_at (own_at b) (piece_at b 3)
    ∷ []

abbrev pub sender_at : List ℕ → Sender
sender_at b = record { own = own_at b; limit = low32 b limit_place; last = low32 b last_place; transfers = transfers_at b }

-- ---- what a call changes of it

abbrev pub changed : List ℕ → ℕ → Change Transfer Course → List ℕ
changed b i Stays = b
changed b i (Opens t) = paste b (transfer_place i) (transfer_bytes t) transfer_length
changed b i (Moves c) = paste b (course_place i) (course_bytes c) course_length
changed b i Ends = paste b (transfer_place i) (0 ∷ []) 1

-- the same of the record
abbrev pub with_transfer : Sender → ℕ → Change Transfer Course → Sender
with_transfer s i c =
    record { own = s.own; limit = s.limit; last = s.last; transfers = set s.transfers i (after (get_or s.transfers i None) c) }

-- ---- the opening: a buffer of a record's length takes it; any other is left as it is

abbrev pub opened_bytes : Address → ℕ → ℕ → List ℕ
opened_bytes own limit reading = own.0 ∷ low4 limit (low4 reading (replicate 104 0))

unfoldable pub opened_in : Address → ℕ → ℕ → List ℕ → Bool × List ℕ
opened_in own limit reading b =
    cond (not (eqb (length b) record_length)) (false, b) (true, opened_bytes own limit reading)
