-- A link that loses frames, and whose ends may fall silent: what then still holds. 02, E6.
use Rattle.std.specs.Prelude.{ℕ, suc, ◌+◌, ◌-◌, ◌*◌, ◌≤◌, ◌<◌, ◌≡◌, ◌⊎◌, Bool, true, false, cond, not, ◌&&◌, List, [], ◌∷◌, ◌++◌, eqb, leb, length, Err, None, Ok, Option, Result, Some}
use Rattle.frame.specs.Identifiers.{identifier_of}
use Rattle.frame.specs.Judge.{route_of}
use Rattle.transport.specs.declared.Kind.{Kind}
use Rattle.transport.specs.declared.Kind.TheVariants.{Rts, Bam}
use Rattle.transport.specs.declared.response.ResponseRead.TheVariants as response
use Rattle.transport.specs.Responses.{response_of}
use Rattle.transfer.specs.Transfers.{kind_of, segments_of}
use Rattle.transfer.specs.Decisions.{end_at}
use Rattle.transfer.specs.Sends.{ending_wire, sends}
use Rattle.isolation.specs.OwnFrames.{is_rts, Body, announce, segment, status, abort}
use Rattle.isolation.specs.Replies.{Wire, Reply}
use Rattle.isolation.specs.Rules as rules
use Rattle.isolation.specs.Rules.{ends_at}
use Rattle.delivery.specs.Link.{Setting, key_in, Link, Move, ask, take_forward, take_backward, read_sender, read_receiver, queued, body_for, heard, step, start}
use Rattle.delivery.specs.Arrival.{Fair, CalmAt, is_full, works, AtRest, whole}
use Rattle.answer.specs.declared.Ending.{Ending}
use Rattle.frame.specs.declared.refusal.Refusal.{Refusal}
use Rattle.transfer.specs.declared.Transfer.{Transfer}
use Rattle.transport.specs.declared.response.ResponseRead.{ResponseRead}

-- ---- moves: those of the link, whatever a reading ends, and losses

pub data Lossy : Type 0 where
  keeps : Move → Lossy
  -- the oldest frame to the receiver, to the sender is lost
  loses_forward : Lossy
  loses_backward : Lossy

-- the link with these frames on their way
unfoldable pub queues : Link → List Wire → List Wire → Link
queues x fs bs = record {
  transfer = x.transfer;
  forward = fs;
  backward = bs;
  session = x.session;
  handed = x.handed;
  refused = x.refused;
  senders_last = x.senders_last;
  receivers_last = x.receivers_last;
  well = x.well;
}

abbrev pub without_oldest : List Wire → List Wire
without_oldest [] = []
without_oldest (f ∷ fs) = fs

-- ---- the Aborts of ends that end, which the calm moves of `step` do not have; they join the queue as other frames do

-- a silence ends the transfer by 22: an RTS transfer sends one
abbrev pub ending_frames : Option Ending → List Wire
ending_frames None = []
ending_frames (Some e) = queued (ending_wire e)

abbrev pub sent_at : ℕ → ℕ → Option Transfer → List Wire
sent_at limit t None = []
sent_at limit t (Some x) = ending_frames (end_at limit t x)

-- a frame ends the transfer by a refusal, as a CTS for what the message does not have would by 27: so too
abbrev pub sent_after : Setting → Link → List Wire → List Wire
sent_after s x [] = []
sent_after s x (f ∷ rest) = queued (sends (key_in s) s.message (heard s x.transfer x.senders_last f).reply)

-- a silence ends the session by 22: an RTS session sends one
abbrev pub sent_in : List Reply → List Wire
sent_in [] = []
sent_in (r ∷ rs) = queued r.sends ++ sent_in rs

-- ---- the lossy link

unfoldable pub lossy : Setting → Link → Lossy → Link
lossy s x (keeps ask) = step s x ask
lossy s x (keeps take_forward) = step s x take_forward
lossy s x (keeps take_backward) =
    let y : Link = step s x take_backward in queues y (y.forward ++ sent_after s x x.backward) y.backward
lossy s x (keeps (read_sender t)) =
    let y : Link = step s x (read_sender t) in queues y (y.forward ++ sent_at s.limit t x.transfer) y.backward
lossy s x (keeps (read_receiver t)) =
    let y : Link = step s x (read_receiver t) in
    queues y y.forward (y.backward ++ sent_in (ends_at s.values s.key t x.session))
lossy s x loses_forward = queues x (without_oldest x.forward) x.backward
lossy s x loses_backward = queues x x.forward (without_oldest x.backward)

unfoldable pub lossy_run : Setting → Link → List Lossy → Link
lossy_run s x [] = x
lossy_run s x (v ∷ vs) = lossy_run s (lossy s x v) vs

-- ---- safety: nothing was handed over, or the message, once

abbrev pub Once : Setting → Link → Type 0
Once s x = (x.handed ≡ []) ⊎ (x.handed ≡ whole s ∷ [])

-- From the announcement on, whatever is lost on either way and whatever silence ends either end, in every order of moves.
abbrev pub Safety : Type 0
Safety = (s : Setting) → Fair s → (p q : ℕ) (vs : List Lossy) → Once s (lossy_run s (start s p q) vs)

-- ---- losses that are borne: data frames only, and before the first request none that is the last of a grant, unless it is the message's last

abbrev pub segments : Setting → ℕ
segments s = segments_of (length s.message)

-- the session waits for segment n to grant more
unfoldable pub is_needed : Setting → Option rules.Open → ℕ → Bool
is_needed s None n = false
is_needed s (Some r) n = is_rts r.told.kind && eqb r.requests 0 && eqb n r.granted && not (eqb n (segments s))

unfoldable pub may_lose : Setting → Option rules.Open → Option Body → Bool
may_lose s x None = false
may_lose s x (Some (announce a)) = false
may_lose s x (Some (segment format n d)) = not (is_needed s x n)
may_lose s x (Some (status st)) = false
may_lose s x (Some (abort pgn)) = false

abbrev pub MayLoseOldest : Setting → Option rules.Open → List Wire → Type 0
MayLoseOldest s x [] = ⊥
MayLoseOldest s x (f ∷ fs) = may_lose s x (body_for s f) ≡ true

-- and no reading ends the transfer or the session
abbrev pub BorneAt : Setting → Link → Lossy → Type 0
BorneAt s x (keeps v) = CalmAt s x v
BorneAt s x loses_forward = MayLoseOldest s x.session x.forward
BorneAt s x loses_backward = ⊥

abbrev pub Borne : Setting → Link → List Lossy → Type 0
Borne s x [] = Unit {0}
Borne s x (v ∷ vs) = BorneAt s x v × Borne s (lossy s x v) vs

-- how many frames were lost: where the moves are borne, each is a data frame
unfoldable pub losses : List Lossy → ℕ
losses [] = 0
losses (keeps v ∷ vs) = losses vs
losses (loses_forward ∷ vs) = suc (losses vs)
losses (loses_backward ∷ vs) = suc (losses vs)

-- ---- a move that gives a frame, takes one or loses one

unfoldable pub turns : Setting → Link → Lossy → Bool
turns s x (keeps v) = works s x v
turns s x loses_forward = is_full x.forward
turns s x loses_backward = is_full x.backward

-- ---- the measure: 3 for a frame due, 2 for one on its way, 1 for an answer on its way. A CTS on its way counts 52, since it brings 16
-- segments and an EOMS at most; each CTS that may still come 53: five requests, and before the first one a CTS for each segment not granted

-- what remains of the grant, with the EOMS after it, or the EOMS alone
unfoldable pub to_send : Option Transfer → ℕ
to_send None = 0
to_send (Some t) =
    3 * (t.course.granted.0 + 1 - t.course.next.0)
    + cond (leb t.course.next.0 t.course.granted.0) 3 0
    + cond t.course.owed 3 0

unfoldable pub to_answer : Setting → Option rules.Open → ℕ
to_answer s None = 0
to_answer s (Some r) =
    cond (is_rts r.told.kind) (53 * ((5 - r.requests) + cond (eqb r.requests 0) (segments s - r.granted) 0)) 0

-- all the CTSs that an announcement may bring
abbrev pub weight_forth : Setting → Option Body → ℕ
weight_forth s None = 2
weight_forth s (Some (announce a)) = 53 * (5 + segments s) + 2
weight_forth s (Some (segment format n d)) = 2
weight_forth s (Some (status st)) = 2
weight_forth s (Some (abort pgn)) = 2

abbrev pub weight_back : Result ResponseRead Refusal → ℕ
weight_back (Ok (response.Cts f)) = 52
weight_back (Ok (response.Eoma f)) = 1
weight_back (Ok (response.Abort f)) = 1
weight_back (Err n) = 1

unfoldable pub forth : Setting → List Wire → ℕ
forth s [] = 0
forth s (f ∷ fs) = weight_forth s (body_for s f) + forth s fs

unfoldable pub back : List Wire → ℕ
back [] = 0
back (f ∷ fs) = weight_back (response_of (route_of (identifier_of f.0)) f.1) + back fs

unfoldable pub remaining : Setting → Link → ℕ
remaining s x = to_send x.transfer + to_answer s x.session + forth s x.forward + back x.backward

-- ---- recovery

-- five requests are spent, and segments are missing
abbrev pub Spent : Setting → Option rules.Open → Type 0
Spent s None = ⊥
Spent s (Some r) = (r.requests ≡ 5) × (length r.pieces < segments s)

-- an RTS session refuses no frame but the EOMS with which that is so
abbrev pub RefusesOnly : Kind → Setting → Link → Link → Type 0
RefusesOnly Rts s x y = (y.refused ≡ x.refused) ⊎ (Spent s x.session × (y.refused ≡ x.refused ++ (21 ∷ [])))
RefusesOnly Bam s x y = Unit {0}

abbrev pub Begins19Or21 : List ℕ → Type 0
Begins19Or21 [] = ⊥
Begins19Or21 (n ∷ ns) = (n ≡ 19) ⊎ (n ≡ 21)

-- handed over, and the transfer has ended well; nothing was refused
abbrev pub HandedOver : Setting → Link → Type 0
HandedOver s x = (x.handed ≡ whole s ∷ []) × (x.well ≡ true) × (x.refused ≡ [])

-- so, or: an RTS session has ended by 21, and by its Abort the transfer, for which six segments were lost at least; a broadcast has ended
-- by 19 or by 21 at the receiver (16 for what came after), for which one was
abbrev pub Outcome : Kind → Setting → ℕ → Link → Type 0
Outcome Rts s lost x = HandedOver s x ⊎ ((x.handed ≡ []) × (x.well ≡ false) × (x.refused ≡ 21 ∷ []) × (6 ≤ lost))
Outcome Bam s lost x = HandedOver s x ⊎ ((x.handed ≡ []) × (x.well ≡ true) × Begins19Or21 x.refused × (1 ≤ lost))

-- of a link that borne moves have reached; so many segments were lost
pub record Recovers (s : Setting) (lost : ℕ) (x : Link) : Type 0 where
  -- 1. what is refused
  pub refuses : (v : Lossy) → BorneAt s x v → RefusesOnly (kind_of (key_in s).da) s x (lossy s x v)
  -- 2. every frame given, taken or lost lowers the measure, and no other borne move raises it
  pub falls : (v : Lossy) → BorneAt s x v
      → (turns s x v ≡ true → remaining s (lossy s x v) < remaining s x) × (turns s x v ≡ false → remaining s (lossy s x v) ≤ remaining s x)
  -- 3. at rest both ends have ended, and how
  pub rests : AtRest x → (x.session ≡ None) × (x.transfer ≡ None) × Outcome (kind_of (key_in s).da) s lost x

-- From the announcement on, however borne moves take turns: the transfer comes to rest, and then the message has been handed over, or six
-- segments were lost and an RTS session has ended by 21 with five requests spent, or one was and a broadcast has ended by 19 or 21.
abbrev pub Recovery : Type 0
Recovery = (s : Setting) → Fair s → (p q : ℕ) (vs : List Lossy) → Borne s (start s p q) vs → Recovers s (losses vs) (lossy_run s (start s p q) vs)

-- so with five segments lost or fewer an RTS arrives
abbrev pub FiveLost : Type 0
FiveLost =
    (s : Setting) → Fair s → kind_of (key_in s).da ≡ Rts → (p q : ℕ) (vs : List Lossy) → Borne s (start s p q) vs → losses vs ≤ 5
    → AtRest (lossy_run s (start s p q) vs) → HandedOver s (lossy_run s (start s p q) vs)
