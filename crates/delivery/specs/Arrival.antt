-- What the theorem says of a link that any calm moves have reached.
use Rattle.std.specs.Prelude.{ℕ, ◌+◌, ◌-◌, ◌*◌, ◌≤◌, ◌<◌, ◌≡◌, ◌⊎◌, Bool, true, false, cond, List, [], ◌∷◌, length, None, Option, Some}
use Rattle.frame.specs.Pgn.{pgn_ok}
use Rattle.transfer.specs.declared.Reply.TheVariants.{NothingDue}
use Rattle.transfer.specs.Transfers.{kind_of, segments_of, offer_segments}
use Rattle.transfer.specs.Decisions.{next_frame, end_at}
use Rattle.isolation.specs.Replies.{Wire, Says, handed}
use Rattle.isolation.specs.Rules.{judged_at}
use Rattle.delivery.specs.Link.{Setting, key_in, Link, Move, ask, take_forward, take_backward, read_sender, read_receiver, frames_due, step}
use Rattle.transfer.specs.declared.Transfer.{Transfer}

-- ---- a message that may be announced, from one node to another or to all

pub record Fair (s : Setting) : Type 0 where
  pub some_bytes : 1 ≤ length s.message
  pub few_bytes : length s.message ≤ 4096
  pub in_form : pgn_ok s.pgn ≡ true
  -- neither address is 254 or 255
  pub sender : (key_in s).sa.0 < 254
  pub receiver : s.values.own.0 < 254
  pub apart : (key_in s).sa.0 ≡ s.values.own.0 → ⊥
  pub aimed : ((key_in s).da.0 ≡ s.values.own.0) ⊎ ((key_in s).da.0 ≡ 255)

-- ---- a reading that ends neither the transfer nor the session

abbrev pub Unended : ℕ → ℕ → Option Transfer → Type 0
Unended limit t None = Unit {0}
Unended limit t (Some x) = end_at limit t x ≡ None

abbrev pub CalmAt : Setting → Link → Move → Type 0
CalmAt s x ask = Unit {0}
CalmAt s x take_forward = Unit {0}
CalmAt s x take_backward = Unit {0}
CalmAt s x (read_sender t) = Unended s.limit t x.transfer
CalmAt s x (read_receiver t) = judged_at s.values t x.session ≡ x.session

abbrev pub Calm : Setting → Link → List Move → Type 0
Calm s x [] = Unit {0}
Calm s x (v ∷ vs) = CalmAt s x v × Calm s (step s x v) vs

-- ---- a move that gives a frame or takes one

abbrev pub is_full : List Wire → Bool
is_full [] = false
is_full (f ∷ fs) = true

unfoldable pub works : Setting → Link → Move → Bool
works s x ask = is_full (frames_due s x.transfer x.senders_last)
works s x take_forward = is_full x.forward
works s x take_backward = is_full x.backward
works s x (read_sender t) = false
works s x (read_receiver t) = false

-- ---- the measure: three for a frame that has not gone out, two for one on its way, one for an answer on its way

unfoldable pub unsent : Option Transfer → ℕ
unsent None = 0
unsent (Some t) = (offer_segments t.offer + 1 - t.course.next.0) + cond t.course.reported 0 1

unfoldable pub measure : Link → ℕ
measure x = 3 * unsent x.transfer + 2 * length x.forward + length x.backward

-- ---- at rest: both queues empty, nothing due

abbrev pub NothingIsDue : Option Transfer → ℕ → Type 0
NothingIsDue None last = Unit {0}
NothingIsDue (Some t) last = (next_frame t last).reply ≡ NothingDue

pub record AtRest (x : Link) : Type 0 where
  pub forward : x.forward ≡ []
  pub backward : x.backward ≡ []
  pub nothing : NothingIsDue x.transfer x.senders_last

-- ---- the four facts

-- the message, with all that was announced of it
abbrev pub whole : Setting → Says
whole s = handed (key_in s) (kind_of (key_in s).da) (length s.message) (segments_of (length s.message)) s.pgn s.message

pub record Arrives (s : Setting) (x : Link) : Type 0 where
  -- 1. no frame out of a queue was refused at either end
  pub unrefused : x.refused ≡ []
  -- 2. nothing was handed over, or the message, once
  pub once : (x.handed ≡ []) ⊎ (x.handed ≡ whole s ∷ [])
  -- 3. every frame given or taken lowers the measure, and no other calm move raises it
  pub falls : (v : Move) → CalmAt s x v
      → (works s x v ≡ true → measure (step s x v) < measure x) × (works s x v ≡ false → measure (step s x v) ≤ measure x)
  -- 4. at rest the message is there, and the transfer has ended well
  pub arrived : AtRest x → (x.handed ≡ whole s ∷ []) × (x.well ≡ true)
