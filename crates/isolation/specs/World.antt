-- All keys at once, each by its own rules: what the rules of one key see of the calls made, and what they are told.
use Rattle.std.specs.Prelude.{ℕ, zero, suc, ◌≡◌, Bool, true, false, cond, not, ◌&&◌, List, [], ◌∷◌, ◌++◌, eqb, leb, length, None, Option, Some}
use Rattle.isolation.specs.OwnFrames.{all_keys, frame_key, Body, announce, segment, status, abort, body_of}
use Rattle.isolation.specs.Rules.{Values, State, is_open, Input, mine, now, next_state}

-- ---- calls as they are made

pub data Event : Type 0 where
  -- identifier and bytes
  frame : ℕ → List ℕ → Event
  clock : ℕ → Event

-- a call is lent the store, or a buffer of another length
pub data Call : Type 0 where
  lent : Event → Call
  elsewhere : (buffer : List ℕ) → eqb (length buffer) 32768 ≡ false → Event → Call

-- ---- the world

abbrev pub World : Type 0
World = ℕ → State

unfoldable pub count : (ℕ → Bool) → ℕ → ℕ
count p zero = zero
count p (suc n) = cond (p n) (suc (count p n)) (count p n)

-- eight other keys are open
unfoldable pub eight_others : World → ℕ → Bool
eight_others w k = leb 8 (count (λ j. is_open (w j).session && not (eqb j k)) all_keys)

-- ---- what the rules of key k see

abbrev pub is_announcement : Body → Bool
is_announcement (announce a) = true
is_announcement (segment format n d) = false
is_announcement (status s) = false
is_announcement (abort pgn) = false

-- a frame of key j: only k's rules see it, and only at an announcement are they told of the others
unfoldable pub sees_body : World → ℕ → ℕ → Option Body → List Input
sees_body w k j None = []
sees_body w k j (Some b) = cond (eqb j k) (mine (is_announcement b && eight_others w k) b ∷ []) []

unfoldable pub sees : Values → World → ℕ → Call → List Input
sees v w k (lent (frame id d)) = sees_body w k (frame_key id d) (body_of v.own id d)
sees v w k (lent (clock t)) = now t ∷ []
sees v w k (elsewhere b e c) = []

unfoldable pub after : Values → ℕ → State → List Input → State
after v k s [] = s
after v k s (x ∷ xs) = after v k (next_state v k s x) xs

unfoldable pub world_after : Values → World → Call → World
world_after v w c = λ k. after v k (w k) (sees v w k c)

-- all that the rules of key k see and are told over a list of calls
unfoldable pub told : Values → World → ℕ → List Call → List Input
told v w k [] = []
told v w k (c ∷ cs) = sees v w k c ++ told v (world_after v w c) k cs
