-- When a record is in bounds, fact by fact: 01, "Numbered refusals", what it says of a state in bounds, and 02, E4 and E6. Rounding, the form
-- of a PGN and the count over a record of segments are the rules' own.
use Rattle.std.specs.Prelude.{ℕ, zero, suc, ◌+◌, ◌*◌, ◌/◌, ◌%◌, ◌^◌, ◌≤◌, ◌<◌, ◌≡◌, true, false, cond, eqb, get_or, Some}
use Rattle.frame.specs.declared.Address.{Address}
use Rattle.segments.specs.declared.Segments.{Segments}
use Rattle.progress.specs.declared.Progress.{Progress}
use Rattle.progress.specs.declared.wait.Wait.TheVariants.{Second}
use Rattle.session.specs.declared.Session.{Session}
use Rattle.slots.specs.Slots.{free_slot}
use Rattle.receiver.specs.declared.Receiver.{Receiver}
use Rattle.isolation.specs.Standard.{in_pgn_form}
use Rattle.isolation.specs.OwnFrames.{is_rts}
use Rattle.isolation.specs.Rules.{sixties}

-- how many of the segments 1 to n have no bit in the record: bit n - 1 is segment n's
unfoldable pub absent : Segments → ℕ → ℕ
absent t zero = 0
absent t (suc n) = absent t n + cond (eqb ((t.high * 2 ^ 64 + t.low) / 2 ^ n % 2) 1) 0 1

-- an RTS's record of segments, and what goes with it; no bit of the record is set past the count
pub record GatheredIn (p : Progress) (segments : ℕ) : Type 0 where
  pub past : p.taken.high * 2 ^ 64 + p.taken.low < 2 ^ segments
  pub missing : p.missing ≡ absent p.taken segments
  pub requests : p.requests ≤ 5
  pub granted_low : 1 ≤ p.granted.0
  pub granted_high : p.granted.0 ≤ segments

-- an open session
pub record SessionIn (own : Address) (s : Session) : Type 0 where
  -- as an announcement allows
  pub some_byte : 1 ≤ s.announced.total.0
  pub at_most : s.announced.total.0 ≤ 4096
  pub count : s.announced.segments.0 ≡ sixties s.announced.total.0
  pub pgn : in_pgn_form s.announced.pgn ≡ true
  pub max : is_rts s.announced.kind ≡ true → 1 ≤ s.announced.max
  -- SA and DA that are taken here: the own address for RTS, 255 for BAM
  pub sa : s.announced.key.sa.0 ≤ 253
  pub sa_other : s.announced.key.sa.0 ≡ own.0 → ⊥
  pub da : s.announced.key.da.0 ≡ cond (is_rts s.announced.kind) own.0 255
  pub session : s.announced.key.session.0 ≤ 15
  -- 02, E6: an RTS has a record with nothing past the segment count, a number missing that is the count over it, at most five requests, and
  -- a last granted segment
  pub gathered : is_rts s.announced.kind ≡ true → GatheredIn s.progress s.announced.segments.0
  -- a BAM has a next segment, and of the two waits the second only (02, E4)
  pub next_low : is_rts s.announced.kind ≡ false → 1 ≤ s.progress.next.0
  pub next_high : is_rts s.announced.kind ≡ false → s.progress.next.0 ≤ s.announced.segments.0 + 1
  pub wait : is_rts s.announced.kind ≡ false → s.progress.wait ≡ Second

-- opening values, each open slot, and no two of one key
pub record RecordIn (r : Receiver) : Type 0 where
  pub own : r.own.0 ≤ 253
  pub first_low : 1 ≤ r.limits.first
  pub first_high : r.limits.first ≤ 60000
  pub second_low : 1 ≤ r.limits.second
  pub second_high : r.limits.second ≤ 60000
  pub sessions : (i : ℕ) (s : Session) → (get_or r.slots i free_slot) ≡ Some s → SessionIn r.own s
  pub apart : (i j : ℕ) (s t : Session) → (get_or r.slots i free_slot) ≡ Some s → (get_or r.slots j free_slot) ≡ Some t
      → s.announced.key ≡ t.announced.key → i ≡ j
