-- A record that is written is read back as it was.
use Rattle.std.specs.Prelude.{◌<◌, ◌≡◌, true, ◌&&◌, List, [], ◌∷◌, None, Option, Some}
use Rattle.std.proofs.Math.Path.{refl}
use Rattle.std.proofs.Math.ListN.{length}
use Rattle.transport.specs.declared.Kind.{Kind}
use Rattle.transport.specs.declared.Kind.TheVariants.{Rts, Bam}
use Rattle.progress.specs.declared.wait.Wait.{Wait}
use Rattle.progress.specs.declared.wait.Wait.TheVariants.{First, Second}
use Rattle.session.specs.Fits.{StateSmall}
use Rattle.receiver.specs.declared.Receiver.{Receiver}
use Rattle.record_bytes.specs.Layout.{kind_byte, wait_byte, session_bytes, state_bytes, is_code, codes_in}
use Rattle.session.specs.declared.Session.{Session}

-- The numbers are no larger than their places; those of a session are its StateSmall. (Addresses, session number and MAX SGMTS are a
-- byte as they are.)
abbrev pub SlotsFit : List (Option Session) → Type 0
SlotsFit [] = Unit {0}
SlotsFit (s ∷ ss) = StateSmall s × SlotsFit ss

pub record RecordFits (r : Receiver) : Type 0 where
  pub first : r.limits.first < 4294967296
  pub second : r.limits.second < 4294967296
  pub last : r.last < 4294967296
  pub eight : length r.slots ≡ 8
  pub slots : SlotsFit r.slots

codes_of : (k : Kind) (w : Wait) → (is_code (kind_byte k) && is_code (wait_byte w)) ≡ true
codes_of Rts First = refl
codes_of Rts Second = refl
codes_of Bam First = refl
codes_of Bam Second = refl

pub codes_state : (st : Option Session) → codes_in (state_bytes st) ≡ true
unfolding session_bytes
codes_state None = refl
codes_state (Some s) = codes_of s.announced.kind s.progress.wait
