-- What a record in bounds must hold besides, so that each of its numbers has its place in the bytes: the last reading, and of each open
-- session its progress, of which the bounds judge only what its kind has.
use Rattle.std.specs.Prelude.{◌<◌, List, [], ◌∷◌, None, Option, Some}
use Rattle.session.specs.Fits.{ProgressSmall}
use Rattle.receiver.specs.declared.Receiver.{Receiver}
use Rattle.session.specs.declared.Session.{Session}

abbrev pub StateNarrow : Option Session → Type 0
StateNarrow None = Unit {0}
StateNarrow (Some s) = ProgressSmall s.progress

abbrev pub SlotsNarrow : List (Option Session) → Type 0
SlotsNarrow [] = Unit {0}
SlotsNarrow (s ∷ ss) = StateNarrow s × SlotsNarrow ss

pub record Narrow (r : Receiver) : Type 0 where
  pub last : r.last < 4294967296
  pub slots : SlotsNarrow r.slots
