-- A transfer in bounds, as facts. Whatever is decided keeps it in bounds, and its numbers fit 32 bits.
use Rattle.std.specs.Prelude.{ℕ, ◌<◌, Bool, Option}
use Rattle.transport.specs.declared.Key.{Key}
use Rattle.transfer.specs.Decisions.{announced_to}
use Rattle.transfer.specs.Kept.{Keeps, OpensFor, ChangeFits, announce_good, change_fits, change_for}
use Rattle.transfer.specs.declared.Transfer.{Transfer}

module _ (x : Option Transfer) (room : Bool) (k : Key) (pgn n last : ℕ) where
  pub announce_kept : Keeps x (announced_to x room k pgn n last).change
  announce_kept = (announce_good k last x room pgn n).0

  pub announce_fits : last < 4294967296 → ChangeFits (announced_to x room k pgn n last).change
  announce_fits h = change_fits k last h x (announced_to x room k pgn n last).change (announce_good k last x room pgn n)

  pub announce_opens_for : OpensFor k (announced_to x room k pgn n last).change
  announce_opens_for = change_for k last x (announced_to x room k pgn n last).change (announce_good k last x room pgn n)
