-- Control frames that a receiver takes: 01, "Transfer frames"; what goes to a sender instead: 02, E2.
use Rattle.std.specs.Prelude.{ℕ, Bool, cond, not, ◌&&◌, ◌||◌, List, eqb, length, Err, Ok, Result}
use Rattle.frame.specs.declared.refusal.Refusal.{Refusal}
use Rattle.frame.specs.declared.refusal.Refusal.TheVariants.{TransferLength, NeitherTakes, KeyNotOpen}
use Rattle.transport.specs.declared.Kind.TheVariants.{Rts, Bam}
use Rattle.transport.specs.declared.control.Control.TheVariants.{Announce, EndOfMessage, Abort}
use Rattle.transport.specs.Heads.{control_at}
use Rattle.transport.specs.Announcements.{announcement_at}
use Rattle.transport.specs.Eoms.{status_at}
use Rattle.transport.specs.Aborts.{role_at, abort_pgn_at}
use Rattle.transport.specs.declared.control.Control.{Control}

-- a responder's: CTS 1, EOMA 3, Abort 15 in role 1
abbrev pub is_response : List ℕ → Bool
is_response d = eqb (control_at d) 1 || eqb (control_at d) 3 || (eqb (control_at d) 15 && eqb (role_at d) 1)

-- a receiver has no transfer that a responder's frame could be for: 16; 10 for what neither end takes
abbrev pub not_receivers : List ℕ → Refusal
not_receivers d = cond (is_response d) KeyNotOpen NeitherTakes

-- the originator's
abbrev pub abort_of : List ℕ → Result Control Refusal
abort_of d = cond (eqb (role_at d) 0) (Ok (Abort (abort_pgn_at d))) (Err (not_receivers d))

-- RTS 0, BAM 4, EOMS 2, Abort 15 from the originator; any other is not a receiver's
abbrev pub by_control : List ℕ → ℕ → Result Control Refusal
by_control d control =
    cond (eqb control 0) (Ok (Announce (announcement_at Rts d)))
    (cond (eqb control 4) (Ok (Announce (announcement_at Bam d)))
    (cond (eqb control 2) (Ok (EndOfMessage (status_at d)))
    (cond (eqb control 15 && eqb (role_at d) 0) (Ok (Abort (abort_pgn_at d)))
    (Err (not_receivers d)))))

unfoldable pub control_of : List ℕ → Result Control Refusal
control_of d = cond (not (eqb (length d) 12)) (Err TransferLength) (by_control d (control_at d))
