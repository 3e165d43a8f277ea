-- A segment's data frame, by the bytes of the message that are due in it.
use Rattle.std.specs.Prelude.{ℕ, ◌-◌, ◌*◌, ◌≡◌, List, length, take, drop}
use Rattle.std.proofs.Common.{ap₂, ◌∙◌}
use Rattle.transport.specs.declared.Key.{Key}
use Rattle.transport.specs.Heads.{laid_in}
use Rattle.transport.specs.Segments.{segment_bytes}
use Rattle.session.specs.Segments.{due_of}
use Rattle.transfer.specs.Sends.{piece_of}

-- what is laid of so many bytes from an index on, where that is what is due
pub piece_laid : (k : Key) (m : List ℕ) (n due from : ℕ) (out : List ℕ) (x : ℕ × List ℕ) → due ≡ due_of (length m) n → from ≡ 60 * (n - 1)
    → x ≡ laid_in (segment_bytes k n (take due (drop from m))) out → x ≡ laid_in (segment_bytes k n (piece_of m n)) out
piece_laid k m n due from out x e f w = w ∙ ap₂ (λ (y z : ℕ). laid_in (segment_bytes k n (take y (drop z m))) out) e f
