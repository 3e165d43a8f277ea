-- A frame's record is put in four pieces: kind, identifier, length, bytes. Together they are the record.
use Prim.Native.Nat.{ℕ, ◌+◌, ◌≤◌}
use mathlib.Core.List.{List, ◌++◌}
use lib.ListN.{length}
use Rattle.trace.specs.Numbers.{number_bytes}
use Rattle.trace.specs.Records.{frame, record_bytes}
use Rattle.trace.specs.Outputs.{Put}
use Rattle.trace.specs.Placing.{room_after, put_both}

-- what is left to put after the identifier, and after the kind
abbrev counted : List ℕ → List ℕ
counted s = number_bytes (length s) ++ s

abbrev named : ℕ → List ℕ → List ℕ
named identifier s = number_bytes identifier ++ counted s

module _ (d : List ℕ) (at identifier : ℕ) (s : List ℕ) (h : at + length (record_bytes (frame identifier s)) ≤ length d) where
  module _ {m₁ : ℕ} {o₁ : List ℕ} (p₁ : Put d at (number_bytes 1) m₁ o₁) where
    after_kind : m₁ + length (named identifier s) ≤ length o₁
    after_kind = room_after (named identifier s) p₁ h

    module _ {m₂ : ℕ} {o₂ : List ℕ} (p₂ : Put o₁ m₁ (number_bytes identifier) m₂ o₂) where
      after_identifier : m₂ + length (counted s) ≤ length o₂
      after_identifier = room_after (counted s) p₂ after_kind

      -- all four, one after the other
      pub frame_put : {m₃ : ℕ} {o₃ : List ℕ} → Put o₂ m₂ (number_bytes (length s)) m₃ o₃ → {m₄ : ℕ} {o₄ : List ℕ} → Put o₃ m₃ s m₄ o₄
          → Put d at (record_bytes (frame identifier s)) m₄ o₄
      frame_put p₃ p₄ = put_both (named identifier s) p₁ h (put_both (counted s) p₂ after_kind (put_both s p₃ after_identifier p₄))
