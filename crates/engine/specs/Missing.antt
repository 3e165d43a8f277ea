-- The number missing, for the fitter: 02, E6.
use Rattle.std.specs.Prelude.{ℕ, cond, List, Err, Ok, Result}
use Rattle.frame.specs.declared.refusal.Refusal.TheVariants.{KeyNotOpen, OutOfBounds}
use Rattle.transport.specs.declared.Key.{Key}
use Rattle.session.specs.Ends.{lacking}
use Rattle.slots.specs.Slots.{key_place, state_in, on_state}
use Rattle.record_bytes.specs.Layout.{slots_at}
use Rattle.lent_record.specs.Ready.{ready_in}
use Rattle.frame.specs.declared.refusal.Refusal.{Refusal}

-- 23 for what is no record in bounds, 16 where the key is not open; no store is asked for
unfoldable pub missing_in : List ℕ → Key → Result ℕ Refusal
missing_in b k =
    cond (ready_in b 32768)
    (on_state (state_in (key_place k (slots_at b)) (slots_at b)) (λ s. Ok (lacking s)) (Err KeyNotOpen))
    (Err OutOfBounds)
