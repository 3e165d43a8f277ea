-- When a record is in bounds, and the record that an opening gives: 01, "Numbered refusals".
use Rattle.std.specs.Prelude.{ℕ, Bool, cond, ◌&&◌, replicate, Err, Ok}
use Rattle.frame.specs.declared.Address.{Address}
use Rattle.frame.specs.declared.refusal.Refusal.TheVariants.{OutOfBounds}
use Rattle.slots.specs.Slots.{free_slot}
use Rattle.progress.specs.declared.wait.IdleLimits.{IdleLimits}
use Rattle.slots.specs.Bounds.{values_ok, slots_ok}
use Rattle.receiver.specs.declared.Receiver.{Receiver}
use Rattle.receiver.specs.declared.Opened.{Opened}

unfoldable pub in_bounds : Receiver → Bool
in_bounds r = values_ok r.own r.limits && slots_ok r.own r.slots

-- ---- the opening

-- no slot open; an opening out of bounds keeps its values, so that every call refuses the record
abbrev pub opened_with : Address → IdleLimits → ℕ → Receiver
opened_with own limits reading =
    record { own = own; limits = limits; last = reading; slots = replicate 8 free_slot }

unfoldable pub opened : Address → IdleLimits → ℕ → Opened
opened own limits reading =
    record {
      receiver = opened_with own limits reading;
      answer = cond (values_ok own limits) (Ok tt) (Err OutOfBounds);
    }
