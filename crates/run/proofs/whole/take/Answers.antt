use mathlib.Core.Path.{refl, sym, ◌∙◌}
use Rattle.run.proofs.Wholes.{last_fits, place_small, takes_of, by_short}
use Rattle.run.proofs.whole.take.Goals as goal

pub overflow_add-place : goal.overflow_add-place
overflow_add-place c =
    record { fits = place_small _ _ _ _ _ _ _ _ _ _ _ c.take_records-went.ensures (sym c.is_long.ensures ∙ c.if-is_long.false) }

pub write_last-next-requires : goal.write_last-next-requires
write_last-next-requires c =
    last_fits _ _ 0 _ _ _ _ _ _ _ _ c.take_records-went.ensures c.take_records-went.auto.lines

pub returns : goal.returns
returns c =
    by_short _ _ _ _ _ _ _ _ _ _ _ _ (sym c.is_long.ensures ∙ c.if-is_long.false)
    (takes_of _ _ _ _ _ _ _ _ _ _ _ c.take_records-went.ensures _ _ _ refl c.write_last-next.ensures
    (c.write_last-next.auto.lines ∙ c.take_records-went.auto.lines))
