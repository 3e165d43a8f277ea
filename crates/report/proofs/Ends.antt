-- The endings of all slots, slot by slot.
use Rattle.std.specs.Prelude.{None, Option}
use mathlib.Core.Path.{◌≡◌, refl}
use mathlib.Core.List.{List, [], ◌∷◌, ◌++◌}
use Prim.Native.Nat.{ℕ}
use Rattle.report.specs.Lines.{end_lines, ends_lines}
use Rattle.answer.specs.declared.Ending.{Ending}

abbrev pub slot_lines : Option Ending → List ℕ
slot_lines s = end_lines s

abbrev pub none : Option Ending
none = None

pub no_ends : ends_lines [] ≡ []
unfolding ends_lines
no_ends = refl

pub more_ends : (s : Option Ending) (ss : List (Option Ending)) → ends_lines (s ∷ ss) ≡ slot_lines s ++ ends_lines ss
unfolding ends_lines
more_ends s ss = refl
