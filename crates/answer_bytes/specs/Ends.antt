-- The answers of a reading as bytes: one for each slot, from slot 0 on (01, "Clock").
use Rattle.std.specs.Prelude.{List, [], ◌∷◌, ◌++◌, ℕ, replicate, None, Option, Some}
use Rattle.answer.specs.declared.Answer.TheVariants.{Ended}
use Rattle.answer_bytes.specs.Places.{answer_length}
use Rattle.answer_bytes.specs.Answers.{answer_bytes}
use Rattle.answer.specs.declared.Ending.{Ending}

-- a session that ended is answered as a frame that ends one; zeros where none did
abbrev pub end_bytes : Option Ending → List ℕ
end_bytes None = replicate answer_length 0
end_bytes (Some e) = answer_bytes (Ended e)

-- one after another, each as f gives it
unfoldable pub ends_by : ((Option Ending) → List ℕ) → List (Option Ending) → List ℕ
ends_by f [] = []
ends_by f (e ∷ es) = f e ++ ends_by f es

abbrev pub ends_bytes : List (Option Ending) → List ℕ
ends_bytes es = ends_by end_bytes es
