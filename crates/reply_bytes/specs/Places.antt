-- How long the answers of a sender's reading are: one of an answer's length for each transfer.
use Rattle.std.specs.Prelude.{ℕ}

abbrev pub transfer_answers_length : ℕ
transfer_answers_length = 144
