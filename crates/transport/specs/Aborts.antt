-- Abort: 001, Figure 35 and Table 12, with the choices of docs/WIRE.md.
use Rattle.std.specs.Prelude.{ℕ, ◌%◌, List, [], ◌∷◌, get_or}
use Rattle.frame.specs.Octets.{low3, low24}
use Rattle.transport.specs.declared.Key.{Key}
use Rattle.transport.specs.declared.abort.Abort as abort
use Rattle.transport.specs.declared.abort.Role.{Role}
use Rattle.transport.specs.declared.abort.Role.TheVariants.{Originator, Responder}
use Rattle.transport.specs.Heads.{head}

-- the sender's role in the two low bits of byte 8: 0 is the originator, 1 the responder
abbrev pub role_at : List ℕ → ℕ
role_at d = get_or d 7 0 % 4

abbrev pub abort_pgn_at : List ℕ → ℕ
abort_pgn_at d = low24 d 9

-- reason 9, PGN 10 to 12
abbrev pub abort_at : Key → List ℕ → abort.Abort
abort_at k d = record { key = k; reason = get_or d 8 0; pgn = abort_pgn_at d }

-- the role below six ones
abbrev pub role_byte : Role → ℕ
role_byte Originator = 252
role_byte Responder = 253

-- six reserved bytes before it
abbrev pub abort_bytes : Role → abort.Abort → List ℕ
abort_bytes role f =
    head 15 f.key ∷ 255 ∷ 255 ∷ 255 ∷ 255 ∷ 255 ∷ 255 ∷ role_byte role ∷ f.reason ∷ low3 f.pgn []
