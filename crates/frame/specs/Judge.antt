-- Which frames are taken: 01, "Identifier", and the order of "Numbered refusals".
use Rattle.std.specs.Prelude.{ℕ, Bool, cond, not, ◌&&◌, ◌||◌, eqb, leb, Err, Ok, Result}
use Rattle.frame.specs.declared.Address.{Address}
use Rattle.frame.specs.declared.identifier.Identifier.{Identifier}
use Rattle.frame.specs.declared.judge.Route.{Route}
use Rattle.frame.specs.declared.judge.Content.TheVariants.{MultiPg, Control, Data}
use Rattle.frame.specs.declared.refusal.Refusal.{Refusal}
use Rattle.frame.specs.declared.refusal.Refusal.TheVariants.{FrameLength, IdentifierRange, NotTaken}
use Rattle.frame.specs.Identifiers.{identifier_of}
use Rattle.frame.specs.Lengths.{is_length}
use Rattle.frame.specs.declared.judge.Content.{Content}

-- both page bits 0; DA the own address or 255; SA not 254, 255 or the own address
abbrev pub route_taken : Address → Identifier → Bool
route_taken own f =
    eqb f.extended_data_page 0
    && eqb f.data_page 0
    && (eqb f.ps own.0 || eqb f.ps 255)
    && not (eqb f.sa.0 254)
    && not (eqb f.sa.0 255)
    && not (eqb f.sa.0 own.0)

unfoldable pub by_format : ℕ → Route → Result Content Refusal
by_format pf route =
    cond (eqb pf 37) (Ok (MultiPg route))
    (cond (eqb pf 77) (Ok (Control route))
    (cond (eqb pf 78) (Ok (Data route))
    (Err NotTaken)))

abbrev pub route_of : Identifier → Route
route_of f = record { sa = f.sa; da = record { 0 = f.ps } }

-- 2, then 1, then 3
unfoldable pub judged : Address → ℕ → ℕ → Result Content Refusal
judged own id bytes =
    cond (leb 536870912 id) (Err IdentifierRange)
    (cond (not (is_length bytes)) (Err FrameLength)
    (cond (not (route_taken own (identifier_of id))) (Err NotTaken)
    (by_format (identifier_of id).pf (route_of (identifier_of id)))))
