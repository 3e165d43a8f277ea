-- The faults that a frame can have whatever it carries, and their order: 01, "Identifier", the order for a frame in "Numbered
-- refusals", and "End" for 10; 02, E2, for 16.
use Rattle.std.specs.Prelude.{ℕ, ◌^◌, Bool, cond, not, ◌&&◌, ◌||◌, List, [], ◌∷◌, eqb, leb, ltb, length}
use Rattle.frame.specs.declared.Address.{Address}
use Rattle.frame.specs.Identifiers.{identifier_of}
use Rattle.transport.specs.Heads.{control_at}
use Rattle.transport.specs.Aborts.{role_at}
use Rattle.isolation.specs.Standard.{fd_lengths, is_one_of}

-- both pages 0; DA the own address or 255; SA not 254, 255 or the own address; PF 37, 77 or 78
unfoldable pub is_taken_here : Address → ℕ → Bool
is_taken_here own id =
    eqb (identifier_of id).extended_data_page 0
    && eqb (identifier_of id).data_page 0
    && (eqb (identifier_of id).ps own.0 || eqb (identifier_of id).ps 255)
    && not (is_one_of (identifier_of id).sa.0 (254 ∷ 255 ∷ own.0 ∷ []))
    && is_one_of (identifier_of id).pf (37 ∷ 77 ∷ 78 ∷ [])

-- a control frame not of 12 bytes, or a data frame under 5
unfoldable pub is_cut_short : ℕ → ℕ → Bool
is_cut_short pf len = (eqb pf 77 && not (eqb len 12)) || (eqb pf 78 && ltb len 5)

-- a control frame whose control is not RTS, EOMS, BAM or an Abort in the originator's role
unfoldable pub is_not_receivers : ℕ → List ℕ → Bool
is_not_receivers pf d =
    eqb pf 77 && not (is_one_of (control_at d) (0 ∷ 2 ∷ 4 ∷ []) || (eqb (control_at d) 15 && eqb (role_at d) 0))

-- a control frame that goes to a sender: CTS, EOMA, or an Abort in the responder's role
unfoldable pub from_responder : List ℕ → Bool
from_responder d = is_one_of (control_at d) (1 ∷ 3 ∷ []) || (eqb (control_at d) 15 && eqb (role_at d) 1)

-- 23, 2, 1, 3, 9, then for a control frame 16, since a receiver alone has no transfer, or 10 for what neither end takes: the number of the first that applies, 0 where none does. `ready`: record and store are
-- in bounds
unfoldable pub first_fault : Bool → Address → ℕ → List ℕ → ℕ
first_fault ready own id d =
    cond ready
    (cond (leb (2 ^ 29) id) 2
    (cond (not (is_one_of (length d) fd_lengths)) 1
    (cond (not (is_taken_here own id)) 3
    (cond (is_cut_short (identifier_of id).pf (length d)) 9
    (cond (is_not_receivers (identifier_of id).pf d) (cond (from_responder d) 16 10)
    0)))))
    23

-- a control or data frame
unfoldable pub is_transfer : ℕ → Bool
is_transfer id = is_one_of (identifier_of id).pf (77 ∷ 78 ∷ [])
