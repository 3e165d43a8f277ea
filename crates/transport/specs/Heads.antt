-- Who a frame of a transfer is from and whose it is: 01, "Transfer frames"; 001, Figures 29 and 37. Byte n of the paper is index n - 1.
use Rattle.std.specs.Prelude.{ℕ, ◌+◌, ◌*◌, ◌/◌, ◌%◌, List, ◌++◌, length, get_or, drop}
use Rattle.frame.specs.Identifiers.{id_of}
use Rattle.frame.specs.declared.Address.{Address}
use Rattle.frame.specs.declared.judge.Route.{Route}
use Rattle.transport.specs.declared.Key.{Key}

-- ---- the first byte: the control, or the format indicator, in the low 4 bits, the session number in the high 4

abbrev pub control_at : List ℕ → ℕ
control_at d = get_or d 0 0 % 16

abbrev pub session_at : List ℕ → ℕ
session_at d = get_or d 0 0 / 16 % 16

abbrev pub head : ℕ → Key → ℕ
head control k = (control + 16 * k.session.0) % 256

-- ---- the key that a frame names

-- an originator's goes from the session's SA to its DA
abbrev pub key_of : Route → List ℕ → Key
key_of route d = record { sa = route.sa; da = route.da; session = record { 0 = session_at d } }

-- a responder's goes the other way
abbrev pub session_key_of : Route → List ℕ → Key
session_key_of route d = key_of (record { sa = route.da; da = route.sa }) d

-- ---- the identifier: priority 7, both pages 0, PF 77 for a control frame and 78 for a data frame

unfoldable pub id_to : ℕ → Address → Address → ℕ
id_to pf to from =
    id_of (record {
      priority = 7;
      extended_data_page = 0;
      data_page = 0;
      pf = pf;
      ps = to.0;
      sa = from;
    })

abbrev pub to_originator : Key → ℕ
to_originator k = id_to 77 k.sa k.da

abbrev pub to_responder : Key → ℕ
to_responder k = id_to 77 k.da k.sa

abbrev pub data_id : Key → ℕ
data_id k = id_to 78 k.da k.sa

-- ---- a frame laid into a lent output: its length, and the bytes after it as they were

abbrev pub laid_in : List ℕ → List ℕ → ℕ × List ℕ
laid_in f out = (length f, f ++ drop (length f) out)
