-- What a Multi-PG frame says: 01, "Groups in one frame", with trailers as E5 of 02 and 001, 6.5.3 have them.
use Rattle.std.specs.Prelude.{ℕ, zero, suc, ◌+◌, ◌-◌, ◌*◌, ◌/◌, ◌%◌, Bool, cond, not, List, [], ◌∷◌, map, leb, ltb, length, get_or, take, drop, Option, Some, None, Result, Ok, Err}
use Rattle.frame.specs.Pgn.{pgn_ok}
use Rattle.frame.specs.declared.refusal.Refusal.{Refusal}
use Rattle.frame.specs.declared.refusal.Refusal.TheVariants.{HeaderCut, DataCut, PgnForm}
use Rattle.multi_pg.specs.declared.Group.{Group}
use Rattle.multi_pg.specs.declared.Cursor.{Cursor}
use Rattle.multi_pg.specs.Services.{service_of}

-- ---- the header of a group at a place

-- byte 1: the service type TOS in the top 3 bits, the trailer format TF in the next 3, the PGN's top 2 bits below
abbrev pub tos : List ℕ → ℕ → ℕ
tos d at = get_or d at 0 / 32

abbrev pub tf : List ℕ → ℕ → ℕ
tf d at = get_or d at 0 / 4 % 8

-- bytes 2 and 3: the rest of the PGN, high byte first
abbrev pub pgn_at : List ℕ → ℕ → ℕ
pgn_at d at = 65536 * (get_or d at 0 % 4) + 256 * get_or d (at + 1) 0 + get_or d (at + 2) 0

-- byte 4, the length byte: it counts the data and the trailer (001, 6.5.3.2 and Figure 17)
abbrev pub payload : List ℕ → ℕ → ℕ
payload d at = get_or d (at + 3) 0

-- with a trailer of n bytes, which follows the data
abbrev pub group_at : List ℕ → ℕ → ℕ → Group
group_at d at n =
    record { pgn = pgn_at d at; service = tos d at; format = tf d at; start = at + 4; len = payload d at - n; trailer = n }

-- where a group's trailer starts, and where the group ends
abbrev pub trailer_start : Group → ℕ
trailer_start g = g.start + g.len

abbrev pub end_of : Group → ℕ
end_of g = trailer_start g + g.trailer

-- a whole header that begins a group with a trailer of n bytes: 8; 5 where the length byte says less than n or passes the frame's end
abbrev pub headed_at : List ℕ → ℕ → ℕ → Result (Option Group) Refusal
headed_at d at n =
    cond (not (pgn_ok (pgn_at d at))) (Err PgnForm)
    (cond (ltb (payload d at) n) (Err DataCut)
    (cond (ltb (length d - at - 4) (payload d at)) (Err DataCut)
    (Ok (Some (group_at d at n)))))

-- by what the first byte says: the end; else 4 where the header is cut, before 6 and 7
abbrev pub on_service : Result (Option ℕ) Refusal → Bool → (ℕ → Result (Option Group) Refusal) → Result (Option Group) Refusal
on_service (Ok None) cut group = Ok None
on_service (Err r) cut group = Err (cond cut HeaderCut r)
on_service (Ok (Some n)) cut group = cond cut (Err HeaderCut) (group n)

-- what is at a place, a group or none at the end; in the order of 01 and 02: end, 4, 6, 7, 8, 5
abbrev pub step_at : List ℕ → ℕ → Result (Option Group) Refusal
step_at d at =
    cond (leb (length d) at) (Ok None)
    (on_service (service_of (tos d at) (tf d at)) (ltb (length d - at) 4) (headed_at d at))

-- ---- a whole frame

-- all groups, or the first fault met
pub data GroupsRead : Type 0 where
  good : List Group → GroupsRead
  bad : Refusal → GroupsRead

abbrev pub after : Group → GroupsRead → GroupsRead
after g (good gs) = good (g ∷ gs)
after g (bad r) = bad r

-- by what is at a place: the end, a fault, or a group and what follows it
abbrev pub on_step : Result (Option Group) Refusal → (Group → GroupsRead) → GroupsRead
on_step (Ok None) rest = good []
on_step (Err r) rest = bad r
on_step (Ok (Some g)) rest = after g (rest g)

-- the groups from a place on, at most n of them
unfoldable pub read_from : ℕ → List ℕ → ℕ → GroupsRead
read_from zero d at = good []
read_from (suc n) d at = on_step (step_at d at) (λ g. read_from n d (end_of g))

-- a group takes 4 bytes at least, so a frame has no more groups than bytes
unfoldable pub groups_read : List ℕ → GroupsRead
groups_read d = read_from (suc (length d)) d 0

abbrev pub judgement_of : GroupsRead → Result (Unit {0}) Refusal
judgement_of (good gs) = Ok tt
judgement_of (bad r) = Err r

-- a refused frame gives out no group
abbrev pub groups_in : GroupsRead → List Group
groups_in (good gs) = gs
groups_in (bad r) = []

abbrev pub groups_of : List ℕ → List Group
groups_of d = groups_in (groups_read d)

-- ---- a reader: the place that it has come to

abbrev pub start_at : ℕ → Result (Unit {0}) Refusal → ℕ
start_at n (Ok tt) = 0
start_at n (Err r) = n

-- where a reader begins: at the end, if the frame is refused
abbrev pub start_of : List ℕ → ℕ
start_of d = start_at (length d) (judgement_of (groups_read d))

abbrev pub on_next : Result (Option Group) Refusal → Option (Group × Cursor)
on_next (Ok (Some g)) = Some (g, record { at = end_of g })
on_next (Ok None) = None
on_next (Err r) = None

abbrev pub next_at : List ℕ → ℕ → Option (Group × Cursor)
next_at d at = on_next (step_at d at)

-- ---- what a frame says, without places

-- a group's PGN, service type, trailer format, data and trailer
pub record Content : Type 0 where
  pub pgn : ℕ
  pub service : ℕ
  pub format : ℕ
  pub bytes : List ℕ
  pub trailer : List ℕ

abbrev pub content_of : List ℕ → Group → Content
content_of d g =
    record {
      pgn = g.pgn;
      service = g.service;
      format = g.format;
      bytes = take g.len (drop g.start d);
      trailer = take g.trailer (drop (trailer_start g) d);
    }

abbrev pub contents : List ℕ → List Group → List Content
contents d gs = map (content_of d) gs

-- a group of service type 2, without a trailer
abbrev pub plain : ℕ → List ℕ → Content
plain pgn bytes = record { pgn = pgn; service = 2; format = 0; bytes = bytes; trailer = [] }
