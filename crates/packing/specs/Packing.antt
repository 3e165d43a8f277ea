-- The packer: 01, "Groups in one frame", its last paragraph, with trailers as E5 of 02 has them.
use Rattle.std.specs.Prelude.{ℕ, ◌+◌, ◌-◌, ◌*◌, ◌/◌, ◌%◌, min, Bool, true, cond, not, ◌&&◌, Option, Some, None, Result, Ok, Err, List, [], ◌∷◌, ◌++◌, eqb, leb, ltb, length, take, drop, replicate}
use Rattle.std.specs.List.{zip, list_all}
use Rattle.frame.specs.Pgn.{pgn_ok}
use Rattle.frame.specs.Lengths.{frame_length}
use Rattle.frame.specs.declared.refusal.Refusal.{Refusal}
use Rattle.frame.specs.declared.refusal.Refusal.TheVariants.{ServiceType, TrailerFormat, PgnForm, PackRequest}
use Rattle.multi_pg.specs.Services.{is_service, service_of, is_group, has_trailer}
use Rattle.multi_pg.specs.Groups.{Content}
use Rattle.packing.specs.declared.Request.{Request as Lent}
use Rattle.packing.specs.declared.trailer.Sums.{Sums}

-- ---- a request

-- five lists with a number for each group: its service type, its trailer format, its PGN, how long its data is, how long its trailer is;
-- then the data of all groups back to back, and their trailers
pub record Request : Type 0 where
  pub services : List ℕ
  pub formats : List ℕ
  pub pgns : List ℕ
  pub lengths : List ℕ
  pub trailers : List ℕ
  pub joined : List ℕ
  pub assured : List ℕ

-- what the slices of a lent request hold
abbrev pub request_of : Lent → Request
request_of r =
    record {
      services = r.services.now;
      formats = r.formats.now;
      pgns = r.pgns.now;
      lengths = r.lengths.now;
      trailers = r.trailers.now;
      joined = r.data.now;
      assured = r.assured.now;
    }

-- a group for each place of the five lists, with its bytes taken off the front of the data and of the trailers
unfoldable pub asked_by : List ℕ → List ℕ → List ℕ → List ℕ → List ℕ → List ℕ → List ℕ → List Content
asked_by [] fs ps ns ms d t = []
asked_by (s ∷ ss) [] ps ns ms d t = []
asked_by (s ∷ ss) (f ∷ fs) [] ns ms d t = []
asked_by (s ∷ ss) (f ∷ fs) (p ∷ ps) [] ms d t = []
asked_by (s ∷ ss) (f ∷ fs) (p ∷ ps) (n ∷ ns) [] d t = []
asked_by (s ∷ ss) (f ∷ fs) (p ∷ ps) (n ∷ ns) (m ∷ ms) d t =
    record { pgn = p; service = s; format = f; bytes = take n d; trailer = take m t } ∷ asked_by ss fs ps ns ms (drop n d) (drop m t)

abbrev pub asked : Request → List Content
asked q = asked_by q.services q.formats q.pgns q.lengths q.trailers q.joined q.assured

-- ---- the bytes of a frame

-- TOS in the top 3 bits, TF in the next 3, the PGN's 18 bits with the high byte first, the length byte
abbrev pub header_of : ℕ → ℕ → ℕ → ℕ → List ℕ
header_of service format pgn n = (32 * service + 4 * format + pgn / 65536 % 4) % 256 ∷ pgn / 256 % 256 ∷ pgn % 256 ∷ n ∷ []

-- the length byte counts the trailer, which follows the data
abbrev pub group_bytes : Content → List ℕ
group_bytes c = header_of c.service c.format c.pgn (length c.bytes + length c.trailer) ++ (c.bytes ++ c.trailer)

unfoldable pub body : List Content → List ℕ
body [] = []
body (c ∷ cs) = group_bytes c ++ body cs

-- three zero bytes, then AA hex; a gap of 1 or 2 bytes is zeros only
abbrev pub padding : ℕ → List ℕ
padding gap = replicate (min gap 3) 0 ++ replicate (gap - 3) 170

-- its byte at an index
abbrev pub pad_byte : ℕ → ℕ
pad_byte k = cond (ltb k 3) 0 170

-- ---- what a request needs

abbrev pub sum : List ℕ → ℕ
sum [] = 0
sum (n ∷ ns) = n + sum ns

-- a header of 4 bytes for each group, its data and its trailer
abbrev pub needed_by : List ℕ → List ℕ → List ℕ → ℕ
needed_by ps ns ms = 4 * length ps + sum ns + sum ms

abbrev pub needed : Request → ℕ
needed q = needed_by q.pgns q.lengths q.trailers

-- ---- the checks, each over all groups

-- 6 where one is not
abbrev pub services_ok : List ℕ → Bool
services_ok = list_all is_service

-- 7 where the reader would take no group of a pair, up to the shorter list
abbrev pub formats_ok : List ℕ → List ℕ → Bool
formats_ok ss fs = list_all (λ (p : ℕ × ℕ). is_group (service_of p.0 p.1)) (zip ss fs)

-- 8 where one is not
abbrev pub pgns_ok : List ℕ → Bool
pgns_ok = list_all pgn_ok

-- 24 where not: each trailer as long as its format has it
abbrev pub trailers_ok : List ℕ → List ℕ → List ℕ → Bool
trailers_ok [] fs ms = true
trailers_ok (s ∷ ss) [] ms = true
trailers_ok (s ∷ ss) (f ∷ fs) [] = true
trailers_ok (s ∷ ss) (f ∷ fs) (m ∷ ms) = has_trailer (service_of s f) m && trailers_ok ss fs ms

-- lists of one length
abbrev pub lists_even : Request → Bool
lists_even q =
    eqb (length q.services) (length q.pgns)
    && eqb (length q.formats) (length q.pgns)
    && eqb (length q.lengths) (length q.pgns)
    && eqb (length q.trailers) (length q.pgns)

-- data and trailers as long as the lengths say, and an output of 64 bytes
abbrev pub bytes_whole : Request → ℕ → Bool
bytes_whole q out = eqb (length q.joined) (sum q.lengths) && eqb (length q.assured) (sum q.trailers) && eqb out 64

-- 24 where not: at most 64 bytes needed, and all of the above
unfoldable pub request_fits : Request → ℕ → Bool
request_fits q out =
    leb (needed q) 64 && (lists_even q && bytes_whole q out) && trailers_ok q.services q.formats q.trailers

-- ---- the packer

-- the groups and the padding after them
abbrev pub frame_of : Request → List ℕ
frame_of q = body (asked q) ++ padding (frame_length (needed q) - needed q)

-- the answer, and the output after the call, by the four checks in their order: past the frame's length as it was, and whole as it was
-- where the request is refused
abbrev pub outcome : Request → List ℕ → Bool → Bool → Bool → Bool → Result ℕ Refusal × List ℕ
outcome q out service format form fit =
    cond (not service) (Err ServiceType, out)
    (cond (not format) (Err TrailerFormat, out)
    (cond (not form) (Err PgnForm, out)
    (cond (not fit) (Err PackRequest, out)
    (Ok (frame_length (needed q)), frame_of q ++ drop (frame_length (needed q)) out))))

unfoldable pub packed : Request → List ℕ → Result ℕ Refusal × List ℕ
packed q out = outcome q out (services_ok q.services) (formats_ok q.services q.formats) (pgns_ok q.pgns) (request_fits q (length out))

-- ---- what the code asks; nothing here is to be believed: proofs tie each to `packed`

-- what a request needs where it fits
abbrev pub fitted : Request → ℕ → Option ℕ
fitted q out = cond (request_fits q out) (Some (needed q)) None

-- the sums of the lengths, where the trailers are as long as their formats have them
abbrev pub sums_of : List ℕ → List ℕ → List ℕ → List ℕ → Option Sums
sums_of ss fs ns ms = cond (trailers_ok ss fs ms) (Some (record { «data» = sum ns; tails = sum ms })) None

-- the first check that a request fails which does not fit
abbrev pub first_fault : List ℕ → List ℕ → List ℕ → Refusal
first_fault ss fs ps =
    cond (not (services_ok ss)) ServiceType
    (cond (not (formats_ok ss fs)) TrailerFormat
    (cond (not (pgns_ok ps)) PgnForm PackRequest))
