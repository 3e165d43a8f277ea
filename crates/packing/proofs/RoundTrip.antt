-- What was packed is what is read: for every request that the packer accepts, the frame that it wrote says the request's groups, all
-- five parts of each, in order; and no allowed length that holds them is shorter. A refused request leaves the output as it was.
use Rattle.std.specs.Prelude.{ℕ, zero, suc, ◌+◌, ◌-◌, ◌*◌, ◌/◌, ◌%◌, ◌≤◌, ◌<◌, Bool, cond, Some, Result, Ok, Err, List, [], ◌∷◌, ◌++◌, leb, ltb, length, get_or, take, drop, None, Option}
use Rattle.std.proofs.Common.{arith, add-zero, sym, ap, ◌∙◌, append_assoc, length-append, get_or-append-add, drop-drop, length-take-le, take_at, drop_at, ltb-true}
use Rattle.std.proofs.Math.Path.{◌≡◌, refl, subst}
use Rattle.std.proofs.Math.Bool.{true, false}
use Rattle.std.proofs.Math.Seq.{drop-append-add}
use Rattle.laws.specs.Choice.{each_of}
use Rattle.frame.specs.Lengths.{lengths as Lengths, frame_length}
use Rattle.frame.specs.LengthLaws.{LeastOf}
use Rattle.frame.proofs.LengthLaws.{frame_least}
use Rattle.frame.specs.Pgn.{pgn_ok, low_byte_ok}
use Rattle.frame.specs.declared.refusal.Refusal.{Refusal}
use Rattle.multi_pg.specs.declared.Group.{Group}
use Rattle.multi_pg.specs.Services.{service_of, has_trailer}
use Rattle.multi_pg.specs.ServiceLaws.{group_known, has_trailer_lem}
use Rattle.multi_pg.specs.Groups.{tos, tf, pgn_at, payload, group_at, end_of, headed_at, on_service, step_at, Content, content_of, contents}
use Rattle.multi_pg.specs.Places.{Here, here_end}
use Rattle.multi_pg.specs.Reader.{Chain, last, link, chain_good}
use Rattle.multi_pg.specs.Table.{groups, shown_by, shown}
use Rattle.packing.specs.Packing.{Request, asked_by, asked, header_of, group_bytes, body, padding, needed, services_ok, formats_ok, pgns_ok, trailers_ok, request_fits, frame_of, outcome, packed}
use Rattle.packing.specs.Shapes.{Even, Met, request_met, by_groups, padding_at, length_frame}
use Rattle.packing.specs.RoundTrip.{asked_whole, Good, AllGood, Carried}

asked_good : (ss fs ps ns ms d t : List ℕ) → Even ss fs ps ns ms d t → trailers_ok ss fs ms ≡ true → pgns_ok ps ≡ true → AllGood (asked_by ss fs ps ns ms d t)
unfolding asked_by
asked_good =
    by_groups (λ ss fs ps ns ms d t. trailers_ok ss fs ms ≡ true → pgns_ok ps ≡ true → AllGood (asked_by ss fs ps ns ms d t)) (λ d t x y a b. tt)
    (λ s f p n m ss fs ps ns ms d t x y r a b.
    let due = each_of (has_trailer (service_of s f) m ∷ trailers_ok ss fs ms ∷ []) a in
    let form = each_of (pgn_ok p ∷ pgns_ok ps ∷ []) b in (
      record { service = has_trailer_lem (service_of s f) m due.0 ∙ ap (λ (n : ℕ). Ok (Some n)) (sym (length-take-le m t y)); pgn = form.0 },
      r due.1.0 form.1.0,
    ))

-- ---- a frame of such groups is read as those groups

-- from a place on a frame holds groups back to back that say cs
record Told (F : List ℕ) (at : ℕ) (cs : List Content) : Type 0 where
  gs : List Group
  chain : Chain F at gs
  same : contents F gs ≡ cs

-- the first byte of a header, taken apart
tos_of : (s f r : ℕ) → s ≤ 2 → f ≤ 7 → r < 4 → (32 * s + 4 * f + r) % 256 / 32 ≡ s
tos_of s f r a b c = omega arith

tf_of : (s f r : ℕ) → s ≤ 2 → f ≤ 7 → r < 4 → (32 * s + 4 * f + r) % 256 / 4 % 8 ≡ f
tf_of s f r a b c = omega arith

low_of : (s f p : ℕ) → s ≤ 2 → f ≤ 7 → p < 262144 → 65536 * ((32 * s + 4 * f + p / 65536 % 4) % 256 % 4) + 256 * (p / 256 % 256) + p % 256 ≡ p
low_of s f p a b c = omega arith

-- a group's bytes after any bytes and before any others
module _ (c : Content) (pre X F : List ℕ) (at : ℕ) (eF : F ≡ pre ++ (group_bytes c ++ X)) (ea : at ≡ length pre) (good : Good c) where
  abbrev n : ℕ
  n = length c.bytes

  abbrev m : ℕ
  m = length c.trailer

  abbrev first : ℕ
  first = (32 * c.service + 4 * c.format + c.pgn / 65536 % 4) % 256

  abbrev H : List ℕ
  H = header_of c.service c.format c.pgn (n + m)

  -- what follows the header
  abbrev Y : List ℕ
  Y = c.bytes ++ (c.trailer ++ X)

  known : (c.service ≤ 2) × (c.format ≤ 7)
  known = group_known c.service c.format m good.service

  e_h : F ≡ pre ++ (H ++ Y)
  e_h = eF ∙ ap (λ (l : List ℕ). pre ++ (H ++ l)) (append_assoc c.bytes c.trailer X)

  header_at : (k : ℕ) → get_or F (at + k) 0 ≡ get_or (H ++ Y) k 0
  header_at k =
      ap (λ (l : List ℕ). get_or l (at + k) 0) e_h ∙ ap (λ (a : ℕ). get_or (pre ++ (H ++ Y)) (a + k) 0) ea ∙ get_or-append-add pre (H ++ Y) k 0

  first_at_lem : get_or F at 0 ≡ first
  first_at_lem = ap (λ (k : ℕ). get_or F k 0) (sym (add-zero at)) ∙ header_at 0

  tos_at : tos F at ≡ c.service
  tos_at = ap (λ (x : ℕ). x / 32) first_at_lem ∙ tos_of c.service c.format (c.pgn / 65536 % 4) known.0 known.1 (omega arith)

  tf_at : tf F at ≡ c.format
  tf_at = ap (λ (x : ℕ). x / 4 % 8) first_at_lem ∙ tf_of c.service c.format (c.pgn / 65536 % 4) known.0 known.1 (omega arith)

  pgn_at_lem : pgn_at F at ≡ c.pgn
  pgn_at_lem =
      ap (λ (x : ℕ). 65536 * (x % 4) + 256 * get_or F (at + 1) 0 + get_or F (at + 2) 0) first_at_lem
      ∙ ap (λ (x : ℕ). 65536 * (first % 4) + 256 * x + get_or F (at + 2) 0) (header_at 1)
      ∙ ap (λ (x : ℕ). 65536 * (first % 4) + 256 * (c.pgn / 256 % 256) + x) (header_at 2)
      ∙ low_of c.service c.format c.pgn known.0 known.1 (ltb-true c.pgn 262144 (each_of (ltb c.pgn 262144 ∷ low_byte_ok c.pgn ∷ []) good.pgn).0)

  pub payload_at : payload F at ≡ n + m
  payload_at = header_at 3

  long_at : length F ≡ at + 4 + n + m + length X
  long_at = ap length e_h ∙ length-append pre (H ++ Y) ∙ omega (arith, length-append c.bytes (c.trailer ++ X), length-append c.trailer X)

  here : Here F at m
  here =
      record {
        service = ap (λ (s : ℕ). service_of s (tf F at)) tos_at ∙ ap (service_of c.service) tf_at ∙ good.service;
        form = ap pgn_ok pgn_at_lem ∙ good.pgn;
        counted = omega (arith, payload_at);
        whole = omega (arith, payload_at, long_at);
      }

  end_at_lem : end_of (group_at F at m) ≡ length (pre ++ group_bytes c)
  end_at_lem = here_end F at m here ∙ sym (length-append pre (group_bytes c) ∙ omega (arith, payload_at, length-append c.bytes c.trailer))

  len_at : payload F at - m ≡ n
  len_at = omega (arith, payload_at)

  after_header : drop (at + 4) F ≡ Y
  after_header =
      ap (drop (at + 4)) e_h ∙ ap (λ (a : ℕ). drop (a + 4) (pre ++ (H ++ Y))) ea ∙ drop-append-add pre (H ++ Y) 4

  data_at_lem : take (payload F at - m) (drop (at + 4) F) ≡ c.bytes
  data_at_lem = ap (λ (k : ℕ). take k (drop (at + 4) F)) len_at ∙ ap (take n) after_header ∙ take_at c.bytes (c.trailer ++ X) n refl

  trailer_at : take m (drop (at + 4 + (payload F at - m)) F) ≡ c.trailer
  trailer_at =
      ap (λ (k : ℕ). take m (drop (at + 4 + k) F)) len_at
      ∙ ap (take m) (sym (drop-drop n (at + 4) F) ∙ ap (drop n) after_header ∙ drop_at c.bytes (c.trailer ++ X) n refl)
      ∙ take_at c.trailer X m refl

  content_at : content_of F (group_at F at m) ≡ c
  content_at =
      ap (λ (x : ℕ). record { pgn = x; service = tos F at; format = tf F at; bytes = take (payload F at - m) (drop (at + 4) F); trailer = take m (drop (at + 4 + (payload F at - m)) F) }) pgn_at_lem
      ∙ ap (λ (x : ℕ). record { pgn = c.pgn; service = x; format = tf F at; bytes = take (payload F at - m) (drop (at + 4) F); trailer = take m (drop (at + 4 + (payload F at - m)) F) }) tos_at
      ∙ ap (λ (x : ℕ). record { pgn = c.pgn; service = c.service; format = x; bytes = take (payload F at - m) (drop (at + 4) F); trailer = take m (drop (at + 4 + (payload F at - m)) F) }) tf_at
      ∙ ap (λ (l : List ℕ). record { pgn = c.pgn; service = c.service; format = c.format; bytes = l; trailer = take m (drop (at + 4 + (payload F at - m)) F) }) data_at_lem
      ∙ ap (λ (l : List ℕ). record { pgn = c.pgn; service = c.service; format = c.format; bytes = c.bytes; trailer = l }) trailer_at

told_end : (tail pre F : List ℕ) (at : ℕ) → F ≡ pre ++ tail → at ≡ length pre → get_or tail 0 0 ≡ 0 → step_at F at ≡ (Ok None)
told_end tail pre F at eF ea z =
    either (leb (length F) at) (ap (λ (s : ℕ). on_service (service_of s (tf F at)) (ltb (length F - at) 4) (headed_at F at)) tos_none)
  where
    first_none : get_or F at 0 ≡ 0
    first_none =
        ap (λ (l : List ℕ). get_or l at 0) eF
        ∙ ap (λ (a : ℕ). get_or (pre ++ tail) a 0) (ea ∙ sym (add-zero (length pre)))
        ∙ get_or-append-add pre tail 0 0
        ∙ z

    tos_none : tos F at ≡ 0
    tos_none = ap (λ (x : ℕ). x / 32) first_none

    either : {x : (Result (Option Group) Refusal)} (t : Bool) → x ≡ (Ok None) → cond t (Ok None) x ≡ (Ok None)
    either true e = refl
    either false e = e

told : (cs : List Content) (tail pre F : List ℕ) (at : ℕ) → F ≡ pre ++ (body cs ++ tail) → at ≡ length pre → AllGood cs → get_or tail 0 0 ≡ 0 → Told F at cs
unfolding body
told [] tail pre F at eF ea good z = record { gs = []; chain = last (told_end tail pre F at eF ea z); same = refl }
told (c ∷ cs) tail pre F at eF ea good z =
    let m : ℕ = length c.trailer in
    let X : List ℕ = body cs ++ tail in
    let eX : F ≡ pre ++ (group_bytes c ++ X) = eF ∙ ap (λ (l : List ℕ). pre ++ l) (append_assoc (group_bytes c) (body cs) tail) in
    let eP : F ≡ (pre ++ group_bytes c) ++ X = eX ∙ sym (append_assoc pre (group_bytes c) X) in
    let rest : Told F (end_of (group_at F at m)) cs =
    told cs tail (pre ++ group_bytes c) F (end_of (group_at F at m)) eP (end_at_lem c pre X F at eX ea good.0) good.1 z in
    record {
      gs = group_at F at m ∷ rest.gs;
      chain = link (here c pre X F at eX ea good.0) rest.chain;
      same = ap (λ (x : Content). x ∷ contents F rest.gs) (content_at c pre X F at eX ea good.0) ∙ ap (λ (l : List Content). c ∷ l) rest.same;
    }

padding_start : (gap : ℕ) → get_or (padding gap) 0 0 ≡ 0
padding_start zero = refl
padding_start (suc gap) = padding_at (suc gap) 0 (omega arith)

-- the frame of groups that a reader takes
pub frame_says : (q : Request) → AllGood (asked q) → shown (frame_of q) ≡ groups (asked q)
frame_says q good =
    let gap : ℕ = frame_length (needed q) - needed q in
    let t : Told (frame_of q) 0 (asked q) = told (asked q) (padding gap) [] (frame_of q) 0 refl refl good (padding_start gap) in
    ap (shown_by (frame_of q)) (chain_good (frame_of q) t.gs t.chain) ∙ ap groups t.same

module _ (q : Request) (out : List ℕ) where
  carried : pgns_ok q.pgns ≡ true → request_fits q (length out) ≡ true → packed q out ≡ outcome q out true true true true → Carried q out (frame_length (needed q))
  carried p f e =
      let m : Met q (length out) = request_met q (length out) f in
      let l : LeastOf Lengths (needed q) (frame_length (needed q)) = frame_least (needed q) m.small in
      let w : (packed q out).1 ≡ frame_of q ++ drop (frame_length (needed q)) out = ap (λ (x : Result ℕ Refusal × List ℕ). x.1) e in
      let s : length (frame_of q) ≡ frame_length (needed q) = length_frame q (length out) m in
      let t : take (frame_length (needed q)) (packed q out).1 ≡ frame_of q =
      ap (take (frame_length (needed q))) w ∙ take_at (frame_of q) (drop (frame_length (needed q)) out) (frame_length (needed q)) s in
      record {
        whole = asked_whole q.services q.formats q.pgns q.lengths q.trailers q.joined q.assured m.even;
        same = ap shown t ∙ frame_says q (asked_good q.services q.formats q.pgns q.lengths q.trailers q.joined q.assured m.even m.due p);
        long = ap length t ∙ s;
        allowed = l.member;
        holds = l.holds;
        least = l.least;
        rest = ap (drop (frame_length (needed q))) w ∙ drop_at (frame_of q) (drop (frame_length (needed q)) out) (frame_length (needed q)) s;
      }

  -- The round trip.
  pub round_trip : (n : ℕ) → (packed q out).0 ≡ Ok n → Carried q out n
  unfolding packed
  round_trip n e = go (services_ok q.services) (formats_ok q.services q.formats) (pgns_ok q.pgns) (request_fits q (length out)) refl refl refl refl e
    where
      go : (a b c d : Bool) → services_ok q.services ≡ a → formats_ok q.services q.formats ≡ b → pgns_ok q.pgns ≡ c → request_fits q (length out) ≡ d
          → (outcome q out a b c d).0 ≡ Ok n → Carried q out n
      go false b c d w x y z k = absurd (let z : ◌≡◌ {A = ℕ} 0 1 = cc in omega arith)
      go true false c d w x y z k = absurd (let z : ◌≡◌ {A = ℕ} 0 1 = cc in omega arith)
      go true true false d w x y z k = absurd (let z : ◌≡◌ {A = ℕ} 0 1 = cc in omega arith)
      go true true true false w x y z k = absurd (let z : ◌≡◌ {A = ℕ} 0 1 = cc in omega arith)
      go true true true true w x y z k =
          let i : frame_length (needed q) ≡ n = cc in subst (Carried q out) i (carried y z (rw (w, x, y, z)))

  -- A refused request leaves every byte of the output as it was.
  pub refused_unchanged : (r : Refusal) → (packed q out).0 ≡ Err r → (packed q out).1 ≡ out
  unfolding packed
  refused_unchanged r e = go (services_ok q.services) (formats_ok q.services q.formats) (pgns_ok q.pgns) (request_fits q (length out)) e
    where
      go : (a b c d : Bool) → (outcome q out a b c d).0 ≡ Err r → (outcome q out a b c d).1 ≡ out
      go false b c d k = refl
      go true false c d k = refl
      go true true false d k = refl
      go true true true false k = refl
      go true true true true k = absurd (let z : ◌≡◌ {A = ℕ} 0 1 = cc in omega arith)
