-- The length of what the packer writes, and its bytes one at a time.
use Rattle.std.specs.Prelude.{ℕ, ◌+◌, ◌-◌, ◌≤◌, ◌<◌, min, ◌≡◌, refl, List, [], ◌∷◌, ◌++◌, true, ◌&&◌, eqb, leb, ltb, length, get_or, set, take, drop, replicate}
use Rattle.std.proofs.Common.{add-one, arith, sym, ap, ◌∙◌, length-append, length-drop, get_or-append-add, length-take-le, take_all, lt-ltb, le-ltb, leb-true, eqb-true}
use Rattle.std.proofs.Math.Decide.{dec_lt}
use Rattle.std.proofs.lemmas.List.{length-replicate, get_or-replicate}
use Rattle.std.proofs.Math.ListN.{get_or-append}
use Rattle.std.proofs.Math.Seq.{paste, paste-suc}
use Rattle.laws.specs.Choice.{then, else, each_of}
use Rattle.laws.specs.Pastes.{paste_next}
use Rattle.frame.proofs.LengthLaws.{frame_bounds}
use Rattle.frame.specs.Lengths.{frame_length}
use Rattle.packing.specs.Packing.{Request, asked_by, asked, body, padding, pad_byte, sum, needed_by, needed, trailers_ok, lists_even, bytes_whole, request_fits, frame_of}

-- ---- a request that can be met

-- the lists are of one length, and the bytes are as long as they say
pub record Even (ss fs ps ns ms d t : List ℕ) : Type 0 where
  pub services : length ss ≡ length ps
  pub formats : length fs ≡ length ps
  pub lengths : length ns ≡ length ps
  pub trailers : length ms ≡ length ps
  pub joined : length d ≡ sum ns
  pub assured : length t ≡ sum ms

abbrev pub EvenOf : Request → Type 0
EvenOf q = Even q.services q.formats q.pgns q.lengths q.trailers q.joined q.assured

pub record Met (q : Request) (out : ℕ) : Type 0 where
  pub small : needed q ≤ 64
  pub even : EvenOf q
  pub due : trailers_ok q.services q.formats q.trailers ≡ true
  pub output : out ≡ 64

pub request_met : (q : Request) (out : ℕ) → request_fits q out ≡ true → Met q out
unfolding request_fits
request_met q out e =
    let T = trailers_ok q.services q.formats q.trailers in
    let (a, (b, (c, _))) = each_of (leb (needed q) 64 ∷ (lists_even q && bytes_whole q out) ∷ T ∷ []) e in
    let (f, (g, _)) = each_of (lists_even q ∷ bytes_whole q out ∷ []) b in
    let n = length q.pgns in
    let (i, (j, (k, (l, _)))) = each_of (eqb (length q.services) n ∷ eqb (length q.formats) n ∷ eqb (length q.lengths) n ∷ eqb (length q.trailers) n ∷ []) f in
    let (x, (y, (z, _))) = each_of (eqb (length q.joined) (sum q.lengths) ∷ eqb (length q.assured) (sum q.trailers) ∷ eqb out 64 ∷ []) g in
    record {
      small = leb-true (needed q) 64 a;
      even =
          record {
            services = eqb-true _ _ i;
            formats = eqb-true _ _ j;
            lengths = eqb-true _ _ k;
            trailers = eqb-true _ _ l;
            joined = eqb-true _ _ x;
            assured = eqb-true _ _ y;
          };
      due = c;
      output = eqb-true out 64 z;
    }

-- what is left of it after its first group
pub even_next : (s f p n m : ℕ) (ss fs ps ns ms d t : List ℕ) → Even (s ∷ ss) (f ∷ fs) (p ∷ ps) (n ∷ ns) (m ∷ ms) d t
    → Even ss fs ps ns ms (drop n d) (drop m t)
even_next s f p n m ss fs ps ns ms d t e =
    let a : length (s ∷ ss) ≡ length (p ∷ ps) = e.services in
    let b : length (f ∷ fs) ≡ length (p ∷ ps) = e.formats in
    let c : length (n ∷ ns) ≡ length (p ∷ ps) = e.lengths in
    let g : length (m ∷ ms) ≡ length (p ∷ ps) = e.trailers in
    let x : length d ≡ n + sum ns = e.joined in
    let y : length t ≡ m + sum ms = e.assured in
    record {
      services = omega arith;
      formats = omega arith;
      lengths = omega arith;
      trailers = omega arith;
      joined = simp length-drop (omega arith);
      assured = simp length-drop (omega arith);
    }

-- What holds of no groups, and of one group more whenever it holds of the rest, holds of every even request.
module _ (P : (ss fs ps ns ms d t : List ℕ) → Type 0) (none : (d t : List ℕ) → length d ≡ 0 → length t ≡ 0 → P [] [] [] [] [] d t)
    (one : (s f p n m : ℕ) (ss fs ps ns ms d t : List ℕ) → n ≤ length d → m ≤ length t → P ss fs ps ns ms (drop n d) (drop m t) → P (s ∷ ss) (f ∷ fs) (p ∷ ps) (n ∷ ns) (m ∷ ms) d t) where
  pub by_groups : (ss fs ps ns ms d t : List ℕ) → Even ss fs ps ns ms d t → P ss fs ps ns ms d t
  by_groups [] [] [] [] [] d t e = none d t e.joined e.assured
  by_groups [] fs (p ∷ ps) ns ms d t e = absurd (omega (arith, e.services))
  by_groups [] (f ∷ fs) [] ns ms d t e = absurd (omega (arith, e.formats))
  by_groups [] [] [] (n ∷ ns) ms d t e = absurd (omega (arith, e.lengths))
  by_groups [] [] [] [] (m ∷ ms) d t e = absurd (omega (arith, e.trailers))
  by_groups (s ∷ ss) fs [] ns ms d t e = absurd (omega (arith, e.services))
  by_groups (s ∷ ss) [] (p ∷ ps) ns ms d t e = absurd (omega (arith, e.formats))
  by_groups (s ∷ ss) (f ∷ fs) (p ∷ ps) [] ms d t e = absurd (omega (arith, e.lengths))
  by_groups (s ∷ ss) (f ∷ fs) (p ∷ ps) (n ∷ ns) [] d t e = absurd (omega (arith, e.trailers))
  by_groups (s ∷ ss) (f ∷ fs) (p ∷ ps) (n ∷ ns) (m ∷ ms) d t e =
      one s f p n m ss fs ps ns ms d t (let x : length d ≡ n + sum ns = e.joined in omega arith) (let y : length t ≡ m + sum ms = e.assured in omega arith)
      (by_groups ss fs ps ns ms (drop n d) (drop m t) (even_next s f p n m ss fs ps ns ms d t e))

-- ---- lengths

pub length_body : (ss fs ps ns ms d t : List ℕ) → Even ss fs ps ns ms d t → length (body (asked_by ss fs ps ns ms d t)) ≡ needed_by ps ns ms
unfolding body asked_by
length_body =
    by_groups (λ ss fs ps ns ms d t. length (body (asked_by ss fs ps ns ms d t)) ≡ needed_by ps ns ms) (λ d t x y. refl)
    (λ s f p n m ss fs ps ns ms d t x y r.
    let a : length (take n d) ≡ n = length-take-le n d x in
    let b : length (take m t) ≡ m = length-take-le m t y in
    simp length-append (omega arith))

pub length_padding : (gap : ℕ) → length (padding gap) ≡ gap
length_padding gap = simp (length-append, length-replicate) (omega arith)

later : (l : List ℕ) (m j k : ℕ) → m ≡ 3 → j ≡ 3 + k → get_or (replicate m 0 ++ l) j 0 ≡ get_or l k 0
later l m j k e f = ap (λ (x : ℕ). get_or (replicate x 0 ++ l) j 0) e ∙ ap (λ (x : ℕ). get_or (replicate 3 0 ++ l) x 0) f ∙ get_or-append-add (replicate 3 0) l k 0

pub padding_at : (gap j : ℕ) → j < gap → get_or (padding gap) j 0 ≡ pad_byte j
padding_at gap j h = go (dec_lt j 3) where
  go : Dec (j < 3) → get_or (padding gap) j 0 ≡ pad_byte j
  go (yes k) =
      then (ltb j 3) _ _ _ (lt-ltb j 3 k)
      (get_or-append (replicate (min gap 3) 0) (replicate (gap - 3) 170) 0 j (simp length-replicate (omega arith))
      ∙ get_or-replicate (min gap 3) j 0 0 (omega arith))
  go (no k) =
      else (ltb j 3) _ _ _ (le-ltb j 3 (omega arith)) (later (replicate (gap - 3) 170) (min gap 3) j (j - 3) (omega arith) (omega arith) ∙ get_or-replicate (gap - 3) (j - 3) 170 0 (omega arith))

-- a turn of the loop that pads: d is the output as it was, and p as it is
pub pad_turn : (p d : List ℕ) (at gap j b : ℕ) → p ≡ paste d at (padding gap) j → at + j < length d → j < gap → b ≡ pad_byte j → set p (at + j) b ≡ paste d at (padding gap) (j + 1)
pad_turn p d at gap j b e h g v =
    ap (λ (l : List ℕ). set l (at + j) b) e
    ∙ ap (λ (x : ℕ). set (paste d at (padding gap) j) (at + j) x) (v ∙ sym (padding_at gap j g))
    ∙ paste-suc d at (padding gap) j 0 h (rw length_padding g)
    ∙ ap (paste d at (padding gap)) (sym (add-one j))

module _ (q : Request) (out : ℕ) (m : Met q out) where
  body_long : length (body (asked q)) ≡ needed q
  body_long = length_body q.services q.formats q.pgns q.lengths q.trailers q.joined q.assured m.even

  pub length_frame : length (frame_of q) ≡ frame_length (needed q)
  length_frame =
      let b = frame_bounds (needed q) m.small in
      length-append (body (asked q)) (padding (frame_length (needed q) - needed q))
      ∙ ap (λ (k : ℕ). k + length (padding (frame_length (needed q) - needed q))) body_long
      ∙ ap (λ (k : ℕ). needed q + k) (length_padding (frame_length (needed q) - needed q))
      ∙ omega arith

  -- the groups written, and then the padding
  pub padded : (o : List ℕ) → paste (body (asked q) ++ drop (needed q) o) (needed q) (padding (frame_length (needed q) - needed q)) (frame_length (needed q) - needed q)
      ≡ frame_of q ++ drop (frame_length (needed q)) o
  padded o =
      let b = frame_bounds (needed q) m.small in
      let gap : ℕ = frame_length (needed q) - needed q in
      let e : needed q + gap ≡ frame_length (needed q) = omega arith in
      paste_next o _ (body (asked q)) (padding gap) (needed q) gap body_long refl
      ∙ ap (λ (x : List ℕ). body (asked q) ++ x ++ drop (needed q + gap) o) (take_all gap (padding gap) (omega (arith, length_padding gap)))
      ∙ ap (λ (k : ℕ). body (asked q) ++ padding gap ++ drop k o) e
