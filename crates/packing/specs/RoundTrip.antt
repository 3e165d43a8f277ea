-- What was packed is what is read: for every request that the packer accepts, the frame that it wrote says the request's groups, all
-- five parts of each, in order; and no allowed length that holds them is shorter. A refused request leaves the output as it was.
use Rattle.std.specs.Prelude.{ℕ, ◌≤◌, Some, Ok, List, [], ◌∷◌, ◌++◌, map, length, take, drop}
use Rattle.std.proofs.Common.{arith, ap, ◌∙◌, take-append-drop, length-take-le, take_all}
use Rattle.std.proofs.Math.Path.{◌≡◌, refl}
use Rattle.std.proofs.Math.Bool.{true}
use Rattle.frame.specs.Lengths.{is_length}
use Rattle.frame.specs.Pgn.{pgn_ok}
use Rattle.multi_pg.specs.Services.{service_of}
use Rattle.multi_pg.specs.Groups.{Content}
use Rattle.multi_pg.specs.Table.{groups, shown}
use Rattle.packing.specs.Packing.{Request, asked_by, asked, needed, packed}
use Rattle.packing.specs.Shapes.{Even, by_groups}

-- ---- the groups of a request

abbrev pub pgn_of_content : Content → ℕ
pgn_of_content c = c.pgn

abbrev pub service_of_content : Content → ℕ
service_of_content c = c.service

abbrev pub format_of : Content → ℕ
format_of c = c.format

abbrev pub size_of : Content → ℕ
size_of c = length c.bytes

abbrev pub trailer_size_of : Content → ℕ
trailer_size_of c = length c.trailer

abbrev pub data_of : List Content → List ℕ
data_of [] = []
data_of (c ∷ cs) = c.bytes ++ data_of cs

abbrev pub trailers_of : List Content → List ℕ
trailers_of [] = []
trailers_of (c ∷ cs) = c.trailer ++ trailers_of cs

-- they leave nothing out: their numbers are the lists lent, and their bytes joined are the data and the trailers
pub record Whole (cs : List Content) (ss fs ps ns ms d t : List ℕ) : Type 0 where
  pub services_all : map service_of_content cs ≡ ss
  pub formats_all : map format_of cs ≡ fs
  pub pgns_all : map pgn_of_content cs ≡ ps
  pub lengths_all : map size_of cs ≡ ns
  pub trailer_lengths_all : map trailer_size_of cs ≡ ms
  pub data_all : data_of cs ≡ d
  pub trailers_all : trailers_of cs ≡ t

pub asked_whole : (ss fs ps ns ms d t : List ℕ) → Even ss fs ps ns ms d t → Whole (asked_by ss fs ps ns ms d t) ss fs ps ns ms d t
unfolding asked_by
asked_whole =
    by_groups (λ ss fs ps ns ms d t. Whole (asked_by ss fs ps ns ms d t) ss fs ps ns ms d t)
    (λ d t x y.
    record {
      services_all = refl;
      formats_all = refl;
      pgns_all = refl;
      lengths_all = refl;
      trailer_lengths_all = refl;
      data_all = take_all 0 d (omega arith);
      trailers_all = take_all 0 t (omega arith);
    })
    (λ s f p n m ss fs ps ns ms d t x y w.
    record {
      services_all = ap (λ (l : List ℕ). s ∷ l) w.services_all;
      formats_all = ap (λ (l : List ℕ). f ∷ l) w.formats_all;
      pgns_all = ap (λ (l : List ℕ). p ∷ l) w.pgns_all;
      lengths_all =
          ap (λ (k : ℕ). k ∷ map size_of (asked_by ss fs ps ns ms (drop n d) (drop m t))) (length-take-le n d x)
          ∙ ap (λ (l : List ℕ). n ∷ l) w.lengths_all;
      trailer_lengths_all =
          ap (λ (k : ℕ). k ∷ map trailer_size_of (asked_by ss fs ps ns ms (drop n d) (drop m t))) (length-take-le m t y)
          ∙ ap (λ (l : List ℕ). m ∷ l) w.trailer_lengths_all;
      data_all = ap (λ (l : List ℕ). take n d ++ l) w.data_all ∙ take-append-drop n d;
      trailers_all = ap (λ (l : List ℕ). take m t ++ l) w.trailers_all ∙ take-append-drop m t;
    })

-- a group that a reader takes: its trailer is as long as its service type and trailer format have it
pub record Good (c : Content) : Type 0 where
  pub service : service_of c.service c.format ≡ Ok (Some (length c.trailer))
  pub pgn : pgn_ok c.pgn ≡ true

abbrev pub AllGood : List Content → Type 0
AllGood [] = Unit {0}
AllGood (c ∷ cs) = Good c × AllGood cs

-- ---- the packer

-- what an accepted request of the frame's length n comes to
pub record Carried (q : Request) (out : List ℕ) (n : ℕ) : Type 0 where
  pub whole : Whole (asked q) q.services q.formats q.pgns q.lengths q.trailers q.joined q.assured
  pub same : shown (take n (packed q out).1) ≡ groups (asked q)
  pub long : length (take n (packed q out).1) ≡ n
  pub allowed : is_length n ≡ true
  pub holds : needed q ≤ n
  pub least : (m : ℕ) → is_length m ≡ true → needed q ≤ m → n ≤ m
  pub rest : drop n (packed q out).1 ≡ drop n out
