-- A turn of the loop that writes groups.
use Prim.Native.Nat.{ℕ, ◌+◌, ◌≤◌, ◌<◌}
use native.Mathlib.Omega.{arith}
use mathlib.Core.Path.{◌≡◌, refl, sym, ap, subst, ◌∙◌}
use mathlib.Core.List.{List, [], ◌∷◌, ◌++◌, append_assoc, append-nil}
use lib.ListN.{length, get_or, take, drop, length-append, length-drop}
use lib.Seq.{paste, length-take-le, drop-drop}
use Rattle.laws.specs.Turn.{turn, end}
use Rattle.laws.specs.Pastes.{paste_next}
use Rattle.multi_pg.specs.Groups.{Content}
use Rattle.packing.specs.Packing.{Request, asked_by, asked, header_of, group_bytes, body, sum, needed_by, needed}
use Rattle.packing.specs.Shapes.{EvenOf}

-- the groups of a request from place i on, where so many bytes of data and of trailers were taken
abbrev pub rest_of : Request → ℕ → ℕ → ℕ → List Content
rest_of q i from taken =
    asked_by (drop i q.services) (drop i q.formats) (drop i q.pgns) (drop i q.lengths) (drop i q.trailers) (drop from q.joined) (drop taken q.assured)

-- after i groups: what is written is there, with what is still to be written it is the whole, and the rest of the output is as it was
pub record Written (q : Request) (o₀ o : List ℕ) (i at from taken : ℕ) : Type 0 where
  pub front : List ℕ
  pub long : length front ≡ at
  pub there : o ≡ front ++ drop at o₀
  pub whole : front ++ body (rest_of q i from taken) ≡ body (asked q)
  pub within : i ≤ length q.pgns
  pub place : at + needed_by (drop i q.pgns) (drop i q.lengths) (drop i q.trailers) ≡ needed q
  pub data_taken : from + sum (drop i q.lengths) ≡ sum q.lengths
  pub trailers_taken : taken + sum (drop i q.trailers) ≡ sum q.trailers

module _ (q : Request) (o₀ o : List ℕ) (i at from taken : ℕ) (even : EvenOf q) (room : needed q ≤ length o₀) (w : Written q o₀ o i at from taken) where
  module _ (low : i < length q.pgns) where
    low_lengths : i < length q.lengths
    low_lengths = omega (arith, even.lengths)

    low_trailers : i < length q.trailers
    low_trailers = omega (arith, even.trailers)

    sum_turn : sum (drop i q.lengths) ≡ get_or q.lengths i 0 + sum (drop (i + 1) q.lengths)
    sum_turn = turn sum q.lengths i 0 low_lengths

    trailers_turn : sum (drop i q.trailers) ≡ get_or q.trailers i 0 + sum (drop (i + 1) q.trailers)
    trailers_turn = turn sum q.trailers i 0 low_trailers

    count_turn : length (drop i q.pgns) ≡ 1 + length (drop (i + 1) q.pgns)
    count_turn = simp length-drop (omega arith)

    data_room : from + get_or q.lengths i 0 ≤ length q.joined
    data_room = omega (arith, sum_turn, w.data_taken, even.joined)

    trailer_room : taken + get_or q.trailers i 0 ≤ length q.assured
    trailer_room = omega (arith, trailers_turn, w.trailers_taken, even.assured)

    abbrev group : Content
    group =
        record {
          pgn = get_or q.pgns i 0;
          service = get_or q.services i 0;
          format = get_or q.formats i 0;
          bytes = take (get_or q.lengths i 0) (drop from q.joined);
          trailer = take (get_or q.trailers i 0) (drop taken q.assured);
        }

    abbrev A : List ℕ
    A = take (get_or q.lengths i 0) (drop from q.joined)

    abbrev B : List ℕ
    B = take (get_or q.trailers i 0) (drop taken q.assured)

    abbrev H : List ℕ
    H = header_of (get_or q.services i 0) (get_or q.formats i 0) (get_or q.pgns i 0) (get_or q.lengths i 0 + get_or q.trailers i 0)

    rest_turn : rest_of q i from taken ≡ group ∷ rest_of q (i + 1) (from + get_or q.lengths i 0) (taken + get_or q.trailers i 0)
    unfolding asked_by
    rest_turn =
        let S = drop (i + 1) q.services in
        let F = drop (i + 1) q.formats in
        let P = drop (i + 1) q.pgns in
        let N = drop (i + 1) q.lengths in
        let M = drop (i + 1) q.trailers in
        let D = drop from q.joined in
        let T = drop taken q.assured in
        turn (λ (l : List ℕ). asked_by l (drop i q.formats) (drop i q.pgns) (drop i q.lengths) (drop i q.trailers) D T) q.services i 0 (omega (arith, even.services))
        ∙ turn (λ (l : List ℕ). asked_by (get_or q.services i 0 ∷ S) l (drop i q.pgns) (drop i q.lengths) (drop i q.trailers) D T) q.formats i 0 (omega (arith, even.formats))
        ∙ turn (λ (l : List ℕ). asked_by (get_or q.services i 0 ∷ S) (get_or q.formats i 0 ∷ F) l (drop i q.lengths) (drop i q.trailers) D T) q.pgns i 0 low
        ∙ turn (λ (l : List ℕ). asked_by (get_or q.services i 0 ∷ S) (get_or q.formats i 0 ∷ F) (get_or q.pgns i 0 ∷ P) l (drop i q.trailers) D T) q.lengths i 0 low_lengths
        ∙ turn (λ (l : List ℕ). asked_by (get_or q.services i 0 ∷ S) (get_or q.formats i 0 ∷ F) (get_or q.pgns i 0 ∷ P) (get_or q.lengths i 0 ∷ N) l D T) q.trailers i 0 low_trailers
        ∙ ap (λ (l : List ℕ). group ∷ asked_by S F P N M l (drop (get_or q.trailers i 0) T)) (drop-drop (get_or q.lengths i 0) from q.joined)
        ∙ ap (λ (l : List ℕ). group ∷ asked_by S F P N M (drop (from + get_or q.lengths i 0) q.joined) l) (drop-drop (get_or q.trailers i 0) taken q.assured)

    data_long : length A ≡ get_or q.lengths i 0
    data_long = length-take-le (get_or q.lengths i 0) (drop from q.joined) (simp length-drop (omega (arith, data_room)))

    trailer_long : length B ≡ get_or q.trailers i 0
    trailer_long = length-take-le (get_or q.trailers i 0) (drop taken q.assured) (simp length-drop (omega (arith, trailer_room)))

    group_turn : group_bytes group ≡ H ++ (A ++ B)
    group_turn =
        ap (λ (k : ℕ). header_of (get_or q.services i 0) (get_or q.formats i 0) (get_or q.pgns i 0) (k + length B) ++ (A ++ B)) data_long
        ∙ ap (λ (k : ℕ). header_of (get_or q.services i 0) (get_or q.formats i 0) (get_or q.pgns i 0) (get_or q.lengths i 0 + k) ++ (A ++ B)) trailer_long

    abbrev behind : List ℕ
    behind = body (rest_of q (i + 1) (from + get_or q.lengths i 0) (taken + get_or q.trailers i 0))

    body_turn : body (rest_of q i from taken) ≡ (H ++ (A ++ B)) ++ behind
    unfolding body
    body_turn = ap body rest_turn ∙ ap (λ (l : List ℕ). l ++ behind) group_turn

    -- with what the three copies of a turn leave
    written_turn : (o₁ o₂ o₃ : List ℕ) → o₁ ≡ paste o at H 4 → o₂ ≡ paste o₁ (at + 4) (drop from q.joined) (get_or q.lengths i 0)
        → o₃ ≡ paste o₂ (at + 4 + get_or q.lengths i 0) (drop taken q.assured) (get_or q.trailers i 0)
        → Written q o₀ o₃ (i + 1) (at + 4 + get_or q.lengths i 0 + get_or q.trailers i 0) (from + get_or q.lengths i 0) (taken + get_or q.trailers i 0)
    written_turn o₁ o₂ o₃ e₁ e₂ e₃ =
        let P : List ℕ = w.front in
        let l₁ : length (P ++ H) ≡ at + 4 = length-append P H ∙ ap (λ (k : ℕ). k + 4) w.long in
        let l₂ : length (P ++ H ++ A) ≡ at + 4 + get_or q.lengths i 0 = length-append (P ++ H) A ∙ omega (arith, l₁, data_long) in
        let l₃ : length (P ++ H ++ A ++ B) ≡ at + 4 + get_or q.lengths i 0 + get_or q.trailers i 0 = length-append (P ++ H ++ A) B ∙ omega (arith, l₂, trailer_long) in
        let d₁ : o₁ ≡ P ++ H ++ drop (at + 4) o₀ = e₁ ∙ paste_next o₀ o P H at 4 w.long w.there in
        let d₂ : o₂ ≡ P ++ H ++ A ++ drop (at + 4 + get_or q.lengths i 0) o₀ =
        e₂ ∙ paste_next o₀ o₁ (P ++ H) (drop from q.joined) (at + 4) (get_or q.lengths i 0) l₁ d₁ in
        record {
          front = P ++ H ++ A ++ B;
          long = l₃;
          there = e₃ ∙ paste_next o₀ o₂ (P ++ H ++ A) (drop taken q.assured) (at + 4 + get_or q.lengths i 0) (get_or q.trailers i 0) l₂ d₂;
          whole =
              ap (λ (l : List ℕ). l ++ behind) (append_assoc (P ++ H) A B ∙ append_assoc P H (A ++ B))
              ∙ append_assoc P (H ++ (A ++ B)) behind
              ∙ ap (λ (l : List ℕ). P ++ l) (sym body_turn)
              ∙ w.whole;
          within = omega arith;
          place = omega (arith, sum_turn, trailers_turn, count_turn, w.place);
          data_taken = omega (arith, sum_turn, w.data_taken);
          trailers_taken = omega (arith, trailers_turn, w.trailers_taken);
        }

    -- with what the calls of a turn say of their results
    pub groups_turn : (o₁ o₂ o₃ head : List ℕ) (n m to : ℕ) → to ≡ at + 4 + n + m → n ≡ get_or q.lengths i 0 → m ≡ get_or q.trailers i 0 → head ≡ H
        → o₁ ≡ paste o at head 4 → o₂ ≡ paste o₁ (at + 4) (drop from q.joined) n → o₃ ≡ paste o₂ (at + 4 + n) (drop taken q.assured) m
        → Written q o₀ o₃ (i + 1) to (from + n) (taken + m)
    groups_turn o₁ o₂ o₃ head n m to et en em eh e₁ e₂ e₃ =
        subst (λ (k : ℕ). Written q o₀ o₃ (i + 1) k (from + n) (taken + m)) (sym et)
        (subst (λ (k : ℕ). Written q o₀ o₃ (i + 1) (at + 4 + k + m) (from + k) (taken + m)) (sym en)
        (subst (λ (k : ℕ). Written q o₀ o₃ (i + 1) (at + 4 + get_or q.lengths i 0 + k) (from + get_or q.lengths i 0) (taken + k)) (sym em)
        (written_turn o₁ o₂ o₃ (e₁ ∙ ap (λ (l : List ℕ). paste o at l 4) eh) (e₂ ∙ ap (paste o₁ (at + 4) (drop from q.joined)) en)
        (e₃
        ∙ ap (λ (k : ℕ). paste o₂ (at + 4 + k) (drop taken q.assured) m) en
        ∙ ap (paste o₂ (at + 4 + get_or q.lengths i 0) (drop taken q.assured)) em))))

  -- after the last group
  pub written_all : length q.pgns ≤ i → o ≡ body (asked q) ++ drop (needed q) o₀
  unfolding asked_by body
  written_all h =
      let z₁ : length (drop i q.pgns) ≡ 0 = simp length-drop (omega arith) in
      let z₂ : sum (drop i q.lengths) ≡ 0 = end sum q.lengths i (omega (arith, even.lengths)) in
      let z₃ : sum (drop i q.trailers) ≡ 0 = end sum q.trailers i (omega (arith, even.trailers)) in
      let e : at ≡ needed q = omega (arith, w.place) in
      let none : body (rest_of q i from taken) ≡ [] =
      end (λ (l : List ℕ). body (asked_by l (drop i q.formats) (drop i q.pgns) (drop i q.lengths) (drop i q.trailers) (drop from q.joined) (drop taken q.assured))) q.services i (omega (arith, even.services)) in
      w.there
      ∙ ap (λ (l : List ℕ). l ++ drop at o₀) (sym (append-nil w.front) ∙ ap (λ (l : List ℕ). w.front ++ l) (sym none) ∙ w.whole)
      ∙ ap (λ (k : ℕ). body (asked q) ++ drop k o₀) e

pub written_none : (q : Request) (o : List ℕ) → Written q o o 0 0 0 0
written_none q o =
    record { front = []; long = refl; there = refl; whole = refl; within = omega arith; place = omega arith; data_taken = omega arith; trailers_taken = omega arith }
