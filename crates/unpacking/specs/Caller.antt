-- What a caller reads out of the answer and the list: the groups of the frame, by index.
use Rattle.std.specs.Prelude.{ℕ, zero, suc, ◌+◌, ◌*◌, ◌-◌, ◌≤◌, ◌<◌, Bool, eqb, get_or, Result, Ok, Err}
use Rattle.std.proofs.Common.{arith, ◌∙◌, length-append, length-drop, get_or-append-add, get_or-drop, eqb-true, eq-eqb}
use Rattle.std.proofs.Math.Path.{◌≡◌, refl, sym, ap, subst}
use Rattle.std.proofs.Math.Bool.{true, false, cond, not}
use mathlib.Core.List.{List, [], ◌∷◌, ◌++◌}
use Rattle.std.proofs.Math.ListN.{length, drop, get_or-append}
use Rattle.std.proofs.lemmas.Bool.{not-false}
use Rattle.laws.specs.Choice.{else}
use Rattle.frame.specs.Lengths.{is_length}
use Rattle.frame.proofs.LengthLaws.{length_to}
use Rattle.frame.specs.declared.refusal.Refusal.{Refusal}
use Rattle.frame.specs.declared.refusal.Refusal.TheVariants.{FrameLength, OutOfBounds}
use Rattle.multi_pg.specs.declared.Group.{Group}
use Rattle.multi_pg.specs.Groups.{GroupsRead, good, bad, groups_read, groups_in, groups_of}
use Rattle.unpacking.specs.Unpacking.{row, rows, unpacked_by, unpacked}
use Rattle.unpacking.specs.Count.{few}

-- ---- a group's numbers among those of all

pub rows_length : (gs : List Group) → length (rows gs) ≡ 6 * length gs
rows_length [] = refl
rows_length (g ∷ gs) = omega (arith, rows_length gs)

-- the number at the place k of group i; o is what a look past the list's end would find
rows_at : (o : Group) (gs : List Group) (i k : ℕ) → i < length gs → k < 6 → get_or (rows gs) (6 * i + k) 0 ≡ get_or (row (get_or gs i o)) k 0
rows_at o [] i k h b = absurd (omega arith)
rows_at o (g ∷ gs) zero k h b =
    let e : 6 * 0 + k ≡ k = omega arith in ap (λ (m : ℕ). get_or (rows (g ∷ gs)) m 0) e ∙ get_or-append (row g) (rows gs) 0 k b
rows_at o (g ∷ gs) (suc i) k h b =
    let e : 6 * suc i + k ≡ 6 + (6 * i + k) = omega arith in
    ap (λ (m : ℕ). get_or (rows (g ∷ gs)) m 0) e ∙ get_or-append-add (row g) (rows gs) (6 * i + k) 0 ∙ rows_at o gs i k (omega arith) b

-- ---- what an answer tells

-- the answer n with the list l: the frame is good, n counts its groups, their numbers are in l by index, the rest of l is that of out
pub record Given (d out l : List ℕ) (n : ℕ) : Type 0 where
  pub judged : groups_read d ≡ good (groups_of d)
  pub count : n ≡ length (groups_of d)
  pub most : n ≤ 16
  pub numbers : (i k : ℕ) (o : Group) → i < n → k < 6 → get_or l (6 * i + k) 0 ≡ get_or (row (get_or (groups_of d) i o)) k 0
  pub rest : (j : ℕ) → 6 * n ≤ j → get_or l j 0 ≡ get_or out j 0
  pub long : length l ≡ length out

module _ (d out : List ℕ) where
  given_by : (gs : List Group) → groups_read d ≡ good gs → length d ≤ 64 → length out ≡ 96 → Given d out (rows gs ++ drop (6 * length gs) out) (length gs)
  given_by gs e h k =
      let same : gs ≡ groups_of d = ap groups_in (sym e) in
      let room : 4 * length gs ≤ length d = few d gs e in
      let size : length (rows gs) ≡ 6 * length gs = rows_length gs in
      let D : List ℕ = drop (6 * length gs) out in
      record {
        judged = e ∙ ap good same;
        count = ap length same;
        most = omega arith;
        numbers = λ i k o b q.
            get_or-append (rows gs) D 0 (6 * i + k) (omega arith) ∙ rows_at o gs i k b q ∙ ap (λ (x : List Group). get_or (row (get_or x i o)) k 0) same;
        rest = λ j b.
            let z : j ≡ length (rows gs) + (j - 6 * length gs) = omega arith in
            let y : 6 * length gs + (j - 6 * length gs) ≡ j = omega arith in
            ap (λ (m : ℕ). get_or (rows gs ++ D) m 0) z
            ∙ get_or-append-add (rows gs) D (j - 6 * length gs) 0
            ∙ get_or-drop (6 * length gs) out (j - 6 * length gs) 0
            ∙ ap (λ (m : ℕ). get_or out m 0) y;
        long = length-append (rows gs) D ∙ simp length-drop (omega arith);
      }

  never : (r : Refusal) (n : ℕ) (l : List ℕ) → ◌≡◌ {A = Result ℕ Refusal × List ℕ} (Err r, out) (Ok n, l) → ⊥
  never r n l e = let q : ◌≡◌ {A = Result ℕ Refusal} (Err r) (Ok n) = ap (λ (p : Result ℕ Refusal × List ℕ). p.0) e in let z : ◌≡◌ {A = ℕ} 0 1 = cc in omega arith

  -- Whatever is lent: the answer is a count only where the groups of a good frame are in the list.
  pub given : (n : ℕ) (l : List ℕ) → unpacked d out ≡ (Ok n, l) → Given d out l n
  unfolding unpacked
  given n l e = go (not (eqb (length out) 96)) refl (not (is_length (length d))) refl (groups_read d) refl e where
    go : (a : Bool) → not (eqb (length out) 96) ≡ a → (b : Bool) → not (is_length (length d)) ≡ b → (r : GroupsRead) → groups_read d ≡ r
        → cond a (Err OutOfBounds, out) (cond b (Err FrameLength, out) (unpacked_by r out)) ≡ (Ok n, l) → Given d out l n
    go true p b q r z e = absurd (never OutOfBounds n l e)
    go false p true q r z e = absurd (never FrameLength n l e)
    go false p false q (bad r) z e = absurd (never r n l e)
    go false p false q (good gs) z e =
        let m : ◌≡◌ {A = Result ℕ Refusal} (Ok (length gs)) (Ok n) = ap (λ (p : Result ℕ Refusal × List ℕ). p.0) e in
        let c : length gs ≡ n = cc in
        let t : rows gs ++ drop (6 * length gs) out ≡ l = ap (λ (p : Result ℕ Refusal × List ℕ). p.1) e in
        subst (λ (x : List ℕ). Given d out x n) t
        (subst (λ (x : ℕ). Given d out (rows gs ++ drop (6 * length gs) out) x) c
        (given_by gs z (length_to (length d) (not-false _ q)) (eqb-true (length out) 96 (not-false _ p))))

  -- a refusal leaves the list as it was
  pub refused : (r : Refusal) (l : List ℕ) → unpacked d out ≡ (Err r, l) → l ≡ out
  unfolding unpacked
  refused r l e = go (not (eqb (length out) 96)) (not (is_length (length d))) (groups_read d) e where
    go : (a b : Bool) (x : GroupsRead) → cond a (Err OutOfBounds, out) (cond b (Err FrameLength, out) (unpacked_by x out)) ≡ (Err r, l) → l ≡ out
    go true b x e = sym (ap (λ (p : Result ℕ Refusal × List ℕ). p.1) e)
    go false true x e = sym (ap (λ (p : Result ℕ Refusal × List ℕ). p.1) e)
    go false false (bad y) e = sym (ap (λ (p : Result ℕ Refusal × List ℕ). p.1) e)
    go false false (good gs) e =
        let q : ◌≡◌ {A = Result ℕ Refusal} (Ok (length gs)) (Err r) = ap (λ (p : Result ℕ Refusal × List ℕ). p.0) e in absurd (let z : ◌≡◌ {A = ℕ} 0 1 = cc in omega arith)

  -- and a good frame of a CAN FD length is not refused
  pub answered : length out ≡ 96 → is_length (length d) ≡ true → (gs : List Group) → groups_read d ≡ good gs → Ok (length gs) ≡ (unpacked d out).0
  unfolding unpacked
  answered h k gs e =
      ap (λ (p : Result ℕ Refusal × List ℕ). p.0)
      (else (not (eqb (length out) 96)) _ _ _ (ap not (eq-eqb (length out) 96 h))
      (else (not (is_length (length d))) _ _ _ (ap not k) (ap (λ (r : GroupsRead). unpacked_by r out) (sym e))))
