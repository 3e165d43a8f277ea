-- A turn of the loop that writes groups where it meets them.
use Prim.Native.Nat.{ℕ, suc, ◌+◌, ◌*◌, ◌≤◌}
use native.Mathlib.Omega.{arith}
use mathlib.Core.Path.{◌≡◌, refl, sym, ap, ◌∙◌}
use mathlib.Core.Bool.{true}
use Rattle.std.specs.Prelude.{Some, None, Result, Ok, Err}
use mathlib.Core.List.{List, ◌∷◌, ◌++◌}
use lib.ListN.{length, take, drop}
use lib.Seq.{sets, sets-eq, length-sets}
use Rattle.frame.specs.declared.refusal.Refusal.{Refusal}
use Rattle.multi_pg.specs.declared.Group.{Group}
use Rattle.multi_pg.specs.Groups.{end_of, step_at, GroupsRead, good, bad, after, groups_read}
use Rattle.multi_pg.specs.Places.{step_room, read_on, read_all, read_group, read_end, read_fault}
use Rattle.unpacking.specs.Unpacking.{row, rows, unpacked_by}
use Rattle.unpacking.specs.Places.{first_is_last, one_group}
use Rattle.unpacking.specs.Rows.{sets_append, keep_turn}
use Rattle.unpacking.specs.Count.{few}
use Rattle.unpacking.specs.Caller.{rows_length}

-- what is left to do, with n groups written into o; o₀ is the list as it was
abbrev pub onward : GroupsRead → ℕ → List ℕ → List ℕ → Result ℕ Refusal × List ℕ
onward (good gs) n o o₀ = (Ok (n + length gs), sets o (6 * n) (rows gs))
onward (bad r) n o o₀ = (Err r, o₀)

onward_turn : (g : Group) (r : GroupsRead) (n : ℕ) (o o₀ : List ℕ) → onward (after g r) n o o₀ ≡ onward r (n + 1) (sets o (6 * n) (row g)) o₀
onward_turn g (good gs) n o o₀ =
    let e : n + suc (length gs) ≡ n + 1 + length gs = omega arith in
    let i : 6 * n + 6 ≡ 6 * (n + 1) = omega arith in
    ap (λ (m : ℕ). (Ok m, sets o (6 * n) (rows (g ∷ gs)))) e
    ∙ ap (λ (l : List ℕ). (Ok (n + 1 + length gs), l)) (sets_append (row g) (rows gs) o (6 * n) ∙ ap (λ (k : ℕ). sets (sets o (6 * n) (row g)) k (rows gs)) i)
onward_turn g (bad r) n o o₀ = refl

-- with nothing written yet it is the whole
onward_all : (o : List ℕ) (r : GroupsRead) → ((gs : List Group) → r ≡ good gs → 6 * length gs ≤ length o) → onward r 0 o o ≡ unpacked_by r o
onward_all o (good gs) room =
    let h : 6 * length gs ≤ length o = room gs refl in
    let z : 0 + length gs ≡ length gs = omega arith in
    let e : 0 + length (rows gs) ≡ 6 * length gs = omega (arith, rows_length gs) in
    ap (λ (m : ℕ). (Ok m, sets o 0 (rows gs))) z
    ∙ ap (λ (l : List ℕ). (Ok (length gs), l)) (sets-eq (rows gs) o 0 (omega (arith, rows_length gs)) ∙ ap (λ (k : ℕ). rows gs ++ drop k o) e)
onward_all o (bad r) room = refl

-- n groups up to the place at are written into o, and k has what was there
pub record Filled (d o₀ o k : List ℕ) (n at : ℕ) : Type 0 where
  pub inside : at ≤ length d
  pub paid : 4 * n ≤ at
  pub long : length o ≡ 96
  pub keeps : length k ≡ 96
  pub undo : take (6 * n) k ++ drop (6 * n) o ≡ o₀
  pub rest : onward (read_on d at) n o o₀ ≡ unpacked_by (groups_read d) o₀

pub filled_none : (d o k : List ℕ) → length d ≤ 64 → length o ≡ 96 → length k ≡ 96 → Filled d o o k 0 0
filled_none d o k h l m =
    record {
      inside = omega arith;
      paid = omega arith;
      long = l;
      keeps = m;
      undo = refl;
      rest = ap (λ (r : GroupsRead). onward r 0 o o) (sym (read_all d)) ∙ onward_all o (groups_read d) (λ gs e. omega (arith, few d gs e));
    }

module _ (d o₀ o k : List ℕ) (n at : ℕ) (small : length d ≤ 64) (f : Filled d o₀ o k n at) where
  module _ (g : Group) (s : step_at d at ≡ Ok (Some g)) where
    -- where there is a group there is room for its numbers
    pub row_room : 6 * n + 6 ≤ 96
    row_room = omega (arith, step_room d at g s, f.paid)

    pub filled_turn : (o' k' : List ℕ) → k' ≡ sets k (6 * n) (take 6 (drop (6 * n) o)) → o' ≡ sets o (6 * n) (row g) → Filled d o₀ o' k' (n + 1) (end_of g)
    filled_turn o' k' ek eo =
        let room : 6 * n + 6 ≤ 96 = row_room in
        let (a, b) = step_room d at g s in
        let q : 4 * n ≤ at = f.paid in
        let i : 6 * (n + 1) ≡ 6 * n + 6 = omega arith in
        record {
          inside = b;
          paid = omega arith;
          long = ap length eo ∙ length-sets o (6 * n) (row g) ∙ f.long;
          keeps = ap length ek ∙ length-sets k (6 * n) (take 6 (drop (6 * n) o)) ∙ f.keeps;
          undo =
              ap (λ (m : ℕ). take m k' ++ drop m o') i
              ∙ ap (λ (l : List ℕ). take (6 * n + 6) l ++ drop (6 * n + 6) o') ek
              ∙ ap (λ (l : List ℕ). take (6 * n + 6) (sets k (6 * n) (take 6 (drop (6 * n) o))) ++ drop (6 * n + 6) l) eo
              ∙ keep_turn k o (row g) (6 * n) 6 refl (omega (arith, f.keeps)) (omega (arith, f.long))
              ∙ f.undo;
          rest =
              ap (λ (l : List ℕ). onward (read_on d (end_of g)) (n + 1) l o₀) eo
              ∙ sym (onward_turn g (read_on d (end_of g)) n o o₀)
              ∙ ap (λ (r : GroupsRead). onward r n o o₀) (sym (read_group d at g s))
              ∙ f.rest;
        }

  pub filled_end : step_at d at ≡ Ok None → (Ok n, o) ≡ unpacked_by (groups_read d) o₀
  filled_end e =
      let z : n ≡ n + 0 = omega arith in
      ap (λ (m : ℕ). (Ok m, o)) z ∙ ap (λ (r : GroupsRead). onward r n o o₀) (sym (read_end d at e)) ∙ f.rest

  pub filled_fault : (r : Refusal) (o' : List ℕ) → step_at d at ≡ Err r → o' ≡ take (6 * n) k ++ drop (6 * n) o → (Err r, o') ≡ unpacked_by (groups_read d) o₀
  filled_fault r o' e b =
      ap (λ (l : List ℕ). (Err r, l)) (b ∙ f.undo) ∙ ap (λ (x : GroupsRead). onward x n o o₀) (sym (read_fault d at r e)) ∙ f.rest

-- ---- a frame whose first group is its last

module _ (d o : List ℕ) where
  pub one_row : (g : Group) (o' : List ℕ) → 6 ≤ length o → first_is_last d ≡ true → step_at d 0 ≡ Ok (Some g) → o' ≡ sets o 0 (row g) → (Ok 1, o') ≡ unpacked_by (groups_read d) o
  one_row g o' h f e eo =
      ap (λ (l : List ℕ). (Ok 1, l)) (eo ∙ sets-eq (row g) o 0 h) ∙ ap (λ (r : GroupsRead). unpacked_by r o) (sym (one_group d g f e))

  pub no_row : step_at d 0 ≡ Ok None → (Ok 0, o) ≡ unpacked_by (groups_read d) o
  no_row e = ap (λ (r : GroupsRead). unpacked_by r o) (sym (read_all d ∙ read_end d 0 e))

  pub bad_row : (r : Refusal) → step_at d 0 ≡ Err r → (Err r, o) ≡ unpacked_by (groups_read d) o
  bad_row r e = ap (λ (x : GroupsRead). unpacked_by x o) (sym (read_all d ∙ read_fault d 0 r e))
