-- A transfer of a record, by its bytes.
use Rattle.std.specs.Prelude.{ℕ, ◌+◌, ◌<◌, ◌≡◌, refl, Bool, true, false, cond, not, ◌&&◌, List, eqb, get_or, drop, None, Option, Some}
use Rattle.std.proofs.Common.{arith, sym, ap, ◌∙◌, get_or-take, get_or-drop, eq-eqb, ne_eqb}
use Rattle.std.proofs.lemmas.Bool.{false≢true}
use Rattle.transport.specs.declared.Key.{Key}
use Rattle.slots.specs.Searches.{first_some}
use Rattle.transfer.specs.declared.Transfer.{Transfer}
use Rattle.sender_bytes.specs.Places.{transfer_length, transfer_place, state_place, da_place, session_place, own_place}
use Rattle.sender_bytes.specs.Layout.{transfer_at, piece_at, own_at, transfers_at}
use Rattle.sender_bytes.specs.Changed.{transfer_at_lem}
use Rattle.sender.specs.Transfers.{is_free, holds, key_place, OpenAt}

byte_of : (b : List ℕ) (i j : ℕ) → j < transfer_length → get_or (piece_at b i) j 0 ≡ get_or b (transfer_place i + j) 0
byte_of b i j h = get_or-take transfer_length (drop (transfer_place i) b) j 0 h ∙ get_or-drop (transfer_place i) b j 0

first_of : (b : List ℕ) (i : ℕ) → get_or (piece_at b i) state_place 0 ≡ get_or b (transfer_place i) 0
first_of b i =
    let e : transfer_place i + 0 ≡ transfer_place i = omega arith in
    byte_of b i state_place (omega arith) ∙ ap (λ (n : ℕ). get_or b n 0) e

free_when : (x : Transfer) (t : Bool) → not t ≡ is_free (cond t (Some x) None)
free_when x true = refl
free_when x false = refl

-- it is free unless its first byte says that it is open
pub freed : (b : List ℕ) (i at : ℕ) → i < 4 → at ≡ transfer_place i → not (eqb (get_or b at 0) 1) ≡ is_free (get_or (transfers_at b) i None)
freed b i at h e =
    ap (λ (n : ℕ). not (eqb (get_or b n 0) 1)) e
    ∙ ap (λ (x : ℕ). not (eqb x 1)) (sym (first_of b i))
    ∙ free_when (transfer_at (own_at b) (piece_at b i)) (eqb (get_or (piece_at b i) state_place 0) 1)
    ∙ ap is_free (sym (transfer_at_lem b i h))

-- one that is not free is what its bytes say
pub opened : (b : List ℕ) (i : ℕ) → i < 4 → is_free (get_or (transfers_at b) i None) ≡ false
    → Some (transfer_at (own_at b) (piece_at b i)) ≡ get_or (transfers_at b) i None
opened b i h e =
    by (eqb (get_or (piece_at b i) state_place 0) 1) (ap is_free (sym (transfer_at_lem b i h)) ∙ e) ∙ sym (transfer_at_lem b i h)
  where
    x : Transfer
    x = transfer_at (own_at b) (piece_at b i)

    by : (t : Bool) → is_free (cond t (Some x) None) ≡ false → Some x ≡ cond t (Some x) None
    by true q = refl
    by false q = absurd (false≢true (sym q))

-- what is found under a key is open
pub held_open : (k : Key) (ts : List (Option Transfer)) (f : Option ℕ) → f ≡ key_place k ts → OpenAt f ts
held_open k ts (Some i) e = go (get_or ts i None) (first_some None (holds k) ts i (sym e)).0
  where
    go : (x : Option Transfer) → holds k x ≡ true → is_free x ≡ false
    go None h = absurd (false≢true h)
    go (Some t) h = refl
held_open k ts None e = tt

-- open, and under the key
module _ (k : Key) (b : List ℕ) (i at : ℕ) (h : i < 4) (e : at ≡ transfer_place i) where
  abbrev piece : List ℕ
  piece = piece_at b i

  state_by : (t : Bool) → eqb (get_or b at 0) 1 ≡ t → holds k (cond t (Some (transfer_at (own_at b) piece)) None) ≡ holds k (get_or (transfers_at b) i None)
  state_by t q =
      ap (λ (x : Bool). holds k (cond x (Some (transfer_at (own_at b) piece)) None))
      (sym q ∙ ap (λ (n : ℕ). eqb (get_or b n 0) 1) e ∙ ap (λ (x : ℕ). eqb x 1) (sym (first_of b i)))
      ∙ ap (holds k) (sym (transfer_at_lem b i h))

  pub not_held : (get_or b at 0 ≡ 1 → ⊥) → false ≡ holds k (get_or (transfers_at b) i None)
  not_held f = state_by false (ne_eqb _ _ f)

  of : (j n : ℕ) → j < transfer_length → n ≡ at + j → get_or b n 0 ≡ get_or piece j 0
  of j n l q = ap (λ (m : ℕ). get_or b m 0) (q ∙ ap (λ (m : ℕ). m + j) e) ∙ sym (byte_of b i j l)

  pub held : get_or b at 0 ≡ 1
      → (eqb (get_or b own_place 0) k.sa.0 && eqb (get_or b (at + da_place) 0) k.da.0 && eqb (get_or b (at + session_place) 0) k.session.0)
      ≡ holds k (get_or (transfers_at b) i None)
  held f =
      ap (λ (x : ℕ). eqb (get_or b own_place 0) k.sa.0 && eqb x k.da.0 && eqb (get_or b (at + session_place) 0) k.session.0) (of da_place (at + da_place) (omega arith) refl)
      ∙ ap (λ (x : ℕ). eqb (get_or b own_place 0) k.sa.0 && eqb (get_or piece da_place 0) k.da.0 && eqb x k.session.0) (of session_place (at + session_place) (omega arith) refl)
      ∙ state_by true (eq-eqb _ _ f)
