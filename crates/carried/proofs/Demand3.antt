-- Demand 3 of document 01 over the boundary: no session can disturb another, for a program in C that lends the bytes.
use Rattle.std.specs.Prelude.{Err, Ok, Result, ⊤}
use Rattle.frame.specs.declared.refusal.Refusal.{Refusal}
use Prim.Native.Nat.{ℕ, ◌<◌}
use native.Mathlib.Omega.{arith}
use mathlib.Core.Path.{◌≡◌, refl, sym, ◌∙◌, subst}
use mathlib.Core.Bool.{Bool, true, false, cond, not}
use mathlib.Core.List.{List}
use lib.Dec.{eqb}
use lib.ListN.{length}
use Rattle.progress.specs.declared.wait.IdleLimits.{IdleLimits}
use Rattle.frame.specs.declared.Address.{Address}
use Rattle.frame.specs.declared.refusal.Refusal.TheVariants.{OutOfBounds}
use Rattle.slots.specs.Bounds.{values_ok}
use Rattle.receiver.specs.declared.Receiver.{Receiver}
use Rattle.answer.specs.Answers.{acceptance_number}
use Rattle.receiver.specs.Bounds.{opened, opened_with}
use Rattle.record_bytes.specs.Places.{record_length}
use Rattle.record_bytes.specs.Layout.{record_bytes}
use Rattle.record_bytes.proofs.RoundTrip.{is_record_lem, read_back}
use Rattle.dwaebinam.specs.Calls.{opened_in}
use Rattle.isolation.specs.Rules.{Values, fresh, outputs}
use Rattle.isolation.specs.World.{told}
use Rattle.isolation.proofs.Demand3.{opens_in_bounds, demand_3}
use Rattle.carried.specs.Crossed.{Lending, AllProper, calls_of}
use Rattle.carried.specs.Shown.{shown_over}
use Rattle.carried.proofs.Step.{HasRecord}
use Rattle.carried.proofs.Run.{Fine, fine_fits, Carried, carried}

-- ---- an opening that is answered 0

-- it was accepted, and the bytes are those of the record opened
opens : (own : ℕ) (limits : IdleLimits) (first : ℕ) (d : List ℕ) → (opened_in own limits first d).0 ≡ 0
    → ((opened (record { 0 = own }) limits first).answer ≡ (Ok tt)) × ((opened_in own limits first d).1 ≡ record_bytes (opened_with (record { 0 = own }) limits first))
unfolding opened_in opened
opens own limits first d e = go (not (eqb (length d) record_length)) (values_ok O limits) e
  where
    O : Address
    O = record { 0 = own }

    w : List ℕ
    w = record_bytes (opened_with O limits first)

    go : (t u : Bool) → (cond {A = ℕ × List ℕ} t (23, d) (acceptance_number (cond u (Ok tt) (Err OutOfBounds)), w)).0 ≡ 0
        → (◌≡◌ {A = Result ⊤ Refusal} (cond u (Ok tt) (Err OutOfBounds)) (Ok tt)) × ((cond {A = ℕ × List ℕ} t (23, d) (acceptance_number (cond u (Ok tt) (Err OutOfBounds)), w)).1 ≡ w)
    go true u e = absurd (omega arith)
    go false true e = (refl, refl)
    go false false e = absurd (omega arith)

-- ---- the theorem

module _ (own : ℕ) (limits : IdleLimits) (first : ℕ) (d : List ℕ) (zero-answered : (opened_in own limits first d).0 ≡ 0) (t : first < 4294967296) (m : List ℕ) (whole : length m ≡ 32768) where
  abbrev O : Receiver
  O = opened_with (record { 0 = own }) limits first

  pub opened_fine : Fine O m
  unfolding opened
  opened_fine = record {
    bounds = opens_in_bounds (record { 0 = own }) limits first (opens own limits first d zero-answered).0;
    eight = refl;
    narrow = record { last = t; slots = (tt, (tt, (tt, (tt, (tt, (tt, (tt, (tt, tt)))))))) };
    whole = whole;
  }

  pub opened_holds : HasRecord (opened_in own limits first d).1 O
  opened_holds =
      subst (λ (b : List ℕ). HasRecord b O) (sym (opens own limits first d zero-answered).1)
      (record { codes = is_record_lem O (fine_fits O m opened_fine); reads = read_back O (fine_fits O m opened_fine) })

  -- After an opening that is answered 0, over any store of 32,768 bytes and any list of calls, each with room for its answer, its frame
  -- of bytes or its reading of 32 bits: every call gives the number and the bytes of the receiver's own answer at that call, the store
  -- is the receiver's, the bytes hold the receiver's record, and what is read off them for a key is what the receiver shows for it.
  pub boundary_carries : (ls : List Lending) → AllProper ls → Carried O (opened_in own limits first d).1 m ls
  boundary_carries ls p = carried O (opened_in own limits first d).1 m opened_holds opened_fine ls p

  -- DEMAND 3 OVER THE BOUNDARY. What a program in C reads off its bytes for a key is what the rules of that key by itself put out,
  -- whatever the other keys do.
  pub demand_3_carried : (ls : List Lending) → AllProper ls → (k : ℕ)
      → let v : Values = record { own = record { 0 = own }; limits = limits } in
      shown_over v k (opened_in own limits first d).1 m ls ≡ outputs v k (fresh first) (told v (λ j. fresh first) k (calls_of ls))
  unfolding opened
  demand_3_carried ls p k =
      (boundary_carries ls p).shows_it (record { own = record { 0 = own }; limits = limits }) k
      ∙ demand_3 (record { 0 = own }) limits first (opens own limits first d zero-answered).0 m whole k (calls_of ls)
