-- Demand 3 of document 01, whole: no session can disturb another. A key is written as its number, 4,096 SA + 16 DA + session.
use Rattle.std.specs.Prelude.{Ok}
use Prim.Native.Nat.{ℕ, ◌+◌, ◌*◌, ◌<◌}
use mathlib.Core.Path.{◌≡◌, refl, sym, ◌∙◌}
use mathlib.Core.Bool.{true}
use mathlib.Core.List.{List, [], ◌∷◌}
use lib.ListN.{length, replicate, length-replicate}
use Rattle.progress.specs.declared.wait.IdleLimits.{IdleLimits}
use Rattle.frame.specs.declared.Address.{Address}
use Rattle.receiver.specs.declared.Receiver.{Receiver}
use Rattle.receiver.specs.Bounds.{in_bounds, opened, opened_with}
use Rattle.isolation.specs.OwnFrames.{key_at}
use Rattle.isolation.specs.Rules.{Values, fresh, outputs}
use Rattle.isolation.specs.World.{Call, world_after, told}
use Rattle.isolation.specs.Observe.{record_after, store_after, observed, record_over, store_over}
use Rattle.isolation.specs.Stands.{values_of, stands_for}
use Rattle.isolation.proofs.InBounds.{sim_bounds, bounds_sim}
use Rattle.transport.specs.declared.Key.{Key}
use Rattle.receiver.specs.Calls.{frame_step, reading_step}
use Rattle.answer.specs.Answers.{answer_number}
use Rattle.isolation.proofs.Refused.{never_23, reading_never_23}
use Rattle.isolation.proofs.Slots.{key_of_lem}
use Rattle.isolation.proofs.Run.{keeps, run, open_sim, accepted_ok}

-- Every key that a frame can have has a number.
pub key_numbers : (κ : Key) → κ.da.0 < 256 → κ.session.0 < 16 → key_at (κ.sa.0 * 4096 + κ.da.0 * 16 + κ.session.0) ≡ κ
key_numbers κ d s = key_of_lem κ (record { da = d; session = s })

-- DEMAND 3. For every opening that is accepted, every store of 32,768 bytes whatever it held, every list of calls and every key, what
-- the receiver shows for the key is what the rules of that key by itself put out.
pub demand_3 : (own : Address) (limits : IdleLimits) (first : ℕ) → (opened own limits first).answer ≡ Ok tt → (m : List ℕ) → length m ≡ 32768 → (k : ℕ) (cs : List Call)
    → let v : Values = record { own = own; limits = limits } in
    observed v k (opened own limits first).receiver m cs ≡ outputs v k (fresh first) (told v (λ j. fresh first) k cs)
unfolding opened
demand_3 own limits first g m h k cs = run _ k cs (opened_with own limits first) m (λ j. fresh first) (open_sim own limits first m (accepted_ok own limits first g) h)

-- Two lists of calls, on receivers opened alike over stores of any content, that are alike in what one key's rules see and are told,
-- give that key the same answers and the same bytes.
pub alike : (own : Address) (limits : IdleLimits) (first : ℕ) → (opened own limits first).answer ≡ Ok tt → (m m' : List ℕ) → length m ≡ 32768 → length m' ≡ 32768 → (k : ℕ) (cs cs' : List Call)
    → let v : Values = record { own = own; limits = limits } in
    told v (λ j. fresh first) k cs ≡ told v (λ j. fresh first) k cs'
    → observed v k (opened own limits first).receiver m cs ≡ observed v k (opened own limits first).receiver m' cs'
alike own limits first g m m' h h' k cs cs' e =
    demand_3 own limits first g m h k cs ∙ rw e (sym (demand_3 own limits first g m' h' k cs'))

-- The same from any record in bounds, with the rules' states that its slots and their bytes stand for.
pub from_any_record : (r : Receiver) (m : List ℕ) → in_bounds r ≡ true → length r.slots ≡ 8 → length m ≡ 32768 → (k : ℕ) (cs : List Call)
    → observed (values_of r) k r m cs ≡ outputs (values_of r) k (stands_for r m k) (told (values_of r) (stands_for r m) k cs)
from_any_record r m e eight whole k cs = run (values_of r) k cs r m (stands_for r m) (bounds_sim r m e eight whole)

-- ---- bounds

eight_slots : (own : Address) (limits : IdleLimits) (first : ℕ) → length (opened own limits first).receiver.slots ≡ 8
unfolding opened
eight_slots own limits first = refl

-- An accepted opening gives a record in bounds.
pub opens_in_bounds : (own : Address) (limits : IdleLimits) (first : ℕ) → (opened own limits first).answer ≡ Ok tt → in_bounds (opened own limits first).receiver ≡ true
unfolding opened
opens_in_bounds own limits first g =
    sim_bounds _ (opened_with own limits first) (replicate 32768 0) (λ j. fresh first) (open_sim own limits first (replicate 32768 0) (accepted_ok own limits first g) (length-replicate {A = ℕ} 32768 0))

-- Every call on a record in bounds gives a record in bounds with the same opening values, and eight slots again; the store keeps its length.
pub record Sound (r r' : Receiver) (m' : List ℕ) : Type 0 where
  pub bounds : in_bounds r' ≡ true
  pub own : r'.own ≡ r.own
  pub limits : r'.limits ≡ r.limits
  pub eight : length r'.slots ≡ 8
  pub whole : length m' ≡ 32768

pub stays_in_bounds : (r : Receiver) (m : List ℕ) → in_bounds r ≡ true → length r.slots ≡ 8 → length m ≡ 32768 → (c : Call) → Sound r (record_after r m c) (store_after r m c)
stays_in_bounds r m e eight whole c =
    let s = (keeps (values_of r) r m (stands_for r m) (bounds_sim r m e eight whole) c).next in
    record {
      bounds = sim_bounds (values_of r) (record_after r m c) (store_after r m c) (world_after (values_of r) (stands_for r m) c) s;
      own = s.own;
      limits = s.limits;
      eight = s.eight;
      whole = s.whole;
    }

-- So every record that the receiver itself has made is in bounds, and the store keeps its length.
pub over_in_bounds : (r : Receiver) (m : List ℕ) → in_bounds r ≡ true → length r.slots ≡ 8 → length m ≡ 32768 → (cs : List Call) → Sound r (record_over r m cs) (store_over r m cs)
unfolding record_over store_over
over_in_bounds r m e eight whole [] = record { bounds = e; own = refl; limits = refl; eight = eight; whole = whole }
over_in_bounds r m e eight whole (c ∷ cs) = next (stays_in_bounds r m e eight whole c) (λ s. over_in_bounds (record_after r m c) (store_after r m c) s.bounds s.eight s.whole cs)
  where
    next : Sound r (record_after r m c) (store_after r m c)
        → (Sound r (record_after r m c) (store_after r m c) → Sound (record_after r m c) (record_over (record_after r m c) (store_after r m c) cs) (store_over (record_after r m c) (store_after r m c) cs))
        → Sound r (record_over (record_after r m c) (store_after r m c) cs) (store_over (record_after r m c) (store_after r m c) cs)
    next s f = record {
      bounds = (f s).bounds;
      own = (f s).own ∙ s.own;
      limits = (f s).limits ∙ s.limits;
      eight = (f s).eight;
      whole = (f s).whole;
    }

-- The receiver never refuses a record of its own with 23: after an accepted opening and any list of calls, a frame or a reading that is
-- lent the store is answered otherwise.
pub never_refuses_its_own : (own : Address) (limits : IdleLimits) (first : ℕ) → (opened own limits first).answer ≡ Ok tt → (m : List ℕ) → length m ≡ 32768 → (cs : List Call)
    → let r : Receiver = record_over (opened own limits first).receiver m cs in
    let s : List ℕ = store_over (opened own limits first).receiver m cs in
    ((id : ℕ) (d : List ℕ) → answer_number (frame_step r id d s).answer ≡ 23 → ⊥) × ((t : ℕ) → (reading_step r t s).answer ≡ (Ok tt))
never_refuses_its_own own limits first g m h cs =
    let a = over_in_bounds (opened own limits first).receiver m (opens_in_bounds own limits first g) (eight_slots own limits first) h cs in
    let r : Receiver = record_over (opened own limits first).receiver m cs in
    let s : List ℕ = store_over (opened own limits first).receiver m cs in
    ((λ id d. never_23 r id d s a.bounds a.whole), (λ t. reading_never_23 r t s a.bounds a.whole))
