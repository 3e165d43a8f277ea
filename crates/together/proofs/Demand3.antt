-- Demand 3 of document 01 at a node with both ends, wherever the sender's calls stand in the list: 02, E2.
use Rattle.std.specs.Prelude.{None, Option, Some}
use Prim.Native.Nat.{ℕ, ◌<◌}
use mathlib.Core.Path.{◌≡◌, refl, sym, ap, ap₂, ◌∙◌, subst}
use mathlib.Core.Bool.{Bool, true, false, ◌&&◌}
use mathlib.Core.List.{List, [], ◌∷◌, ◌++◌}
use lib.ListN.{length}
use borrow.Author.Tests.{eq-eqb}
use Rattle.progress.specs.declared.wait.IdleLimits.{IdleLimits}
use Rattle.receiver.specs.declared.Receiver.{Receiver}
use Rattle.receiver.specs.Bounds.{in_bounds}
use Rattle.lent_record.specs.Ready.{ready_in}
use Rattle.sender.specs.Transfers as sender_ready
use Rattle.node.specs.Node.{is_responders}
use Rattle.dwaebinam.specs.Calls.{opened_in}
use Rattle.isolation.specs.Rules.{Values, Seen, fresh, outputs}
use Rattle.isolation.specs.World.{frame, lent, told}
use Rattle.isolation.specs.Observe.{record_after}
use Rattle.carried.specs.Crossed.{Lending, Proper, AllProper, bytes_over, left_over, calls_of}
use Rattle.carried.specs.Shown.{shown_over}
use Rattle.carried.proofs.Step.{HasRecord}
use Rattle.carried.proofs.Run.{Fine, Same, fine_after, same_call}
use Rattle.carried.proofs.Demand3.{opened_fine, opened_holds, demand_3_carried}
use Rattle.together.specs.Calls.{NodeCall, receiver, node, node_elsewhere, sender, Suits, AllSuit, lent_of, record_next, store_next, sender_next, record_end, store_end, sender_end}
use Rattle.together.specs.Received.{frame_received, received_of, heard_of, with_call, received, heard_end}
use Rattle.together.specs.Seen.{seen, seen_over}
use Rattle.together.proofs.Call.{shown_of, bytes_of, store_of, Agrees, agrees}

-- ---- what is kept from call to call: the bytes hold a receiver's record in bounds, and the store is whole

record Held (b m : List ℕ) : Type 0 where
  holds : Receiver
  there : HasRecord b holds
  fine : Fine holds m

held_ready : (b m : List ℕ) → Held b m → ready_in b (length m) ≡ true
unfolding ready_in
held_ready b m h =
    ap₂ ◌&&◌ h.there.codes (ap₂ ◌&&◌ (eq-eqb (length m) 32768 h.fine.whole) (ap in_bounds h.there.reads ∙ h.fine.bounds))

abbrev ProperOf : Option Lending → Type 0
ProperOf None = Unit {0}
ProperOf (Some l) = Proper l

held_after : (b m : List ℕ) → Held b m → (o : Option Lending) → ProperOf o → Held (bytes_of b m o) (store_of b m o)
held_after b m h None p = h
held_after b m h (Some l) p =
    let r : Receiver = h.holds in
    let c : Same r b m l = same_call r b m h.there h.fine l p in
    record {
      holds = record_after r m l.0;
      there = c.next;
      fine = subst (Fine (record_after r m l.0)) (sym c.store) (fine_after r m h.fine l p);
    }

proper_of : (s : List ℕ) (c : NodeCall) → Suits c → ProperOf (received_of s c)
unfolding received_of
proper_of s (receiver l) p = p
proper_of s (node id d a w) p = go (sender_ready.ready_in (lent_of w s)) (is_responders id d)
  where
    go : (y z : Bool) → ProperOf (frame_received y z (lent (frame id d), a))
    go true true = tt
    go true false = p
    go false z = tt
proper_of s (node_elsewhere o e id d a w) p = p
proper_of s (sender c w) p = tt

all_proper : (s : List ℕ) (cs : List NodeCall) → AllSuit cs → AllProper (received s cs)
unfolding received
all_proper s [] p = tt
all_proper s (c ∷ cs) (p, ps) = with_proper (received_of s c) (received (heard_of s c) cs) (proper_of s c p) (all_proper (heard_of s c) cs ps)
  where
    with_proper : (o : Option Lending) (ls : List Lending) → ProperOf o → AllProper ls → AllProper (with_call o ls)
    with_proper None ls p q = q
    with_proper (Some l) ls p q = (p, q)

-- ---- a list

shown_with : (v : Values) (k : ℕ) (b m : List ℕ) (o : Option Lending) (ls : List Lending)
    → shown_of v k b m o ++ shown_over v k (bytes_of b m o) (store_of b m o) ls ≡ shown_over v k b m (with_call o ls)
unfolding shown_over
shown_with v k b m None ls = refl
shown_with v k b m (Some l) ls = refl

bytes_with : (b m : List ℕ) (o : Option Lending) (ls : List Lending) → bytes_over (bytes_of b m o) (store_of b m o) ls ≡ bytes_over b m (with_call o ls)
unfolding bytes_over
bytes_with b m None ls = refl
bytes_with b m (Some l) ls = refl

store_with : (b m : List ℕ) (o : Option Lending) (ls : List Lending) → left_over (bytes_of b m o) (store_of b m o) ls ≡ left_over b m (with_call o ls)
unfolding left_over
store_with b m None ls = refl
store_with b m (Some l) ls = refl

-- the list shows and leaves what the receiver's calls within it do
record Together (v : Values) (k : ℕ) (b m s : List ℕ) (cs : List NodeCall) : Type 0 where
  shows_it : seen_over v k b m s cs ≡ shown_over v k b m (received s cs)
  bytes : record_end b m s cs ≡ bytes_over b m (received s cs)
  store : store_end b m s cs ≡ left_over b m (received s cs)
  sending : sender_end b m s cs ≡ heard_end s cs

together : (v : Values) (k : ℕ) (b m s : List ℕ) → Held b m → (cs : List NodeCall) → AllSuit cs → Together v k b m s cs
unfolding seen_over record_end store_end sender_end received heard_end shown_over bytes_over left_over
together v k b m s h [] p = record { shows_it = refl; bytes = refl; store = refl; sending = refl }
together v k b m s h (c ∷ cs) (p, ps) =
    let o : Option Lending = received_of s c in
    let f : Agrees v k b m s c = agrees v k b m s (held_ready b m h) c p in
    let t : Together v k (bytes_of b m o) (store_of b m o) (heard_of s c) cs =
    together v k (bytes_of b m o) (store_of b m o) (heard_of s c) (held_after b m h o (proper_of s c p)) cs ps in
    let ls : List Lending = received (heard_of s c) cs in
    record {
      shows_it =
          next (λ (x : List Seen) (b' m' s' : List ℕ). x ++ seen_over v k b' m' s' cs) f
          ∙ ap (λ (x : List Seen). shown_of v k b m o ++ x) t.shows_it ∙ shown_with v k b m o ls;
      bytes = next (λ (x : List Seen) (b' m' s' : List ℕ). record_end b' m' s' cs) f ∙ t.bytes ∙ bytes_with b m o ls;
      store = next (λ (x : List Seen) (b' m' s' : List ℕ). store_end b' m' s' cs) f ∙ t.store ∙ store_with b m o ls;
      sending = next (λ (x : List Seen) (b' m' s' : List ℕ). sender_end b' m' s' cs) f ∙ t.sending;
    }
  where
    next : {A : Type 0} (g : List Seen → List ℕ → List ℕ → List ℕ → A) → Agrees v k b m s c
        → g (seen v k b m s c) (record_next b m s c) (store_next b m s c) (sender_next b m s c)
        ≡ g (shown_of v k b m (received_of s c)) (bytes_of b m (received_of s c)) (store_of b m (received_of s c)) (heard_of s c)
    next g f =
        ap₂ (λ (x : List Seen) (b' : List ℕ). g x b' (store_next b m s c) (sender_next b m s c)) f.shows_it f.bytes
        ∙ ap₂ (g (shown_of v k b m (received_of s c)) (bytes_of b m (received_of s c))) f.store f.sending

-- ---- the theorems

module _ (own : ℕ) (limits : IdleLimits) (first : ℕ) (d : List ℕ) (zero-answered : (opened_in own limits first d).0 ≡ 0) (t : first < 4294967296) where
  abbrev v : Values
  v = record { own = record { 0 = own }; limits = limits }

  abbrev b : List ℕ
  b = (opened_in own limits first d).1

  module _ (m : List ℕ) (whole : length m ≡ 32768) where
    opened_held : Held b m
    opened_held = record { holds = _; there = opened_holds own limits first d zero-answered t m whole; fine = opened_fine own limits first d zero-answered t m whole }

    -- DEMAND 3 AT A NODE. After an opening of the receiver that is answered 0, over any store of 32,768 bytes and any bytes as the sender's
    -- record, for every list of calls at both ends and every key: what a program in C reads off its bytes for the key is what the rules
    -- of that key by itself put out, told of the receiver's calls in the list alone.
    pub demand_3_together : (s : List ℕ) (cs : List NodeCall) → AllSuit cs → (k : ℕ)
        → seen_over v k b m s cs ≡ outputs v k (fresh first) (told v (λ j. fresh first) k (calls_of (received s cs)))
    demand_3_together s cs p k =
        (together v k b m s opened_held cs p).shows_it
        ∙ demand_3_carried own limits first d zero-answered t m whole (received s cs) (all_proper s cs p) k

    -- The receiver's record and the store after the list are those after the receiver's calls in it: every byte.
    pub receiver_after : (s : List ℕ) (cs : List NodeCall) → AllSuit cs
        → (record_end b m s cs ≡ bytes_over b m (received s cs)) × (store_end b m s cs ≡ left_over b m (received s cs))
    receiver_after s cs p = let x : Together v 0 b m s cs = together v 0 b m s opened_held cs p in (x.bytes, x.store)

    -- The sender's record after it is the one by the sender's calls and frames alone: the receiver does not disturb the sender either.
    pub sender_after : (s : List ℕ) (cs : List NodeCall) → AllSuit cs → sender_end b m s cs ≡ heard_end s cs
    sender_after s cs p = (together v 0 b m s opened_held cs p).sending

  -- Two lists of calls, with other stores and other senders, that are alike in what one key's rules see and are told, show the same for it.
  pub alike_together : (m m' s s' : List ℕ) → length m ≡ 32768 → length m' ≡ 32768 → (cs cs' : List NodeCall) → AllSuit cs → AllSuit cs' → (k : ℕ)
      → told v (λ j. fresh first) k (calls_of (received s cs)) ≡ told v (λ j. fresh first) k (calls_of (received s' cs'))
      → seen_over v k b m s cs ≡ seen_over v k b m' s' cs'
  alike_together m m' s s' h h' cs cs' p p' k e = demand_3_together m h s cs p k ∙ rw e (sym (demand_3_together m' h' s' cs' p' k))
