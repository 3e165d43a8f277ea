-- A record that keeps step is in bounds, and every record in bounds is one that some world of rules explains.
use Rattle.std.specs.Prelude.{None, Option, Some, ℕ}
use Prim.Native.Nat.{ℕ, zero, suc, ◌+◌, ◌*◌, ◌-◌, ◌/◌, ◌≤◌, ◌<◌}
use mathlib.Core.Path.{◌≡◌, refl, sym, ap, ap₂, ◌∙◌, subst}
use mathlib.Core.Bool.{Bool, true, false, cond, not, ◌&&◌, ◌||◌, and-false}
use mathlib.Core.List.{List, [], ◌∷◌}
use native.Mathlib.Omega.{arith}
use native.Mathlib.Decide.{ℕ_discrete}
use lib.Dec.{leb}
use lib.ListN.{length, take, drop}
use lib.Seq.{take-take, drop-drop}
use borrow.Author.Tests.{eq-eqb, ne_eqb, leb-true, leb-false, le-leb, lt-leb, le-ltb, not-true}
use Rattle.laws.specs.Bools.{by_test, cond_true, cond_false}
use Rattle.laws.specs.Windows.{drop_take}
use Rattle.segments.specs.Laws.{none_past_in, agreed}
use Rattle.frame.specs.declared.Address.{Address}
use Rattle.transport.specs.Kinds.{is_rts}
use Rattle.transport.specs.declared.Key.{Key}
use Rattle.session.specs.declared.Session.{Session}
use Rattle.session.specs.Segments.{due_of, already_in}
use Rattle.receiver.specs.declared.Receiver.{Receiver}
use Rattle.slots.specs.Slots.{key_place, on_found}
use Rattle.session.specs.Bounds.{session_ok, state_ok}
use Rattle.session.specs.InBounds.{Sound, sound_of}
use Rattle.slots.specs.Bounds.{values_ok, any_holds, twin_of, slots_ok}
use Rattle.receiver.specs.Bounds.{in_bounds}
use Rattle.isolation.specs.OwnFrames.{key_at}
use Rattle.isolation.specs.Rules.{Values, Open, is_taken, due}
use Rattle.isolation.specs.World.{World}
use Rattle.isolation.specs.Observe.{open_in}
use Rattle.isolation.specs.Stands.{values_of, pieces_of, open_of, stands_for}
use Rattle.isolation.proofs.Tests.{or-false, clash, and_left, and_right, both, same_test}
use Rattle.isolation.proofs.Slots.{Slots, at, holds, holds_same, holds_free, open_key, keys_same, key_number, key_of_lem, find_some, find_none, Unique}
use Rattle.isolation.proofs.Bytes.{part}
use Rattle.isolation.proofs.Opened.{any, any_from, any_none, Bounded}
use Rattle.isolation.proofs.Same.{due_same}
use Rattle.isolation.proofs.Pieces.{window, segment_inside}
use Rattle.isolation.proofs.Gathered.{Gathered}
use Rattle.isolation.proofs.Fit.{Ses}
use Rattle.isolation.proofs.Many.{Sim, own_small, state_bounded}

-- ---- the slots

any_same : (k : ℕ) (l : Slots) → any k l ≡ any_holds (key_at k) l
unfolding any open_in holds
any_same k [] = refl
any_same k (x ∷ l) = ap₂ (λ (s t : Bool). s || t) (sym (holds_same k x)) (any_same k l)

alone_true : (n : ℕ) (x : Option Session) (l : Slots) → Bounded n x → ((k : ℕ) → holds k x ≡ true → any k l ≡ false) → not (twin_of x l) ≡ true
unfolding holds
alone_true n None l b h = refl
alone_true n (Some s) l b h =
    let e : key_at (key_number s.announced.key) ≡ s.announced.key = key_of_lem s.announced.key (b.small s refl) in
    ap not (subst (λ (κ : Key). any_holds κ l ≡ false) e
    (sym (any_same (key_number s.announced.key) l)
    ∙ h (key_number s.announced.key) (keys_same s.announced.key (key_at (key_number s.announced.key)) (sym e))))

true_alone : (x : Option Session) (l : Slots) → not (twin_of x l) ≡ true → (k : ℕ) → holds k x ≡ true → any k l ≡ false
true_alone None l h k e = absurd (clash (holds k None) e (holds_free k))
true_alone (Some s) l h k e = any_same k l ∙ rw (← open_key k s e) (not-true (any_holds s.announced.key l) h)

pub slots_true : (own : Address) → own.0 ≤ 253 → (l : Slots) → Unique l → ((i : ℕ) → state_ok own (at l i) ≡ true) → slots_ok own l ≡ true
unfolding slots_ok
slots_true own small [] u a = refl
slots_true own small (x ∷ l) u a =
    both (state_ok own x && not (twin_of x l)) (slots_ok own l)
    (both (state_ok own x) (not (twin_of x l)) (a 0)
    (alone_true _ x l (state_bounded own x small (a 0))
    (λ k e. any_none k l (λ i. or-false (holds k (at l i)) (λ t. let z : 0 ≡ suc i = u 0 (suc i) k e t in omega arith)))))
    (slots_true own small l (λ i j k g h. let z : suc i ≡ suc j = u (suc i) (suc j) k g h in omega arith) (λ i. a (suc i)))

module _ (own : Address) (x : Option Session) (l : Slots) (e : slots_ok own (x ∷ l) ≡ true) where
  head_ok : state_ok own x ≡ true
  unfolding slots_ok
  head_ok = and_left (state_ok own x) (not (twin_of x l)) (and_left (state_ok own x && not (twin_of x l)) (slots_ok own l) e)

  head_alone : not (twin_of x l) ≡ true
  unfolding slots_ok
  head_alone = and_right (state_ok own x) (not (twin_of x l)) (and_left (state_ok own x && not (twin_of x l)) (slots_ok own l) e)

  tail_ok : slots_ok own l ≡ true
  unfolding slots_ok
  tail_ok = and_right (state_ok own x && not (twin_of x l)) (slots_ok own l) e

pub true_all : (own : Address) (l : Slots) → slots_ok own l ≡ true → (i : ℕ) → state_ok own (at l i) ≡ true
true_all own [] e i = refl
true_all own (x ∷ l) e zero = head_ok own x l e
true_all own (x ∷ l) e (suc i) = true_all own l (tail_ok own x l e) i

pub true_unique : (own : Address) (l : Slots) → slots_ok own l ≡ true → Unique l
true_unique own [] e i j k g h = absurd (clash (holds k None) g (holds_free k))
true_unique own (x ∷ l) e zero zero k g h = refl
true_unique own (x ∷ l) e zero (suc j) k g h = absurd (clash (any k l) (any_from k l j h) (true_alone x l (head_alone own x l e) k g))
true_unique own (x ∷ l) e (suc i) zero k g h = absurd (clash (any k l) (any_from k l i g) (true_alone x l (head_alone own x l e) k h))
true_unique own (x ∷ l) e (suc i) (suc j) k g h = ap suc (true_unique own l (tail_ok own x l e) i j k g h)

-- ---- from the simulation

pub sim_bounds : (v : Values) (r : Receiver) (m : List ℕ) (w : World) → Sim v r m w → in_bounds r ≡ true
unfolding in_bounds
sim_bounds v r m w sim =
    rw (sim.own, sim.limits)
    (both (values_ok v.own v.limits) (slots_ok v.own r.slots) sim.good
    (slots_true v.own (own_small v.own v.limits sim.good) r.slots sim.uniq sim.ok))

-- ---- a world for a record in bounds

-- a window of the store is a window of the slot
window_part : (i : ℕ) (m : List ℕ) (a n : ℕ) → a + n ≤ 4096 → take n (drop (4096 * i + a) m) ≡ take n (drop a (part i m))
unfolding part
window_part i m a n h =
    let e : a + (4096 - a) ≡ 4096 = omega arith in
    ap (take n) (sym (drop-drop a (4096 * i) m))
    ∙ sym (take-take n (4096 - a) (drop a (drop (4096 * i) m)) (omega arith))
    ∙ ap (take n) (sym (drop_take a (4096 - a) (drop (4096 * i) m)))
    ∙ ap (λ (z : ℕ). take n (drop a (take z (drop (4096 * i) m)))) e

module _ (f : ℕ → Bool) (i : ℕ) (m : List ℕ) (total segments : ℕ) (most : total ≤ 4096) (count : segments ≡ (total + 59) / 60) where
  taken_of : (c n : ℕ) → 1 ≤ n → is_taken n (pieces_of f i m total c) ≡ (leb n c && f n)
  unfolding pieces_of is_taken
  taken_of zero n l = ap (λ (t : Bool). t && f n) (sym (lt-leb n 0 l))
  taken_of (suc c) n l = go (f (suc c)) refl (ℕ_discrete (suc c) n) (taken_of c n l)
    where
      past : (suc c ≡ n → ⊥) → leb n (suc c) ≡ leb n c
      past z = same_test (leb n (suc c)) (leb n c)
          (λ e. let h : n ≤ suc c = leb-true n (suc c) e in le-leb n c (omega arith))
          (λ e. let h : n ≤ c = leb-true n c e in le-leb n (suc c) (omega arith))

      none_below : (t : Bool) → is_taken n (pieces_of f i m total c) ≡ (leb n c && t) → suc c ≡ n → is_taken n (pieces_of f i m total c) ≡ false
      none_below t e z = e ∙ ap (λ (b : Bool). b && t) (lt-leb n c (omega arith))

      go : (t : Bool) → f (suc c) ≡ t → Dec (suc c ≡ n) → is_taken n (pieces_of f i m total c) ≡ (leb n c && f n)
          → is_taken n (cond t (record { number = suc c; bytes = take (due total (suc c)) (drop (4096 * i + 60 * c) m) } ∷ pieces_of f i m total c) (pieces_of f i m total c)) ≡ (leb n (suc c) && f n)
      go true e (yes z) ih = rw (eq-eqb (suc c) n z, ← z, le-leb (suc c) (suc c) (omega arith), e)
      go true e (no z) ih = rw (ne_eqb (suc c) n z, past z) ih
      go false e (yes z) ih = none_below (f n) ih z ∙ sym (ap (λ (b : Bool). leb n (suc c) && b) (ap f (sym z) ∙ e) ∙ and-false (leb n (suc c)))
      go false e (no z) ih = rw (past z) ih

  gathered_of : (c : ℕ) → c ≤ segments → Gathered total segments (part i m) (pieces_of f i m total c)
  unfolding pieces_of
  gathered_of zero u = tt
  gathered_of (suc c) u = go (f (suc c)) (gathered_of c (omega arith))
    where
      g : suc c - 1 ≡ c
      g = omega arith

      fits : 60 * (suc c - 1) + due_of total (suc c) ≤ 4096
      fits = let z : 60 * (suc c - 1) + due_of total (suc c) ≤ total = segment_inside total segments (suc c) count (omega arith) u in omega arith

      here : take (due total (suc c)) (drop (4096 * i + 60 * c) m) ≡ window total (part i m) (suc c)
      here =
          ap (λ (n : ℕ). take (due total (suc c)) (drop (4096 * i + 60 * n) m)) (sym g)
          ∙ ap (λ (n : ℕ). take n (drop (4096 * i + 60 * (suc c - 1)) m)) (due_same total (suc c) (omega arith))
          ∙ window_part i m (60 * (suc c - 1)) (due_of total (suc c)) fits

      go : (t : Bool) → Gathered total segments (part i m) (pieces_of f i m total c)
          → Gathered total segments (part i m) (cond t (record { number = suc c; bytes = take (due total (suc c)) (drop (4096 * i + 60 * c) m) } ∷ pieces_of f i m total c) (pieces_of f i m total c))
      go true h = (omega arith, u, taken_of c (suc c) (omega arith) ∙ ap (λ (t : Bool). t && f (suc c)) (lt-leb (suc c) c (omega arith)), here, h)
      go false h = h

-- what a session knows as taken lies in the message
known_inside : (own : Address) (s : Session) → Sound own s → (n : ℕ) → 1 ≤ n → (leb n s.announced.segments.0 && already_in s n) ≡ already_in s n
known_inside own s ok n l = go (leb n s.announced.segments.0) refl
  where
    past : leb n s.announced.segments.0 ≡ false → already_in s n ≡ false
    past e =
        let h : s.announced.segments.0 < n = leb-false n s.announced.segments.0 e in
        by_test (is_rts s.announced.kind)
        (λ r.
        cond_true (is_rts s.announced.kind) _ _ r
        ∙ none_past_in s.progress.taken s.announced.segments.0 (agreed s.progress.taken s.announced.segments.0 s.progress.missing (ok.reached.gathered r).agree).past n h)
        (λ r.
        let q : s.progress.next.0 ≤ s.announced.segments.0 + 1 = (ok.reached.sequence r).high in
        cond_false (is_rts s.announced.kind) _ _ r ∙ le-ltb n s.progress.next.0 (omega arith))

    go : (t : Bool) → leb n s.announced.segments.0 ≡ t → (t && already_in s n) ≡ already_in s n
    go true e = refl
    go false e = sym (past e)

explained : (v : Values) (k i : ℕ) (m : List ℕ) (x : Option Session) → state_ok v.own x ≡ true → holds k x ≡ true → Ses v k x (part i m) (open_of i m x)
unfolding open_of
explained v k i m None e h = tt
explained v k i m (Some s) e h =
    let ok : Sound v.own s = sound_of v.own s e in
    let total : ℕ = s.announced.total.0 in
    let segments : ℕ = s.announced.segments.0 in (
      record { next = s.progress.next.0; taken = s.progress.taken; missing = s.progress.missing },
      same,
      record {
        pieces = gathered_of (already_in s) i m total segments ok.agreed.fits ok.agreed.count segments (omega arith);
        same = λ n l. taken_of (already_in s) i m total segments ok.agreed.fits ok.agreed.count segments n l ∙ known_inside v.own s ok n l;
        plain = refl;
        fine = subst (λ (z : Session). session_ok v.own z ≡ true) same e;
      },
    )
  where
    same : s ≡ record {
      announced = record { key = key_at k; kind = s.announced.kind; total = s.announced.total; segments = s.announced.segments; max = s.announced.max; pgn = s.announced.pgn };
      progress = s.progress;
    }
    same = ap (λ (κ : Key). record {
      announced = record { key = κ; kind = s.announced.kind; total = s.announced.total; segments = s.announced.segments; max = s.announced.max; pgn = s.announced.pgn };
      progress = s.progress;
    }) (open_key k s h)

-- every record in bounds is one that a world of rules explains
pub bounds_sim : (r : Receiver) (m : List ℕ) → in_bounds r ≡ true → length r.slots ≡ 8 → length m ≡ 32768 → Sim (values_of r) r m (stands_for r m)
unfolding in_bounds stands_for
bounds_sim r m e eight whole = record {
  good = and_left (values_ok r.own r.limits) (slots_ok r.own r.slots) e;
  own = refl;
  limits = refl;
  eight = eight;
  whole = whole;
  last = λ k. refl;
  held = λ i k h. held' i k h (key_place (key_at k) r.slots) refl;
  shut = λ k h. shut' k h (key_place (key_at k) r.slots) refl;
  uniq = true_unique r.own r.slots slots;
  ok = true_all r.own r.slots slots;
}
  where
    slots : slots_ok r.own r.slots ≡ true
    slots = and_right (values_ok r.own r.limits) (slots_ok r.own r.slots) e

    held' : (i k : ℕ) → holds k (at r.slots i) ≡ true → (f : Option ℕ) → key_place (key_at k) r.slots ≡ f
        → Ses (values_of r) k (at r.slots i) (part i m) (on_found f (λ j. open_of j m (at r.slots j)) None)
    held' i k h None f = absurd (clash (holds k (at r.slots i)) h (find_none k r.slots f i))
    held' i k h (Some j) f =
        rw (true_unique r.own r.slots slots j i k (find_some k r.slots j f).0 h)
        (explained (values_of r) k i m (at r.slots i) (true_all r.own r.slots slots i) h)

    shut' : (k : ℕ) → ((i : ℕ) → holds k (at r.slots i) ≡ false) → (f : Option ℕ) → key_place (key_at k) r.slots ≡ f
        → on_found f (λ j. open_of j m (at r.slots j)) None ≡ None
    shut' k h None f = refl
    shut' k h (Some i) f = absurd (clash (holds k (at r.slots i)) (find_some k r.slots i f).0 (h i))
