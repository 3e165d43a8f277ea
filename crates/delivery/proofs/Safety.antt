-- Whatever is lost and whoever falls silent: nothing is handed over, or the message, once.
use Rattle.std.specs.Prelude.{Option, None, Some}
use Prim.Native.Nat.{ℕ, ◌+◌, ◌≤◌}
use mathlib.Core.Path.{◌≡◌, refl, ap}
use mathlib.Core.Logic.{◌⊎◌, inl, inr}
use mathlib.Core.List.{List, [], ◌∷◌, ◌++◌}
use native.Mathlib.Omega.{arith}
use lib.ListN.{length, length-append}
use Rattle.laws.specs.Bools.{either_way}
use Rattle.isolation.specs.Replies.{Wire, Says}
use Rattle.isolation.specs.Rules as rules
use Rattle.isolation.specs.Rules.{Out, is_silent, judged_at}
use Rattle.delivery.specs.Link.{Setting, Link, ask, take_forward, take_backward, read_sender, read_receiver, asked, body_for, hand_overs, at_receiver, taken_forward, at_sender, taken_backward, read, step, start}
use Rattle.delivery.specs.Arrival.{Fair, whole}
use Rattle.delivery.specs.Losses.{Lossy, keeps, loses_forward, loses_backward, queues, without_oldest, sent_after, lossy, lossy_run, Once, Safety}
use Rattle.delivery.proofs.Wires.{reads_for, on_offer}
use Rattle.delivery.proofs.Rights.{opening, Rights, openings, Later, rights_join, openings_join}
use Rattle.delivery.proofs.SafeSender.{Sending, sending_first, fits_asked, fits_heard, at_reading}
use Rattle.delivery.proofs.SafeReceiver.{Holds, is_one, Wholes, Takes, takes_any}
use Rattle.transfer.specs.declared.Transfer.{Transfer}

-- by the transfer, the frames to the receiver, the session and what was handed over
record Safe (s : Setting) (t : Option Transfer) (fs : List Wire) (x : Option rules.Open) (hs : List Says) : Type 0 where
  within : Sending s t
  rights : Rights s fs
  holds : Holds s x
  -- announcements on their way, sessions and hand-overs: at most one in all
  at_most_one : openings s fs + is_one x + length hs ≤ 1
  wholes : Wholes s hs

abbrev SafeAt : Setting → Link → Type 0
SafeAt s x = Safe s x.transfer x.forward x.session x.handed

wholes_join : (s : Setting) (hs gs : List Says) → Wholes s hs → Wholes s gs → Wholes s (hs ++ gs)
wholes_join s [] gs a b = b
wholes_join s (h ∷ hs) gs (e, a) b = (e, wholes_join s hs gs a b)

-- ---- what a move does to these four

module _ {s : Setting} {t : (Option Transfer)} {fs : List Wire} {x : Option rules.Open} {hs : List Says} where
  -- the sender moves, and sends gs
  sends_later : {u : (Option Transfer)} (gs : List Wire) → Safe s t fs x hs → Sending s u → Later s gs → Safe s u (fs ++ gs) x hs
  sends_later {u} gs h w (a, z) =
      let e : openings s (fs ++ gs) ≡ openings s fs + openings s gs = openings_join s fs gs in
      let l : openings s fs + is_one x + length hs ≤ 1 = h.at_most_one in
      record { within = w; rights = rights_join s fs gs h.rights a; holds = h.holds; at_most_one = omega arith; wholes = h.wholes }

  -- the receiver takes a frame
  takes : {f : Wire} {r : Out} → Safe s t (f ∷ fs) x hs → Takes s (opening (body_for s f) + is_one x) r → Safe s t fs r.0 (hs ++ hand_overs r.1.says)
  takes {f} {r} h g =
      let gs : List Says = hand_overs r.1.says in
      let e : length (hs ++ gs) ≡ length hs + length gs = length-append hs gs in
      let l : opening (body_for s f) + openings s fs + is_one x + length hs ≤ 1 = h.at_most_one in
      let m : is_one r.0 + length gs ≤ opening (body_for s f) + is_one x = g.once in
      record { within = h.within; rights = h.rights.1; holds = g.holds; at_most_one = omega arith; wholes = wholes_join s hs gs h.wholes g.wholes }

  -- a frame is lost
  loses : {f : Wire} → Safe s t (f ∷ fs) x hs → Safe s t fs x hs
  loses {f} h =
      let l : opening (body_for s f) + openings s fs + is_one x + length hs ≤ 1 = h.at_most_one in
      record { within = h.within; rights = h.rights.1; holds = h.holds; at_most_one = omega arith; wholes = h.wholes }

  -- a silence ends the session
  falls_silent : Safe s t fs x hs → Safe s t fs None hs
  falls_silent h =
      let l : openings s fs + is_one x + length hs ≤ 1 = h.at_most_one in
      record { within = h.within; rights = h.rights; holds = tt; at_most_one = omega arith; wholes = h.wholes }

-- ---- moves

module _ (s : Setting) (fair : Fair s) where
  safe_forward : (x : Link) (fs : List Wire) → Safe s x.transfer fs x.session x.handed → x.forward ≡ fs → SafeAt s (taken_forward s x fs)
  unfolding taken_forward at_receiver
  safe_forward x [] h e = rw e h
  safe_forward x (f ∷ fs) h e = takes h (takes_any s x.session h.holds x.receivers_last (body_for s f) h.rights.0)

  -- with what the sender sends on it
  abbrev SafeHearing : Link → List Wire → Link → Type 0
  SafeHearing x fs y = Safe s y.transfer (y.forward ++ sent_after s x fs) y.session y.handed

  safe_backward : (x : Link) (fs : List Wire) → SafeAt s x → SafeHearing x fs (taken_backward s x fs)
  unfolding taken_backward at_sender
  safe_backward x [] h = sends_later _ h h.within (tt, refl)
  safe_backward x (f ∷ fs) h = let g = fits_heard s fair x.transfer h.within x.senders_last f in sends_later _ h g.leaves g.frames

  safe_judged : (t : Option Transfer) (fs : List Wire) (hs : List Says) (last : ℕ) (x : Option rules.Open) → Safe s t fs x hs → Safe s t fs (judged_at s.values last x) hs
  unfolding judged_at
  safe_judged t fs hs last None h = h
  safe_judged t fs hs last (Some r) h = either_way (λ x. Safe s t fs x hs) (is_silent s.values last r) (λ e. falls_silent h) (λ e. h)

  safe_lost : (t : Option Transfer) (fs : List Wire) (x : Option rules.Open) (hs : List Says) → Safe s t fs x hs → Safe s t (without_oldest fs) x hs
  safe_lost t [] x hs h = h
  safe_lost t (f ∷ fs) x hs h = loses h

  safe_move : (x : Link) → SafeAt s x → (v : Lossy) → SafeAt s (lossy s x v)
  unfolding lossy queues step read asked
  safe_move x h (keeps ask) = let g = fits_asked s fair x.transfer h.within x.senders_last in sends_later _ h g.leaves g.frames
  safe_move x h (keeps take_forward) = safe_forward x x.forward h refl
  safe_move x h (keeps take_backward) = safe_backward x x.backward h
  safe_move x h (keeps (read_sender t)) = let g = at_reading s fair t x.transfer h.within in sends_later _ h g.0 g.1
  safe_move x h (keeps (read_receiver t)) = safe_judged x.transfer x.forward x.handed t x.session h
  safe_move x h loses_forward = safe_lost x.transfer x.forward x.session x.handed h
  safe_move x h loses_backward = h

  safe_run : (vs : List Lossy) (x : Link) → SafeAt s x → SafeAt s (lossy_run s x vs)
  unfolding lossy_run
  safe_run [] x h = h
  safe_run (v ∷ vs) x h = safe_run vs (lossy s x v) (safe_move x h v)

  safe_start : (p q : ℕ) → SafeAt s (start s p q)
  unfolding start
  safe_start p q =
      let e = reads_for s _ _ (on_offer s fair) in
      record { within = sending_first s p; rights = rw e (refl, tt); holds = tt; at_most_one = rw e (omega arith); wholes = tt }

-- ---- the theorem

one_message : (s : Setting) (hs : List Says) → Wholes s hs → length hs ≤ 1 → (hs ≡ []) ⊎ (hs ≡ whole s ∷ [])
one_message s [] w l = inl refl
one_message s (h ∷ []) (e, w) l = inr (ap (λ (g : Says). g ∷ []) e)
one_message s (h ∷ g ∷ hs) w l = absurd (omega arith)

once : (s : Setting) (x : Link) → SafeAt s x → Once s x
once s x h =
    let l : openings s x.forward + is_one x.session + length x.handed ≤ 1 = h.at_most_one in
    one_message s x.handed h.wholes (omega arith)

pub safety : Safety
safety s fair p q vs = once s (lossy_run s (start s p q) vs) (safe_run s fair vs (start s p q) (safe_start s fair p q))
