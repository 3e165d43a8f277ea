-- Frames that are nobody's own, by the receiver alone: 01, the last paragraph of "Transfer frames" and "Numbered refusals".
use Rattle.std.specs.Prelude.{None, Option, Some}
use Prim.Native.Nat.{ℕ}
use mathlib.Core.Path.{◌≡◌, refl, sym, ap, subst}
use mathlib.Core.Bool.{Bool, true, false, cond}
use mathlib.Core.List.{List}
use lib.ListN.{length}
use Rattle.frame.specs.Judge.{judged}
use Rattle.frame.specs.declared.refusal.Refusal.TheVariants.{OutOfBounds}
use Rattle.answer.specs.Answers.{answer_sends}
use Rattle.receiver.specs.declared.Receiver.{Receiver}
use Rattle.receiver.specs.Calls.{Outcome, refused, is_ready, on_verdict, frame_all}
use Rattle.isolation.specs.OwnFrames.{key_at, frame_key, Body, body_of}
use Rattle.isolation.specs.Observe.{touches, is_body}
use Rattle.isolation.proofs.Tests.{clash}
use Rattle.isolation.proofs.Read.{Plain, refusal, plain_quiet, plain_sends, Takes, frame_agrees}

-- groups or a refusal; no key in the answer, nothing sent, nothing changed
pub record Nobodys (r : Receiver) (m : List ℕ) (o : Outcome) : Type 0 where
  pub answers : Plain o.0.answer
  pub carries : (k : ℕ) → touches k o.0.answer ≡ false
  pub sends : answer_sends o.0.answer ≡ None
  pub next : o.0.next ≡ r
  pub store : o.1 ≡ m

nobodys : (r : Receiver) (m : List ℕ) (o : Outcome) → Plain o.0.answer → o.0.next ≡ r → o.1 ≡ m → Nobodys r m o
nobodys r m o p e f =
    record { answers = p; carries = plain_quiet o.0.answer p; sends = plain_sends o.0.answer p; next = e; store = f }

-- On every record, in bounds or not, and with any buffer lent: a frame that is nobody's own is answered by groups or a refusal, with
-- no key, sends nothing and changes nothing.
pub nobodys_frame : (r : Receiver) (id : ℕ) (d m : List ℕ) → body_of r.own id d ≡ None → Nobodys r m (frame_all r id d m)
unfolding frame_all is_body
nobodys_frame r id d m none_is = go (is_ready r m)
  where
    o : Outcome
    o = on_verdict (judged r.own id (length d)) r d m

    read : (b : Option Body) → b ≡ None → Takes r d m (key_at (frame_key id d)) o b → Nobodys r m o
    read None e f =
        nobodys r m o (subst (λ (x : Outcome). Plain x.0.answer) (sym f.same) f.plain) (ap (λ (x : Outcome). x.0.next) f.same) (ap (λ (x : Outcome). x.1) f.same)
    read (Some b) e t = absurd (clash (is_body (Some b)) refl (ap is_body e))

    go : (t : Bool) → Nobodys r m (cond t o (refused r OutOfBounds, m))
    go true = read (body_of r.own id d) none_is (frame_agrees r id d m).does
    go false = nobodys r m (refused r OutOfBounds, m) (refusal OutOfBounds refl) refl refl
