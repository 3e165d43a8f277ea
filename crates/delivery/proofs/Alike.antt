-- Two worlds of rules that explain one record and one store have the same session of a key, but for the order in which data was taken; and
-- what Losses says of a session does not depend on that.
use Rattle.std.specs.Prelude.{None, Option, Some, ℕ}
use Prim.Native.Nat.{ℕ, zero, suc, ◌≤◌}
use mathlib.Core.Path.{◌≡◌, refl, sym, ap, ◌∙◌}
use mathlib.Core.Bool.{true}
use mathlib.Core.List.{List, [], ◌∷◌}
use native.Mathlib.Omega.{arith}
use lib.ListN.{length}
use Rattle.session.specs.declared.Session.{Session}
use Rattle.session.specs.Segments.{already_in}
use Rattle.slots.specs.Slots.{key_place}
use Rattle.receiver.specs.declared.Receiver.{Receiver}
use Rattle.isolation.specs.OwnFrames.{key_at, Body, announce, segment, status, abort}
use Rattle.isolation.specs.Replies.{Wire}
use Rattle.isolation.specs.Rules.{Values, Open, Piece, is_taken}
use Rattle.isolation.specs.World.{World}
use Rattle.isolation.proofs.Slots.{at, holds, find_some, find_none}
use Rattle.isolation.proofs.Bytes.{part}
use Rattle.isolation.proofs.Gathered.{in_to, in_length}
use Rattle.isolation.proofs.Fit.{Kept, record_of, Rel, Ses}
use Rattle.isolation.proofs.Many.{Sim}
use Rattle.delivery.specs.Link.{Setting, body_for}
use Rattle.delivery.specs.Losses.{segments, is_needed, may_lose, MayLoseOldest, to_answer, Spent}

pub record AlikeOpen (ρ σ : Open) : Type 0 where
  pub kind : ρ.told.kind ≡ σ.told.kind
  pub granted : ρ.granted ≡ σ.granted
  pub requests : ρ.requests ≡ σ.requests
  pub taken : length ρ.pieces ≡ length σ.pieces

abbrev pub Alike : Option Open → Option Open → Type 0
Alike None None = Unit {0}
Alike None (Some σ) = ⊥
Alike (Some ρ) None = ⊥
Alike (Some ρ) (Some σ) = AlikeOpen ρ σ

-- ---- by the slot

-- with the same numbers in
in_same : (n : ℕ) (xs ys : List Piece) → ((i : ℕ) → 1 ≤ i → is_taken i xs ≡ is_taken i ys) → in_to n xs ≡ in_to n ys
unfolding in_to
in_same zero xs ys h = refl
in_same (suc n) xs ys h = rw (in_same n xs ys h, h (suc n) (omega arith))

module _ (v : Values) (k : ℕ) (p : List ℕ) where
  open_alike : (ρ σ : Open) (x z : Kept) → record_of k ρ x ≡ record_of k σ z → Rel v k p ρ x → Rel v k p σ z → AlikeOpen ρ σ
  open_alike ρ σ x z e a b = record {
    kind = ap (λ (s : Session). s.announced.kind) e;
    granted = ap (λ (s : Session). s.progress.granted.0) e;
    requests = ap (λ (s : Session). s.progress.requests) e;
    taken = sym (in_length ρ.told.total.0 ρ.told.segments.0 p ρ.pieces a.pieces)
        ∙ in_same ρ.told.segments.0 ρ.pieces σ.pieces (λ n l. a.same n l ∙ ap (λ (s : Session). already_in s n) e ∙ sym (b.same n l))
        ∙ ap (λ (s : Session). in_to s.announced.segments.0 σ.pieces) e
        ∙ in_length σ.told.total.0 σ.told.segments.0 p σ.pieces b.pieces;
  }

  ses_alike : (st : Option Session) (x y : Option Open) → Ses v k st p x → Ses v k st p y → Alike x y
  ses_alike None None None a b = tt
  ses_alike None None (Some σ) a b = b
  ses_alike None (Some ρ) y a b = absurd a
  ses_alike (Some s) None y a b = absurd a
  ses_alike (Some s) (Some ρ) None a b = b
  ses_alike (Some s) (Some ρ) (Some σ) (x, e, f) (z, g, h) = open_alike ρ σ x z (sym e ∙ g) f h

pub alike : (v : Values) (r : Receiver) (m : List ℕ) (w w' : World) → Sim v r m w → Sim v r m w' → (k : ℕ) → Alike (w k).session (w' k).session
alike v r m w w' a b k = go (key_place (key_at k) r.slots) refl
  where
    go : (f : Option ℕ) → key_place (key_at k) r.slots ≡ f → Alike (w k).session (w' k).session
    go None e = rw (a.shut k (find_none k r.slots e), b.shut k (find_none k r.slots e)) tt
    go (Some i) e =
        let h : holds k (at r.slots i) ≡ true = (find_some k r.slots i e).0 in
        ses_alike v k (part i m) (at r.slots i) (w k).session (w' k).session (a.held i k h) (b.held i k h)

-- ---- what Losses says

pub alike_none : (x y : Option Open) → Alike x y → x ≡ None → y ≡ None
alike_none None None a e = refl
alike_none None (Some σ) a e = absurd a
alike_none (Some ρ) y a e = absurd (let z : ◌≡◌ {A = ℕ} 0 1 = cc in omega arith)

module _ (s : Setting) where
  alike_needed : (x y : Option Open) → Alike x y → (n : ℕ) → is_needed s x n ≡ is_needed s y n
  unfolding is_needed
  alike_needed None None a n = refl
  alike_needed None (Some σ) a n = absurd a
  alike_needed (Some ρ) None a n = absurd a
  alike_needed (Some ρ) (Some σ) a n = rw (a.kind, a.granted, a.requests)

  alike_lose : (x y : Option Open) → Alike x y → (b : Option Body) → may_lose s x b ≡ may_lose s y b
  unfolding may_lose
  alike_lose x y a None = refl
  alike_lose x y a (Some (announce t)) = refl
  alike_lose x y a (Some (segment format n d)) = rw (alike_needed x y a n)
  alike_lose x y a (Some (status st)) = refl
  alike_lose x y a (Some (abort pgn)) = refl

  pub alike_loses : (x y : Option Open) → Alike x y → (fs : List Wire) → MayLoseOldest s y fs → MayLoseOldest s x fs
  alike_loses x y a [] h = h
  alike_loses x y a (f ∷ fs) h = alike_lose x y a (body_for s f) ∙ h

  pub alike_answer : (x y : Option Open) → Alike x y → to_answer s x ≡ to_answer s y
  unfolding to_answer
  alike_answer None None a = refl
  alike_answer None (Some σ) a = absurd a
  alike_answer (Some ρ) None a = absurd a
  alike_answer (Some ρ) (Some σ) a = rw (a.kind, a.granted, a.requests)

  pub alike_spent : (x y : Option Open) → Alike x y → Spent s x → Spent s y
  alike_spent None y a h = absurd h
  alike_spent (Some ρ) None a h = absurd a
  alike_spent (Some ρ) (Some σ) a (few, short) = (sym a.requests ∙ few, let e = a.taken in omega arith)
