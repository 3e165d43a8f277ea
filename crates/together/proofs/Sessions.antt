-- A frame for the sender belongs to no session: 02, E2.
use Rattle.std.specs.Prelude.{None, Option}
use Prim.Native.Nat.{ℕ}
use mathlib.Core.Path.{◌≡◌, refl, sym, ap, ◌∙◌}
use mathlib.Core.Bool.{Bool, true, false, cond, not, ◌&&◌, ◌||◌, false≢true}
use mathlib.Core.List.{List, []}
use mathlib.Mathlib.Data.Bool.Basic.{and_elim_left, and_elim_right}
use lib.Dec.{eqb}
use lib.ListN.{length}
use borrow.Author.Tests.{eqb-true}
use Rattle.laws.specs.Choice.{then, else}
use Rattle.frame.specs.declared.Address.{Address}
use Rattle.frame.specs.Identifiers.{identifier_of}
use Rattle.transport.specs.Heads.{control_at}
use Rattle.transport.specs.Aborts.{role_at}
use Rattle.node.specs.Node.{is_responders}
use Rattle.isolation.specs.OwnFrames.{frame_key, Body, control_body, taken, body_of}
use Rattle.isolation.specs.Rules.{Values}
use Rattle.isolation.specs.World.{frame, lent, World, sees_body, sees}

-- control and role of a responder are none of an originator's
no_body : (c r : ℕ) (x y z w : Option Body) → (eqb c 1 || eqb c 3 || (eqb c 15 && eqb r 1)) ≡ true
    → cond (eqb c 0) x (cond (eqb c 4) y (cond (eqb c 2) z (cond (eqb c 15 && eqb r 0) w None))) ≡ None
no_body c r x y z w e = go (eqb c 1) (eqb c 3) (eqb c 15 && eqb r 1) refl refl refl e
  where
    by : ℕ → ℕ → Option Body
    by c r = cond (eqb c 0) x (cond (eqb c 4) y (cond (eqb c 2) z (cond (eqb c 15 && eqb r 0) w None)))

    go : (t u s : Bool) → eqb c 1 ≡ t → eqb c 3 ≡ u → (eqb c 15 && eqb r 1) ≡ s → (t || u || s) ≡ true → by c r ≡ None
    go true u s p q h e = ap (λ (n : ℕ). by n r) (eqb-true c 1 p)
    go false true s p q h e = ap (λ (n : ℕ). by n r) (eqb-true c 3 q)
    go false false true p q h e =
        ap (λ (n : ℕ). by n r) (eqb-true c 15 (and_elim_left (eqb c 15) (eqb r 1) h)) ∙ ap (by 15) (eqb-true r 1 (and_elim_right (eqb c 15) (eqb r 1) h))
    go false false false p q h e = absurd (false≢true e)

responders_body : (own : Address) (id : ℕ) (d : List ℕ) → is_responders id d ≡ true → body_of own id d ≡ None
unfolding body_of control_body
responders_body own id d e =
    let long : eqb (length d) 12 ≡ true = and_elim_left (eqb (length d) 12) (eqb (identifier_of id).pf 77 && c) e in
    let rest : (eqb (identifier_of id).pf 77 && c) ≡ true = and_elim_right (eqb (length d) 12) (eqb (identifier_of id).pf 77 && c) e in
    sym
    (either (not (taken own id d)) _
    (then (eqb (identifier_of id).pf 77) _ _ _ (and_elim_left (eqb (identifier_of id).pf 77) c rest)
    (else (not (eqb (length d) 12)) _ _ _ (ap not long)
    (sym (no_body (control_at d) (role_at d) _ _ _ _ (and_elim_right (eqb (identifier_of id).pf 77) c rest))))))
  where
    c : Bool
    c = eqb (control_at d) 1 || eqb (control_at d) 3 || (eqb (control_at d) 15 && eqb (role_at d) 1)

    either : (t : Bool) (x : Option Body) → None ≡ x → None ≡ cond t None x
    either true x q = refl
    either false x q = q

-- No key's rules are told of it, so a list without it tells them the same.
pub of_no_session : (v : Values) (w : World) (k id : ℕ) (d : List ℕ) → is_responders id d ≡ true → sees v w k (lent (frame id d)) ≡ []
unfolding sees sees_body
of_no_session v w k id d e = ap (sees_body w k (frame_key id d)) (responders_body v.own id d e)
