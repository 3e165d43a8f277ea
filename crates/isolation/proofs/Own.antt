-- Own frames are what 01 says: control and data frames to which none of 2, 1, 3, 9 and 10 applies, and that is not a sender's.
use Rattle.std.specs.Prelude.{None, Option, Some}
use Prim.Native.Nat.{ℕ}
use mathlib.Core.Path.{◌≡◌, refl, sym, ap, ◌∙◌}
use mathlib.Core.Bool.{Bool, true, false, cond, not, ◌&&◌, ◌||◌}
use mathlib.Core.List.{List, [], ◌∷◌}
use native.Mathlib.Omega.{arith}
use lib.Dec.{eqb, leb, ltb}
use lib.ListN.{length}
use borrow.Author.Tests.{eqb-true, ne_eqb}
use Rattle.frame.specs.declared.Address.{Address}
use Rattle.frame.specs.Identifiers.{identifier_of}
use Rattle.transport.specs.Heads.{control_at}
use Rattle.transport.specs.Announcements.{announcement_at}
use Rattle.transport.specs.Eoms.{status_at}
use Rattle.transport.specs.Aborts.{role_at, abort_pgn_at}
use Rattle.transport.specs.Segments.{format_at, number_at, data_at}
use Rattle.isolation.specs.Standard.{fd_lengths, is_one_of}
use Rattle.transport.specs.declared.Kind.TheVariants.{Rts, Bam}
use Rattle.isolation.specs.OwnFrames.{Body, announce, segment, status, abort, control_body, data_body, taken, body_of}
use Rattle.isolation.specs.Faults.{is_taken_here, is_cut_short, first_fault, is_transfer, is_not_receivers, from_responder}
use Rattle.isolation.specs.Observe.{is_body}
use Rattle.isolation.proofs.Same.{length_same}
use Rattle.isolation.proofs.Read.{taken_same}
use Rattle.isolation.proofs.Faults.{route_same}

-- ---- none of 2, 1, 3, 9, 16 for a sender's frame, and 10

fault_free : (a b c s t u : Bool) → eqb (cond a 2 (cond (not b) 1 (cond (not c) 3 (cond s 9 (cond t (cond u 16 10) 0))))) 0 ≡ (not a && (b && (c && (not s && not t))))
fault_free true b c s t u = refl
fault_free false false c s t u = refl
fault_free false true false s t u = refl
fault_free false true true true t u = refl
fault_free false true true false true true = refl
fault_free false true true false true false = refl
fault_free false true true false false u = refl

-- pages, DA and SA
abbrev routed : Address → ℕ → Bool
routed own id =
    eqb (identifier_of id).extended_data_page 0
    && eqb (identifier_of id).data_page 0
    && (eqb (identifier_of id).ps own.0 || eqb (identifier_of id).ps 255)
    && not (is_one_of (identifier_of id).sa.0 (254 ∷ 255 ∷ own.0 ∷ []))

taken_is : (own : Address) (id : ℕ) (d : List ℕ) → taken own id d ≡ (not (leb 536870912 id) && (is_one_of (length d) fd_lengths && routed own id))
unfolding is_one_of
taken_is own id d =
    taken_same own id d
    ∙ rw (sym (length_same (length d)))
    (ap (λ (t : Bool). not (leb 536870912 id) && (is_one_of (length d) fd_lengths && t))
    (sym (route_same (eqb (identifier_of id).extended_data_page 0 && eqb (identifier_of id).data_page 0 && (eqb (identifier_of id).ps own.0 || eqb (identifier_of id).ps 255))
    (eqb (identifier_of id).sa.0 254) (eqb (identifier_of id).sa.0 255) (eqb (identifier_of id).sa.0 own.0))))

-- ---- a body, by tests

control_is : (d : List ℕ) → is_body (control_body d) ≡ (eqb (length d) 12 && (is_one_of (control_at d) (0 ∷ 2 ∷ 4 ∷ []) || (eqb (control_at d) 15 && eqb (role_at d) 0)))
unfolding control_body is_body is_one_of
control_is d =
    go (eqb (length d) 12) (eqb (control_at d) 0) (eqb (control_at d) 4) (eqb (control_at d) 2) (eqb (control_at d) 15 && eqb (role_at d) 0)
    (announce (announcement_at Rts d)) (announce (announcement_at Bam d)) (status (status_at d)) (abort (abort_pgn_at d))
  where
    go : (l r b s a : Bool) (w x y z : Body) → is_body (cond (not l) None (cond r (Some w) (cond b (Some x) (cond s (Some y) (cond a (Some z) None))))) ≡ (l && ((r || (s || (b || false))) || a))
    go false r b s a w x y z = refl
    go true true b s a w x y z = refl
    go true false true true a w x y z = refl
    go true false true false a w x y z = refl
    go true false false true a w x y z = refl
    go true false false false true w x y z = refl
    go true false false false false w x y z = refl

data_is : (d : List ℕ) → is_body (data_body d) ≡ not (ltb (length d) 5)
unfolding data_body is_body
data_is d = go (ltb (length d) 5) (segment (format_at d) (number_at d) (data_at d))
  where
    go : (t : Bool) (w : Body) → is_body (cond t None (Some w)) ≡ not t
    go true w = refl
    go false w = refl

body_is : (own : Address) (id : ℕ) (d : List ℕ)
    → is_body (body_of own id d) ≡ (taken own id d && cond (eqb (identifier_of id).pf 77) (is_body (control_body d)) (cond (eqb (identifier_of id).pf 78) (is_body (data_body d)) false))
unfolding body_of is_body
body_is own id d = go (taken own id d) (eqb (identifier_of id).pf 77) (eqb (identifier_of id).pf 78) (control_body d) (data_body d)
  where
    go : (t u v : Bool) (x y : Option Body) → is_body (cond (not t) None (cond u x (cond v y None))) ≡ (t && cond u (is_body x) (cond v (is_body y) false))
    go false u v x y = refl
    go true true v x y = refl
    go true false true x y = refl
    go true false false x y = refl

-- ---- both as tests: a 29 bits exceeded, b length, x route; p, q: PF 77, 78, z: PF 37; l: 12 bytes, s: under 5; w: a receiver's control

module _ (a b x : Bool) where
  abbrev free : Bool → Bool → Bool
  free short other = not a && (b && ((x && true) && (not short && not other)))

  on_control_lem : (l w : Bool) → ((not a && (b && x)) && (l && w)) ≡ free (not l || false) (not w)
  on_control_lem l w = go a b x l w
    where
      go : (a b x l w : Bool) → ((not a && (b && x)) && (l && w)) ≡ (not a && (b && ((x && true) && (not (not l || false) && not (not w)))))
      go true b x l w = refl
      go false false x l w = refl
      go false true false l w = refl
      go false true true false w = refl
      go false true true true true = refl
      go false true true true false = refl

  on_data_lem : (s : Bool) → ((not a && (b && x)) && not s) ≡ free s false
  on_data_lem s = go a b x s
    where
      go : (a b x s : Bool) → ((not a && (b && x)) && not s) ≡ (not a && (b && ((x && true) && (not s && true))))
      go true b x s = refl
      go false false x s = refl
      go false true false s = refl
      go false true true true = refl
      go false true true false = refl

no_body : (t : Bool) → (t && false) ≡ false
no_body true = refl
no_body false = refl

-- A frame is a key's own exactly if it is a control or data frame to which none of 2, 1, 3, 9 and 10 applies, and that is not a sender's.
pub own_exactly : (own : Address) (id : ℕ) (d : List ℕ)
    → is_body (body_of own id d) ≡ (is_transfer id && eqb (first_fault true own id d) 0)
unfolding first_fault is_taken_here is_cut_short is_transfer is_not_receivers is_one_of
own_exactly own id d =
    body_is own id d
    ∙ rw (
      taken_is own id d,
      control_is d,
      data_is d,
      fault_free (leb 536870912 id) (is_one_of (length d) fd_lengths) (is_taken_here own id)
          (is_cut_short (identifier_of id).pf (length d)) (is_not_receivers (identifier_of id).pf d) (from_responder d),
    )
    (go (eqb (identifier_of id).pf 37) (eqb (identifier_of id).pf 77) (eqb (identifier_of id).pf 78) refl refl refl)
  where
    T : Bool
    T = not (leb 536870912 id) && (is_one_of (length d) fd_lengths && routed own id)

    W : Bool
    W = is_one_of (control_at d) (0 ∷ 2 ∷ 4 ∷ []) || (eqb (control_at d) 15 && eqb (role_at d) 0)

    go : (z p q : Bool) → eqb (identifier_of id).pf 37 ≡ z → eqb (identifier_of id).pf 77 ≡ p → eqb (identifier_of id).pf 78 ≡ q
        → (T && cond p (eqb (length d) 12 && W) (cond q (not (ltb (length d) 5)) false))
        ≡ ((p || (q || false))
        && (not (leb 536870912 id) &&
        (is_one_of (length d) fd_lengths &&
        ((routed own id && (z || (p || (q || false)))) && (not ((p && not (eqb (length d) 12)) || (q && ltb (length d) 5)) && not (p && not W))))))
    go z true q e f g =
        let h : (identifier_of id).pf ≡ 77 = eqb-true (identifier_of id).pf 77 f in
        let no-37 : z ≡ false = sym e ∙ ne_eqb (identifier_of id).pf 37 (λ y. omega arith) in
        let no-78 : q ≡ false = sym g ∙ ne_eqb (identifier_of id).pf 78 (λ y. omega arith) in
        rw (no-37, no-78) (on_control_lem (leb 536870912 id) (is_one_of (length d) fd_lengths) (routed own id) (eqb (length d) 12) W)
    go z false true e f g =
        let h : (identifier_of id).pf ≡ 78 = eqb-true (identifier_of id).pf 78 g in
        let no-37 : z ≡ false = sym e ∙ ne_eqb (identifier_of id).pf 37 (λ y. omega arith) in
        rw no-37 (on_data_lem (leb 536870912 id) (is_one_of (length d) fd_lengths) (routed own id) (ltb (length d) 5))
    go z false false e f g = no_body T
