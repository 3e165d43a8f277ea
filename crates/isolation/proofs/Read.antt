-- A frame as the receiver reads it, and as the rules' own test does.
use Rattle.std.specs.Prelude.{Err, None, Ok, Option, Result, Some}
use Prim.Native.Nat.{ℕ, zero, suc, ◌+◌, ◌*◌, ◌-◌, ◌^◌, ◌≤◌, ◌<◌}
use mathlib.Core.Path.{◌≡◌, refl, ap}
use mathlib.Core.Bool.{and_assoc, Bool, true, false, cond, not, ◌&&◌, ◌||◌}
use mathlib.Core.List.{List}
use native.Mathlib.Omega.{arith}
use lib.Dec.{eqb, leb, ltb}
use lib.ListN.{length, length-drop}
use borrow.Author.Tests.{ltb-true, eqb-true, eqb-false, ne_eqb, not-true, leb-true, leb-false, lt-ltb, lt-leb}
use Rattle.frame.specs.declared.Address.{Address}
use Rattle.frame.specs.declared.judge.Route.{Route}
use Rattle.frame.specs.declared.judge.Content.TheVariants as verdict
use Rattle.frame.specs.declared.refusal.Refusal.{Refusal}
use Rattle.frame.specs.declared.refusal.Refusal.TheVariants.{FrameLength, IdentifierRange, NotTaken, TransferLength, NeitherTakes, KeyNotOpen}
use Rattle.frame.specs.Identifiers.{identifier_of}
use Rattle.frame.specs.Lengths.{is_length}
use Rattle.frame.specs.Judge.{route_taken, by_format, route_of, judged}
use Rattle.multi_pg.specs.Groups.{end_of, step_at, GroupsRead, good, bad, after, on_step, read_from, groups_read}
use Rattle.multi_pg.specs.Faults.{OfFault, step_fault}
use Rattle.multi_pg.specs.declared.Group.{Group}
use Rattle.frame.specs.Refusals.{number_of}
use Rattle.answer.specs.Answers.{answer_number, answer_sends}
use Rattle.transport.specs.declared.Key.{Key}
use Rattle.transport.specs.Control.{is_response, not_receivers, control_of}
use Rattle.transport.specs.Heads.{control_at, session_at, key_of}
use Rattle.transport.specs.Aborts.{role_at}
use Rattle.transport.specs.Segments.{format_at, number_at, segment_at, data_at, data_frame_of}
use Rattle.receiver.specs.declared.Receiver.{Receiver}
use Rattle.answer.specs.declared.Answer.{Answer}
use Rattle.answer.specs.declared.Answer.TheVariants as answer
use Rattle.receiver.specs.Calls.{Outcome, answered, refused, announce_step, status_step, abort_step, segment_step, on_verdict, groups_step, control_step, on_control, on_data}
use Rattle.isolation.specs.Standard.{fd_lengths, is_one_of}
use Rattle.isolation.specs.OwnFrames as F
use Rattle.isolation.specs.OwnFrames.{key_at, frame_key, Body, segment, control_body, data_body, body_of}
use Rattle.session.specs.Effects.{mild}
use Rattle.isolation.specs.Rules.{Values}
use Rattle.isolation.specs.Observe.{touches}
use Rattle.isolation.proofs.Tests.{and_left, and_right, both, same_test}
use Rattle.isolation.proofs.Slots.{key_of_lem}
use Rattle.isolation.proofs.Same.{length_same}
use Rattle.isolation.proofs.Single.{Mine, body_step, Reads}
use Rattle.frame.specs.declared.judge.Content.{Content}
use Rattle.transport.specs.declared.control.Control.{Control}

-- groups, or a refusal that names no key
pub data Plain (a : Answer) : Type 0 where
  groups : (ρ : Route) → a ≡ answer.Groups ρ → Plain a
  refusal : (n : Refusal) → a ≡ answer.Refused n → Plain a

-- a frame that is no session's own: it is answered, and nothing changes
pub record Foreign (r : Receiver) (m : List ℕ) (o : Outcome) : Type 0 where
  pub answer : Answer
  pub same : o ≡ (answered r answer, m)
  pub plain : Plain answer
  pub mildly : mild (answer_number answer) ≡ true

pub plain_quiet : (a : Answer) → Plain a → (j : ℕ) → touches j a ≡ false
unfolding touches
plain_quiet a (groups ρ e) j = rw e
plain_quiet a (refusal n e) j = rw e

pub plain_sends : (a : Answer) → Plain a → answer_sends a ≡ None
plain_sends a (groups ρ e) = rw e
plain_sends a (refusal n e) = rw e

-- the receiver does with the frame what its key's body asks
abbrev pub Takes : Receiver → List ℕ → List ℕ → Key → Outcome → Option Body → Type 0
Takes r d m κ o None = Foreign r m o
Takes r d m κ o (Some b) = (o ≡ body_step r κ b d m) × Reads d b

pub record Agrees (r : Receiver) (d m : List ℕ) (κ : Key) (o : Outcome) (b : Option Body) : Type 0 where
  pub does : Takes r d m κ o b

foreign : (r : Receiver) (m : List ℕ) (n : Refusal) → mild (number_of n) ≡ true → Foreign r m (refused r n, m)
foreign r m n e = record { answer = answer.Refused n; same = refl; plain = refusal n refl; mildly = e }

module _ (r : Receiver) (d m : List ℕ) (κ : Key) where
  agree_control : (c c' : Result Control Refusal) (b b' : Option Body) (t : Bool) → Agrees r d m κ (on_control c r κ, m) b → Agrees r d m κ (on_control c' r κ, m) b'
      → Agrees r d m κ (on_control (cond t c c') r κ, m) (cond t b b')
  agree_control c c' b b' true f g = f
  agree_control c c' b b' false f g = g

  control_agrees : Agrees r d m κ (on_control (control_of d) r κ, m) (control_body d)
  unfolding control_of control_body announce_step status_step abort_step
  control_agrees =
      agree_control _ _ _ _ (not (eqb (length d) 12)) (record { does = foreign r m TransferLength refl })
      (agree_control _ _ _ _ (eqb (control_at d) 0) (record { does = (refl, tt) })
      (agree_control _ _ _ _ (eqb (control_at d) 4) (record { does = (refl, tt) })
      (agree_control _ _ _ _ (eqb (control_at d) 2) (record { does = (refl, tt) })
      (agree_control _ _ _ _ (eqb (control_at d) 15 && eqb (role_at d) 0) (record { does = (refl, tt) })
      (record { does = foreign r m (not_receivers d) (mildly (is_response d)) })))))
    where
      mildly : (t : Bool) → mild (number_of (cond t KeyNotOpen NeitherTakes)) ≡ true
      mildly true = refl
      mildly false = refl

  data_agrees : Agrees r d m κ (on_data (data_frame_of d) r κ d m) (data_body d)
  unfolding data_frame_of data_body segment_step
  data_agrees = go (ltb (length d) 5)
    where
      go : (t : Bool) → Agrees r d m κ (on_data (cond t (Err TransferLength) (Ok (segment_at d))) r κ d m)
          (cond t None (Some (segment (format_at d) (number_at d) (data_at d))))
      go true = record { does = foreign r m TransferLength refl }
      go false = record { does = (rw (length-drop 4 d), refl) }

-- ---- by PF

-- a Multi-PG frame is refused with 4 to 8

abbrev pub group_fault : ℕ → Bool
group_fault n = leb 4 n && leb n 8

group_mild : (n : ℕ) → group_fault n ≡ true → mild n ≡ true
group_mild n e =
    let l : 4 ≤ n = leb-true 4 n (and_left (leb 4 n) (leb n 8) e) in
    let u : n ≤ 8 = leb-true n 8 (and_right (leb 4 n) (leb n 8) e) in
    rw (ne_eqb n 19 (λ y. omega arith), ne_eqb n 21 (λ y. omega arith), ne_eqb n 23 (λ y. omega arith))

mild_step : Result (Option Group) Refusal → Bool
mild_step (Ok None) = true
mild_step (Err n) = group_fault (number_of n)
mild_step (Ok (Some g)) = true

abbrev pub mild_groups : GroupsRead → Bool
mild_groups (good gs) = true
mild_groups (bad n) = group_fault (number_of n)

step_mild : (d : List ℕ) (at : ℕ) → mild_step (step_at d at) ≡ true
unfolding mild_step
step_mild d at = go (step_at d at) (step_fault (λ n. group_fault (number_of n) ≡ true) refl refl refl refl refl d at)
  where
    go : (x : Result (Option Group) Refusal) → OfFault (λ n. group_fault (number_of n) ≡ true) x → mild_step x ≡ true
    go (Ok None) f = refl
    go (Err n) f = f
    go (Ok (Some g)) f = refl

after_mild : (g : Group) (x : GroupsRead) → mild_groups x ≡ true → mild_groups (after g x) ≡ true
after_mild g (good gs) e = refl
after_mild g (bad n) e = e

on_mild : (x : Result (Option Group) Refusal) (rest : Group → GroupsRead) → mild_step x ≡ true → ((g : Group) → mild_groups (rest g) ≡ true) → mild_groups (on_step x rest) ≡ true
unfolding mild_step
on_mild (Ok None) rest e f = refl
on_mild (Err n) rest e f = e
on_mild (Ok (Some g)) rest e f = after_mild g (rest g) (f g)

read_mild : (n : ℕ) (d : List ℕ) (at : ℕ) → mild_groups (read_from n d at) ≡ true
unfolding read_from
read_mild zero d at = refl
read_mild (suc n) d at = on_mild (step_at d at) (λ g. read_from n d (end_of g)) (step_mild d at) (λ g. read_mild n d (end_of g))

pub reading_mild : (d : List ℕ) → mild_groups (groups_read d) ≡ true
unfolding groups_read
reading_mild d = read_mild (suc (length d)) d 0

module _ (r : Receiver) (id : ℕ) (d m : List ℕ) where
  groups_foreign : (g : GroupsRead) (ρ : Route) → mild_groups g ≡ true → Foreign r m (groups_step g ρ r, m)
  groups_foreign (good gs) ρ e = record { answer = answer.Groups ρ; same = refl; plain = groups ρ refl; mildly = refl }
  groups_foreign (bad n) ρ e = record { answer = answer.Refused n; same = refl; plain = refusal n refl; mildly = group_mild (number_of n) e }

  format_agrees : (pf : ℕ) (ρ : Route) → Agrees r d m (key_of ρ d) (on_verdict (by_format pf ρ) r d m) (cond (eqb pf 77) (control_body d) (cond (eqb pf 78) (data_body d) None))
  unfolding by_format control_step
  format_agrees pf ρ = go (eqb pf 37) refl
    where
      other : (a b : Bool) → Agrees r d m (key_of ρ d)
          (on_verdict (cond a (Ok (verdict.Control ρ)) (cond b (Ok (verdict.Data ρ)) (Err NotTaken))) r d m)
          (cond a (control_body d) (cond b (data_body d) None))
      other true b = control_agrees r d m (key_of ρ d)
      other false true = data_agrees r d m (key_of ρ d)
      other false false = record { does = foreign r m NotTaken refl }

      go : (t : Bool) → eqb pf 37 ≡ t
          → Agrees r d m (key_of ρ d) (on_verdict (cond t (Ok (verdict.MultiPg ρ)) (cond (eqb pf 77) (Ok (verdict.Control ρ)) (cond (eqb pf 78) (Ok (verdict.Data ρ)) (Err NotTaken)))) r d m)
          (cond (eqb pf 77) (control_body d) (cond (eqb pf 78) (data_body d) None))
      go true e =
          let z : pf ≡ 37 = eqb-true pf 37 e in
          rw (ne_eqb pf 77 (λ y. omega arith), ne_eqb pf 78 (λ y. omega arith)) (record { does = groups_foreign (groups_read d) ρ (reading_mild d) })
      go false e = other (eqb pf 77) (eqb pf 78)

-- ---- 2, 1, 3

chain_6 : (a b c d e f : Bool) → (a && (b && (c && ((d && e) && f)))) ≡ (a && b && c && d && e && f)
chain_6 a b c d e f = simp and_assoc

sa_same : (sa : ℕ) → sa < 256 → ltb sa 254 ≡ (not (eqb sa 254) && not (eqb sa 255))
sa_same sa h = same_test (ltb sa 254) (not (eqb sa 254) && not (eqb sa 255))
    (λ e. let z : sa < 254 = ltb-true sa 254 e in both (not (eqb sa 254)) (not (eqb sa 255)) (ap not (ne_eqb sa 254 (λ y. omega arith))) (ap not (ne_eqb sa 255 (λ y. omega arith))))
    (λ e.
    let a : sa ≡ 254 → ⊥ = eqb-false sa 254 (not-true (eqb sa 254) (and_left (not (eqb sa 254)) (not (eqb sa 255)) e)) in
    let b : sa ≡ 255 → ⊥ = eqb-false sa 255 (not-true (eqb sa 255) (and_right (not (eqb sa 254)) (not (eqb sa 255)) e)) in
    lt-ltb sa 254 (omega arith))

range_same : (id : ℕ) → ltb id 536870912 ≡ not (leb 536870912 id)
range_same id = same_test (ltb id 536870912) (not (leb 536870912 id))
    (λ e. let z : id < 536870912 = ltb-true id 536870912 e in ap not (lt-leb 536870912 id (omega arith)))
    (λ e. let z : id < 536870912 = leb-false 536870912 id (not-true (leb 536870912 id) e) in lt-ltb id 536870912 z)

pub taken_same : (own : Address) (id : ℕ) (d : List ℕ) → F.taken own id d ≡ (not (leb 536870912 id) && (is_length (length d) && route_taken own (identifier_of id)))
unfolding F.taken
taken_same own id d =
    rw (range_same id, length_same (length d), sa_same (identifier_of id).sa.0 (omega arith))
    (ap (λ (t : Bool). not (leb 536870912 id) && (is_length (length d) && t))
    (chain_6 (eqb (identifier_of id).extended_data_page 0) (eqb (identifier_of id).data_page 0) (eqb (identifier_of id).ps own.0 || eqb (identifier_of id).ps 255)
    (not (eqb (identifier_of id).sa.0 254)) (not (eqb (identifier_of id).sa.0 255)) (not (eqb (identifier_of id).sa.0 own.0))))

-- the frame's key, as a number
pub key_read : (id : ℕ) (d : List ℕ) → key_at (frame_key id d) ≡ key_of (route_of (identifier_of id)) d
unfolding frame_key
key_read id d = key_of_lem (key_of (route_of (identifier_of id)) d) (record { da = omega arith; session = omega arith })

judged_agrees : (r : Receiver) (id : ℕ) (d m : List ℕ) (κ : Key) (a b c : Bool) (w : Result Content Refusal) (x : Option Body) → Agrees r d m κ (on_verdict w r d m) x
    → Agrees r d m κ (on_verdict (cond a (Err IdentifierRange) (cond (not b) (Err FrameLength) (cond (not c) (Err NotTaken) w))) r d m)
    (cond (not (not a && (b && c))) None x)
judged_agrees r id d m κ true b c w x h = record { does = foreign r m IdentifierRange refl }
judged_agrees r id d m κ false false c w x h = record { does = foreign r m FrameLength refl }
judged_agrees r id d m κ false true false w x h = record { does = foreign r m NotTaken refl }
judged_agrees r id d m κ false true true w x h = h

-- the receiver and the rules read the frame alike
pub frame_agrees : (r : Receiver) (id : ℕ) (d m : List ℕ) → Agrees r d m (key_at (frame_key id d)) (on_verdict (judged r.own id (length d)) r d m) (body_of r.own id d)
unfolding judged body_of
frame_agrees r id d m =
    rw (key_read id d, taken_same r.own id d)
    (judged_agrees r id d m (key_of (route_of (identifier_of id)) d) (leb 536870912 id) (is_length (length d)) (route_taken r.own (identifier_of id))
    (by_format (identifier_of id).pf (route_of (identifier_of id))) _ (format_agrees r id d m (identifier_of id).pf (route_of (identifier_of id))))

-- an own frame's key has addresses that are taken here
untaken : (t : Bool) (x : Option Body) (b : Body) → cond (not t) None x ≡ Some b → t ≡ true
untaken true x b e = refl
untaken false x b e = cc

pub frame_mine : (v : Values) (id : ℕ) (d : List ℕ) (b : Body) → v.own.0 ≤ 253 → body_of v.own id d ≡ Some b → Mine v (frame_key id d)
unfolding body_of F.taken frame_key
frame_mine v id d b small e =
    let t = untaken (F.taken v.own id d) _ b e in
    let t₁ = and_right (ltb id (2 ^ 29)) _ t in
    let t₂ = and_right (is_one_of (length d) fd_lengths) _ t₁ in
    let t₃ = and_right (eqb (identifier_of id).extended_data_page 0) _ t₂ in
    let t₄ = and_right (eqb (identifier_of id).data_page 0) _ t₃ in
    let da = and_left (eqb (identifier_of id).ps v.own.0 || eqb (identifier_of id).ps 255) _ t₄ in
    let t₅ = and_right (eqb (identifier_of id).ps v.own.0 || eqb (identifier_of id).ps 255) _ t₄ in
    let sa : (identifier_of id).sa.0 < 254 = ltb-true (identifier_of id).sa.0 254 (and_left (ltb (identifier_of id).sa.0 254) _ t₅) in
    let other = and_right (ltb (identifier_of id).sa.0 254) (not (eqb (identifier_of id).sa.0 v.own.0)) t₅ in
    let e₁ : (key_at ((identifier_of id).sa.0 * 4096 + (identifier_of id).ps * 16 + session_at d)).sa.0 ≡ (identifier_of id).sa.0 = omega arith in
    let e₂ : (key_at ((identifier_of id).sa.0 * 4096 + (identifier_of id).ps * 16 + session_at d)).da.0 ≡ (identifier_of id).ps = omega arith in
    record {
      own = small;
      taken = record {
        da = rw e₂ da;
        sa = omega arith;
        foreign = rw e₁ (not-true (eqb (identifier_of id).sa.0 v.own.0) other);
        session = omega arith;
      };
    }
