-- The identifier of every frame that is sent has its place in four bytes: the addresses in it are those of a key.
use Rattle.std.specs.Prelude.{None, Option, Some}
use Prim.Native.Nat.{ℕ, ◌<◌, ◌≤◌}
use native.Mathlib.Omega.{arith}
use mathlib.Core.Path.{◌≡◌, refl, sym, ap, subst}
use mathlib.Core.Bool.{Bool, true, false, cond, not, ◌||◌}
use mathlib.Core.List.{List, [], ◌∷◌}
use lib.Dec.{eqb, leb, ltb}
use lib.ListN.{length}
use borrow.Author.Tests.{eqb-true, leb-true}
use mathlib.Mathlib.Data.Bool.Basic.{and_elim_left, and_elim_right}
use Rattle.laws.specs.Choice.{each_of}
use Rattle.frame.specs.Judge.{judged}
use Rattle.frame.specs.declared.Address.{Address}
use Rattle.frame.specs.declared.refusal.Refusal.TheVariants.{OutOfBounds}
use Rattle.transport.specs.Kinds.{is_rts}
use Rattle.transport.specs.declared.Key.{Key}
use Rattle.transport.specs.declared.announcement.Announcement.{Announcement}
use Rattle.transport.specs.Heads.{id_to, to_originator}
use Rattle.answer.specs.declared.Answer.{Answer}
use Rattle.answer.specs.Answers.{answer_sends, wire_of}
use Rattle.session.specs.declared.Session.{Session}
use Rattle.session.specs.Bounds.{session_ok}
use Rattle.session.specs.InBounds.{sound_of}
use Rattle.receiver.specs.declared.Receiver.{Receiver}
use Rattle.receiver.specs.Bounds.{in_bounds}
use Rattle.receiver.specs.Calls.{Outcome, refused, is_ready, on_verdict, frame_all, frame_step}
use Rattle.isolation.specs.Standard.{Cause}
use Rattle.isolation.specs.OwnFrames as own-frames
use Rattle.isolation.specs.OwnFrames.{key_at, frame_key, Body, announce, segment, status, abort, body_of}
use Rattle.isolation.specs.Replies.{Wire, Reply, sent, reject, ending, cts, plain, hand_over}
use Rattle.isolation.specs.Rules.{Values, Open, Out, opens, announced, out_of_turn, is_taken, due, adds, spent, segment_open, as_announced, asks, lacks, status_open, abort_open, if_open, rule}
use Rattle.isolation.specs.Observe.{reply_of}
use Rattle.isolation.specs.Stands.{values_of, stands_for}
use Rattle.isolation.proofs.Announced.{Comes, astray, refused as turned-away, accepted, comes}
use Rattle.isolation.proofs.Single.{body_step}
use Rattle.isolation.proofs.Read.{Plain, plain_sends, Takes, frame_agrees, frame_mine}
use Rattle.isolation.proofs.Many.{Sim, own_small, body_fit}
use Rattle.isolation.proofs.InBounds.{bounds_sim}
use Rattle.carried.proofs.ReadBack.{WireFits}

-- ---- keys

pub id_fits : (κ : Key) → κ.sa.0 ≤ 255 → κ.da.0 ≤ 255 → to_originator κ < 4294967296
unfolding id_to
id_fits κ a b = omega arith

pub session_id_fits : (own : Address) (s : Session) → own.0 ≤ 253 → session_ok own s ≡ true → to_originator s.announced.key < 4294967296
session_id_fits own s h ok =
    let t = each_of (leb s.announced.key.sa.0 253 ∷ not (eqb s.announced.key.sa.0 own.0) ∷ eqb s.announced.key.da.0
    (cond (is_rts s.announced.kind) own.0 255) ∷ leb s.announced.key.session.0 15 ∷ []) (sound_of own s ok).key in
    let a : s.announced.key.sa.0 ≤ 253 = leb-true s.announced.key.sa.0 253 t.0 in
    let b : s.announced.key.da.0 ≤ 255 = rw (eqb-true s.announced.key.da.0 (cond (is_rts s.announced.kind) own.0 255) t.1.1.0) (either (is_rts s.announced.kind)) in
    id_fits s.announced.key (omega arith) b
  where
    either : (b : Bool) → cond b own.0 255 ≤ 255
    either true = omega arith
    either false = omega arith

-- ---- what the rules of a key send

abbrev Sends : Reply → Type 0
Sends y = WireFits y.sends

sends_if : (t : Bool) (a b : Out) → Sends a.1 → Sends b.1 → Sends (cond t a b).1
sends_if true a b e f = e
sends_if false a b e f = f

reply_if : (t : Bool) (a b : Reply) → Sends a → Sends b → Sends (cond t a b)
reply_if true a b e f = e
reply_if false a b e f = f

wire_if : (t : Bool) (a b : Option Wire) → WireFits a → WireFits b → WireFits (cond t a b)
wire_if true a b e f = e
wire_if false a b e f = f

module _ (k : ℕ) (low : k < 1048576) where
  key_fits : to_originator (key_at k) < 4294967296
  key_fits = id_fits (key_at k) (omega arith) (omega arith)

  reject_fits : (a : Announcement) (c : Cause) → Sends (reject k a c)
  unfolding reject sent
  reject_fits a c = reply_if (own-frames.is_rts a.kind) _ _ key_fits tt

  ending_fits : (a : Announcement) (c : Cause) → Sends (ending k a c)
  unfolding ending sent
  ending_fits a c = wire_if (own-frames.is_rts a.kind) _ _ key_fits tt

  cts_fits : (next count pgn : ℕ) → Sends (cts k next count pgn)
  unfolding cts sent
  cts_fits next count pgn = key_fits

  hand_fits : (a : Announcement) (bytes : List ℕ) → Sends (hand_over k a bytes)
  unfolding hand_over sent
  hand_fits a bytes = wire_if (own-frames.is_rts a.kind) _ _ key_fits tt

  opens_fits : (last : ℕ) (a : Announcement) → Sends (opens k last a).1
  unfolding opens
  opens_fits last a = reply_if (own-frames.is_rts a.kind) _ _ (cts_fits _ _ _) tt

  announce_fits : (own : Address) (last : ℕ) (eight : Bool) (x : Option Open) (a : Announcement) → Sends (announced own k last eight x a).1
  announce_fits own last eight x a = go (comes k last a own eight x)
    where
      go : {q : Out} → Comes k last x a q → Sends q.1
      go astray = tt
      go (turned-away c) = reject_fits a c
      go (accepted good) = opens_fits last a

  segment_fits : (last : ℕ) (ρ : Open) (n : ℕ) (d : List ℕ) → Sends (segment_open k last ρ n d).1
  unfolding segment_open adds
  segment_fits last ρ n d =
      sends_if (eqb n 0 || is_taken n ρ.pieces) _ _ tt
      (sends_if (out_of_turn ρ n || ltb ρ.told.segments.0 n) _ _ (ending_fits ρ.told _)
      (sends_if (ltb (length d) (due ρ.told.total.0 n)) _ _ tt
      (reply_if (spent ρ n) _ _ (cts_fits _ _ _) tt)))

  rule_fits : (v : Values) (last : ℕ) (eight : Bool) (x : Option Open) (b : Body) → Sends (rule v k last eight x b).1
  unfolding rule status_open lacks asks abort_open
  rule_fits v last eight x (announce a) = announce_fits v.own last eight x a
  rule_fits v last eight x (segment format n d) = sends_if (not (eqb format 0)) _ _ tt (go x)
    where
      go : (x : Option Open) → Sends (if_open x (λ ρ. segment_open k last ρ n d)).1
      go None = tt
      go (Some ρ) = segment_fits last ρ n d
  rule_fits v last eight None (status s) = tt
  rule_fits v last eight (Some ρ) (status s) =
      sends_if (not (as_announced ρ s)) _ _ (ending_fits ρ.told _)
      (sends_if (eqb (length ρ.pieces) ρ.told.segments.0) _ _ (hand_fits ρ.told _)
      (sends_if (not (own-frames.is_rts ρ.told.kind)) _ _ (ending_fits ρ.told _)
      (sends_if (ltb ρ.requests 5) _ _ (cts_fits _ _ _) (ending_fits ρ.told _))))
  rule_fits v last eight None (abort pgn) = tt
  rule_fits v last eight (Some ρ) (abort pgn) = sends_if (eqb pgn ρ.told.pgn) _ _ tt tt

-- ---- a frame

frame_key_low : (id : ℕ) (d : List ℕ) → frame_key id d < 1048576
unfolding frame_key
frame_key_low id d = omega arith

sends_of : (z : Outcome) (y : Reply) → reply_of z.0.answer z.1 ≡ y → wire_of (answer_sends z.0.answer) ≡ y.sends
unfolding reply_of
sends_of z y q = ap (λ (x : Reply). x.sends) q

pub frame_sends : (r : Receiver) (id : ℕ) (d m : List ℕ) → length r.slots ≡ 8 → WireFits (wire_of (answer_sends (frame_step r id d m).answer))
unfolding frame_all
frame_sends r id d m eight = go (is_ready r m) refl
  where
    o : Outcome
    o = on_verdict (judged r.own id (length d)) r d m

    nothing : (a : Answer) → answer_sends a ≡ None → WireFits (wire_of (answer_sends a))
    nothing a e = rw e tt

    read : is_ready r m ≡ true → (b : Option Body) → body_of r.own id d ≡ b → Takes r d m (key_at (frame_key id d)) o b → WireFits (wire_of (answer_sends o.0.answer))
    read e None body f =
        nothing o.0.answer (plain_sends o.0.answer (subst (λ (z : Outcome). Plain z.0.answer) (sym f.same) f.plain))
    read e (Some b) body t =
        let sim : Sim (values_of r) r m (stands_for r m) = bounds_sim r m (and_elim_right (eqb (length m) 32768) (in_bounds r) e) eight
        (eqb-true (length m) 32768 (and_elim_left (eqb (length m) 32768) (in_bounds r) e)) in
        let fit = body_fit (values_of r) r m (stands_for r m) sim (frame_key id d) (frame_mine (values_of r) id d b (own_small r.own r.limits sim.good) body) b d t.1 in
        subst (λ (z : Outcome). WireFits (wire_of (answer_sends z.0.answer))) (sym t.0)
        (subst WireFits (sym (sends_of (body_step r (key_at (frame_key id d)) b d m) _ fit.reply)) (rule_fits (frame_key id d) (frame_key_low id d) (values_of r) r.last _ _ b))

    go : (t : Bool) → is_ready r m ≡ t → WireFits (wire_of (answer_sends (cond t o (refused r OutOfBounds, m)).0.answer))
    go true e = read e (body_of r.own id d) refl (frame_agrees r id d m).does
    go false e = tt
