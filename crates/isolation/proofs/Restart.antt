-- A repeated RTS is a fresh start: 02, E1. It starts its session anew in the slot that it has, and changes no byte of the store; and every
-- byte that is handed over after it came after it.
use Rattle.std.specs.Prelude.{Ok, Option, Some, ℕ, is_some}
use Prim.Native.Nat.{ℕ, ◌≤◌}
use mathlib.Core.Path.{◌≡◌, refl, sym, ap, ◌∙◌, subst}
use mathlib.Core.Logic.{◌⊎◌, inl, inr}
use mathlib.Core.Bool.{Bool, true, false, cond, not, ◌||◌, false≢true}
use mathlib.Core.List.{List, [], ◌∷◌}
use native.Mathlib.Omega.{arith}
use lib.Dec.{eqb}
use lib.ListN.{length, take}
use borrow.Author.Tests.{eqb-true, eq-eqb}
use Rattle.frame.specs.Judge.{judged}
use Rattle.frame.specs.declared.refusal.Refusal.TheVariants.{OutOfBounds}
use Rattle.transport.specs.Kinds.{is_rts}
use Rattle.transport.specs.declared.Key.{Key}
use Rattle.transport.specs.declared.announcement.Announcement.{Announcement}
use Rattle.answer.specs.declared.Answer.TheVariants.{Grant}
use Rattle.answer.specs.Answers.{answer_number}
use Rattle.session.specs.declared.Session.{Session}
use Rattle.session.specs.declared.Change.TheVariants.{Opens}
use Rattle.session.specs.declared.Step.{Step}
use Rattle.session.specs.Announcements.{misdirected, form_of, session_of, first_cts}
use Rattle.session.specs.Decisions.{is_restart, announced_to}
use Rattle.slots.specs.Slots.{key_place, first_free, state_in, or_else}
use Rattle.receiver.specs.declared.Receiver.{Receiver}
use Rattle.receiver.specs.Bounds.{in_bounds}
use Rattle.receiver.specs.Calls.{answered, with_slot, apply, is_ready, refused, on_verdict, frame_all, frame_step}
use Rattle.isolation.specs.Standard.{Cause, number_for}
use Rattle.isolation.specs.OwnFrames as F
use Rattle.isolation.specs.Rules as R
use Rattle.isolation.specs.OwnFrames.{key_at, frame_key, Body, announce, segment, status, abort, body_of}
use Rattle.isolation.specs.Replies.{Reply, rejected, sent, abort_frame, refuse, reject, hand_over}
use Rattle.isolation.specs.Rules.{Values, Out, Piece, opens, announced, due, adds, rule, joined, piece_at, is_taken, Input, mine, now, Seen, answer, reading, next_state, output, outputs}
use Rattle.isolation.specs.World.{frame, Call, lent, World, eight_others, sees, sees_body, after, world_after, told}
use Rattle.isolation.specs.Observe.{reply_of, is_body, is_own, frame_seen, shows, record_after, store_after, observed}
use Rattle.isolation.specs.Stands.{values_of, stands_for}
use Rattle.isolation.proofs.Tests.{and_left}
use Rattle.isolation.proofs.Slots.{at}
use Rattle.isolation.proofs.Same.{refusal_for, number_same}
use Rattle.isolation.proofs.Lowest.{some_number}
use Rattle.isolation.proofs.Read.{Takes, frame_agrees}
use Rattle.isolation.proofs.InBounds.{bounds_sim}
use Rattle.isolation.proofs.Run.{keeps, run}
use Rattle.isolation.proofs.Announced.{Comes, astray, refused as turned-away, accepted, comes}
use Rattle.isolation.proofs.Kept.{IfOpen, rule_keeps, reading_keeps}
use Rattle.isolation.proofs.Gathered.{distinct_all}
use Rattle.isolation.proofs.Message.{Whole, WholeIf, opens_whole, rule_whole, is_handed, Hands, hands_over_lem}

-- ---- in the record

-- what a restart decides, whether or not there is a slot free
decides : (s : Session) (room : Bool) (κ : Key) (a : Announcement) (last : ℕ) → misdirected κ.da a.kind ≡ false → form_of a ≡ Ok tt → is_restart s a ≡ true
    → announced_to (Some s) room κ a last ≡ record { change = Opens (session_of κ a last); answer = Grant (first_cts κ a) }
unfolding announced_to
decides s room κ a last aimed good again =
    rw (aimed, good, again, and_left (is_rts a.kind) (eqb a.pgn s.announced.pgn) again)

-- On every record in bounds and with the store, for a key that is open in slot i: an RTS in good form of the PGN announced starts the
-- session anew in slot i, with none taken and marked with the last reading, and is answered by the CTS from segment 1, whatever other
-- slots are open. No other slot and no byte of the store changes.
pub restarts_in_place : (r : Receiver) (id : ℕ) (d m : List ℕ) → is_ready r m ≡ true
    → (a : Announcement) → body_of r.own id d ≡ Some (announce a) → misdirected (key_at (frame_key id d)).da a.kind ≡ false → form_of a ≡ Ok tt
    → (i : ℕ) (s : Session) → key_place (key_at (frame_key id d)) r.slots ≡ Some i → at r.slots i ≡ Some s → is_restart s a ≡ true
    → frame_all r id d m
    ≡ (answered (with_slot r i (Some (session_of (key_at (frame_key id d)) a r.last))) (Grant (first_cts (key_at (frame_key id d)) a)), m)
unfolding frame_all
restarts_in_place r id d m ready a body aimed good i s found state again =
    ap (λ (t : Bool). cond t (on_verdict (judged r.own id (length d)) r d m) (refused r OutOfBounds, m)) ready
    ∙ (subst (Takes r d m κ (on_verdict (judged r.own id (length d)) r d m)) body (frame_agrees r id d m).does).0
    ∙ ap (λ (f : Option ℕ). (apply r f (announced_to (state_in f r.slots) (is_some f) κ a r.last), m)) (ap (λ (f : Option ℕ). or_else f (first_free r.slots)) found)
    ∙ ap (λ (y : Option Session). (apply r (Some i) (announced_to y true κ a r.last), m)) state
    ∙ ap (λ (st : Step). (apply r (Some i) st, m)) (decides s true κ a r.last aimed good again)
  where
    κ : Key
    κ = key_at (frame_key id d)

-- ---- data that came

-- the frame is segment n, and these bytes are its data due in a message of so many
abbrev pub Brings : ℕ → ℕ → List ℕ → Input → Type 0
Brings total n bytes (mine eight (segment format i d)) = (i ≡ n) × (bytes ≡ take (due total n) d)
Brings total n bytes (mine eight (announce a)) = ⊥
Brings total n bytes (mine eight (status s)) = ⊥
Brings total n bytes (mine eight (abort pgn)) = ⊥
Brings total n bytes (now t) = ⊥

abbrev pub Came : ℕ → ℕ → List ℕ → List Input → Type 0
Came total n bytes [] = ⊥
Came total n bytes (x ∷ xs) = Brings total n bytes x ⊎ Came total n bytes xs

-- a message is handed over, and the data of each of its segments came among xs
pub record HandsSince (k : ℕ) (xs : List Input) (y : Reply) : Type 0 where
  pub told : Announcement
  pub pieces : List Piece
  pub reply : y ≡ hand_over k told (joined told.segments.0 pieces)
  pub came : (n : ℕ) → 1 ≤ n → n ≤ told.segments.0 → Came told.total.0 n (piece_at n pieces) xs

abbrev pub Among : Seen → List Seen → Type 0
Among y [] = ⊥
Among y (x ∷ l) = (y ≡ x) ⊎ Among y l

-- all that a session has taken came among xs
abbrev AllCame : List Input → ℕ → List Piece → Type 0
AllCame xs total [] = Unit {0}
AllCame xs total (p ∷ ps) = Came total p.number p.bytes xs × AllCame xs total ps

abbrev Since : List Input → R.Open → Type 0
Since xs ρ = AllCame xs ρ.told.total.0 ρ.pieces

one_of : (xs : List Input) (total : ℕ) (ps : List Piece) → AllCame xs total ps → (n : ℕ) → is_taken n ps ≡ true → Came total n (piece_at n ps) xs
unfolding is_taken piece_at
one_of xs total [] h n e = absurd (false≢true e)
one_of xs total (p ∷ ps) (c, h) n e = go (eqb p.number n) refl e (one_of xs total ps h n)
  where
    go : (t : Bool) → eqb p.number n ≡ t → (t || is_taken n ps) ≡ true → (is_taken n ps ≡ true → Came total n (piece_at n ps) xs)
        → Came total n (cond t p.bytes (piece_at n ps)) xs
    go true q e f = subst (λ (i : ℕ). Came total i p.bytes xs) (eqb-true p.number n q) c
    go false q e f = f e

-- ---- by the rules: from a session with none taken on

same_answer : (y z : Reply) → answer y ≡ answer z → y ≡ z
same_answer y z e = cc

no_answer : (y : Reply) (n : ℕ) (l : List Reply) → answer y ≡ reading n l → ⊥
no_answer y n l e = let z : ◌≡◌ {A = ℕ} 0 1 = cc in omega arith

opens_since : (xs : List Input) (k last : ℕ) (a : Announcement) → IfOpen (Since xs) (opens k last a).0
unfolding opens
opens_since xs k last a = tt

adds_since : (xs : List Input) (k last : ℕ) (ρ : R.Open) (n : ℕ) (d : List ℕ) → Came ρ.told.total.0 n (take (due ρ.told.total.0 n) d) xs → Since xs ρ
    → IfOpen (Since xs) (adds k last ρ n d).0
unfolding adds
adds_since xs k last ρ n d c h = (c, h)

asks_since : (xs : List Input) (k last : ℕ) (ρ : R.Open) → Since xs ρ → IfOpen (Since xs) (R.asks k last ρ).0
unfolding R.asks
asks_since xs k last ρ h = h

module _ (v : Values) (k : ℕ) (xs : List Input) where
  hands_since : (x : Option R.Open) (q : Out) → WholeIf x → IfOpen (Since xs) x → Hands k x q → HandsSince k xs q.1
  hands_since x q w h o =
      let ρ : R.Open = o.session in
      let whole : Whole ρ = subst WholeIf o.was w in
      let since : Since xs ρ = subst (IfOpen (Since xs)) o.was h in
      record {
        told = ρ.told;
        pieces = ρ.pieces;
        reply = o.reply;
        came = λ n l u. one_of xs ρ.told.total.0 ρ.pieces since n (distinct_all (λ n b. length b ≡ due ρ.told.total.0 n) ρ.told.segments.0 ρ.pieces whole.filled o.all_in_lem n l u);
      }

  -- ys: what is left of xs
  went : (s : R.State) (ys : List Input) → ((total n : ℕ) (bytes : List ℕ) → Came total n bytes ys → Came total n bytes xs)
      → WholeIf s.session → IfOpen (Since xs) s.session → (y : Reply) → Among (answer y) (outputs v k s ys) → is_handed y.says ≡ true → HandsSince k xs y
  unfolding outputs output next_state
  went s [] left w h y a e = absurd a
  went s (now t ∷ ys) left w h y (inl q) e = absurd (no_answer y _ _ q)
  went s (now t ∷ ys) left w h y (inr a) e =
      went (next_state v k s (now t)) ys (λ total n bytes c. left total n bytes (inr c))
      (reading_keeps Whole v t s.session w) (reading_keeps (Since xs) v t s.session h) y a e
  went s (mine eight b ∷ ys) left w h y (inl q) e =
      let same : y ≡ (rule v k s.last eight s.session b).1 = same_answer y _ q in
      subst (HandsSince k xs) (sym same)
      (hands_since s.session (rule v k s.last eight s.session b) w h
      (hands_over_lem v k s.last eight s.session b w (subst (λ (z : Reply). is_handed z.says ≡ true) same e)))
  went s (mine eight b ∷ ys) left w h y (inr a) e =
      went (next_state v k s (mine eight b)) ys (λ total n bytes c. left total n bytes (inr c))
      (rule_whole v k s.last eight s.session b w)
      (rule_keeps (Since xs) v k s.last eight s.session b (λ a _. opens_since xs k s.last a)
      (λ format n d is ρ all _. adds_since xs k s.last ρ n d (left _ _ _ (inl (brings n format d ρ.told.total.0 is))) all) (asks_since xs k s.last) h) y a e
    where
      brings : (n format : ℕ) (d : List ℕ) (total : ℕ) → b ≡ segment format n d → Brings total n (take (due total n) d) (mine eight b)
      brings n format d total is = subst (λ (z : Body). Brings total n (take (due total n) d) (mine eight z)) (sym is) (refl, refl)

-- ---- an announcement that is accepted opens with none taken

reject_number : (k : ℕ) (a : Announcement) (c : Cause) → (reject k a c).number ≡ number_for c
unfolding reject
reject_number k a c = go (F.is_rts a.kind)
  where
    go : (t : Bool) → (cond t (record { number = number_for c; says = rejected (key_at k) a.pgn; sends = sent (abort_frame k c a.pgn) }) (refuse (number_for c))).number ≡ number_for c
    go true = refl
    go false = refl

opens_if : (k last : ℕ) (x : Option R.Open) (a : Announcement) {q : Out} → Comes k last x a q → q.1.number ≡ 0 → (R.bad_numbers a ≡ false) × (q ≡ opens k last a)
opens_if k last x a astray e = absurd (let z : ◌≡◌ {A = ℕ} 11 0 = e in omega arith)
opens_if k last x a (turned-away c) e = absurd (some_number (refusal_for c) (number_same c ∙ sym (reject_number k a c) ∙ e))
opens_if k last x a (accepted good) e = (good, refl)

-- ---- the receiver

same_head : (y z : Reply) → ◌≡◌ {A = List Seen} (answer y ∷ []) (answer z ∷ []) → y ≡ z
same_head y z e = cc

module _ (r : Receiver) (m : List ℕ) (bounds : in_bounds r ≡ true) (eight : length r.slots ≡ 8) (whole : length m ≡ 32768)
    (id : ℕ) (d : List ℕ) (a : Announcement) (body : body_of r.own id d ≡ Some (announce a)) (zero_is : answer_number (frame_step r id d m).answer ≡ 0) where
  abbrev v : Values
  v = values_of r

  abbrev w : World
  w = stands_for r m

  abbrev k : ℕ
  k = frame_key id d

  abbrev c : Call
  c = lent (frame id d)

  abbrev q : Out
  q = rule v k (w k).last (eight_others w k) (w k).session (announce a)

  says : reply_of (frame_all r id d m).0.answer (frame_all r id d m).1 ≡ q.1
  unfolding shows frame_seen is_own is_body sees sees_body outputs output
  says = same_head _ _ (rw (body, eq-eqb (frame_key id d) (frame_key id d) refl) at ((keeps v r m w (bounds_sim r m bounds eight whole) c).says k))

  opened : (R.bad_numbers a ≡ false) × (q ≡ opens k (w k).last a)
  unfolding rule reply_of
  opened = opens_if k (w k).last (w k).session a (comes k (w k).last a v.own (eight_others w k) (w k).session) (sym (ap (λ (y : Reply). y.number) says) ∙ zero_is)

  after_it : (world_after v w c k).session ≡ (opens k (w k).last a).0
  unfolding world_after sees sees_body after next_state
  after_it = rw (body, eq-eqb (frame_key id d) (frame_key id d) refl) (ap (λ (x : Out). x.0) opened.1)

  -- AFTER A RESTART EVERY BYTE HANDED OVER CAME AFTER IT. After an own announcement that is accepted, for a closed key or as a restart,
  -- on every record in bounds and whatever the store holds: every message that a list of calls shows for the key is made of the data due
  -- in its segments, each out of an own data frame of that number in that list.
  pub came_after : (cs : List Call) (y : Reply)
      → Among (answer y) (observed (values_of r) (frame_key id d) (record_after r m (lent (frame id d))) (store_after r m (lent (frame id d))) cs)
      → is_handed y.says ≡ true
      → HandsSince (frame_key id d) (told (values_of r) (world_after (values_of r) (stands_for r m) (lent (frame id d))) (frame_key id d) cs) y
  came_after cs y among handed =
      went v k (told v (world_after v w c) k cs) (world_after v w c k) (told v (world_after v w c) k cs) (λ total n bytes g. g)
      (subst WholeIf (sym after_it) (opens_whole k (w k).last a opened.0))
      (subst (IfOpen (Since (told v (world_after v w c) k cs))) (sym after_it) (opens_since (told v (world_after v w c) k cs) k (w k).last a)) y
      (subst (Among (answer y)) (run v k cs (record_after r m c) (store_after r m c) (world_after v w c) (keeps v r m w (bounds_sim r m bounds eight whole) c).next) among) handed
