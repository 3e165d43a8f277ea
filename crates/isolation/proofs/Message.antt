-- A message is handed over once, and is exactly its Total Bytes: a theorem on the rules of one session.
use Rattle.std.specs.Prelude.{None, Option, Some}
use Prim.Native.Nat.{ℕ, zero, suc, ◌+◌, ◌*◌, ◌-◌, ◌/◌, ◌≤◌, min}
use mathlib.Core.Path.{◌≡◌, refl, ap, ◌∙◌}
use mathlib.Core.Bool.{Bool, true, false, cond, not, ◌&&◌, ◌||◌}
use mathlib.Core.List.{List, [], ◌∷◌}
use native.Mathlib.Omega.{arith}
use lib.Dec.{eqb, ltb}
use lib.ListN.{length, length-take, length-append}
use borrow.Author.Tests.{ltb-false, eqb-true, eqb-false, not-false}
use Rattle.isolation.specs.Standard.{Cause}
use Rattle.transport.specs.declared.announcement.Announcement.{Announcement}
use Rattle.transport.specs.declared.eoms.Status.{Status}
use Rattle.session.specs.Segments.{due_of}
use Rattle.isolation.specs.OwnFrames as F
use Rattle.isolation.specs.Replies as P
use Rattle.isolation.specs.Rules as R
use Rattle.isolation.specs.OwnFrames.{Body, announce, segment, status, abort}
use Rattle.isolation.specs.Replies.{Reply, Says, nothing, reject, ending, cts, hand_over}
use Rattle.isolation.specs.Rules.{Values, Open, Out, State, Piece, out_of_turn, opens, announced, due, sixties, spent, adds, as_announced, asks, lacks, segment_open, status_open, abort_open, rule, if_open, joined, piece_at, is_taken, is_open, Input, mine, now, next_state, fresh}
use Rattle.isolation.specs.World.{after}
use Rattle.isolation.proofs.Tests.{or-false, clash, either_way, or_left, or_right}
use Rattle.isolation.proofs.Same.{sixties_same, due_same}
use Rattle.isolation.proofs.Gathered.{Distinct, distinct_at, distinct_all}
use Rattle.isolation.proofs.Announced.{Comes, astray, refused, accepted, comes}
use Rattle.isolation.proofs.Kept.{IfOpen, Passes, rule_keeps, reading_keeps}

-- ---- what an open session has taken

-- segments of the message, none twice, each with the data due
pub record Whole (ρ : Open) : Type 0 where
  pub count : ρ.told.segments.0 ≡ sixties ρ.told.total.0
  pub filled : Distinct (λ n b. length b ≡ due ρ.told.total.0 n) ρ.told.segments.0 ρ.pieces

abbrev pub WholeIf : Option Open → Type 0
WholeIf x = IfOpen Whole x

joined_length : (total segments : ℕ) (xs : List Piece) → segments ≡ (total + 59) / 60 → (n : ℕ) → n ≤ segments
    → ((i : ℕ) → 1 ≤ i → i ≤ n → length (piece_at i xs) ≡ due total i) → length (joined n xs) ≡ min (60 * n) total
unfolding joined due_of
joined_length total segments xs s zero u h = omega arith
joined_length total segments xs s (suc n) u h =
    let a : length (joined n xs) ≡ min (60 * n) total = joined_length total segments xs s n (omega arith) (λ i l r. h i l (omega arith)) in
    let b : length (piece_at (suc n) xs) ≡ min 60 (total - 60 * (suc n - 1)) = h (suc n) (omega arith) (omega arith) ∙ due_same total (suc n) (omega arith) in
    length-append (joined n xs) (piece_at (suc n) xs) ∙ sum (length (joined n xs)) (length (piece_at (suc n) xs)) a b
  where
    sum : (p q : ℕ) → p ≡ min (60 * n) total → q ≡ min 60 (total - 60 * (suc n - 1)) → p + q ≡ min (60 * suc n) total
    sum p q a b = omega arith

-- ---- each own frame keeps it

pub opens_whole : (k last : ℕ) (a : Announcement) → R.bad_numbers a ≡ false → WholeIf (opens k last a).0
unfolding opens R.bad_numbers
opens_whole k last a bad = record {
  count = eqb-true a.segments.0 (sixties a.total.0) (not-false (eqb a.segments.0 (sixties a.total.0))
      (or_left (not (eqb a.segments.0 (sixties a.total.0))) (F.is_rts a.kind && eqb a.max 0)
      (or_right (eqb a.total.0 0) (not (eqb a.segments.0 (sixties a.total.0)) || (F.is_rts a.kind && eqb a.max 0)) bad)));
  filled = tt;
}

adds_whole : (k last : ℕ) (ρ : Open) (n : ℕ) (d : List ℕ) → Whole ρ → Passes ρ n d → WholeIf (adds k last ρ n d).0
unfolding adds
adds_whole k last ρ n d h p =
    let l₀ : n ≡ 0 → ⊥ = eqb-false n 0 (or_left (eqb n 0) (is_taken n ρ.pieces) p.new) in
    let l₁ : n ≤ ρ.told.segments.0 = ltb-false ρ.told.segments.0 n (or_right (out_of_turn ρ n) (ltb ρ.told.segments.0 n) p.inside) in
    let l₂ : due ρ.told.total.0 n ≤ length d = ltb-false (length d) (due ρ.told.total.0 n) p.enough in
    record {
      count = h.count;
      filled = (omega arith, l₁, or_right (eqb n 0) (is_taken n ρ.pieces) p.new, length-take (due ρ.told.total.0 n) d ∙ least (due ρ.told.total.0 n) (length d) l₂, h.filled);
    }
  where
    least : (a b : ℕ) → a ≤ b → min a b ≡ a
    least a b h = omega arith

asks_whole : (k last : ℕ) (ρ : Open) → Whole ρ → WholeIf (asks k last ρ).0
unfolding asks
asks_whole k last ρ h = record { count = h.count; filled = h.filled }

pub rule_whole : (v : Values) (k last : ℕ) (eight : Bool) (x : Option Open) (b : Body) → WholeIf x → WholeIf (rule v k last eight x b).0
rule_whole v k last eight x b =
    rule_keeps Whole v k last eight x b (opens_whole k last) (λ format n d e ρ. adds_whole k last ρ n d) (asks_whole k last)

-- ... and so does every list of frames and readings, from the opening on
pub after_whole : (v : Values) (k : ℕ) (s : State) (xs : List Input) → WholeIf s.session → WholeIf (after v k s xs).session
unfolding after next_state
after_whole v k s [] h = h
after_whole v k s (mine eight b ∷ xs) h =
    after_whole v k (next_state v k s (mine eight b)) xs (rule_whole v k s.last eight s.session b h)
after_whole v k s (now t ∷ xs) h = after_whole v k (next_state v k s (now t)) xs (reading_keeps Whole v t s.session h)

-- ---- a message handed over

abbrev pub is_handed : Says → Bool
is_handed nothing = false
is_handed (P.opened k) = false
is_handed (P.took k n) = false
is_handed (P.granted k next count pgn) = false
is_handed (P.handed k kind total segments pgn bytes) = true
is_handed (P.aborted k) = false
is_handed (P.ended k kind pgn) = false
is_handed (P.rejected k pgn) = false

-- the open session of the key has every segment and is closed, and its message is its data joined, Total Bytes in all
pub record Hands (k : ℕ) (x : Option Open) (q : Out) : Type 0 where
  pub session : Open
  pub was : x ≡ Some session
  pub all_in_lem : length session.pieces ≡ session.told.segments.0
  pub closed : q.0 ≡ None
  pub reply : q.1 ≡ hand_over k session.told (joined session.told.segments.0 session.pieces)
  pub size : length (joined session.told.segments.0 session.pieces) ≡ session.told.total.0

-- if it hands over
abbrev HandsIf : ℕ → Option Open → Out → Type 0
HandsIf k x q = is_handed q.1.says ≡ true → Hands k x q

not_handed : (k : ℕ) (x : Option Open) (q : Out) → is_handed q.1.says ≡ false → is_handed q.1.says ≡ true → Hands k x q
not_handed k x q e f = absurd (clash (is_handed q.1.says) f e)

quiet_reply : (t : Bool) (p q : Reply) → is_handed p.says ≡ false → is_handed q.says ≡ false → is_handed (cond t p q).says ≡ false
quiet_reply true p q a b = a
quiet_reply false p q a b = b

reject_quiet : (k : ℕ) (a : Announcement) (c : Cause) → is_handed (reject k a c).says ≡ false
unfolding reject
reject_quiet k a c = quiet_reply (F.is_rts a.kind) _ _ refl refl

opens_quiet : (k last : ℕ) (a : Announcement) → is_handed (opens k last a).1.says ≡ false
unfolding opens cts
opens_quiet k last a = quiet_reply (F.is_rts a.kind) _ _ refl refl

announce_hands : (v : Values) (k last : ℕ) (eight : Bool) (x : Option Open) (a : Announcement)
    → is_handed (announced v.own k last eight x a).1.says ≡ true → Hands k x (announced v.own k last eight x a)
announce_hands v k last eight x a = go (comes k last a v.own eight x)
  where
    go : {q : Out} → Comes k last x a q → is_handed q.1.says ≡ true → Hands k x q
    go astray = not_handed k x _ refl
    go (refused c) = not_handed k x _ (reject_quiet k a c)
    go (accepted good) = not_handed k x _ (opens_quiet k last a)

segment_hands : (k last : ℕ) (ρ : Open) (n : ℕ) (d : List ℕ) → is_handed (segment_open k last ρ n d).1.says ≡ true → Hands k (Some ρ) (segment_open k last ρ n d)
unfolding segment_open adds cts ending
segment_hands k last ρ n d =
    either_way (HandsIf k (Some ρ)) (eqb n 0 || is_taken n ρ.pieces) (λ _. not_handed k (Some ρ) _ refl) (λ _.
    either_way (HandsIf k (Some ρ)) (out_of_turn ρ n || ltb ρ.told.segments.0 n) (λ _. not_handed k (Some ρ) _ refl) (λ _.
    either_way (HandsIf k (Some ρ)) (ltb (length d) (due ρ.told.total.0 n)) (λ _. not_handed k (Some ρ) _ refl) (λ _.
    not_handed k (Some ρ) _ (quiet_reply (spent ρ n) _ _ refl refl))))

all_joined : (ρ : Open) → Whole ρ → length ρ.pieces ≡ ρ.told.segments.0 → length (joined ρ.told.segments.0 ρ.pieces) ≡ ρ.told.total.0
all_joined ρ h e =
    let s : ρ.told.segments.0 ≡ (ρ.told.total.0 + 59) / 60 = h.count ∙ sixties_same ρ.told.total.0 in
    joined_length ρ.told.total.0 ρ.told.segments.0 ρ.pieces s ρ.told.segments.0 (omega arith)
    (λ i l u. distinct_at Q ρ.told.segments.0 i ρ.pieces h.filled (distinct_all Q ρ.told.segments.0 ρ.pieces h.filled e i l u))
    ∙ least ρ.told.total.0 ρ.told.segments.0 s
  where
    Q : ℕ → List ℕ → Type 0
    Q n b = length b ≡ due ρ.told.total.0 n

    least : (t c : ℕ) → c ≡ (t + 59) / 60 → min (60 * c) t ≡ t
    least t c e = omega arith

status_hands : (k last : ℕ) (ρ : Open) (s : Status) → Whole ρ → is_handed (status_open k last ρ s).1.says ≡ true → Hands k (Some ρ) (status_open k last ρ s)
unfolding status_open lacks asks cts ending
status_hands k last ρ s h =
    either_way (HandsIf k (Some ρ)) (not (as_announced ρ s)) (λ _. not_handed k (Some ρ) _ refl) (λ _.
    either_way (HandsIf k (Some ρ)) (eqb (length ρ.pieces) ρ.told.segments.0)
    (λ t _.
    let e : length ρ.pieces ≡ ρ.told.segments.0 = eqb-true (length ρ.pieces) ρ.told.segments.0 t in
    record { session = ρ; was = refl; all_in_lem = e; closed = refl; reply = refl; size = all_joined ρ h e })
    (λ _.
    either_way (HandsIf k (Some ρ)) (not (F.is_rts ρ.told.kind)) (λ _. not_handed k (Some ρ) _ refl) (λ _.
    either_way (HandsIf k (Some ρ)) (ltb ρ.requests 5) (λ _. not_handed k (Some ρ) _ refl) (λ _. not_handed k (Some ρ) _ refl))))

-- In whatever state a list of frames and readings left the rules: a frame that hands over closes the session, and the message is its data
-- joined, exactly Total Bytes long. A session hands over once, since a closed one does not hand over.
pub hands_over_lem : (v : Values) (k last : ℕ) (eight : Bool) (x : Option Open) (b : Body) → WholeIf x → is_handed (rule v k last eight x b).1.says ≡ true → Hands k x (rule v k last eight x b)
unfolding rule abort_open
hands_over_lem v k last eight x (announce a) h = announce_hands v k last eight x a
hands_over_lem v k last eight x (segment format n d) h = either_way (HandsIf k x) (not (eqb format 0)) (λ _. not_handed k x _ refl) (λ _. go x h)
  where
    go : (x : Option Open) → WholeIf x → is_handed (if_open x (λ r. segment_open k last r n d)).1.says ≡ true → Hands k x (if_open x (λ r. segment_open k last r n d))
    go None h = not_handed k None _ refl
    go (Some ρ) h = segment_hands k last ρ n d
hands_over_lem v k last eight None (status s) h = not_handed k None _ refl
hands_over_lem v k last eight (Some ρ) (status s) h = status_hands k last ρ s h
hands_over_lem v k last eight None (abort pgn) h = not_handed k None _ refl
hands_over_lem v k last eight (Some ρ) (abort pgn) h = either_way (HandsIf k (Some ρ)) (eqb pgn ρ.told.pgn) (λ _. not_handed k (Some ρ) _ refl) (λ _. not_handed k (Some ρ) _ refl)

shut_not_open : (ρ : Open) → None ≡ Some ρ → ⊥
unfolding is_open
shut_not_open ρ e = clash (is_open None) (ap is_open e) refl

pub closed_hands_nothing : (v : Values) (k last : ℕ) (eight : Bool) (b : Body) → is_handed (rule v k last eight None b).1.says ≡ false
closed_hands_nothing v k last eight b =
    or-false (is_handed (rule v k last eight None b).1.says) (λ e. let h : Hands k None (rule v k last eight None b) = hands_over_lem v k last eight None b tt e in shut_not_open h.session h.was)

pub message_whole : (v : Values) (k first : ℕ) (xs : List Input) (eight : Bool) (b : Body)
    → let s : State = after v k (fresh first) xs in
    is_handed (rule v k s.last eight s.session b).1.says ≡ true → Hands k s.session (rule v k s.last eight s.session b)
message_whole v k first xs eight b =
    hands_over_lem v k (after v k (fresh first) xs).last eight (after v k (fresh first) xs).session b (after_whole v k (fresh first) xs tt)
