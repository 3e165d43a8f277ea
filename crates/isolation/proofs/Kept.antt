-- A property of an open session that every own frame and every reading keeps, by the rules: an announcement that opens must bring it about,
-- and a segment that is taken must keep it. Nothing else opens or changes a session.
use Rattle.std.specs.Prelude.{None, Option, Some}
use Prim.Native.Nat.{ℕ}
use mathlib.Core.Path.{◌≡◌, refl}
use mathlib.Core.Bool.{Bool, true, false, cond, not, ◌||◌}
use mathlib.Core.List.{List}
use lib.Dec.{eqb, ltb}
use lib.ListN.{length}
use Rattle.transport.specs.declared.announcement.Announcement.{Announcement}
use Rattle.isolation.specs.OwnFrames.{is_rts, Body, announce, segment, status, abort}
use Rattle.isolation.specs.Rules.{Values, Open, Out, bad_numbers, opens, announced, out_of_turn, is_taken, due, adds, segment_open, as_announced, asks, lacks, status_open, abort_open, if_open, rule, is_silent, judged_at}
use Rattle.isolation.proofs.Tests.{either_way}
use Rattle.isolation.proofs.Announced.{Comes, astray, refused, accepted, comes}

abbrev pub IfOpen : (Open → Type 0) → Option Open → Type 0
IfOpen Q None = Unit {0}
IfOpen Q (Some ρ) = Q ρ

-- segment n with the bytes d meets none of 18, 19 and 20
pub record Passes (ρ : Open) (n : ℕ) (d : List ℕ) : Type 0 where
  pub new : (eqb n 0 || is_taken n ρ.pieces) ≡ false
  pub inside : (out_of_turn ρ n || ltb ρ.told.segments.0 n) ≡ false
  pub enough : ltb (length d) (due ρ.told.total.0 n) ≡ false

module _ (Q : Open → Type 0) where
  abbrev Keeps : Out → Type 0
  Keeps q = IfOpen Q q.0

  announce_keeps : (v : Values) (k last : ℕ) (eight : Bool) (x : Option Open) (a : Announcement)
      → (bad_numbers a ≡ false → IfOpen Q (opens k last a).0) → IfOpen Q x → IfOpen Q (announced v.own k last eight x a).0
  announce_keeps v k last eight x a new h = go (comes k last a v.own eight x)
    where
      go : {q : Out} → Comes k last x a q → Keeps q
      go astray = h
      go (refused c) = h
      go (accepted good) = new good

  segment_keeps : (k last : ℕ) (ρ : Open) (n : ℕ) (d : List ℕ) → (Passes ρ n d → IfOpen Q (adds k last ρ n d).0) → Q ρ → IfOpen Q (segment_open k last ρ n d).0
  unfolding segment_open
  segment_keeps k last ρ n d added h =
      either_way Keeps (eqb n 0 || is_taken n ρ.pieces) (λ _. h) (λ a.
      either_way Keeps (out_of_turn ρ n || ltb ρ.told.segments.0 n) (λ _. tt) (λ b.
      either_way Keeps (ltb (length d) (due ρ.told.total.0 n)) (λ _. h) (λ c.
      added (record { new = a; inside = b; enough = c }))))

  pub rule_keeps : (v : Values) (k last : ℕ) (eight : Bool) (x : Option Open) (b : Body)
      → ((a : Announcement) → bad_numbers a ≡ false → IfOpen Q (opens k last a).0)
      → ((format n : ℕ) (d : List ℕ) → b ≡ segment format n d → (ρ : Open) → Q ρ → Passes ρ n d → IfOpen Q (adds k last ρ n d).0)
      → ((ρ : Open) → Q ρ → IfOpen Q (asks k last ρ).0)
      → IfOpen Q x → IfOpen Q (rule v k last eight x b).0
  unfolding rule status_open lacks abort_open
  rule_keeps v k last eight x (announce a) new added asked h = announce_keeps v k last eight x a (new a) h
  rule_keeps v k last eight x (segment format n d) new added asked h = either_way Keeps (not (eqb format 0)) (λ _. h) (λ _. go x h)
    where
      go : (x : Option Open) → IfOpen Q x → IfOpen Q (if_open x (λ r. segment_open k last r n d)).0
      go None h = tt
      go (Some ρ) h = segment_keeps k last ρ n d (added format n d refl ρ h) h
  rule_keeps v k last eight None (status s) new added asked h = tt
  rule_keeps v k last eight (Some ρ) (status s) new added asked h =
      either_way Keeps (not (as_announced ρ s)) (λ _. tt) (λ _.
      either_way Keeps (eqb (length ρ.pieces) ρ.told.segments.0) (λ _. tt) (λ _.
      either_way Keeps (not (is_rts ρ.told.kind)) (λ _. tt) (λ _.
      either_way Keeps (ltb ρ.requests 5) (λ _. asked ρ h) (λ _. tt))))
  rule_keeps v k last eight None (abort pgn) new added asked h = tt
  rule_keeps v k last eight (Some ρ) (abort pgn) new added asked h = either_way Keeps (eqb pgn ρ.told.pgn) (λ _. tt) (λ _. h)

  pub reading_keeps : (v : Values) (t : ℕ) (x : Option Open) → IfOpen Q x → IfOpen Q (judged_at v t x)
  unfolding judged_at
  reading_keeps v t None h = tt
  reading_keeps v t (Some ρ) h = go (is_silent v t ρ)
    where
      go : (b : Bool) → IfOpen Q (cond b None (Some ρ))
      go true = tt
      go false = h
