-- What lies in the queues: for the receiver frames of the key, for the sender responses to it. What the receiver answers to the one is the
-- other.
use Rattle.std.specs.Prelude.{Ok, None, Option, Some}
use Prim.Native.Nat.{ℕ, suc, ◌<◌}
use mathlib.Core.Path.{◌≡◌, refl, ap, ◌∙◌}
use mathlib.Core.Logic.{◌⊎◌, inl, inr}
use mathlib.Core.Bool.{Bool, true, false, cond, not, ◌||◌}
use mathlib.Core.List.{List, [], ◌∷◌, ◌++◌}
use native.Mathlib.Omega.{arith}
use lib.Dec.{eqb, ltb}
use lib.ListN.{length}
use borrow.Author.Tests.{eqb-true, eqb-false, not-false}
use mathlib.Mathlib.Data.Bool.Basic.{and_elim_left}
use Rattle.laws.specs.Bools.{clash, either_way}
use Rattle.frame.specs.declared.identifier.Identifier.{Identifier}
use Rattle.frame.specs.declared.judge.Route.{Route}
use Rattle.frame.specs.declared.judge.Content.TheVariants.{Control}
use Rattle.frame.specs.Identifiers.{identifier_of}
use Rattle.frame.specs.Judge.{route_of, judged}
use Rattle.transport.specs.declared.Kind.{Kind}
use Rattle.transport.specs.declared.Kind.TheVariants.{Rts, Bam}
use Rattle.transport.specs.declared.announcement.Announcement.{Announcement}
use Rattle.transport.specs.declared.eoms.Status.{Status}
use Rattle.transport.specs.Heads.{head, session_key_of, to_originator}
use Rattle.transport.specs.Responses.{response_bytes}
use Rattle.transport.specs.ReadBack.{key_read_back, id_read_back}
use Rattle.isolation.specs.Standard.{Cause, key_open, eight_open, numbers_wrong, too_long, assured, pgn_wrong, unlike_announced, requests_spent, out_of_order, silent, in_pgn_form}
use Rattle.isolation.specs.OwnFrames.{frame_key, is_rts, Body, announce, segment, status, abort, body_of}
use Rattle.isolation.specs.Replies.{Wire, Says, Reply, abort_frame, cts_frame, eoma_frame, sent, refuse, reject, ending, cts, hand_over}
use Rattle.isolation.specs.Rules as rules
use Rattle.isolation.specs.Rules.{Out, due, is_taken, misdirected, bad_numbers, opens, starts_anew, admitted, announced, spent, adds, out_of_turn, segment_open, as_announced, asks, lacks, status_open, abort_open, rule, is_silent, ends_at}
use Rattle.isolation.proofs.Slots.{own_key}
use Rattle.delivery.specs.Link.{Setting, key_in, queued, body_for, hand_overs}
use Rattle.delivery.specs.Arrival.{Fair}
use Rattle.delivery.specs.Losses.{sent_in}
use Rattle.delivery.specs.System.{handed_for}
use Rattle.delivery.proofs.Wires.{key_fits, Reads, response_judged}
use Rattle.delivery.proofs.Rights.{Right}
use Rattle.delivery.proofs.Sides.{routed_way}

-- ---- to the receiver

pub right_reads : (s : Setting) (f : Wire) → Right s (body_for s f) → (b : Body) × Reads s f b
unfolding body_for
right_reads s f h = go (eqb (frame_key f.0 f.1) s.key) refl (body_of s.values.own f.0 f.1) refl h
  where
    go : (t : Bool) → eqb (frame_key f.0 f.1) s.key ≡ t → (x : Option Body) → body_of s.values.own f.0 f.1 ≡ x → Right s (cond t x None) → (b : Body) × Reads s f b
    go false e x z r = absurd r
    go true e None z r = absurd r
    go true e (Some b) z r = (b, record { key = eqb-true _ _ e; body = z })

-- ---- to the sender: control frames to it, of the key

pub record Responds (s : Setting) (f : Wire) : Type 0 where
  pub judgement : judged (key_in s).sa f.0 (length f.1) ≡ Ok (Control (route_of (identifier_of f.0)))
  pub key : session_key_of (route_of (identifier_of f.0)) f.1 ≡ key_in s

abbrev pub Responses : Setting → List Wire → Type 0
Responses s [] = Unit {0}
Responses s (f ∷ fs) = Responds s f × Responses s fs

pub responses_join : (s : Setting) (fs gs : List Wire) → Responses s fs → Responses s gs → Responses s (fs ++ gs)
responses_join s [] gs a b = b
responses_join s (f ∷ fs) gs (r, a) b = (r, responses_join s fs gs a b)

-- ---- what the receiver answers: responses, and a message of the key

pub record Answers (s : Setting) (r : Reply) : Type 0 where
  pub sends : Responses s (queued r.sends)
  pub hands : handed_for s.key r.says ≡ hand_overs r.says

-- the key is to the receiver alone; of another it has no RTS session
abbrev pub ToOne : Setting → Type 0
ToOne s = (key_in s).da.0 ≡ s.values.own.0

abbrev pub OneIf : Setting → Kind → Type 0
OneIf s κ = is_rts κ ≡ true → ToOne s

abbrev pub Aimed : Setting → Option rules.Open → Type 0
Aimed s None = Unit {0}
Aimed s (Some r) = OneIf s r.told.kind

module _ (s : Setting) (fair : Fair s) where
  module _ (one : ToOne s) where
    responds : (n : ℕ) → n < 16 → (rest : List ℕ) → length rest ≡ 11 → Responds s (to_originator (key_in s), head n (key_in s) ∷ rest)
    responds n u rest l =
        let id : ℕ = to_originator (key_in s) in
        let fits = key_fits s fair in
        let j : judged (key_in s).sa id (suc (length rest)) ≡ Ok (Control (record { sa = (key_in s).da; da = (key_in s).sa })) =
        ap (λ (i : ℕ). judged (key_in s).sa id (suc i)) l ∙ response_judged s fair one in
        record {
          judgement = j ∙ ap (λ (μ : Route). Ok (Control μ)) (routed_way (key_in s).sa id (suc (length rest)) _ j);
          key = ap (λ (i : Identifier). session_key_of (route_of i) (head n (key_in s) ∷ rest)) (id_read_back 77 (key_in s).sa (key_in s).da (omega arith) fits.sa fits.da)
              ∙ key_read_back (key_in s) fits n u rest 77;
        }

    cts_responds : (n c pgn : ℕ) → Responses s (queued (sent (cts_frame s.key n c pgn)))
    unfolding sent response_bytes
    cts_responds n c pgn = (responds 1 (omega arith) _ refl, tt)

    eoma_responds : (a : Announcement) → Responses s (queued (sent (eoma_frame s.key a)))
    unfolding sent response_bytes
    eoma_responds a = (responds 3 (omega arith) _ refl, tt)

    abort_responds : (c : Cause) (pgn : ℕ) → Responses s (queued (sent (abort_frame s.key c pgn)))
    unfolding sent response_bytes
    abort_responds c pgn = (responds 15 (omega arith) _ refl, tt)

  -- an answer that sends nothing
  quiet : (n : ℕ) (σ : Says) → handed_for s.key σ ≡ hand_overs σ → Answers s (record { number = n; says = σ; sends = None })
  quiet n σ e = record { sends = tt; hands = e }

  refuses : (n : ℕ) → Answers s (refuse n)
  refuses n = record { sends = tt; hands = refl }

  grants : ToOne s → (n c pgn : ℕ) → Answers s (cts s.key n c pgn)
  unfolding cts
  grants one n c pgn = record { sends = cts_responds one n c pgn; hands = refl }

  module _ (a : Announcement) (one : OneIf s a.kind) where
    rejects : (c : Cause) → Answers s (reject s.key a c)
    unfolding reject
    rejects c = either_way (Answers s) (is_rts a.kind) (λ e. record { sends = abort_responds (one e) c a.pgn; hands = refl }) (λ e. refuses _)

    ends : (c : Cause) → Answers s (ending s.key a c)
    unfolding ending
    ends c = record { sends = either_way (λ f. Responses s (queued f)) (is_rts a.kind) (λ e. abort_responds (one e) c a.pgn) (λ e. tt); hands = refl }

    hands_over_lem : (d : List ℕ) → Answers s (hand_over s.key a d)
    unfolding hand_over
    hands_over_lem d = record { sends = either_way (λ f. Responses s (queued f)) (is_rts a.kind) (λ e. eoma_responds (one e) a) (λ e. tt); hands = rw (own_key s.key) }

  abbrev Fine : Out → Type 0
  Fine o = Answers s o.1

  -- ---- an announcement

  aimed_one : eqb (key_in s).da.0 255 ≡ false → ToOne s
  aimed_one e = go fair.aimed
    where
      go : ((key_in s).da.0 ≡ s.values.own.0) ⊎ ((key_in s).da.0 ≡ 255) → ToOne s
      go (inl z) = z
      go (inr z) = absurd (eqb-false (key_in s).da.0 255 e z)

  directed : (κ : Kind) → misdirected s.values.own s.key κ ≡ false → OneIf s κ
  unfolding misdirected is_rts
  directed Rts e r = aimed_one e
  directed Bam e r = absurd (clash false r refl)

  module _ (last : ℕ) (eight : Bool) (a : Announcement) where
    opens_fine : OneIf s a.kind → Fine (opens s.key last a)
    unfolding opens
    opens_fine one = either_way (Answers s) (is_rts a.kind) (λ e. grants (one e) _ _ _) (λ e. quiet _ _ refl)

    admitted_fine : OneIf s a.kind → (x : Option rules.Open) → Fine (admitted s.key last eight x a)
    unfolding admitted
    admitted_fine one None = either_way Fine eight (λ e. rejects a one eight_open) (λ e. opens_fine one)
    admitted_fine one (Some r) = either_way Fine (starts_anew a r) (λ e. opens_fine one) (λ e. rejects a one key_open)

    announced_fine : (x : Option rules.Open) → Fine (announced s.values.own s.key last eight x a)
    unfolding announced
    announced_fine x =
        either_way Fine (misdirected s.values.own s.key a.kind) (λ e. refuses 11)
        (λ e. let one : OneIf s a.kind = directed a.kind e in
        either_way Fine (bad_numbers a) (λ e. rejects a one numbers_wrong)
        (λ e. either_way Fine (ltb 4096 a.total.0) (λ e. rejects a one too_long)
        (λ e. either_way Fine (not (eqb a.assurance 0)) (λ e. rejects a one assured)
        (λ e. either_way Fine (not (in_pgn_form a.pgn)) (λ e. rejects a one pgn_wrong)
        (λ e. admitted_fine one x)))))

  -- ---- an open session

  module _ (last : ℕ) (r : rules.Open) (one : OneIf s r.told.kind) where
    adds_fine : (n : ℕ) (d : List ℕ) → Fine (adds s.key last r n d)
    unfolding adds spent
    adds_fine n d = either_way (Answers s) (spent r n) (λ e. grants (one (and_elim_left (is_rts r.told.kind) _ e)) _ _ _) (λ e. quiet _ _ refl)

    segment_fine : (n : ℕ) (d : List ℕ) → Fine (segment_open s.key last r n d)
    unfolding segment_open
    segment_fine n d =
        either_way Fine (eqb n 0 || is_taken n r.pieces) (λ e. refuses 18)
        (λ e. either_way Fine (out_of_turn r n || ltb r.told.segments.0 n) (λ e. ends r.told one out_of_order)
        (λ e. either_way Fine (ltb (length d) (due r.told.total.0 n)) (λ e. refuses 20)
        (λ e. adds_fine n d)))

    lacks_fine : Fine (lacks s.key last r)
    unfolding lacks asks
    lacks_fine =
        either_way Fine (not (is_rts r.told.kind)) (λ e. ends r.told one unlike_announced)
        (λ e. either_way Fine (ltb r.requests 5) (λ f. grants (one (not-false (is_rts r.told.kind) e)) _ _ _) (λ f. ends r.told one requests_spent))

    status_fine : (st : Status) → Fine (status_open s.key last r st)
    unfolding status_open
    status_fine st =
        either_way Fine (not (as_announced r st)) (λ e. ends r.told one unlike_announced)
        (λ e. either_way Fine (eqb (length r.pieces) r.told.segments.0) (λ f. hands_over_lem r.told one _) (λ f. lacks_fine))

    abort_fine : (pgn : ℕ) → Fine (abort_open s.key r pgn)
    unfolding abort_open
    abort_fine pgn = either_way Fine (eqb pgn r.told.pgn) (λ e. quiet _ _ refl) (λ e. refuses 16)

  -- ---- any frame of the key, and a reading

  pub rule_answers : (last : ℕ) (eight : Bool) (x : Option rules.Open) → Aimed s x → (b : Body) → Answers s (rule s.values s.key last eight x b).1
  unfolding rule
  rule_answers last eight x h (announce a) = announced_fine last eight a x
  rule_answers last eight None h (segment format n d) = either_way Fine (not (eqb format 0)) (λ e. refuses 17) (λ e. refuses 16)
  rule_answers last eight None h (status st) = refuses 16
  rule_answers last eight None h (abort pgn) = refuses 16
  rule_answers last eight (Some r) h (segment format n d) = either_way Fine (not (eqb format 0)) (λ e. refuses 17) (λ e. segment_fine last r h n d)
  rule_answers last eight (Some r) h (status st) = status_fine last r h st
  rule_answers last eight (Some r) h (abort pgn) = abort_fine last r h pgn

  pub ends_respond : (t : ℕ) (x : Option rules.Open) → Aimed s x → Responses s (sent_in (ends_at s.values s.key t x))
  unfolding ends_at
  ends_respond t None h = tt
  ends_respond t (Some r) h =
      either_way (λ l. Responses s (sent_in l)) (is_silent s.values t r)
      (λ e. responses_join s (queued (ending s.key r.told silent).sends) [] (ends r.told h silent).sends tt)
      (λ e. tt)
