-- An answer whose numbers have their places is read off its bytes as it was, but for the route of a Multi-PG frame.
use Rattle.std.specs.Prelude.{None, Option, Some}
use Prim.Native.Nat.{ℕ, ◌%◌, ◌<◌}
use native.Mathlib.Omega.{arith}
use mathlib.Core.Path.{◌≡◌, refl, ap, ap₂, ◌∙◌}
use mathlib.Core.Bool.{cond}
use mathlib.Core.List.{List, [], ◌∷◌, ◌++◌}
use lib.ListN.{length, get_or}
use lib.Seq.{take_at, drop_at}
use Rattle.frame.specs.Refusals.{number_of, spent_of}
use Rattle.frame.specs.declared.refusal.Refusal.{Refusal}
use Rattle.frame.specs.Numbers.{refusal_at}
use Rattle.frame.proofs.Numbers.{refusal_back}
use Rattle.transport.specs.declared.Kind.{Kind}
use Rattle.transport.specs.declared.Kind.TheVariants.{Rts, Bam}
use Rattle.answer.specs.declared.Ending.{Ending}
use Rattle.answer.specs.declared.Answer.{Answer}
use Rattle.answer.specs.declared.Answer.TheVariants.{Groups, Opened, Taken, Grant, HandedOver, Aborted, Ended, RefusedRts, Refused}
use Rattle.session.specs.Fits.{AnswerFits}
use Rattle.record_bytes.specs.Layout.{kind_byte, kind_at}
use Rattle.words.specs.Laws.{four_bytes, low32_read_back}
use Rattle.transport.specs.declared.response.Response.{Response}
use Rattle.transport.specs.Responses.{response_bytes, response_id}
use Rattle.answer.specs.Answers.{answer_number, answer_sends, end_sends, wire_of}
use Rattle.answer_bytes.specs.Places.{answer_length, number_place}
use Rattle.answer_bytes.specs.declared.Fields.{Fields}
use Rattle.answer_bytes.specs.Answers.{fields_of, fields_bytes, sent_bytes, answer_bytes}
use Rattle.isolation.specs.Replies.{Wire, Says, Reply, ended}
use Rattle.isolation.specs.Observe.{is_key, says_of, reply_of, end_reply, ending_of, endings_of}
use Rattle.answer_bytes.specs.Ends.{end_bytes, ends_by, ends_bytes}
use Rattle.answer_bytes.specs.EndLaws.{length_end}
use Rattle.carried.specs.ReadBack.{answer_at, unrouted, wire_at}
use Rattle.carried.specs.Shown.{reply_at, ending_at, endings_at}

kind_back : (k : Kind) → kind_at (kind_byte k) ≡ k
kind_back Rts = refl
kind_back Bam = refl

ending_back : (e : Ending) → e.pgn < 4294967296
    → ◌≡◌ {A = Ending} (record { key = e.key; kind = kind_at (kind_byte e.kind); refusal = refusal_at (number_of e.refusal) (spent_of e.refusal); pgn = four_bytes e.pgn }) e
ending_back e f =
    ap₂ (λ (k : Kind) (n : Refusal). record { key = e.key; kind = k; refusal = n; pgn = four_bytes e.pgn }) (kind_back e.kind) (refusal_back e.refusal)
    ∙ ap (λ (n : ℕ). record { key = e.key; kind = e.kind; refusal = e.refusal; pgn = n }) (low32_read_back e.pgn f)

pub answer_back : (a : Answer) → AnswerFits a → answer_at (answer_bytes a) ≡ unrouted a
unfolding fields_bytes
answer_back (Groups route) f = refl
answer_back (Opened k) f = refl
answer_back (Taken t) f = ap (λ (n : ℕ). Taken (record { key = t.key; number = record { 0 = n } })) (low32_read_back t.number.0 f)
answer_back (Grant c) (f, g) =
    ap₂ (λ (n p : ℕ). Grant (record { key = c.key; next = record { 0 = n }; count = c.count; pgn = p }))
    (low32_read_back c.next.0 f) (low32_read_back c.pgn g)
answer_back (HandedOver x) (f, (g, (h, i))) =
    let s : x.slot % 256 ≡ x.slot = omega arith in
    ap₂ (λ (k : Kind) (n : ℕ). HandedOver
    (record {
      key = x.key;
      kind = k;
      total = record { 0 = four_bytes x.total.0 };
      segments = record {
        0 = four_bytes
            x.segments.0;
      };
      pgn = four_bytes x.pgn;
      slot = n;
    })) (kind_back x.kind) s
    ∙ ap₂ (λ (n m : ℕ). HandedOver
    (record { key = x.key; kind = x.kind; total = record { 0 = n }; segments = record { 0 = m }; pgn = four_bytes x.pgn; slot = x.slot }))
    (low32_read_back x.total.0 f) (low32_read_back x.segments.0 g)
    ∙ ap (λ (n : ℕ). HandedOver (record { key = x.key; kind = x.kind; total = x.total; segments = x.segments; pgn = n; slot = x.slot })) (low32_read_back x.pgn h)
answer_back (Aborted k) f = refl
answer_back (Ended e) f = ap Ended (ending_back e f)
answer_back (RefusedRts j) f =
    ap₂ (λ (n : Refusal) (p : ℕ). RefusedRts (record { key = j.key; refusal = n; pgn = p })) (refusal_back j.refusal) (low32_read_back j.pgn f)
answer_back (Refused n) f = ap Refused (refusal_back n)

-- ---- the frame sent

-- its identifier has its place in four bytes
abbrev pub WireFits : Option Wire → Type 0
WireFits None = Unit {0}
WireFits (Some w) = w.0 < 4294967296

-- whatever fields are before it
sent_back : (f : Fields) (s : Option Response) → WireFits (wire_of s) → wire_at (fields_bytes f ++ sent_bytes (s)) ≡ wire_of s
unfolding fields_bytes
sent_back f None g = refl
sent_back f (Some x) g = ap (λ (n : ℕ). Some (n, response_bytes x)) (low32_read_back (response_id x) g)

pub wire_back : (a : Answer) → WireFits (wire_of (answer_sends a)) → wire_at (answer_bytes a) ≡ wire_of (answer_sends a)
wire_back a g = sent_back (fields_of a) (answer_sends a) g

number_back : (a : Answer) → get_or (answer_bytes a) number_place 0 ≡ answer_number a
unfolding fields_bytes
number_back (Groups route) = refl
number_back (Opened k) = refl
number_back (Taken t) = refl
number_back (Grant c) = refl
number_back (HandedOver x) = refl
number_back (Aborted k) = refl
number_back (Ended e) = refl
number_back (RefusedRts j) = refl
number_back (Refused n) = refl

says_back : (a : Answer) (m : List ℕ) → says_of (unrouted a) m ≡ says_of a m
unfolding says_of
says_back (Groups route) m = refl
says_back (Opened k) m = refl
says_back (Taken t) m = refl
says_back (Grant c) m = refl
says_back (HandedOver x) m = refl
says_back (Aborted k) m = refl
says_back (Ended e) m = refl
says_back (RefusedRts j) m = refl
says_back (Refused n) m = refl

-- the reply read off the bytes of an answer
pub reply_back : (a : Answer) (m : List ℕ) → AnswerFits a → WireFits (wire_of (answer_sends a)) → reply_at (answer_bytes a) m ≡ reply_of a m
unfolding reply_of
reply_back a m f g =
    ap₂ (λ (n : ℕ) (w : Option Wire). record { number = n; says = says_of (answer_at (answer_bytes a)) m; sends = w }) (number_back a) (wire_back a g)
    ∙ ap (λ (s : Says). record { number = answer_number a; says = s; sends = wire_of (answer_sends a) }) (ap (λ (z : Answer). says_of z m) (answer_back a f) ∙ says_back a m)

-- ---- a reading

abbrev pub EndFits : Option Ending → Type 0
EndFits None = Unit {0}
EndFits (Some e) = (e.pgn < 4294967296) × WireFits (wire_of (end_sends (Some e)))

abbrev pub EndsFit : List (Option Ending) → Type 0
EndsFit [] = Unit {0}
EndsFit (e ∷ es) = EndFits e × EndsFit es

-- an ending and the frame that it sends
end_back : (k : ℕ) (e : Option Ending) → EndFits e → ending_at k (end_bytes e) ≡ ending_of k e
unfolding fields_bytes ending_of end_reply
end_back k None f = refl
end_back k (Some e) (f, g) =
    ap (λ (y : Reply). cond (is_key k e.key) (y ∷ []) [])
    (ap₂ (λ (a : Kind) (p : ℕ). record { number = number_of e.refusal; says = ended e.key a p; sends = wire_at (answer_bytes (Ended e)) }) (kind_back e.kind) (low32_read_back e.pgn f)
    ∙ ap (λ (w : Option Wire). record { number = number_of e.refusal; says = ended e.key e.kind e.pgn; sends = w }) (wire_back (Ended e) g))

pub ends_back : (k : ℕ) (es : List (Option Ending)) → EndsFit es → endings_at k (length es) (ends_bytes es) ≡ endings_of k es
unfolding ends_by endings_of
ends_back k [] f = refl
ends_back k (e ∷ es) (f, fs) =
    let b : List ℕ = end_bytes e in
    ap₂ (λ (x y : List ℕ). ending_at k x ++ endings_at k (length es) y) (take_at b (ends_bytes es) answer_length (length_end e)) (drop_at b (ends_bytes es) answer_length (length_end e))
    ∙ ap₂ (λ (x y : List Reply). x ++ y) (end_back k e f) (ends_back k es fs)
