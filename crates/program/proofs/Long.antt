-- How long the lines of one record are, where the numbers of its answer have 32 bits: at most 20,000 bytes. The longest are a message's.
use Rattle.std.specs.Prelude.{Err, None, Ok, Option, Result, Some, ⊤}
use Prim.Native.Nat.{ℕ, ◌+◌, ◌*◌, ◌<◌, ◌≤◌, ◌-◌}
use native.Mathlib.Omega.{arith}
use mathlib.Core.Path.{◌≡◌, refl}
use mathlib.Core.Bool.{Bool, true, false, cond}
use mathlib.Core.List.{List, [], ◌∷◌, ◌++◌}
use lib.ListN.{length, get_or, length-append}
use Rattle.frame.specs.Refusals.{number_of}
use Rattle.frame.specs.declared.refusal.Refusal.{Refusal}
use Rattle.frame.proofs.Numbers.{number_range}
use Rattle.frame.specs.declared.judge.Route.{Route}
use Rattle.multi_pg.specs.declared.Group.{Group}
use Rattle.multi_pg.specs.Groups.{payload, pgn_at, group_at, end_of, GroupsRead, good, bad, groups_read, groups_in, groups_of}
use Rattle.multi_pg.specs.Places.{here_end}
use Rattle.multi_pg.specs.Reader as chain
use Rattle.multi_pg.specs.Reader.{Chain, good_chain}
use Rattle.transport.specs.declared.Key.{Key}
use Rattle.transport.specs.Kinds.{is_rts}
use Rattle.answer.specs.declared.Answer.{Answer}
use Rattle.answer.specs.declared.Answer.TheVariants.{Groups, Opened, Taken, Grant, HandedOver, Aborted, Ended, RefusedRts, Refused}
use Rattle.answer.specs.declared.Message.{Message}
use Rattle.answer.specs.declared.Ending.{Ending}
use Rattle.session.specs.Fits.{Small, AnswerFits}
use Rattle.record_bytes.specs.Kept.{Bytes}
use Rattle.text.specs.Line.{numbers, line_of}
use Rattle.session_lines.specs.Lines.{session_line, refused_line, ending_numbers, ending_line, message_numbers, message_line, message_lines}
use Rattle.session_lines.specs.Lines.{open_word, took_word, cts_word, abort_word, eoma_word, msg_word, ended_word, refused_word}
use Rattle.report.specs.Lines.{pg_word, group_numbers, group_line, group_lines, answer_lines, end_lines, ends_lines, reading_lines}
use Rattle.run.specs.Goes.{record_room}
use Rattle.program.proofs.Widths.{AllSmall, words_before, bytes_long, line_long, line_most}

-- ---- what an answer's lines show besides the numbers that AnswerFits speaks of

abbrev pub KeySmall : Key → Type 0
KeySmall k = Small k.sa.0 × (Small k.da.0 × Small k.session.0)

abbrev pub RouteSmall : Route → Type 0
RouteSmall route = Small route.sa.0 × Small route.da.0

abbrev pub AnswerSmall : Answer → Type 0
AnswerSmall (Groups route) = RouteSmall route
AnswerSmall (Opened k) = KeySmall k
AnswerSmall (Taken t) = KeySmall t.key
AnswerSmall (Grant c) = KeySmall c.key × Small c.count
AnswerSmall (HandedOver m) = KeySmall m.key
AnswerSmall (Aborted k) = KeySmall k
AnswerSmall (Ended e) = KeySmall e.key
AnswerSmall (RefusedRts j) = KeySmall j.key
AnswerSmall (Refused n) = Unit {0}

number_small : (n : Refusal) → Small (number_of n)
number_small n = let r = (number_range n).1 in omega arith

-- ---- lines of one session

-- a word of at most 20 letters and at most five numbers
short_line : (word ns : List ℕ) (w n : ℕ) → length word ≡ w → length ns ≡ n → AllSmall ns → w ≤ 20 → n ≤ 5 → length (line_of word ns) ≤ 76
short_line word ns w n e f h a b = let l : length (line_of word ns) ≤ w + 11 * n + 1 = line_most word ns w n e f h in omega arith

refused_short : (n : Refusal) → length (refused_line n) ≤ 76
refused_short n = short_line refused_word (number_of n ∷ []) 7 1 refl refl (number_small n, tt) (omega arith) (omega arith)

ending_short : (e : Ending) → KeySmall e.key → length (ending_line e) ≤ 76
ending_short e (a, (b, c)) = go (is_rts e.kind)
  where
    all : AllSmall (ending_numbers e)
    all = (a, (c, (number_small e.refusal, tt)))

    go : (t : Bool) → length (line_of (cond t abort_word ended_word) (ending_numbers e)) ≤ 76
    go true = short_line abort_word (ending_numbers e) 10 3 refl refl all (omega arith) (omega arith)
    go false = short_line ended_word (ending_numbers e) 5 3 refl refl all (omega arith) (omega arith)

-- ---- a message: its head, and at most three digits and a space for each byte

module _ (m : Message) (k : KeySmall m.key) (t : Small m.total.0) (p : Small m.pgn) (bytes : List ℕ) (b : Bytes bytes) where
  line_of_message : length (message_line m bytes) ≤ 59 + 4 * length bytes
  line_of_message =
      let (x, (y, z)) = k in
      let n : length (numbers (message_numbers m ++ bytes)) ≤ 55 + 4 * length bytes =
      words_before (message_numbers m) bytes (4 * length bytes) (x, (y, (z, (p, (t, tt))))) (bytes_long bytes b) in
      let l : length (message_line m bytes) ≤ 3 + (55 + 4 * length bytes) + 1 = line_long msg_word (message_numbers m ++ bytes) (55 + 4 * length bytes) n in
      omega arith

  message_short : length bytes ≤ 4096 → length (message_lines m bytes) ≤ 20000
  message_short h = go (is_rts m.kind)
    where
      l : length (message_line m bytes) ≤ 59 + 4 * length bytes
      l = line_of_message

      go : (u : Bool) → length (cond u (session_line eoma_word m.key []) [] ++ message_line m bytes) ≤ 20000
      go true =
          let (x, (y, z)) = k in
          let e : length (session_line eoma_word m.key []) ≤ 76 =
          short_line eoma_word (m.key.sa.0 ∷ m.key.session.0 ∷ []) 9 2 refl refl (x, (z, tt)) (omega arith) (omega arith) in
          let s : length (session_line eoma_word m.key [] ++ message_line m bytes) ≡ length (session_line eoma_word m.key []) + length (message_line m bytes) =
          length-append (session_line eoma_word m.key []) (message_line m bytes) in
          omega (arith, l)
      go false = omega (arith, l)

-- ---- a Multi-PG frame: a line for each group, and each group takes four bytes at least

module _ (d : List ℕ) (b : Bytes d) (route : Route) (r : RouteSmall route) where
  group_line_lem : (at n : ℕ) → length (group_line route (group_at d at n)) ≤ 47
  group_line_lem at n =
      let (x, y) = r in
      let p : pgn_at d at < 4294967296 =
      (let e : get_or d at 0 < 256 = b at in
      let f : get_or d (at + 1) 0 < 256 = b (at + 1) in
      let g : get_or d (at + 2) 0 < 256 = b (at + 2) in
      omega arith) in
      let l : payload d at - n < 4294967296 = (let e : get_or d (at + 3) 0 < 256 = b (at + 3) in omega arith) in
      line_most pg_word (group_numbers route (group_at d at n)) 2 4 refl refl (x, (y, (p, (l, tt))))

  chain_long : {at : ℕ} {gs : List Group} → at ≤ length d → Chain d at gs → 12 * at + length (group_lines route gs) ≤ 12 * length d
  unfolding group_lines
  chain_long h (chain.last e) = omega arith
  chain_long {at} h (chain.link {n = n} {gs = gs} p c) =
      let i : at + 4 + payload d at ≤ length d = p.whole in
      let e : end_of (group_at d at n) ≡ at + 4 + payload d at = here_end d at n p in
      let l : length (group_line route (group_at d at n)) ≤ 47 = group_line_lem at n in
      let s : length (group_line route (group_at d at n) ++ group_lines route gs) ≡ length (group_line route (group_at d at n)) + length (group_lines route gs) =
      length-append (group_line route (group_at d at n)) (group_lines route gs) in
      let q : 12 * end_of (group_at d at n) + length (group_lines route gs) ≤ 12 * length d = chain_long (omega arith) c in
      omega arith

  groups_by : (x : GroupsRead) → groups_read d ≡ x → length (group_lines route (groups_in x)) ≤ 12 * length d
  unfolding group_lines
  groups_by (good gs) e = let l : 12 * 0 + length (group_lines route gs) ≤ 12 * length d = chain_long (omega arith) (good_chain d gs e) in omega arith
  groups_by (bad n) e = omega arith

  groups_long : length (group_lines route (groups_of d)) ≤ 12 * length d
  groups_long = groups_by (groups_read d) refl

-- ---- the answer to a frame

pub answer_short : (d : List ℕ) (a : Answer) (bytes : List ℕ) → Bytes d → length d ≤ 64 → AnswerFits a → AnswerSmall a → Bytes bytes → length bytes ≤ 4096
    → length (answer_lines d a bytes) ≤ record_room
unfolding answer_lines
answer_short d (Groups route) bytes b l f k c m = omega (arith, groups_long d b route k)
answer_short d (Opened k) bytes b l f (x, (y, z)) c m =
    omega (arith, short_line open_word (k.sa.0 ∷ k.session.0 ∷ []) 4 2 refl refl (x, (z, tt)) (omega arith) (omega arith))
answer_short d (Taken t) bytes b l f (x, (y, z)) c m =
    omega (arith, short_line took_word (t.key.sa.0 ∷ t.key.session.0 ∷ t.number.0 ∷ []) 4 3 refl refl (x, (z, (f, tt))) (omega arith) (omega arith))
answer_short d (Grant g) bytes b l (n, p) ((x, (y, z)), q) c m =
    omega (arith, short_line cts_word (g.key.sa.0 ∷ g.key.session.0 ∷ g.next.0 ∷ g.count ∷ []) 8 4 refl refl (x, (z, (n, (q, tt)))) (omega arith) (omega arith))
answer_short d (HandedOver x) bytes b l (t, (s, (p, i))) k c m = message_short x k t p bytes c m
answer_short d (Aborted k) bytes b l f (x, (y, z)) c m =
    omega (arith, short_line ended_word (k.sa.0 ∷ k.session.0 ∷ 0 ∷ []) 5 3 refl refl (x, (z, (omega arith, tt))) (omega arith) (omega arith))
answer_short d (Ended e) bytes b l f k c m = omega (arith, ending_short e k)
answer_short d (RefusedRts j) bytes b l f (x, (y, z)) c m =
    omega (arith, short_line abort_word (j.key.sa.0 ∷ j.key.session.0 ∷ number_of j.refusal ∷ []) 10 3 refl refl (x, (z, (number_small j.refusal, tt))) (omega arith) (omega arith))
answer_short d (Refused n) bytes b l f k c m = omega (arith, refused_short n)

-- ---- a reading: at most one line for each slot

abbrev pub EndSmall : Option Ending → Type 0
EndSmall None = Unit {0}
EndSmall (Some e) = KeySmall e.key

abbrev pub EndsSmall : List (Option Ending) → Type 0
EndsSmall [] = Unit {0}
EndsSmall (s ∷ ss) = EndSmall s × EndsSmall ss

end_short : (e : Option Ending) → EndSmall e → length (end_lines e) ≤ 76
end_short None h = omega arith
end_short (Some e) h = ending_short e h

ends_long : (l : List (Option Ending)) → EndsSmall l → length (ends_lines l) ≤ 76 * length l
unfolding ends_lines
ends_long [] h = omega arith
ends_long (s ∷ ss) (h, hs) =
    let a : length (end_lines s) ≤ 76 = end_short s h in
    let b : length (ends_lines ss) ≤ 76 * length ss = ends_long ss hs in
    let e : length (end_lines s ++ ends_lines ss) ≡ length (end_lines s) + length (ends_lines ss) = length-append (end_lines s) (ends_lines ss) in
    omega arith

pub reading_short : (a : Result ⊤ Refusal) (l : List (Option Ending)) → length l ≡ 8 → EndsSmall l → length (reading_lines a l) ≤ record_room
reading_short (Ok tt) l e h = omega (arith, ends_long l h)
reading_short (Err n) l e h = omega (arith, refused_short n)
