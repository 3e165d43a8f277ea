-- However a trace is cut into pieces, the lines joined are those of the whole.
use Prim.Native.Nat.{ℕ, zero, suc, ◌+◌, ◌-◌, ◌<◌, ◌≤◌}
use Rattle.std.proofs.Common.{arith, sym, ◌∙◌, length-append, length-drop, take-append-drop, length-take-le, eq-eqb, ne_eqb}
use Rattle.std.specs.Prelude.{◌≡◌, refl, true, false, eqb, length, take, drop, Option, Some, None, Result, Ok, Err}
use Rattle.std.proofs.Math.Path.{ap}
use Rattle.std.proofs.lemmas.Bool.{false≢true}
use mathlib.Core.List.{List, [], ◌∷◌, ◌++◌, append_assoc, append-nil}
use Rattle.std.proofs.Math.Seq.{drop-append-add}
use Rattle.std.proofs.lemmas.List.{drop-append-le, take-append-le}
use Rattle.laws.specs.Bools.{cond_true, cond_false}
use Rattle.trace.specs.declared.Fault.{Fault}
use Rattle.trace.specs.declared.Fault.TheVariants.{Cut}
use Rattle.trace.specs.declared.record.Record.{Record}
use Rattle.trace.specs.declared.record.Record.TheVariants.{Reading, Frame}
use Rattle.trace.specs.Records.{record_at}
use Rattle.trace.specs.Streams.{moved, undecided, record_moved, record_later}
use Rattle.report.specs.Lines.{bad_line}
use Rattle.run.specs.Lines.{Receives, Done, framed, Turn, took, over, cut, bad, turn_by, turn_at, State, after, on_turn, lines_from, lines_in}
use Rattle.run.specs.Goes.{turn_in, Goes, none, more, is_open}
use Rattle.run.specs.Takes.{final_line}
use Rattle.run.specs.Within.{Within, record_within}

-- ---- bytes before and after

-- the same turn, its place moved by k
abbrev pub shifted : {R : Type 0} → ℕ → Turn R → Turn R
shifted k (took x next) = took x (k + next)
shifted k over = over
shifted k cut = cut
shifted k bad = bad

-- the same standing, k bytes further on
abbrev pub further : {R : Type 0} → ℕ → State R → State R
further k s = record { receiver = s.receiver; store = s.store; records = s.records; place = k + s.place }

module _ {R : Type 0} (M : Receives R) (r : R) (m d : List ℕ) where
  open_same : (q : Result (Option Record) Fault) → undecided q ≡ is_open (turn_by M r m d q)
  open_same (Ok (Some (Reading value next))) = refl
  open_same (Ok (Some (Frame id start n next))) = refl
  open_same (Ok None) = refl
  open_same (Err Cut) = refl
  open_same (Err f) = refl

  -- a frame's bytes are the same in the whole
  frame_same : (xs ys : List ℕ) (start n : ℕ) → start + n ≤ length d → take n (drop (length xs + start) (xs ++ (d ++ ys))) ≡ take n (drop start d)
  frame_same xs ys start n h =
      ap (take n) (drop-append-add xs (d ++ ys) start ∙ drop-append-le start d ys (omega arith))
      ∙ take-append-le n (drop start d) ys (simp length-drop (omega arith))

  turn_moved : (xs ys : List ℕ) (at : ℕ) (q : Result (Option Record) Fault) → Within d at q
      → turn_by M r m (xs ++ (d ++ ys)) (moved (length xs) q) ≡ shifted (length xs) (turn_by M r m d q)
  turn_moved xs ys at (Ok (Some (Reading value next))) w = refl
  turn_moved xs ys at (Ok (Some (Frame id start n next))) (low, same, high, few) =
      ap (λ (f : List ℕ). took (framed f (M.frame r id f m)) (length xs + next)) (frame_same xs ys start n (omega arith))
  turn_moved xs ys at (Ok None) w = refl
  turn_moved xs ys at (Err Cut) w = refl
  turn_moved xs ys at (Err f) w = refl

  -- what is decided stays so, whatever is before and whatever follows
  turn_whole : (xs ys : List ℕ) (at : ℕ) → is_open (turn_at M r m d at) ≡ false
      → turn_at M r m (xs ++ (d ++ ys)) (length xs + at) ≡ shifted (length xs) (turn_at M r m d at)
  unfolding turn_at
  turn_whole xs ys at e =
      ap (turn_by M r m (xs ++ (d ++ ys)))
      (record_moved xs (d ++ ys) at ∙ ap (moved (length xs)) (record_later ys d at (open_same (record_at d at) ∙ e)))
      ∙ turn_moved xs ys at (record_at d at) (record_within d at)

  turn_last : (xs : List ℕ) (at : ℕ) → turn_at M r m (xs ++ (d ++ [])) (length xs + at) ≡ shifted (length xs) (turn_at M r m d at)
  unfolding turn_at
  turn_last xs at =
      ap (turn_by M r m (xs ++ (d ++ [])))
      (record_moved xs (d ++ []) at ∙ ap (λ (l : List ℕ). moved (length xs) (record_at l at)) (append-nil d))
      ∙ turn_moved xs [] at (record_at d at) (record_within d at)

-- a turn is not cut and bad at once
cut_or_bad : {R : Type 0} → ◌≡◌ {A = Turn R} cut bad → ⊥
cut_or_bad e = absurd (let z : ◌≡◌ {A = ℕ} 0 1 = cc in omega arith)

-- ---- a record that is taken ends after its place, and an open end is where the bytes end

module _ {R : Type 0} (M : Receives R) (r : R) (m d : List ℕ) (at : ℕ) where
  turn_by_lem : {x : Done R} {next : ℕ} (q : Result (Option Record) Fault) → Within d at q → turn_by M r m d q ≡ took x next → (at < next) × (next ≤ length d)
  turn_by_lem {x} {next} (Ok (Some (Reading value n))) (low, high) e = let s : n ≡ next = cc in (omega arith, omega arith)
  turn_by_lem {x} {next} (Ok (Some (Frame id start k n))) (low, same, high, few) e = let s : n ≡ next = cc in (omega arith, omega arith)
  turn_by_lem (Ok None) w e = absurd (let z : ◌≡◌ {A = ℕ} 0 1 = cc in omega arith)
  turn_by_lem (Err Cut) w e = absurd (let z : ◌≡◌ {A = ℕ} 0 1 = cc in omega arith)
  turn_by_lem (Err f) w e = absurd (let z : ◌≡◌ {A = ℕ} 0 1 = cc in omega arith)

  pub turn_within : {x : Done R} {next : ℕ} → turn_at M r m d at ≡ took x next → (at < next) × (next ≤ length d)
  unfolding turn_at
  turn_within e = turn_by_lem (record_at d at) (record_within d at) e

  -- A record that the bytes cut off is not bad: more of them may follow
  pub cut_not_bad : record_at d at ≡ Err Cut → turn_at M r m d at ≡ cut
  unfolding turn_at
  cut_not_bad e = ap (turn_by M r m d) e

  -- and what is bad is never so by the fault Cut
  pub bad_never_cut : turn_at M r m d at ≡ bad → record_at d at ≡ Err Cut → ⊥
  bad_never_cut b e = cut_or_bad (sym (cut_not_bad e) ∙ b)

-- ---- the count that only ends the definition

same_turns : {R : Type 0} (s : State R) (t : Turn R) (f g : State R → List ℕ)
    → ((x : Done R) (next : ℕ) → t ≡ took x next → f (after s.records x next) ≡ g (after s.records x next)) → on_turn s t f ≡ on_turn s t g
same_turns s (took x next) f g h = ap (λ (l : List ℕ). x.lines ++ l) (h x next refl)
same_turns s over f g h = refl
same_turns s cut f g h = refl
same_turns s bad f g h = refl

module _ {R : Type 0} (M : Receives R) (d : List ℕ) where
  enough : (f g : ℕ) (s : State R) → length d - s.place < f → length d - s.place < g → lines_from M f s d ≡ lines_from M g s d
  unfolding lines_from
  enough zero g s h k = absurd (omega arith)
  enough (suc f) zero s h k = absurd (omega arith)
  enough (suc f) (suc g) s h k =
      same_turns s (turn_in M d s) (λ (u : State R). lines_from M f u d) (λ (u : State R). lines_from M g u d)
      (λ x next e.
      let (low, high) = turn_within M s.receiver s.store d s.place e in
      enough f g (after s.records x next) (omega arith) (omega arith))

  -- the definition without the count
  pub lines_turn : (s : State R) → lines_in M s d ≡ on_turn s (turn_in M d s) (λ (t : State R). lines_in M t d)
  unfolding lines_in lines_from
  lines_turn s =
      same_turns s (turn_in M d s) (λ (u : State R). lines_from M (length d) u d) (λ (u : State R). lines_from M (suc (length d)) u d)
      (λ x next e.
      let (low, high) = turn_within M s.receiver s.store d s.place e in
      enough (length d) (suc (length d)) (after s.records x next) (omega arith) (omega arith))

-- ---- record after record, within a longer trace

module _ {R : Type 0} (M : Receives R) (xs d ys : List ℕ) where
  abbrev whole : List ℕ
  whole = xs ++ (d ++ ys)

  -- a record of d is one of the whole
  took_whole : (t : State R) (x : Done R) (next : ℕ) → turn_in M d t ≡ took x next
      → lines_in M (further (length xs) t) whole ≡ x.lines ++ lines_in M (further (length xs) (after t.records x next)) whole
  took_whole t x next e =
      lines_turn M whole (further (length xs) t)
      ∙ ap (λ (u : Turn R). on_turn (further (length xs) t) u (λ (s : State R). lines_in M s whole))
      (turn_whole M t.receiver t.store d xs ys t.place (ap is_open e) ∙ ap (shifted (length xs)) e)

  goes_whole : {s t : State R} {l : List ℕ} → Goes M d s l t → lines_in M (further (length xs) s) whole ≡ l ++ lines_in M (further (length xs) t) whole
  goes_whole none = refl
  goes_whole (more {l} {t} x next g e) =
      goes_whole g
      ∙ ap (λ (k : List ℕ). l ++ k) (took_whole t x next e)
      ∙ sym (append_assoc l x.lines (lines_in M (further (length xs) (after t.records x next)) whole))

  bad_whole : (t : State R) → turn_in M d t ≡ bad → lines_in M (further (length xs) t) whole ≡ bad_line (length xs + t.place)
  bad_whole t e =
      lines_turn M whole (further (length xs) t)
      ∙ ap (λ (u : Turn R). on_turn (further (length xs) t) u (λ (s : State R). lines_in M s whole))
      (turn_whole M t.receiver t.store d xs ys t.place (ap is_open e) ∙ ap (shifted (length xs)) e)

goes_inside : {R : Type 0} (M : Receives R) (d : List ℕ) {s t : State R} {l : List ℕ} → Goes M d s l t → s.place ≤ length d → t.place ≤ length d
goes_inside M d none h = h
goes_inside M d (more {l} {t} x next g e) h = (turn_within M t.receiver t.store d t.place e).1

-- ---- the input's end

module _ {R : Type 0} (M : Receives R) (xs d : List ℕ) (t : State R) where
  at_end : (q : Result (Option Record) Fault) → Within d t.place q → is_open (turn_by M t.receiver t.store d q) ≡ true
      → (f : State R → List ℕ) → on_turn (further (length xs) t) (shifted (length xs) (turn_by M t.receiver t.store d q)) f
      ≡ final_line (length d - t.place) t.records (length xs + t.place)
  at_end (Ok None) w e f = let z : length d - t.place ≡ 0 = omega arith in sym (cond_true (eqb (length d - t.place) 0) _ _ (eq-eqb _ _ z))
  at_end (Err Cut) w e f = sym (cond_false (eqb (length d - t.place) 0) _ _ (ne_eqb (length d - t.place) 0 (λ (z : length d - t.place ≡ 0). omega arith)))
  at_end (Ok (Some (Reading value next))) w e f = absurd (false≢true e)
  at_end (Ok (Some (Frame id start n next))) w e f = absurd (false≢true e)
  at_end (Err g) w e f = absurd (false≢true e)

  open_whole : is_open (turn_in M d t) ≡ true
      → lines_in M (further (length xs) t) (xs ++ (d ++ [])) ≡ final_line (length d - t.place) t.records (length xs + t.place)
  unfolding turn_at
  open_whole e =
      lines_turn M (xs ++ (d ++ [])) (further (length xs) t)
      ∙ ap (λ (u : Turn R). on_turn (further (length xs) t) u (λ (s : State R). lines_in M s (xs ++ (d ++ [])))) (turn_last M t.receiver t.store d xs t.place)
      ∙ at_end (record_at d t.place) (record_within d t.place) e (λ (s : State R). lines_in M s (xs ++ (d ++ [])))

-- ---- what is left of d after t, by itself

module _ {R : Type 0} (M : Receives R) (d : List ℕ) (t : State R) where
  abbrev alone : State R
  alone = record { receiver = t.receiver; store = t.store; records = t.records; place = 0 }

  left_turn : t.place ≤ length d → turn_in M d t ≡ shifted t.place (turn_in M (drop t.place d) alone)
  left_turn h =
      let n : length (take t.place d) ≡ t.place = length-take-le t.place d h in
      let z : length (take t.place d) + 0 ≡ t.place = omega arith in
      let w : take t.place d ++ (drop t.place d ++ []) ≡ d = ap (λ (l : List ℕ). take t.place d ++ l) (append-nil (drop t.place d)) ∙ take-append-drop t.place d in
      ap (turn_at M t.receiver t.store d) (sym z)
      ∙ ap (λ (l : List ℕ). turn_at M t.receiver t.store l (length (take t.place d) + 0)) (sym w)
      ∙ turn_last M t.receiver t.store (drop t.place d) (take t.place d) 0
      ∙ ap (λ (k : ℕ). shifted k (turn_in M (drop t.place d) alone)) n

  unshift_bad : (k : ℕ) (u : Turn R) → shifted k u ≡ bad → u ≡ bad
  unshift_bad k (took x next) e = absurd (let z : ◌≡◌ {A = ℕ} 0 1 = cc in omega arith)
  unshift_bad k over e = absurd (let z : ◌≡◌ {A = ℕ} 0 1 = cc in omega arith)
  unshift_bad k cut e = absurd (let z : ◌≡◌ {A = ℕ} 0 1 = cc in omega arith)
  unshift_bad k bad e = refl

  unshift_open : (k : ℕ) (u : Turn R) → is_open (shifted k u) ≡ is_open u
  unshift_open k (took x next) = refl
  unshift_open k over = refl
  unshift_open k cut = refl
  unshift_open k bad = refl

  pub bad_kept : t.place ≤ length d → turn_in M d t ≡ bad → turn_in M (drop t.place d) alone ≡ bad
  bad_kept h e = unshift_bad t.place (turn_in M (drop t.place d) alone) (sym (left_turn h) ∙ e)

  pub open_kept : t.place ≤ length d → is_open (turn_in M d t) ≡ true → is_open (turn_in M (drop t.place d) alone) ≡ true
  open_kept h e = sym (unshift_open t.place (turn_in M (drop t.place d) alone)) ∙ ap is_open (sym (left_turn h)) ∙ e

-- ---- a run over pieces

-- the bytes of all pieces
abbrev pub joined : List (List ℕ) → List ℕ
joined [] = []
joined (p ∷ ps) = p ++ joined ps

-- s with its place counted from the first byte that is kept
abbrev pub from_kept : {R : Type 0} → State R → State R
from_kept s = record { receiver = s.receiver; store = s.store; records = s.records; place = 0 }

-- What a run does with the pieces that are still to come, where `kept` are the bytes after s that are there, and the lines that it writes:
-- it takes records of the kept bytes and drops what it took, reads a further piece after them, ends at a bad record, or ends with the input.
pub data Fed {R : Type 0} (M : Receives R) : State R → List ℕ → List (List ℕ) → List ℕ → Type 0 where
  takes : {s : State R} {kept : List ℕ} {ps : List (List ℕ)} {r : List ℕ} (l : List ℕ) (t : State R) → Goes M kept (from_kept s) l t
      → Fed M (further s.place t) (drop t.place kept) ps r → Fed M s kept ps (l ++ r)
  reads : {s : State R} {kept : List ℕ} {ps : List (List ℕ)} {r : List ℕ} (p : List ℕ) → Fed M s (kept ++ p) ps r → Fed M s kept (p ∷ ps) r
  fails : {s : State R} {kept : List ℕ} {ps : List (List ℕ)} → turn_in M kept (from_kept s) ≡ bad → Fed M s kept ps (bad_line s.place)
  ends : {s : State R} {kept : List ℕ} → is_open (turn_in M kept (from_kept s)) ≡ true → Fed M s kept [] (final_line (length kept) s.records s.place)

module _ {R : Type 0} (M : Receives R) where
  -- counted from the trace's first byte
  counted : (xs : List ℕ) (s : State R) → length xs ≡ s.place → further (length xs) (from_kept s) ≡ s
  counted xs s e =
      let z : length xs + 0 ≡ s.place = omega arith in
      ap (λ (n : ℕ). record { receiver = s.receiver; store = s.store; records = s.records; place = n }) z

  regrouped : (xs kept rest : List ℕ) (n : ℕ) → (xs ++ take n kept) ++ (drop n kept ++ rest) ≡ xs ++ (kept ++ rest)
  regrouped xs kept rest n =
      append_assoc xs (take n kept) (drop n kept ++ rest)
      ∙ ap (λ (l : List ℕ). xs ++ l) (sym (append_assoc (take n kept) (drop n kept) rest) ∙ ap (λ (l : List ℕ). l ++ rest) (take-append-drop n kept))

  -- After the bytes xs, the lines of the kept bytes and all further pieces are those that the run writes
  pub fed_lines : {s : State R} {kept : List ℕ} {ps : List (List ℕ)} {l : List ℕ} → Fed M s kept ps l → (xs : List ℕ) → length xs ≡ s.place
      → lines_in M s (xs ++ (kept ++ joined ps)) ≡ l
  fed_lines {s} {kept} {ps} (takes {r = r} l t g f) xs e =
      let inside : t.place ≤ length kept = goes_inside M kept g (omega arith) in
      let before : length (xs ++ take t.place kept) ≡ s.place + t.place =
      length-append xs (take t.place kept) ∙ ap (λ (n : ℕ). length xs + n) (length-take-le t.place kept inside) ∙ ap (λ (n : ℕ). n + t.place) e in
      ap (λ (u : State R). lines_in M u (xs ++ (kept ++ joined ps))) (sym (counted xs s e))
      ∙ goes_whole M xs kept (joined ps) g
      ∙ ap (λ (k : List ℕ). l ++ k)
      (ap (λ (n : ℕ). lines_in M (further n t) (xs ++ (kept ++ joined ps))) e
      ∙ ap (lines_in M (further s.place t)) (sym (regrouped xs kept (joined ps) t.place))
      ∙ fed_lines f (xs ++ take t.place kept) before)
  fed_lines {s} {kept} (reads {ps = ps} p f) xs e =
      ap (λ (l : List ℕ). lines_in M s (xs ++ l)) (sym (append_assoc kept p (joined ps))) ∙ fed_lines f xs e
  fed_lines {s} {kept} {ps} (fails h) xs e =
      let z : length xs + 0 ≡ s.place = omega arith in
      ap (λ (u : State R). lines_in M u (xs ++ (kept ++ joined ps))) (sym (counted xs s e))
      ∙ bad_whole M xs kept (joined ps) (from_kept s) h
      ∙ ap bad_line z
  fed_lines {s} {kept} (ends h) xs e =
      let z : length xs + 0 ≡ s.place = omega arith in
      let y : length kept - 0 ≡ length kept = omega arith in
      ap (λ (u : State R). lines_in M u (xs ++ (kept ++ []))) (sym (counted xs s e))
      ∙ open_whole M xs kept (from_kept s) h
      ∙ ap (λ (n : ℕ). final_line n s.records (length xs + 0)) y
      ∙ ap (final_line (length kept) s.records) z

  -- however a trace is cut into pieces, the lines joined are those of the whole
  pub cuts_agree : {s : State R} {ps : List (List ℕ)} {l : List ℕ} → s.place ≡ 0 → Fed M s [] ps l → lines_in M s (joined ps) ≡ l
  cuts_agree e f = fed_lines f [] (sym e)
