-- The loop over the records: what one step of it tells, and what holds between two.
use Prim.Native.Nat.{ℕ, ◌+◌, ◌-◌, ◌<◌, ◌≤◌}
use native.Mathlib.Omega.{arith}
use mathlib.Core.Path.{◌≡◌, refl, sym, ap, subst, ◌∙◌}
use mathlib.Core.Bool.{true, false, cond}
use mathlib.Core.List.{List, [], ◌++◌}
use lib.Dec.{leb}
use lib.ListN.{length, take, drop, length-append}
use lib.Seq.{length-take-le}
use borrow.Author.Tests.{leb-true, leb-false}
use Rattle.std.specs.Prelude.{Result, Ok, Err}
use Rattle.laws.specs.Bools.{by_test, cond_true, cond_false}
use Rattle.text.specs.Line.{fits}
use Rattle.text.specs.Put.{put, put_nil, PutAt, put_then}
use Rattle.run.specs.Lines.{Done, Turn, took, over, cut, bad, turn_at}
use Rattle.run.specs.Steps.{in_bytes, Left, took_to, step_of}
use Rattle.run.specs.Cuts.{turn_within}
use Rattle.run.specs.Goes.{Goes, none, more, lying, is_open, record_room, why_of, Stops, Taken}
use Rattle.run.specs.declared.step.Took.{Took}
use Rattle.run.specs.declared.step.Untaken.{Untaken}
use Rattle.run.specs.declared.step.Untaken.TheVariants as untaken
use Rattle.run.specs.declared.piece.Stop.{Stop}
use Rattle.run.specs.declared.piece.Stop.TheVariants as stop

-- ---- a step that takes a record

pub record TookBy (o : List ℕ) (p : ℕ) (t : Turn (List ℕ)) (next q : ℕ) (b' m' o' : List ℕ) : Type 0 where
  pub done : Done (List ℕ)
  pub turn : t ≡ took done next
  pub receiver : b' ≡ done.receiver
  pub store : m' ≡ done.store
  pub lines : PutAt o p done.lines q o'
  pub room : p + length done.lines ≤ length o

-- a record that was taken is not untaken
not_taken : {A : Type 0} {k : Took} {z : Untaken} → ◌≡◌ {A = Result Took Untaken} (Ok k) (Err z) → A
not_taken e = absurd (let z : ◌≡◌ {A = ℕ} 0 1 = cc in omega arith)

-- the same reason, turned round
same_reason : {y z : Untaken} → ◌≡◌ {A = Result Took Untaken} (Err z) (Err y) → y ≡ z
same_reason e = cc

module _ (b m o : List ℕ) (p : ℕ) where
  took_of : (t : Turn (List ℕ)) {k : Took} {b' m' o' : List ℕ} → ◌≡◌ {A = Left} (Ok k, (b', (m', o'))) (step_of t b m o p)
      → TookBy o p t k.next k.put b' m' o'
  took_of (took x n) {k} {b'} {m'} {o'} e =
      let l : List ℕ = x.lines in
      let answer : ◌≡◌ {A = Result Took Untaken} (Ok k) (cond (fits o p l) (Ok (took_to n (p + length l))) (Err untaken.Short)) = ap (λ (z : Left). z.0) e in
      by_test (fits o p l)
      (λ h.
      let s : ◌≡◌ {A = Result Took Untaken} (Ok k) (Ok (took_to n (p + length l))) = answer ∙ cond_true (fits o p l) _ _ h in
      let same : k ≡ took_to n (p + length l) = cc in
      record {
        done = x;
        turn = ap (λ (z : Took). took x z.next) (sym same);
        receiver = ap (λ (z : Left). z.1.0) e;
        store = ap (λ (z : Left). z.1.1.0) e;
        lines = record { place = ap (λ (z : Took). z.put) same; bytes = ap (λ (z : Left). z.1.1.1) e ∙ cond_true (fits o p l) _ _ h };
        room = leb-true _ _ h;
      })
      (λ h. not_taken (answer ∙ cond_false (fits o p l) _ _ h))
  took_of over e = not_taken (ap (λ (z : Left). z.0) e)
  took_of cut e = not_taken (ap (λ (z : Left). z.0) e)
  took_of bad e = not_taken (ap (λ (z : Left). z.0) e)

  pub took_by : {s : Result Took Untaken} {k : Took} {b' m' o' : List ℕ} (t : Turn (List ℕ)) → s ≡ Ok k
      → ◌≡◌ {A = Left} (s, (b', (m', o'))) (step_of t b m o p) → TookBy o p t k.next k.put b' m' o'
  took_by {s} {k} {b'} {m'} {o'} t e h = took_of t (subst (λ (z : Result Took Untaken). ◌≡◌ {A = Left} (z, (b', (m', o'))) (step_of t b m o p)) e h)

-- ---- a step that is the last

module _ (d b m o : List ℕ) (k at p : ℕ) (enough : p + record_room ≤ length o) where
  abbrev Last : Untaken → List ℕ → List ℕ → Type 0
  Last z b' m' = Stops d (lying b m k at) (length o) p (why_of z) b' m'

  ends_by_lem : (t : Turn (List ℕ)) → turn_at in_bytes b m d at ≡ t → {z : Untaken} {b' m' o' : List ℕ}
      → ◌≡◌ {A = Left} (Err z, (b', (m', o'))) (step_of t b m o p) → Last z b' m' × (o' ≡ o)
  ends_by_lem (took x n) f {z} {b'} {m'} {o'} e =
      let l : List ℕ = x.lines in
      let answer : ◌≡◌ {A = Result Took Untaken} (Err z) (cond (fits o p l) (Ok (took_to n (p + length l))) (Err untaken.Short)) = ap (λ (z : Left). z.0) e in
      by_test (fits o p l)
      (λ g. not_taken (sym (answer ∙ cond_true (fits o p l) _ _ g)))
      (λ g. (
        subst (λ (y : Untaken). Last y b' m') (same_reason (answer ∙ cond_false (fits o p l) _ _ g))
            (x, n, f, enough, leb-false _ _ g, ap (λ (z : Left). z.1.0) e, ap (λ (z : Left). z.1.1.0) e),
        ap (λ (z : Left). z.1.1.1) e ∙ cond_false (fits o p l) _ _ g,
      ))
  ends_by_lem over f {z} {b'} {m'} e = (
    subst (λ (y : Untaken). Last y b' m') (same_reason (ap (λ (z : Left). z.0) e)) (ap is_open f, ap (λ (z : Left). z.1.0) e, ap (λ (z : Left). z.1.1.0) e),
    ap (λ (z : Left). z.1.1.1) e,
  )
  ends_by_lem cut f {z} {b'} {m'} e = (
    subst (λ (y : Untaken). Last y b' m') (same_reason (ap (λ (z : Left). z.0) e)) (ap is_open f, ap (λ (z : Left). z.1.0) e, ap (λ (z : Left). z.1.1.0) e),
    ap (λ (z : Left). z.1.1.1) e,
  )
  ends_by_lem bad f {z} {b'} {m'} e = (
    subst (λ (y : Untaken). Last y b' m') (same_reason (ap (λ (z : Left). z.0) e)) (f, enough, ap (λ (z : Left). z.1.0) e, ap (λ (z : Left). z.1.1.0) e),
    ap (λ (z : Left). z.1.1.1) e,
  )

-- ---- between two steps

pub put_inside : (d : List ℕ) (p : ℕ) (x : List ℕ) → length (put d p x) ≡ length d → p ≤ length d → p + length x ≤ length d
unfolding put
put_inside d p x e h =
    let a : length (put d p x) ≡ length (take p d) + length (x ++ drop (p + length x) d) = length-append (take p d) (x ++ drop (p + length x) d) in
    let b : length (x ++ drop (p + length x) d) ≡ length x + length (drop (p + length x) d) = length-append x (drop (p + length x) d) in
    let f : length (take p d) ≡ p = length-take-le p d h in
    omega arith

pub record Walking (d : List ℕ) (k : ℕ) (b m o : List ℕ) (p : ℕ) (b' m' o' : List ℕ) (at q good : ℕ) : Type 0 where
  pub lines : List ℕ
  pub goes : Goes in_bytes d (lying b m k 0) lines (lying b' m' good at)
  pub written : PutAt o p lines q o'
  pub inside : at ≤ length d
  pub count : good ≤ k + at
  pub same_b : length b' ≡ length b
  pub same_m : length m' ≡ length m
  pub same_o : length o' ≡ length o

module _ (d : List ℕ) (k : ℕ) (b m o : List ℕ) (p : ℕ) where
  pub walk_start : Walking d k b m o p b m o 0 p k
  walk_start =
      record {
        lines = [];
        goes = none;
        written = record { place = omega arith; bytes = sym (put_nil o p) };
        inside = omega arith;
        count = omega arith;
        same_b = refl;
        same_m = refl;
        same_o = refl;
      }

  module _ (b₁ m₁ o₁ : List ℕ) (at q good : ℕ) (w : Walking d k b m o p b₁ m₁ o₁ at q good) where
    walk_inside : p ≤ length o → q ≤ length o
    walk_inside h =
        let a : q ≡ p + length w.lines = w.written.place in
        let g : p + length w.lines ≤ length o = put_inside o p w.lines (sym (ap length w.written.bytes) ∙ w.same_o) h in
        omega arith

    module _ (next q₂ : ℕ) (b₂ m₂ o₂ : List ℕ) (t : TookBy o₁ q (turn_at in_bytes b₁ m₁ d at) next q₂ b₂ m₂ o₂) where
      pub walk_less : length d - next < length d - at
      walk_less = let (low, high) = turn_within in_bytes b₁ m₁ d at t.turn in omega arith

      pub walk_count : good + 1 ≤ k + length d
      walk_count = let (low, high) = turn_within in_bytes b₁ m₁ d at t.turn in let g = w.count in omega arith

      pub walk_on : length b₂ ≡ length b₁ → length m₂ ≡ length m₁ → length o₂ ≡ length o₁ → Walking d k b m o p b₂ m₂ o₂ next q₂ (good + 1)
      walk_on f g h =
          let x : Done (List ℕ) = t.done in
          let (low, high) = turn_within in_bytes b₁ m₁ d at t.turn in
          let count = w.count in
          let place : q ≡ p + length w.lines = w.written.place in
          let room : q + length x.lines ≤ length o₁ = t.room in
          let same : length o₁ ≡ length o = w.same_o in
          record {
            lines = w.lines ++ x.lines;
            goes =
                subst (λ (z : List ℕ). Goes in_bytes d (lying b m k 0) (w.lines ++ x.lines) (lying z m₂ (good + 1) next)) (sym t.receiver)
                (subst (λ (z : List ℕ). Goes in_bytes d (lying b m k 0) (w.lines ++ x.lines) (lying x.receiver z (good + 1) next)) (sym t.store)
                (more x next w.goes t.turn));
            written = put_then o p w.lines q o₁ (omega arith) w.written x.lines q₂ o₂ t.lines;
            inside = high;
            count = omega arith;
            same_b = f ∙ w.same_b;
            same_m = g ∙ w.same_m;
            same_o = h ∙ same;
          }

    -- no room is left
    pub walk_full : leb (q + record_room) (length o₁) ≡ false → Taken d k b m o p (record { at = at; put = q; records = good; stop = stop.Room }) b₁ m₁ o₁
    walk_full e =
        let h : length o₁ < q + record_room = leb-false _ _ e in
        let same : length o₁ ≡ length o = w.same_o in
        record {
          lines = w.lines;
          to = lying b₁ m₁ good at;
          goes = w.goes;
          written = w.written;
          inside = walk_inside;
          records = refl;
          place = refl;
          within = w.inside;
          stops = (omega arith, refl, refl);
        }

    pub walk_last : (s : Result Took Untaken) (y : Untaken) (r : Stop) (b₂ m₂ o₂ : List ℕ) → leb (q + record_room) (length o₁) ≡ true
        → s ≡ Err y → ◌≡◌ {A = Left} (s, (b₂, (m₂, o₂))) (step_of (turn_at in_bytes b₁ m₁ d at) b₁ m₁ o₁ q) → r ≡ why_of y
        → Taken d k b m o p (record { at = at; put = q; records = good; stop = r }) b₂ m₂ o₂
    walk_last s y r b₂ m₂ o₂ e h g f =
        let (stops, left) =
        ends_by_lem d b₁ m₁ o₁ good at q (leb-true _ _ e) (turn_at in_bytes b₁ m₁ d at) refl
        (subst (λ (z : Result Took Untaken). ◌≡◌ {A = Left} (z, (b₂, (m₂, o₂))) (step_of (turn_at in_bytes b₁ m₁ d at) b₁ m₁ o₁ q)) h g) in
        record {
          lines = w.lines;
          to = lying b₁ m₁ good at;
          goes = w.goes;
          written = subst (PutAt o p w.lines q) (sym left) w.written;
          inside = walk_inside;
          records = refl;
          place = refl;
          within = w.inside;
          stops =
              subst (λ (n : ℕ). Stops d (lying b₁ m₁ good at) n q r b₂ m₂) w.same_o
              (subst (λ (z : Stop). Stops d (lying b₁ m₁ good at) (length o₁) q z b₂ m₂) (sym f) stops);
        }
