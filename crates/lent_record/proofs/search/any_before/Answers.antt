use Prim.Native.Nat.{ℕ, zero, suc, ◌+◌, ◌-◌, ◌<◌}
use mathlib.Core.Path.{◌≡◌, refl, sym, ap, ◌∙◌}
use mathlib.Core.Bool.{Bool, true, false, ◌||◌, or-true}
use mathlib.Core.List.{List}
use lib.Dec.{ltb}
use lib.ListN.{get_or}
use native.Mathlib.Omega.{arith}
use native.Mathlib.Numerals.{add-one}
use borrow.Author.Tests.{ltb-true, ltb-false}
use Rattle.laws.specs.Bools.{by_test}
use Rattle.laws.specs.Choice.{or_next, or_stop}
use Rattle.transport.specs.declared.Key.{Key}
use Rattle.slots.specs.Slots.{free_slot, holds_key}
use Rattle.slots.specs.Bounds.{any_holds}
use Rattle.record_bytes.specs.Layout.{slots_at}
use Rattle.lent_record.specs.Judged.{slots_before}
use borrow.Author.Rules.{rules}
use Rattle.lent_record.proofs.search.any_before.Goals as goal

-- one that has it is among those before slot i
one_before : (k : Key) (b : List ℕ) (i j : ℕ) → j < i → holds_key k (get_or (slots_at b) j free_slot) ≡ true → true ≡ any_holds k (slots_before b i)
one_before k b zero j l h = absurd (omega arith)
one_before k b (suc i) j l h =
    let t : Bool = holds_key k (get_or (slots_at b) i free_slot) in
    by_test (ltb j i) (λ e. sym (or-true t) ∙ ap (λ (u : Bool). t || u) (one_before k b i j (ltb-true j i e) h))
    (λ e. let q : i ≡ j = omega (arith, ltb-false j i e) in or_stop _ _ (ap (λ (n : ℕ). holds_key k (get_or (slots_at b) n free_slot)) q ∙ h))

none_more : (k : Key) (b : List ℕ) (j : ℕ) → false ≡ any_holds k (slots_before b j) → holds_key k (get_or (slots_at b) j free_slot) ≡ false
    → false ≡ any_holds k (slots_before b (j + 1))
none_more k b j e h = or_next _ _ _ h e ∙ ap (λ (n : ℕ). any_holds k (slots_before b n)) (sym (add-one j))

pub loop-j-init : goal.loop-j-init
loop-j-init c = (search rules, search rules, search rules, refl)

pub returns-then-j-i : goal.returns-then-j-i
returns-then-j-i c =
    let a = c.args in
    c.loop-j.invariant.3 ∙ ap (λ (n : ℕ). any_holds a.k (slots_before a.bytes.now n)) c.if-j-i.true

pub returns-then-holds_key : goal.returns-then-holds_key
returns-then-holds_key c =
    let a = c.args in
    let at = c.loop-j in
    let b = a.bytes.now in
    let l : at.j < a.i = omega (arith, c.if-j-i.false) in
    one_before a.k b a.i at.j l (sym c.holds_key.ensures ∙ c.if-holds_key.true)

pub loop-j-preserved : goal.loop-j-preserved
loop-j-preserved c =
    let a = c.args in
    let at = c.loop-j in
    let b = a.bytes.now in (
      search rules,
      omega (arith, c.if-j-i.false),
      search rules,
      none_more a.k b at.j at.invariant.3 (sym c.holds_key.ensures ∙ c.if-holds_key.false),
    )

pub returns : goal.returns
returns c =
    let a = c.args in
    let at = c.loop-j in
    let e : at.j ≡ a.i = omega arith in
    at.invariant.3 ∙ ap (λ (n : ℕ). any_holds a.k (slots_before a.bytes.now n)) e
