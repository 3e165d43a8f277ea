use Rattle.std.specs.Prelude.{Option, ℕ}
use Prim.Native.Nat.{ℕ}
use mathlib.Core.Path.{ap, ◌∙◌}
use mathlib.Core.List.{List}
use Rattle.session.specs.declared.Step.{Step}
use Rattle.session.specs.Decisions.{segment_to}
use Rattle.session.specs.Steps.{segment_meets}
use Rattle.slots.specs.Slots.{key_place}
use Rattle.receiver.specs.declared.Receiver.{Receiver}
use Rattle.record_bytes.specs.Layout.{record_at}
use Rattle.engine.specs.InBytes.{outcome_in}
use Rattle.engine.proofs.Writes.{seen_put}
use Rattle.engine.proofs.Steps.{same_stepped, same_stored, meets, placed_by, by_key}
use Rattle.engine.proofs.segment.segment.Goals as goal
use Rattle.session.specs.declared.Session.{Session}

pub store_taken-requires : goal.store_taken-requires
store_taken-requires c =
    let a = c.args in
    let r = record_at a.buffer.now in (
      c.find_key-f.ensures.1,
      placed_by r c.find_key-f.result a.sg c.word_at.result a.bytes.now c.requires.0 c.requires.2
          c.state_in-x.result _ c.state_in-x.ensures c.segment-step.ensures,
      c.requires.3,
    )

pub apply-requires : goal.apply-requires
apply-requires c = (
  c.requires.4,
  c.find_key-f.ensures.1,
  meets _ _ _ _ c.segment-step.ensures c.state_in-x.ensures (segment_meets _ _ _),
)

pub returns : goal.returns
returns c =
    let a = c.args in
    let b : List ℕ = a.buffer.now in
    let r : Receiver = record_at b in
    let g : Option ℕ = key_place a.k r.slots in
    let x = c.state_in-x.result in
    let ask : Option ℕ → Option Session → Step = λ (h : Option ℕ) (y : Option Session). segment_to y a.sg r.last in
    let e = c.segment-step.ensures ∙ ap (segment_to x a.sg) c.word_at.ensures in
    let p = c.find_key-f.ensures.0 in
    let q = c.state_in-x.ensures in
    seen_put _ _ _ _ _
    (same_stepped b ask c.find_key-f.result g x _ p q e _ c.apply.ensures)
    (same_stored b ask c.find_key-f.result g x _ p q e a.sg.number.0 a.bytes.now a.store.now _ c.store_taken.ensures)
    ∙ ap (outcome_in b) (by_key r a.k a.sg a.bytes.now a.store.now)
