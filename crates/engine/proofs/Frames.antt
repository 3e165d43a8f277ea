-- A frame by its verdict, with the buffer around the receiver's step.
use Rattle.std.specs.Prelude.{Result}
use Prim.Native.Nat.{ℕ}
use mathlib.Core.Path.{◌≡◌, refl, sym, ap, ◌∙◌}
use mathlib.Core.Bool.{Bool, true, false, not, ◌&&◌}
use mathlib.Core.List.{List, [], ◌∷◌}
use lib.Dec.{eqb}
use lib.ListN.{length, get_or}
use borrow.Author.Tests.{not-true, not-false}
use Rattle.laws.specs.Choice.{then, else, each_of}
use Rattle.frame.specs.Judge.{judged}
use Rattle.frame.specs.declared.Address.{Address}
use Rattle.frame.specs.declared.judge.Route.{Route}
use Rattle.frame.specs.declared.refusal.Refusal.TheVariants.{OutOfBounds}
use Rattle.multi_pg.specs.Groups.{GroupsRead, good, bad, judgement_of}
use Rattle.answer.specs.declared.Answer.{Answer}
use Rattle.answer.specs.declared.Answer.TheVariants.{Groups, Refused}
use Rattle.receiver.specs.Bounds.{in_bounds}
use Rattle.receiver.specs.Calls.{answered, is_ready, groups_step, on_verdict, frame_all}
use Rattle.record_bytes.specs.Places.{own_place}
use Rattle.record_bytes.specs.Layout.{is_record, record_at}
use Rattle.record_bytes.specs.Kept.{Bytes}
use Rattle.record_bytes.proofs.Kept.{keep}
use Rattle.lent_record.specs.Ready.{ready_in, Ready, ready_of}
use Rattle.engine.specs.InBytes.{Holds, InBytes, groups_answer, outcome_in, frame_in}
use Rattle.frame.specs.declared.judge.Content.{Content}
use Rattle.frame.specs.declared.refusal.Refusal.{Refusal}

pub ready_step : (b m : List ℕ) → ready_in b (length m) ≡ true → is_ready (record_at b) m ≡ true
unfolding ready_in
ready_step b m e = (each_of (is_record b ∷ (eqb (length m) 32768 && in_bounds (record_at b)) ∷ []) e).1.0

module _ (b : List ℕ) (id : ℕ) (d m : List ℕ) (t : Bool) (et : t ≡ ready_in b (length m)) where
  pub not_ready : not t ≡ true → ◌≡◌ {A = InBytes} (Refused OutOfBounds, (b, m)) (frame_in b id d m)
  unfolding frame_in
  not_ready h = else (ready_in b (length m)) _ _ _ (sym et ∙ not-true _ h) refl

  module _ (h : not t ≡ false) where
    pub is_ready_lem : Ready b (length m)
    is_ready_lem = ready_of b (length m) (sym et ∙ not-false _ h)

    pub holds : Bytes b → Holds b
    holds y = record { codes = is_ready_lem.codes; bytes = y }

    by_whole : (x : InBytes) → x ≡ outcome_in b (frame_all (record_at b) id d m) → x ≡ frame_in b id d m
    unfolding frame_in
    by_whole x e = then (ready_in b (length m)) _ _ _ (sym et ∙ not-false _ h) e

    pub by_verdict_lem : (own : Address) (v z : Result Content Refusal) (x : InBytes) → own.0 ≡ get_or b own_place 0 → v ≡ judged own id (length d) → v ≡ z
        → x ≡ outcome_in b (on_verdict z (record_at b) d m) → x ≡ frame_in b id d m
    unfolding frame_all
    by_verdict_lem own v z x eo ev ez e =
        by_whole x
        (e
        ∙ ap (λ (w : Result Content Refusal). outcome_in b (on_verdict w (record_at b) d m)) (sym ez ∙ ev ∙ ap (λ (n : ℕ). judged (record { 0 = n }) id (length d)) eo)
        ∙ ap (outcome_in b) (then (is_ready (record_at b) m) _ _ _ (ready_step b m (sym et ∙ not-false _ h)) refl))

-- what leaves the record as it is
module _ (b m : List ℕ) (h : Holds b) where
  pub seen_same : (a : Answer) → ◌≡◌ {A = InBytes} (a, (b, m)) (outcome_in b (answered (record_at b) a, m))
  seen_same a = ap (λ (l : List ℕ). (a, (l, m))) (sym (keep b h.bytes h.codes))

  pub by_groups : (a : Answer) (x : GroupsRead) (route : Route) → a ≡ groups_answer (judgement_of x) route → ◌≡◌ {A = InBytes} (a, (b, m)) (outcome_in b (groups_step x route (record_at b), m))
  by_groups a (good gs) route e = ap (λ (y : Answer). (y, (b, m))) e ∙ seen_same (Groups route)
  by_groups a (bad n) route e = ap (λ (y : Answer). (y, (b, m))) e ∙ seen_same (Refused n)
