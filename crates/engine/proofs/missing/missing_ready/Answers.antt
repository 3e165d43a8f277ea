use Rattle.std.specs.Prelude.{Err, Ok, Option, ℕ}
use mathlib.Core.Path.{◌≡◌, sym, ap, ◌∙◌}
use Rattle.laws.specs.Choice.{then}
use Rattle.frame.specs.declared.refusal.Refusal.TheVariants.{KeyNotOpen}
use Rattle.session.specs.Ends.{lacking}
use Rattle.slots.specs.Slots.{state_in, on_state}
use Rattle.lent_record.specs.Ready.{ready_of}
use Rattle.record_bytes.specs.Layout.{slots_at}
use Rattle.engine.specs.Missing.{missing_in}
use Rattle.engine.proofs.missing.missing_ready.Goals as goal
use Rattle.session.specs.declared.Session.{Session}

-- what is known of the key, answered
answered : {x : (Option Session)} (y : Option Session) → x ≡ y → on_state x (λ s. Ok (lacking s)) (Err KeyNotOpen) ≡ on_state y (λ s. Ok (lacking s)) (Err KeyNotOpen)
answered y e = ap (λ (z : Option Session). on_state z (λ s. Ok (lacking s)) (Err KeyNotOpen)) e

pub state_in-requires : goal.state_in-requires
state_in-requires c = c.find_key.ensures.1

pub returns-in-Some : goal.returns-in-Some
unfolding missing_in
returns-in-Some c =
    then _ _ _ _ c.requires
    (ap Ok c.missing_in.ensures ∙ answered _ (sym c.in-Some.is ∙ c.state_in.ensures ∙ ap (λ (f : Option ℕ). state_in f (slots_at c.args.buffer.now)) c.find_key.ensures.0))

pub returns-in-None : goal.returns-in-None
unfolding missing_in
returns-in-None c =
    then _ _ _ _ c.requires
    (answered _ (sym c.in-None.is ∙ c.state_in.ensures ∙ ap (λ (f : Option ℕ). state_in f (slots_at c.args.buffer.now)) c.find_key.ensures.0))
