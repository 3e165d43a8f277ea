-- A frame of a key: what was found, what its session says and what was applied, beside the receiver's step.
use Rattle.std.specs.Prelude.{None, Option, Some, ℕ}
use Prim.Native.Nat.{ℕ, ◌+◌, ◌≤◌}
use native.Mathlib.Omega.{arith}
use mathlib.Core.Path.{◌≡◌, refl, sym, ap, subst, ◌∙◌}
use mathlib.Core.Bool.{Bool, true, false, cond, not}
use lib.Dec.{eqb}
use mathlib.Core.List.{List, [], ◌∷◌}
use lib.ListN.{length}
use Rattle.laws.specs.Choice.{each_of}
use Rattle.frame.specs.declared.refusal.Refusal.TheVariants.{KeyNotOpen, FormatIndicator}
use Rattle.transport.specs.declared.Key.{Key}
use Rattle.transport.specs.declared.segment.Segment.{Segment}
use Rattle.answer.specs.declared.Answer.{Answer}
use Rattle.progress.specs.declared.Progress.{Progress}
use Rattle.session.specs.declared.Session.{Session}
use Rattle.session.specs.declared.Change.{Change}
use Rattle.session.specs.declared.Change.TheVariants.{Stays, Opens, Moves, Ends}
use Rattle.session.specs.declared.Step.{Step}
use Rattle.session.specs.Bounds.{announced_ok, key_ok, progress_ok}
use Rattle.session.specs.Decisions.{segment_to, refused}
use Rattle.session.specs.Laws.{announced_agreed, takes_taking, taken_inside}
use Rattle.session.specs.Steps.{MeetsOpen, moves_takes}
use Rattle.slots.specs.Slots.{key_place, first_free, or_else, state_in}
use Rattle.slots.specs.Searches.{lowest_some}
use Rattle.slots.specs.Bounds.{values_ok, slots_ok}
use Rattle.slots.specs.Facts.{session_of_lem}
use Rattle.receiver.specs.declared.Receiver.{Receiver}
use Rattle.receiver.specs.Bounds.{in_bounds}
use Rattle.receiver.specs.Calls.{Stepped, Outcome, apply, stored, stored_by, segment_step}
use Rattle.record_bytes.specs.Layout.{record_at}
use Rattle.engine.specs.InBytes.{stepped_in}
use Rattle.engine.specs.Placed.{Placed, PlacedBy}

-- what was asked and applied with what the code found, and what the receiver finds
module _ (b : List ℕ) (ask : Option ℕ → Option Session → Step) (f g : Option ℕ) (x : Option Session) (st : Step) (ef : f ≡ g) (ex : x ≡ state_in f (record_at b).slots) (es : st ≡ ask f x) where
  pub same_step : st ≡ ask g (state_in g (record_at b).slots)
  same_step = es ∙ ap (ask f) ex ∙ ap (λ (z : Option ℕ). ask z (state_in z (record_at b).slots)) ef

  pub same_stepped : (y : Answer × List ℕ) → y ≡ stepped_in b (apply (record_at b) f st) → y ≡ stepped_in b (apply (record_at b) g (ask g (state_in g (record_at b).slots)))
  same_stepped y e =
      e
      ∙ ap (λ (z : Option ℕ). stepped_in b (apply (record_at b) z st)) ef
      ∙ ap (λ (z : Step). stepped_in b (apply (record_at b) g z)) same_step

  -- and what is stored by it
  pub same_stored : (n : ℕ) (d m o : List ℕ) → o ≡ stored_by st.change f x n d m
      → o ≡ stored_by (ask g (state_in g (record_at b).slots)).change g (state_in g (record_at b).slots) n d m
  same_stored n d m o e =
      e
      ∙ ap (λ (z : Option Session). stored_by st.change f z n d m) ex
      ∙ ap (λ (z : Option ℕ). stored_by st.change z (state_in z (record_at b).slots) n d m) ef
      ∙ ap (λ (z : Step). stored_by z.change g (state_in g (record_at b).slots) n d m) same_step

pub meets : (f : Step) (g : Step) (x y : Option Session) → f ≡ g → x ≡ y → MeetsOpen g.change x → MeetsOpen f.change y
meets f g x y e q m = subst (λ (z : Option Session). MeetsOpen f.change z) q (subst (λ (z : Step). MeetsOpen z.change x) (sym e) m)

-- ---- where the data of a segment lies

closed≢open : (s : Session) → None ≡ Some s → ⊥
closed≢open s e = let z : ◌≡◌ {A = ℕ} 0 1 = cc in omega arith

-- a session in a record in bounds is as an announcement allows
found_announced : (r : Receiver) (f : Option ℕ) (s : Session) → in_bounds r ≡ true → state_in f r.slots ≡ Some s → announced_ok s.announced ≡ true
unfolding in_bounds
found_announced r None s e g = absurd (closed≢open s g)
found_announced r (Some i) s e g =
    let ok = (each_of (values_ok r.own r.limits ∷ slots_ok r.own r.slots ∷ []) e).1.0 in
    (each_of (announced_ok s.announced ∷ key_ok r.own s.announced ∷ progress_ok s.announced s.progress ∷ []) (session_of_lem r.own r.slots i s ok g)).0

module _ (r : Receiver) (f : Option ℕ) (sg : Segment) (last : ℕ) (d : List ℕ) (e : in_bounds r ≡ true) (room : 4 + sg.room ≤ length d) where
  placed : (s : Session) (p : Progress) → state_in f r.slots ≡ Some s → (segment_to (Some s) sg last).change ≡ Moves p → Placed s sg.number.0 d
  placed s p q m =
      let t = moves_takes sg last s p m in
      let a = announced_agreed s.announced (found_announced r f s e q) in
      let taking = takes_taking s sg.number.0 sg.room t in
      let in-message = taken_inside s sg.number.0 sg.room a t in
      record { low = taking.low; inside = omega (arith, a.fits); enough = omega (arith, taking.enough) }

  pub placed_by : (x : Option Session) (st : Step) → x ≡ state_in f r.slots → st ≡ segment_to x sg last → PlacedBy st.change x sg.number.0 d
  placed_by x st ex es = go x st.change ex (ap (λ (z : Step). z.change) (sym es))
    where
      go : (y : Option Session) (c : Change Session Progress) → y ≡ state_in f r.slots → (segment_to y sg last).change ≡ c → PlacedBy c y sg.number.0 d
      go (Some s) (Moves p) q m = placed s p (sym q) m
      go None (Moves p) q m = tt
      go y Stays q m = tt
      go y (Opens s) q m = tt
      go y Ends q m = tt

-- ---- what is stored, by cases

module _ (c : Change Session Progress) (f : Option ℕ) (x : Option Session) (n : ℕ) (d m : List ℕ) (p : Progress) (ec : c ≡ Moves p) where
  pub placed_of : (s : Session) → x ≡ Some s → PlacedBy c x n d → Placed s n d
  placed_of s ex h =
      subst (λ (z : Option Session). PlacedBy (Moves p) z n d) ex (subst (λ (z : Change Session Progress). PlacedBy z x n d) ec h)

  by_moves : (o : List ℕ) → o ≡ stored_by (Moves p) f x n d m → o ≡ stored_by c f x n d m
  by_moves o e = e ∙ ap (λ (z : Change Session Progress). stored_by z f x n d m) (sym ec)

  pub stored_nowhere : f ≡ None → m ≡ stored_by c f x n d m
  stored_nowhere ef = by_moves m (ap (λ (z : Option ℕ). stored_by (Moves p) z x n d m) (sym ef))

  module _ (i : ℕ) (ef : f ≡ Some i) where
    by_state : (y : Option Session) → x ≡ y → (o : List ℕ) → o ≡ stored_by (Moves p) (Some i) y n d m → o ≡ stored_by c f x n d m
    by_state y ex o e =
        by_moves o
        (e
        ∙ ap (λ (z : Option Session). stored_by (Moves p) (Some i) z n d m) (sym ex)
        ∙ ap (λ (z : Option ℕ). stored_by (Moves p) z x n d m) (sym ef))

    pub stored_closed : x ≡ None → m ≡ stored_by c f x n d m
    stored_closed ex = by_state None ex m refl

    pub stored_at : (s : Session) → x ≡ Some s → (o : List ℕ) → o ≡ stored i s n d m → o ≡ stored_by c f x n d m
    stored_at s ex o e = by_state (Some s) ex o e

-- ---- a segment looks for the slot that has its key open, and for no free one

-- a segment's step at a slot, whichever it is, of what is known of the key there
abbrev segment_of : Receiver → Option ℕ → Option Session → Segment → List ℕ → List ℕ → Outcome
segment_of r f x sg d m =
    let st : Step = segment_to x sg r.last in
    (apply r f st, stored_by st.change f x sg.number.0 d m)

abbrev pub segment_at : Receiver → Option ℕ → Segment → List ℕ → List ℕ → Outcome
segment_at r f sg d m = segment_of r f (state_in f r.slots) sg d m

module _ (r : Receiver) (k : Key) (sg : Segment) (d m : List ℕ) where
  -- with no session open nothing is written, wherever it is
  closed_anywhere : (i : ℕ) → segment_of r None None sg d m ≡ segment_of r (Some i) None sg d m
  unfolding segment_to
  closed_anywhere i = go (not (eqb sg.format 0))
    where
      by : Option ℕ → Step → Outcome
      by f st = (apply r f st, stored_by st.change f None sg.number.0 d m)

      go : (t : Bool) → by None (cond t (refused FormatIndicator) (refused KeyNotOpen)) ≡ by (Some i) (cond t (refused FormatIndicator) (refused KeyNotOpen))
      go true = refl
      go false = refl

  free_closed : (g : Option ℕ) → first_free r.slots ≡ g → segment_at r None sg d m ≡ segment_at r g sg d m
  free_closed None e = refl
  free_closed (Some i) e =
      closed_anywhere i ∙ ap (λ (x : Option Session). segment_of r (Some i) x sg d m) (sym (lowest_some r.slots i e).0)

  pub by_key : segment_at r (key_place k r.slots) sg d m ≡ segment_step r k sg d m
  unfolding segment_step
  by_key = go (key_place k r.slots)
    where
      go : (f : Option ℕ) → segment_at r f sg d m ≡ segment_at r (or_else f (first_free r.slots)) sg d m
      go (Some i) = refl
      go None = free_closed (first_free r.slots) refl
