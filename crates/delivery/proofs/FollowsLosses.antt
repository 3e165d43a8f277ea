-- The records follow the link over queues that lose frames, and where ends fall silent: as in Follows, with the Aborts that then go out.
use Rattle.std.specs.Prelude.{None, Option, Some}
use Prim.Native.Nat.{ℕ}
use mathlib.Core.Path.{◌≡◌, refl, sym, ap, ◌∙◌, subst}
use mathlib.Core.Bool.{Bool, false}
use mathlib.Core.List.{List, [], ◌∷◌, ◌++◌}
use Rattle.sender.specs.Model as sender
use Rattle.receiver.specs.Calls.{reading_step}
use Rattle.isolation.specs.Replies.{Wire}
use Rattle.isolation.specs.Rules.{ends_at}
use Rattle.isolation.specs.World.{World}
use Rattle.isolation.specs.Observe.{endings_of}
use Rattle.delivery.specs.Link as link
use Rattle.delivery.specs.Link.{Setting, key_in, Link}
use Rattle.delivery.specs.Arrival.{Fair}
use Rattle.delivery.specs.Losses as losses
use Rattle.delivery.specs.Losses.{without_oldest, sent_at, sent_in}
use Rattle.delivery.specs.System.{System, state_for, ask, take_forward, take_backward, read_sender, read_receiver, frame_aside, announce_aside, ask_aside, hear_aside, step}
use Rattle.delivery.specs.WholeLosses.{Lossy, keeps, loses_forward, loses_backward, queues, endings_for, sent_after, lossy, AllowsAt, turns}
use Rattle.delivery.proofs.Rights.{Rights, rights_join}
use Rattle.delivery.proofs.SafeSender.{fits_heard, at_reading}
use Rattle.delivery.proofs.Queues.{Responses, responses_join, ends_respond}
use Rattle.delivery.proofs.Sides.{in_bounds_lem, reading_sends}
use Rattle.delivery.proofs.Receiving.{reading_ends}
use Rattle.delivery.proofs.Follows.{link_of, Fits, Stands, link_move, moved_works, heard_sends, aimed, follows, works_as}

-- ---- the move of the lossy link that a move of the lossy system is, if it is one

abbrev pub kept : Option link.Move → Option losses.Lossy
kept None = None
kept (Some u) = Some (losses.keeps u)

abbrev pub lossy_move : Lossy → Option losses.Lossy
lossy_move (keeps v) = kept (link_move v)
lossy_move loses_forward = Some losses.loses_forward
lossy_move loses_backward = Some losses.loses_backward

abbrev pub lossy_moved : Setting → Link → Option losses.Lossy → Link
lossy_moved s x None = x
lossy_moved s x (Some u) = losses.lossy s x u

abbrev pub moved_turns : Setting → Link → Option losses.Lossy → Bool
moved_turns s x None = false
moved_turns s x (Some u) = losses.turns s x u

-- ---- other frames on their way

module _ (s : Setting) where
  requeued : (y : System) (x : Link) → Stands s y x → (fs bs : List Wire) → Rights s fs → Responses s bs → Stands s (queues y fs bs) (losses.queues x fs bs)
  unfolding queues losses.queues
  requeued y x h fs bs forth back = record {
    world = h.world;
    fits = record {
      ready = h.fits.ready;
      own = h.fits.own;
      limit = h.fits.limit;
      sim = h.fits.sim;
      transfer = h.fits.transfer;
      forth = forth;
      back = back;
    };
    same = ap (λ (z : Link). losses.queues z fs bs) h.same;
  }

  -- what goes out of the records goes out of the link, and is the key's: to the receiver, to the sender
  abbrev Forth : List Wire → List Wire → Type 0
  Forth gs gs' = (gs ≡ gs') × Rights s gs'

  abbrev Back : List Wire → List Wire → Type 0
  Back gs gs' = (gs ≡ gs') × Responses s gs'

  more_forth : (y : System) (x : Link) → Stands s y x → (gs gs' : List Wire) → Forth gs gs' → Stands s (queues y (y.forward ++ gs) y.backward) (losses.queues x (x.forward ++ gs') x.backward)
  more_forth y x h gs gs' (e, rights) =
      subst (λ (fs : List Wire). Stands s (queues y (y.forward ++ fs) y.backward) (losses.queues x (x.forward ++ gs') x.backward)) (sym e)
      (subst (λ (z : Link). Stands s (queues y (y.forward ++ gs') y.backward) (losses.queues x (z.forward ++ gs') z.backward)) h.same
      (requeued y x h (y.forward ++ gs') y.backward (rights_join s y.forward gs' h.fits.forth rights) h.fits.back))

  more_back : (y : System) (x : Link) → Stands s y x → (gs gs' : List Wire) → Back gs gs' → Stands s (queues y y.forward (y.backward ++ gs)) (losses.queues x x.forward (x.backward ++ gs'))
  more_back y x h gs gs' (e, responses) =
      subst (λ (bs : List Wire). Stands s (queues y y.forward (y.backward ++ bs)) (losses.queues x x.forward (x.backward ++ gs'))) (sym e)
      (subst (λ (z : Link). Stands s (queues y y.forward (y.backward ++ gs')) (losses.queues x z.forward (z.backward ++ gs'))) h.same
      (requeued y x h y.forward (y.backward ++ gs') h.fits.forth (responses_join s y.backward gs' h.fits.back responses)))

  rights_less : (fs : List Wire) → Rights s fs → Rights s (without_oldest fs)
  rights_less [] h = tt
  rights_less (f ∷ fs) h = h.1

  responses_less : (fs : List Wire) → Responses s fs → Responses s (without_oldest fs)
  responses_less [] h = tt
  responses_less (f ∷ fs) h = h.1

-- ---- the Aborts

module _ (s : Setting) (fair : Fair s) (y : System) (w : World) (h : Fits s y w) where
  after_frame : (l : List Wire) → y.backward ≡ l → Forth s (sent_after s y l) (losses.sent_after s (link_of s y w) l)
  after_frame [] e = (refl, tt)
  after_frame (f ∷ rest) e = (heard_sends s fair y w h f rest e, (fits_heard s fair (state_for (key_in s) y.sender) h.transfer y.sender.last f).frames.0)

  at_sender_lem : (t : ℕ) → Forth s (endings_for (key_in s) (sender.reading_step y.sender t).0) (sent_at s.limit t (state_for (key_in s) y.sender))
  at_sender_lem t = (
    reading_sends y.sender (in_bounds_lem y.sender h.ready) (key_in s) t ∙ ap (λ (n : ℕ). sent_at n t (state_for (key_in s) y.sender)) h.limit,
    (at_reading s fair t (state_for (key_in s) y.sender) h.transfer).1.0,
  )

  at_receiver_lem : (t : ℕ) → Back s (sent_in (endings_of s.key (reading_step y.receiver t y.store).ends)) (sent_in (ends_at s.values s.key t (w s.key).session))
  at_receiver_lem t = (
    ap sent_in (reading_ends s.values y.receiver y.store w h.sim s.key t),
    ends_respond s fair t (w s.key).session (aimed s fair y w h),
  )

-- ---- of a system that stands for a link

module _ (s : Setting) (fair : Fair s) (y : System) (x : Link) (h : Stands s y x) where
  -- what is known of the link that the record stands for is known of x
  of_link : (P : Link → Type 0) → P (link_of s y h.world) → P x
  of_link P p = subst P h.same p

  pub follows_lossy : (v : Lossy) → AllowsAt s y v → Stands s (lossy s y v) (lossy_moved s x (lossy_move v))
  unfolding lossy losses.lossy
  follows_lossy (keeps ask) a = follows s fair y x h ask a
  follows_lossy (keeps take_forward) a = follows s fair y x h take_forward a
  follows_lossy (keeps take_backward) a =
      more_forth s (step s y take_backward) (link.step s x link.take_backward) (follows s fair y x h take_backward a) _ _
      (of_link (λ z. Forth s (sent_after s y y.backward) (losses.sent_after s z z.backward)) (after_frame s fair y h.world h.fits y.backward refl))
  follows_lossy (keeps (read_sender t)) a =
      more_forth s (step s y (read_sender t)) (link.step s x (link.read_sender t)) (follows s fair y x h (read_sender t) a) _ _
      (of_link (λ z. Forth s (endings_for (key_in s) (sender.reading_step y.sender t).0) (sent_at s.limit t z.transfer)) (at_sender_lem s fair y h.world h.fits t))
  follows_lossy (keeps (read_receiver t)) a =
      more_back s (step s y (read_receiver t)) (link.step s x (link.read_receiver t)) (follows s fair y x h (read_receiver t) a) _ _
      (of_link (λ z. Back s (sent_in (endings_of s.key (reading_step y.receiver t y.store).ends)) (sent_in (ends_at s.values s.key t z.session))) (at_receiver_lem s fair y h.world h.fits t))
  follows_lossy (keeps (frame_aside id d)) a = follows s fair y x h (frame_aside id d) a
  follows_lossy (keeps (announce_aside da session pgn n)) a = follows s fair y x h (announce_aside da session pgn n) a
  follows_lossy (keeps (ask_aside da session n)) a = follows s fair y x h (ask_aside da session n) a
  follows_lossy (keeps (hear_aside id d)) a = follows s fair y x h (hear_aside id d) a
  follows_lossy loses_forward a =
      of_link (λ z. Stands s (queues y (without_oldest y.forward) y.backward) (losses.queues x (without_oldest z.forward) z.backward))
      (requeued s y x h (without_oldest y.forward) y.backward (rights_less s y.forward h.fits.forth) h.fits.back)
  follows_lossy loses_backward a =
      of_link (λ z. Stands s (queues y y.forward (without_oldest y.backward)) (losses.queues x z.forward (without_oldest z.backward)))
      (requeued s y x h y.forward (without_oldest y.backward) h.fits.forth (responses_less s y.backward h.fits.back))

  kept_turns : (u : Option link.Move) → moved_works s x u ≡ moved_turns s x (kept u)
  unfolding losses.turns
  kept_turns None = refl
  kept_turns (Some u) = refl

  pub turns_as : (v : Lossy) → turns s y v ≡ moved_turns s x (lossy_move v)
  unfolding turns losses.turns
  turns_as (keeps v) = works_as s fair y x h v ∙ kept_turns (link_move v)
  turns_as loses_forward = of_link (λ z. turns s y loses_forward ≡ losses.turns s z losses.loses_forward) refl
  turns_as loses_backward = of_link (λ z. turns s y loses_backward ≡ losses.turns s z losses.loses_backward) refl
