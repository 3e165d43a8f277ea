-- The records follow the link: every move of the system is a move of the link of one transfer and one session, or leaves it as it is.
-- Whatever a reading ends.
use Rattle.std.specs.Prelude.{Err, None, Ok, Option, Result, Some, is_some}
use Prim.Native.Nat.{ℕ}
use mathlib.Core.Path.{◌≡◌, refl, sym, ap, ◌∙◌, subst}
use mathlib.Core.Bool.{Bool, true, false, cond, not, ◌&&◌, ◌||◌, and-false}
use mathlib.Core.List.{List, [], ◌∷◌, ◌++◌, append-nil}
use lib.Dec.{eqb}
use lib.ListN.{length}
use borrow.Author.Tests.{eq-eqb}
use Rattle.laws.specs.Bools.{either_way}
use Rattle.frame.specs.declared.Address.{Address}
use Rattle.frame.specs.declared.judge.Route.{Route}
use Rattle.frame.specs.declared.refusal.Refusal.TheVariants.{KeyNotOpen}
use Rattle.frame.specs.Identifiers.{identifier_of}
use Rattle.frame.specs.Judge.{route_of, judged}
use Rattle.transport.specs.declared.Key.{Key}
use Rattle.transport.specs.declared.response.ResponseRead.TheVariants as response
use Rattle.transport.specs.Heads.{control_at, session_key_of}
use Rattle.transport.specs.Aborts.{role_at}
use Rattle.transport.specs.Responses.{response_of}
use Rattle.slots.specs.Slots.{first_free}
use Rattle.transfer.specs.declared.Transfer.{Transfer}
use Rattle.session.specs.declared.Change.{Change}
use Rattle.session.specs.declared.Change.TheVariants.{Stays, Opens, Moves, Ends}
use Rattle.transfer.specs.declared.Reply.{Reply}
use Rattle.transfer.specs.declared.Step.{Step}
use Rattle.transfer.specs.Decisions.{after, refused, asked_to, hears}
use Rattle.transfer.specs.Sends.{sends}
use Rattle.sender_bytes.specs.Layout.{Sender}
use Rattle.sender.specs.Transfers.{is_free, in_bounds}
use Rattle.sender.specs.Model as sender
use Rattle.sender.specs.Model.{Stepped}
use Rattle.receiver.specs.Calls.{frame_all}
use Rattle.isolation.specs.OwnFrames.{Body}
use Rattle.isolation.specs.Replies as replies
use Rattle.isolation.specs.Replies.{Wire, Says}
use Rattle.isolation.specs.Rules as rules
use Rattle.isolation.specs.Rules.{Out, rule}
use Rattle.isolation.specs.World.{World, is_announcement}
use Rattle.isolation.proofs.Slots.{number_of_lem}
use Rattle.isolation.proofs.Many.{Sim}
use Rattle.delivery.specs.Link as link
use Rattle.delivery.specs.Link.{Setting, key_in, Link, queued, refusals, is_end, is_good, answered, frames_due, hand_overs, numbers, is_for}
use Rattle.delivery.specs.Arrival as single
use Rattle.delivery.specs.Arrival.{Fair, CalmAt, is_full, Unended}
use Rattle.delivery.specs.System.{System, state_for, Move, ask, take_forward, take_backward, read_sender, read_receiver, frame_aside, announce_aside, ask_aside, hear_aside, is_well, asks_for, given, asked, heard, taken_backward, answer_of, taken, taken_forward, aside, step}
use Rattle.delivery.specs.Whole.{announces, HasRoom, MeetsAt, works}
use Rattle.delivery.specs.WholeLosses.{keeps, AllowsAt, link_with}
use Rattle.delivery.proofs.Wires.{Reads, reads_for}
use Rattle.delivery.proofs.Rights.{Rights, rights_join}
use Rattle.delivery.proofs.SafeSender.{Sending, closed, sending, fits_asked, fits_heard, at_reading}
use Rattle.delivery.proofs.Queues.{right_reads, Responses, responses_join, Answers, Aimed, rule_answers}
use Rattle.delivery.proofs.Sides.{Ready, in_bounds_lem, Acts, Called, Leaves, asks_own, ask_aside_lem, announce_aside_lem, hear_called, hear_aside_lem, reading_reads}
use Rattle.delivery.proofs.Receiving.{Becomes, session_aimed, frame_replies, frame_becomes, aside_becomes, aside_hands, reading_becomes, reading_stays}
use Rattle.frame.specs.declared.refusal.Refusal.{Refusal}
use Rattle.transport.specs.declared.response.ResponseRead.{ResponseRead}
use Rattle.transfer.specs.declared.Course.{Course}

-- ---- the link that a system stands for, with a world of rules that explains its receiver

abbrev pub link_of : Setting → System → World → Link
link_of s y w = link_with s y (w s.key).session

pub record Fits (s : Setting) (y : System) (w : World) : Type 0 where
  pub ready : Ready y.sender
  pub own : y.sender.own ≡ (key_in s).sa
  pub limit : y.sender.limit ≡ s.limit
  pub sim : Sim s.values y.receiver y.store w
  -- the transfer is the one announced, while it is open, and what is on its way is the key's
  pub transfer : Sending s (state_for (key_in s) y.sender)
  pub forth : Rights s y.forward
  pub back : Responses s y.backward

-- the records are in bounds, and stand for x
pub record Stands (s : Setting) (y : System) (x : Link) : Type 0 where
  pub world : World
  pub fits : Fits s y world
  pub same : link_of s y world ≡ x

-- ---- the move of the link that a move of the system is, if it is one

abbrev pub link_move : Move → Option link.Move
link_move ask = Some link.ask
link_move take_forward = Some link.take_forward
link_move take_backward = Some link.take_backward
link_move (read_sender t) = Some (link.read_sender t)
link_move (read_receiver t) = Some (link.read_receiver t)
link_move (frame_aside id d) = None
link_move (announce_aside da session pgn n) = None
link_move (ask_aside da session n) = None
link_move (hear_aside id d) = None

abbrev pub moved : Setting → Link → Option link.Move → Link
moved s x None = x
moved s x (Some u) = link.step s x u

abbrev pub moved_works : Setting → Link → Option link.Move → Bool
moved_works s x None = false
moved_works s x (Some u) = single.works s x u

abbrev pub MovedCalm : Setting → Link → Option link.Move → Type 0
MovedCalm s x None = Unit {0}
MovedCalm s x (Some u) = CalmAt s x u

-- the premises of Whole are more
pub meets_allows : (s : Setting) (y : System) (v : Move) → MeetsAt s y v → AllowsAt s y (keeps v)
meets_allows s y ask m = m
meets_allows s y take_forward m = m
meets_allows s y take_backward m = m
meets_allows s y (read_sender t) m = tt
meets_allows s y (read_receiver t) m = tt
meets_allows s y (frame_aside id d) m = m
meets_allows s y (announce_aside da session pgn n) m = m
meets_allows s y (ask_aside da session n) m = m
meets_allows s y (hear_aside id d) m = m

-- ---- links by their parts

abbrev made : Option Transfer → List Wire → List Wire → Option rules.Open → List Says → List ℕ → ℕ → ℕ → Bool → Link
made t f b x h r p q w = record { transfer = t; forward = f; backward = b; session = x; handed = h; refused = r; senders_last = p; receivers_last = q; well = w }

same_link : {t t' : (Option Transfer)} {f f' b b' : List Wire} {x x' : Option rules.Open} {h h' : List Says} {r r' : List ℕ} {p p' q q' : ℕ} {w w' : Bool}
    → t ≡ t' → f ≡ f' → b ≡ b' → x ≡ x' → h ≡ h' → r ≡ r' → p ≡ p' → q ≡ q' → w ≡ w' → made t f b x h r p q w ≡ made t' f' b' x' h' r' p' q' w'
same_link a c d e g i j k l = rw (a, c, d, e, g, i, j, k, l)

-- ---- a step of the transfer ends it well

free_end : (t : Transfer) (c : Change Transfer Course) → is_free (after (Some t) c) ≡ is_end c
free_end t Stays = refl
free_end t (Opens u) = refl
free_end t (Moves c) = refl
free_end t Ends = refl

well_is : (x : Option Transfer) (st : Step) → (x ≡ None → is_good st.reply ≡ false) → (is_free (after x st.change) && is_good st.reply) ≡ link.ends_well st
well_is None st h = rw (h refl) (and-false (is_free (after None st.change)) ∙ sym (and-false (is_end st.change)))
well_is (Some t) st h = ap (λ (b : Bool). b && is_good st.reply) (free_end t st.change)

module _ (s : Setting) (x : Option Transfer) (p : Sender) (st : Step) (a : Stepped) (c : Called (key_in s) st p a) (is : state_for (key_in s) p ≡ x) (bad : x ≡ None → is_good st.reply ≡ false) where
  here : state_for (key_in s) a.1 ≡ after x st.change
  here = c.acts.here ∙ ap (λ (z : Option Transfer). after z st.change) is

  ends_well_lem : is_well s a ≡ link.ends_well st
  ends_well_lem = ap (λ (z : Option Transfer). is_free z && is_good a.0) here ∙ ap (λ (r : Reply). is_free (after x st.change) && is_good r) c.reply ∙ well_is x st bad

module _ (s : Setting) (fair : Fair s) (y : System) (w : World) (h : Fits s y w) where
  abbrev known : Option Transfer
  known = state_for (key_in s) y.sender

  abbrev Next : System → Option link.Move → Type 0
  Next y' u = Stands s y' (moved s (link_of s y w) u)

  ready : in_bounds y.sender ≡ true
  ready = in_bounds_lem y.sender h.ready

  -- after a step of the transfer, and after one that leaves it alone
  fits_acts : (c : Change Transfer Course) (q : Sender) → Acts (key_in s) c y.sender q → Sending s (after known c)
      → (y' : System) → y'.sender ≡ q → y'.receiver ≡ y.receiver → y'.store ≡ y.store → Rights s y'.forward → Responses s y'.backward → Fits s y' w
  fits_acts c q a still y' e f g forth back = record {
    ready = rw e a.ready;
    own = rw e (a.own ∙ h.own);
    limit = rw e (a.limit ∙ h.limit);
    sim = rw (f, g) h.sim;
    transfer = subst (Sending s) (sym (ap (state_for (key_in s)) e ∙ a.here)) still;
    forth = forth;
    back = back;
  }

  left_alone : (q : Sender) → Leaves (key_in s) y.sender q
      → Next (record { sender = q; receiver = y.receiver; store = y.store; forward = y.forward; backward = y.backward; handed = y.handed; refused = y.refused; well = y.well }) None
  left_alone q a = record {
    world = w;
    fits = record {
      ready = a.ready;
      own = a.own ∙ h.own;
      limit = a.limit ∙ h.limit;
      sim = h.sim;
      transfer = subst (Sending s) (sym a.same) h.transfer;
      forth = h.forth;
      back = h.back;
    };
    same = same_link a.same refl refl refl refl refl a.last refl refl;
  }

  -- ---- an ask

  asked_as : (x : Option Transfer) → Sending s x → (last : ℕ) → asked_to x (length s.message) last ≡ answered x last
  unfolding asked_to answered
  asked_as None closed last = refl
  asked_as (Some t) (sending c v) last = rw (eq-eqb (length s.message) (length s.message) refl)

  not_good : (x : Option Transfer) (last : ℕ) → x ≡ None → is_good (answered x last).reply ≡ false
  unfolding answered
  not_good x last e = rw e

  pub ask_called : Called (key_in s) (answered (state_for (key_in s) y.sender) y.sender.last) y.sender (asks_for s y.sender)
  ask_called =
      subst (λ (st : Step). Called (key_in s) st y.sender (asks_for s y.sender))
      (asked_as (state_for (key_in s) y.sender) h.transfer y.sender.last)
      (asks_own y.sender ready (key_in s) h.own (length s.message))

  due_given : given s (asks_for s y.sender) ≡ frames_due s known y.sender.last
  due_given = ap (λ (r : Reply). queued (sends (key_in s) s.message r)) ask_called.reply

  ask_next : Next (step s y ask) (Some link.ask)
  unfolding step asked link.step link.asked
  ask_next =
      let st : Step = answered known y.sender.last in
      let c : Called (key_in s) st y.sender (asks_for s y.sender) = ask_called in
      let f = fits_asked s fair known h.transfer y.sender.last in
      record {
        world = w;
        fits = fits_acts st.change (asks_for s y.sender).1 c.acts f.leaves (step s y ask) refl refl refl
            (rights_join s y.forward _ h.forth (subst (Rights s) (sym due_given) f.frames.0)) h.back;
        same = same_link c.acts.here (ap (λ (l : List Wire). y.forward ++ l) due_given) refl refl refl refl c.acts.last refl
            (ap (λ (b : Bool). y.well || b) (ends_well_lem s known y.sender st (asks_for s y.sender) c refl (not_good known y.sender.last)));
      }

  -- ---- the receiver takes a frame

  pub aimed : Aimed s (w s.key).session
  aimed = go (w s.key).session refl
    where
      go : (x : Option rules.Open) → (w s.key).session ≡ x → Aimed s x
      go None e = tt
      go (Some ρ) e = session_aimed s.values y.receiver y.store w h.sim s.key ρ e

  module _ (f : Wire) (rest : List Wire) (queue : y.forward ≡ f ∷ rest) (free : HasRoom s (f ∷ rest) y.receiver) where
    rights : Rights s (f ∷ rest)
    rights = subst (Rights s) queue h.forth

    read : (b : Body) × Reads s f b
    read = right_reads s f rights.0

    out : Out
    out = rule s.values s.key y.receiver.last false (w s.key).session read.0

    slot : is_announcement read.0 ≡ true → is_some (first_free y.receiver.slots) ≡ true
    slot e = free (ap announces (reads_for s f read.0 read.1) ∙ e)

    reply : answer_of (frame_all y.receiver f.0 f.1 y.store) ≡ out.1
    unfolding out
    reply = frame_replies s.values y.receiver y.store w h.sim s.key f.0 f.1 read.0 read.1.key read.1.body slot

    becomes : Becomes s.values s.key y.receiver.last out.0 (frame_all y.receiver f.0 f.1 y.store).0.next (frame_all y.receiver f.0 f.1 y.store).1
    unfolding out
    becomes = frame_becomes s.values y.receiver y.store w h.sim s.key f.0 f.1 read.0 read.1.key read.1.body slot

    answers : Answers s (answer_of (frame_all y.receiver f.0 f.1 y.store))
    unfolding out
    answers = subst (Answers s) (sym reply) (rule_answers s fair y.receiver.last false (w s.key).session aimed read.0)

    link_takes : link.step s (link_of s y w) link.take_forward ≡ link.at_receiver (link_of s y w) rest out
    unfolding link.step link.taken_forward out
    link_takes =
        ap (link.taken_forward s (link_of s y w)) queue
        ∙ ap (λ (b : Option Body). link.at_receiver (link_of s y w) rest (link.by_body s (w s.key).session y.receiver.last b)) (reads_for s f read.0 read.1)

    forward_next : Next (taken s y rest (frame_all y.receiver f.0 f.1 y.store)) (Some link.take_forward)
    unfolding taken link.at_receiver
    forward_next = record {
      world = becomes.world;
      fits = record {
        ready = h.ready;
        own = h.own;
        limit = h.limit;
        sim = becomes.sim;
        transfer = h.transfer;
        forth = rights.1;
        back = responses_join s y.backward _ h.back answers.sends;
      };
      same = same_link refl refl (ap (λ (a : replies.Reply). y.backward ++ queued a.sends) reply) becomes.session
          (ap (λ (l : List Says). y.handed ++ l) (answers.hands ∙ ap (λ (a : replies.Reply). hand_overs a.says) reply))
          (ap (λ (a : replies.Reply). y.refused ++ numbers a.number) reply) refl becomes.last refl
          ∙ sym link_takes;
    }

  -- ---- the sender takes a frame

  -- what is read of a frame is of the frame's key
  read_key : (ρ : Route) (d : List ℕ) → session_key_of ρ d ≡ key_in s → is_for s.key (response_of ρ d) ≡ true
  unfolding response_of
  read_key ρ d e =
      either_way Is (not (eqb (length d) 12)) (λ _. refl)
      (λ _. either_way Is (eqb (control_at d) 1) (λ _. mine)
      (λ _. either_way Is (eqb (control_at d) 3) (λ _. mine)
      (λ _. either_way Is (eqb (control_at d) 15) (λ _. either_way Is (eqb (role_at d) 1) (λ _. mine) (λ _. refl)) (λ _. refl))))
    where
      Is : Result ResponseRead Refusal → Type 0
      Is r = is_for s.key r ≡ true

      mine : eqb (link.key_number (session_key_of ρ d)) s.key ≡ true
      mine = eq-eqb _ s.key (ap link.key_number e ∙ number_of_lem s.key)

  none_heard : (x : Option Transfer) (r : Result ResponseRead Refusal) (last : ℕ) → x ≡ None → is_good (hears x r last).reply ≡ false
  unfolding hears
  none_heard x (Ok (response.Cts f)) last e = rw e
  none_heard x (Ok (response.Eoma f)) last e = rw e
  none_heard x (Ok (response.Abort f)) last e = rw e
  none_heard x (Err n) last e = refl

  module _ (f : Wire) (rest : List Wire) (queue : y.backward ≡ f ∷ rest) where
    responses : Responses s (f ∷ rest)
    responses = subst (Responses s) queue h.back

    stepped : Step
    stepped = hears (state_for (key_in s) y.sender) (response_of (route_of (identifier_of f.0)) f.1) y.sender.last

    called : Called (key_in s) stepped y.sender (sender.frame_step y.sender f.0 f.1)
    unfolding stepped
    called =
        subst (λ (μ : Key). Called μ (hears (state_for μ y.sender) (response_of (route_of (identifier_of f.0)) f.1) y.sender.last) y.sender (sender.frame_step y.sender f.0 f.1))
        responses.0.key (hear_called y.sender ready f.0 f.1 (route_of (identifier_of f.0))
        (ap (λ (a : Address). judged a f.0 (length f.1)) h.own ∙ responses.0.judgement))

    link_heard : link.heard s known y.sender.last f ≡ stepped
    unfolding link.heard stepped
    link_heard =
        ap (λ (b : Bool). cond b stepped (refused KeyNotOpen)) (read_key (route_of (identifier_of f.0)) f.1 responses.0.key)

    link_hears : link.step s (link_of s y w) link.take_backward ≡ link.at_sender (link_of s y w) rest stepped
    unfolding link.step link.taken_backward
    link_hears = ap (link.taken_backward s (link_of s y w)) queue ∙ ap (link.at_sender (link_of s y w) rest) link_heard

    leaves : Sending s (after known stepped.change)
    leaves = subst (λ (st : Step). Sending s (after known st.change)) link_heard (fits_heard s fair known h.transfer y.sender.last f).leaves

    -- what the sender sends on it
    pub heard_sends : given s (sender.frame_step y.sender f.0 f.1) ≡ queued (sends (key_in s) s.message (link.heard s (state_for (key_in s) y.sender) y.sender.last f).reply)
    heard_sends = ap (λ (r : Reply). queued (sends (key_in s) s.message r)) (called.reply ∙ ap (λ (st : Step). st.reply) (sym link_heard))

    backward_next : Next (heard s y rest (sender.frame_step y.sender f.0 f.1)) (Some link.take_backward)
    unfolding heard link.at_sender
    backward_next = record {
      world = w;
      fits = fits_acts stepped.change (sender.frame_step y.sender f.0 f.1).1 called.acts leaves _ refl refl refl h.forth responses.1;
      same = same_link called.acts.here refl refl refl refl (ap (λ (r : Reply). y.refused ++ refusals r) called.reply) called.acts.last refl
          (ap (λ (b : Bool). y.well || b)
          (ends_well_lem s known y.sender stepped (sender.frame_step y.sender f.0 f.1) called refl (unfold stepped in none_heard known _ y.sender.last)))
          ∙ sym link_hears;
    }

  -- ---- the other moves

  sender_reads_lem : (t : ℕ) → Next (step s y (read_sender t)) (Some (link.read_sender t))
  unfolding step link.step link.read
  sender_reads_lem t =
      let a = reading_reads y.sender ready (key_in s) t in
      let e : state_for (key_in s) (sender.reading_step y.sender t).1 ≡ link.kept_at s.limit t known = a.here ∙ ap (λ (n : ℕ). link.kept_at n t known) h.limit in
      record {
        world = w;
        fits = record {
          ready = a.ready;
          own = a.own ∙ h.own;
          limit = a.limit ∙ h.limit;
          sim = h.sim;
          transfer = subst (Sending s) (sym e) (at_reading s fair t known h.transfer).0;
          forth = h.forth;
          back = h.back;
        };
        same = same_link e refl refl refl refl refl a.last refl refl;
      }

  receiver_reads_lem : (t : ℕ) → Next (step s y (read_receiver t)) (Some (link.read_receiver t))
  unfolding step link.step link.read
  receiver_reads_lem t =
      let b = reading_becomes s.values y.receiver y.store w h.sim s.key t in
      record {
        world = b.world;
        fits = record { ready = h.ready; own = h.own; limit = h.limit; sim = b.sim; transfer = h.transfer; forth = h.forth; back = h.back };
        same = same_link refl refl refl b.session refl refl refl b.last refl;
      }

  frame_next : (id : ℕ) (d : List ℕ) → MeetsAt s y (frame_aside id d) → Next (step s y (frame_aside id d)) None
  unfolding step aside
  frame_next id d other =
      let b = aside_becomes s.values y.receiver y.store w h.sim s.key id d other in
      record {
        world = b.world;
        fits = record { ready = h.ready; own = h.own; limit = h.limit; sim = b.sim; transfer = h.transfer; forth = h.forth; back = h.back };
        same = same_link refl refl refl b.session
            (ap (λ (l : List Says). y.handed ++ l) (aside_hands s.values y.receiver y.store w h.sim s.key id d other) ∙ append-nil y.handed)
            refl refl b.last refl;
      }

  forward_step : (l : List Wire) → y.forward ≡ l → HasRoom s l y.receiver → Next (taken_forward s y l) (Some link.take_forward)
  unfolding taken_forward
  forward_step [] e free = record { world = w; fits = h; same = unfold link.step link.taken_forward in rw e }
  forward_step (f ∷ rest) e free = forward_next f rest e free

  backward_step : (l : List Wire) → y.backward ≡ l → Next (taken_backward s y l) (Some link.take_backward)
  unfolding taken_backward
  backward_step [] e = record { world = w; fits = h; same = unfold link.step link.taken_backward in rw e }
  backward_step (f ∷ rest) e = backward_next f rest e

  follows_at : (v : Move) → AllowsAt s y (keeps v) → Next (step s y v) (link_move v)
  unfolding step
  follows_at ask m = ask_next
  follows_at take_forward m = forward_step y.forward refl m
  follows_at take_backward m = backward_step y.backward refl
  follows_at (read_sender t) m = sender_reads_lem t
  follows_at (read_receiver t) m = receiver_reads_lem t
  follows_at (frame_aside id d) m = frame_next id d m
  follows_at (announce_aside da session pgn n) m = left_alone _ (announce_aside_lem y.sender ready (key_in s) da session pgn n m)
  follows_at (ask_aside da session n) m = left_alone _ (ask_aside_lem y.sender ready (key_in s) da session n m)
  follows_at (hear_aside id d) m = left_alone _ (hear_aside_lem y.sender ready id d (key_in s) m)

  works_at : (v : Move) → works s y v ≡ moved_works s (link_of s y w) (link_move v)
  unfolding works single.works
  works_at ask = ap is_full due_given
  works_at take_forward = refl
  works_at take_backward = refl
  works_at (read_sender t) = refl
  works_at (read_receiver t) = refl
  works_at (frame_aside id d) = refl
  works_at (announce_aside da session pgn n) = refl
  works_at (ask_aside da session n) = refl
  works_at (hear_aside id d) = refl

  calm_at : (v : Move) → MeetsAt s y v → MovedCalm s (link_of s y w) (link_move v)
  calm_at ask m = tt
  calm_at take_forward m = tt
  calm_at take_backward m = tt
  calm_at (read_sender t) m = subst (λ (n : ℕ). Unended n t known) h.limit m
  calm_at (read_receiver t) m = reading_stays s.values y.receiver y.store w h.sim s.key t m
  calm_at (frame_aside id d) m = tt
  calm_at (announce_aside da session pgn n) m = tt
  calm_at (ask_aside da session n) m = tt
  calm_at (hear_aside id d) m = tt

-- ---- of a system that stands for a link

module _ (s : Setting) (fair : Fair s) (y : System) (x : Link) (h : Stands s y x) (v : Move) where
  pub follows : AllowsAt s y (keeps v) → Stands s (step s y v) (moved s x (link_move v))
  follows m = subst (λ (z : Link). Stands s (step s y v) (moved s z (link_move v))) h.same (follows_at s fair y h.world h.fits v m)

  pub works_as : works s y v ≡ moved_works s x (link_move v)
  works_as = subst (λ (z : Link). works s y v ≡ moved_works s z (link_move v)) h.same (works_at s fair y h.world h.fits v)

  pub calm_as : MeetsAt s y v → MovedCalm s x (link_move v)
  calm_as m = subst (λ (z : Link). MovedCalm s z (link_move v)) h.same (calm_at s fair y h.world h.fits v m)
