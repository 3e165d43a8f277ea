-- What the sender sends, whatever it hears: frames out of the message. With Sending only this file knows its rules.
use Rattle.std.specs.Prelude.{Err, None, Ok, Option, Result, Some}
use Prim.Native.Nat.{ℕ, ◌+◌, ◌≤◌}
use mathlib.Core.Path.{◌≡◌, refl}
use mathlib.Core.Bool.{Bool, true, false, ◌&&◌}
use mathlib.Core.List.{[], ◌∷◌}
use native.Mathlib.Omega.{arith}
use lib.Dec.{eqb, ltb}
use borrow.Author.Tests.{ltb-false}
use Rattle.laws.specs.Bools.{either_way}
use Rattle.frame.specs.declared.refusal.Refusal.{Refusal}
use Rattle.frame.specs.declared.refusal.Refusal.TheVariants.{KeyNotOpen, GrantRange, Silence}
use Rattle.frame.specs.Identifiers.{identifier_of}
use Rattle.frame.specs.Judge.{route_of}
use Rattle.transport.specs.declared.cts.Cts.{Cts}
use Rattle.transport.specs.declared.cts.CtsRead.{CtsRead}
use Rattle.transport.specs.declared.eoma.Eoma.{Eoma}
use Rattle.transport.specs.declared.response.ResponseRead.TheVariants as response
use Rattle.transport.specs.Responses.{response_of}
use Rattle.transport.specs.Kinds.{is_rts}
use Rattle.session.specs.Ends.{is_idle}
use Rattle.transfer.specs.declared.Course.{Course}
use Rattle.transfer.specs.declared.Transfer.{Transfer}
use Rattle.transfer.specs.declared.Reply.{Reply}
use Rattle.transfer.specs.declared.Reply.TheVariants as reply
use Rattle.transfer.specs.declared.Step.{Step}
use Rattle.transfer.specs.Transfers.{offer_kind, first_granted, transfer_of}
use Rattle.transfer.specs.Decisions.{after, refused, moves, ends, ending_of, after_segment, after_status, status_goes, next_frame, if_open, granted_by, stopped, bad_grant, cts_open, as_sent, eoma_open, of_pgn, hears}
use Rattle.transfer.specs.Laws.{grant_facts}
use Rattle.transfer.specs.Sends.{segment_wire, status_wire, ending_wire, sends}
use Rattle.isolation.specs.Replies.{Wire}
use Rattle.delivery.specs.Link.{Setting, key_in, queued, answered, is_for, heard, unless_ended, kept_at, offer}
use Rattle.delivery.specs.Arrival.{Fair}
use Rattle.delivery.specs.Losses.{ending_frames, sent_at}
use Rattle.delivery.proofs.Wires.{reads_for, on_status, on_segment, on_ending, data_taken}
use Rattle.delivery.proofs.Expected.{count}
use Rattle.delivery.proofs.Rights.{Later, later_frame}
use Rattle.transport.specs.declared.response.ResponseRead.{ResponseRead}

-- what goes out next and what is granted lie in the message
pub record Within (s : Setting) (c : Course) : Type 0 where
  pub from : 1 ≤ c.next.0
  pub to : c.next.0 ≤ count s + 1
  pub granted : c.granted.0 ≤ count s

abbrev pub transfer_on : Setting → Course → Transfer
transfer_on s c = record { offer = offer s; course = c }

pub data Sending (s : Setting) : Option Transfer → Type 0 where
  closed : Sending s None
  sending : (c : Course) → Within s c → Sending s (Some (transfer_on s c))

-- what a step leaves and sends
pub record Fits (s : Setting) (x : Option Transfer) (r : Step) : Type 0 where
  pub leaves : Sending s (after x r.change)
  pub frames : Later s (queued (sends (key_in s) s.message r.reply))

-- ---- its frames

module _ (s : Setting) (fair : Fair s) where
  later_status : Later s (status_wire (offer s) ∷ [])
  later_status = later_frame s _ _ (reads_for s _ _ (on_status s fair)) tt refl

  later_segment : (n : ℕ) → 1 ≤ n → n ≤ count s → Later s (segment_wire (key_in s) s.message n ∷ [])
  later_segment n l u = later_frame s _ _ (reads_for s _ _ (on_segment s fair n l u)) (data_taken s fair n l u) refl

  -- an Abort, or none for a broadcast
  later_ending : (n : Refusal) → Later s (queued (ending_wire (ending_of (offer s) n)))
  later_ending n =
      either_way (λ f. Later s (queued f)) (is_rts (offer_kind (offer s)))
      (λ e. later_frame s _ _ (reads_for s _ _ (on_ending s fair n)) tt refl)
      (λ e. (tt, refl))

-- ---- the announcement has gone out

pub sending_first : (s : Setting) (last : ℕ) → Sending s (Some (transfer_of (offer s) last))
sending_first s last = sending (transfer_of (offer s) last).course (record { from = omega arith; to = omega arith; granted = first_granted_lem })
  where
    first_granted_lem : first_granted (offer s) ≤ count s
    first_granted_lem = either_way (λ n. n ≤ count s) (is_rts (offer_kind (offer s))) (λ e. omega arith) (λ e. omega arith)

-- ---- one that is open

fits_refused : (s : Setting) (x : Option Transfer) (n : Refusal) → Sending s x → Fits s x (refused n)
fits_refused s x n h = record { leaves = h; frames = (tt, refl) }

module _ (s : Setting) (fair : Fair s) (c : Course) (w : Within s c) where
  abbrev now : Option Transfer
  now = Some (transfer_on s c)

  fits_moves : (d : Course) → Within s d → (r : Reply) → Later s (queued (sends (key_in s) s.message r)) → Fits s now (moves d r)
  fits_moves d v r h = record { leaves = sending d v; frames = h }

  -- the next frame

  fits_status : (last : ℕ) → Fits s now (status_goes (transfer_on s c) last)
  fits_status last =
      either_way (Fits s now) (is_rts (offer_kind (offer s)))
      (λ e. fits_moves (after_status c last) (record { from = w.from; to = w.to; granted = w.granted }) (reply.Status (offer s)) (later_status s fair))
      (λ e. record { leaves = closed; frames = later_status s fair })

  fits_segment : (last : ℕ) → c.next.0 ≤ c.granted.0 → Fits s now (moves (after_segment (transfer_on s c) last) (reply.Segment c.next))
  fits_segment last l =
      let g : c.granted.0 ≤ count s = w.granted in
      fits_moves (after_segment (transfer_on s c) last) (record { from = omega arith; to = omega arith; granted = g }) (reply.Segment c.next)
      (later_segment s fair c.next.0 w.from (omega arith))

  fits_next : (last : ℕ) → Fits s now (next_frame (transfer_on s c) last)
  unfolding next_frame
  fits_next last =
      either_way (Fits s now) c.owed (λ e. fits_status last)
      (λ e. either_way (Fits s now) (ltb c.granted.0 c.next.0)
      (λ n. record { leaves = sending c w; frames = (tt, refl) })
      (λ n. fits_segment last (ltb-false _ _ n)))

  -- a CTS, an EOMA

  fits_stopped : (owed : Bool) (last : ℕ) → Fits s now (moves (stopped c owed last) reply.Granted)
  fits_stopped owed last =
      let u : c.next.0 ≤ count s + 1 = w.to in
      fits_moves (stopped c owed last) (record { from = w.from; to = u; granted = omega arith }) reply.Granted (tt, refl)

  fits_granted : (f : Cts) (last : ℕ) → bad_grant (count s) f ≡ false → Fits s now (moves (granted_by c f last) reply.Granted)
  fits_granted f last e =
      let g = grant_facts (count s) f e in
      let l : 1 ≤ f.next.0 = g.0 in
      let u : f.next.0 + f.count ≤ count s + 1 = g.1 in
      fits_moves (granted_by c f last) (record { from = l; to = omega arith; granted = omega arith }) reply.Granted (tt, refl)

  fits_cts : (f : CtsRead) (last : ℕ) → Fits s now (cts_open (transfer_on s c) f last)
  unfolding cts_open
  fits_cts f last =
      either_way (Fits s now) (c.complete && eqb f.request 1) (λ e. fits_stopped true last)
      (λ e. either_way (Fits s now) (eqb f.cts.count 0) (λ z. fits_stopped c.owed last)
      (λ z. either_way (Fits s now) (bad_grant (count s) f.cts)
      (λ b. record { leaves = closed; frames = later_ending s fair GrantRange })
      (λ b. fits_granted f.cts last b)))

  fits_eoma : (f : Eoma) → Fits s now (eoma_open (transfer_on s c) f)
  unfolding eoma_open
  fits_eoma f =
      either_way (Fits s now) (as_sent (transfer_on s c) f)
      (λ e. record { leaves = closed; frames = (tt, refl) })
      (λ e. fits_refused s now KeyNotOpen (sending c w))

  -- what is of another PGN is refused
  fits_pgn : (pgn : ℕ) (f : Transfer → Step) → Fits s now (f (transfer_on s c)) → Fits s now (if_open (of_pgn now pgn) f)
  fits_pgn pgn f h =
      either_way (λ x. Fits s now (if_open x f)) (eqb s.pgn pgn) (λ e. h) (λ e. fits_refused s now KeyNotOpen (sending c w))

-- ---- any one: asked, a frame heard, a reading

module _ (s : Setting) (fair : Fair s) where
  pub fits_asked : (x : Option Transfer) → Sending s x → (last : ℕ) → Fits s x (answered x last)
  unfolding answered
  fits_asked None closed last = fits_refused s None KeyNotOpen closed
  fits_asked (Some t) (sending c w) last = fits_next s fair c w last

  fits_hears : (x : Option Transfer) → Sending s x → (r : Result ResponseRead Refusal) (last : ℕ) → Fits s x (hears x r last)
  unfolding hears
  fits_hears x h (Err n) last = fits_refused s x n h
  fits_hears None closed (Ok (response.Cts f)) last = fits_refused s None KeyNotOpen closed
  fits_hears None closed (Ok (response.Eoma f)) last = fits_refused s None KeyNotOpen closed
  fits_hears None closed (Ok (response.Abort f)) last = fits_refused s None KeyNotOpen closed
  fits_hears (Some t) (sending c w) (Ok (response.Cts f)) last = fits_pgn s fair c w f.cts.pgn (λ t. cts_open t f last) (fits_cts s fair c w f last)
  fits_hears (Some t) (sending c w) (Ok (response.Eoma f)) last = fits_pgn s fair c w f.pgn (λ t. eoma_open t f) (fits_eoma s fair c w f)
  fits_hears (Some t) (sending c w) (Ok (response.Abort f)) last =
      fits_pgn s fair c w f.pgn (λ t. ends (reply.Aborted t.offer.key)) (record { leaves = closed; frames = (tt, refl) })

  pub fits_heard : (x : Option Transfer) → Sending s x → (last : ℕ) (f : Wire) → Fits s x (heard s x last f)
  unfolding heard
  fits_heard x h last f =
      let r : Result ResponseRead Refusal = response_of (route_of (identifier_of f.0)) f.1 in
      either_way (Fits s x) (is_for s.key r) (λ e. fits_hears x h r last) (λ e. fits_refused s x KeyNotOpen h)

  pub at_reading : (t : ℕ) (x : Option Transfer) → Sending s x → Sending s (kept_at s.limit t x) × Later s (sent_at s.limit t x)
  unfolding kept_at
  at_reading t None closed = (closed, (tt, refl))
  at_reading t (Some x) (sending c w) =
      either_way (λ e. Sending s (unless_ended (Some (transfer_on s c)) e) × Later s (ending_frames e)) (is_idle s.limit c.mark t)
      (λ e. (closed, later_ending s fair Silence))
      (λ e. (sending c w, (tt, refl)))
