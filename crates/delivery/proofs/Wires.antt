-- What each frame says at the other end.
use Rattle.std.specs.Prelude.{Err, Ok, Option, Result, None, Some}
use Prim.Native.Nat.{ℕ, ◌+◌, ◌-◌, ◌*◌, ◌/◌, ◌%◌, ◌^◌, ◌≤◌, ◌<◌}
use mathlib.Core.Path.{◌≡◌, refl, sym, ap, ◌∙◌}
use mathlib.Core.Logic.{◌⊎◌, inl, inr}
use mathlib.Core.Bool.{Bool, true, false, cond, not, ◌&&◌, ◌||◌}
use mathlib.Mathlib.Data.Bool.Basic.{and_elim_left}
use mathlib.Core.List.{List, ◌∷◌}
use native.Mathlib.Omega.{arith}
use lib.Dec.{eqb, leb, ltb}
use lib.ListN.{length, take, length-take, length-drop}
use borrow.Author.Tests.{eq-eqb, ne_eqb, lt-ltb, le-ltb, lt-leb, ltb-true}
use Rattle.laws.specs.Bools.{both}
use Rattle.laws.specs.Choice.{else}
use Rattle.frame.specs.declared.refusal.Refusal.{Refusal}
use Rattle.frame.specs.declared.refusal.Refusal.TheVariants.{NotTaken, TransferLength}
use Rattle.frame.specs.declared.identifier.Identifier.{Identifier}
use Rattle.frame.specs.Identifiers.{identifier_of}
use Rattle.frame.specs.declared.judge.Content.TheVariants.{Control}
use Rattle.frame.specs.Judge.{route_of, route_taken, by_format, judged}
use Rattle.frame.specs.Lengths.{frame_length}
use Rattle.frame.proofs.LengthLaws.{frame_least, frame_bounds}
use Rattle.transport.specs.declared.control.Control as control-type
use Rattle.transport.specs.declared.control.Control.TheVariants as control
use Rattle.transport.specs.Heads.{head, control_at, id_to, to_originator, to_responder}
use Rattle.transport.specs.Announcements.{announcement_at, control_for}
use Rattle.transport.specs.declared.Kind.{Kind}
use Rattle.transport.specs.declared.Kind.TheVariants.{Rts, Bam}
use Rattle.transport.specs.Eoms.{status_at}
use Rattle.transport.specs.declared.abort.Role.TheVariants.{Originator}
use Rattle.transport.specs.Aborts.{role_at, abort_pgn_at, abort_bytes}
use Rattle.transport.specs.Segments.{format_at, number_at, data_at, segment_bytes}
use Rattle.transport.specs.Control.{not_receivers, control_of}
use Rattle.transport.specs.Responses.{response_id, response_bytes, response_of}
use Rattle.transport.specs.ReadBack.{Three, low24_read_back, KeyFits, fields_to, id_read_back, read_of, announcement_read_back, status_read_back, abort_read_back, segment_long, data_read_back}
use Rattle.transport.proofs.ReadBack.{read_back}
use Rattle.session.specs.Segments.{due_of}
use Rattle.transfer.specs.Transfers.{segments_of, announcement_of, status_of}
use Rattle.transfer.specs.Decisions.{ending_of, hears}
use Rattle.transfer.specs.Sends.{piece_of, offer_wire, segment_wire, status_wire, abort_for}
use Rattle.isolation.specs.Standard.{Cause, fd_lengths, is_one_of}
use Rattle.isolation.specs.OwnFrames.{frame_key, Body, announce, segment, status, abort, control_body, data_body, taken, body_of}
use Rattle.isolation.specs.Rules.{due}
use Rattle.isolation.proofs.Same.{length_same, due_same}
use Rattle.isolation.specs.Replies.{Wire, abort_frame, cts_frame, eoma_frame}
use Rattle.delivery.specs.Link.{Setting, key_in, offer, body_for, key_number, if_for, heard}
use Rattle.delivery.specs.Arrival.{Fair}
use Rattle.transfer.specs.declared.Transfer.{Transfer}

-- ---- control frames, as the rules read them and as transport does

abbrev body_in : Result control-type.Control Refusal → Option Body
body_in (Ok (control.Announce a)) = Some (announce a)
body_in (Ok (control.EndOfMessage st)) = Some (status st)
body_in (Ok (control.Abort pgn)) = Some (abort pgn)
body_in (Err n) = None

control_same : (d : List ℕ) → control_body d ≡ body_in (control_of d)
unfolding control_body control_of
control_same d = go (eqb (length d) 12) (eqb (control_at d) 0) (eqb (control_at d) 4) (eqb (control_at d) 2) (eqb (control_at d) 15 && eqb (role_at d) 0)
  where
    go : (l r b s a : Bool)
        → cond (not l) None
        (cond r (Some (announce (announcement_at Rts d)))
        (cond b (Some (announce (announcement_at Bam d)))
        (cond s (Some (status (status_at d)))
        (cond a (Some (abort (abort_pgn_at d)))
        None))))
        ≡ body_in (cond (not l) (Err TransferLength)
        (cond r (Ok (control.Announce (announcement_at Rts d)))
        (cond b (Ok (control.Announce (announcement_at Bam d)))
        (cond s (Ok (control.EndOfMessage (status_at d)))
        (cond a (Ok (control.Abort (abort_pgn_at d)))
        (Err (not_receivers d)))))))
    go false r b s a = refl
    go true true b s a = refl
    go true false true s a = refl
    go true false false true a = refl
    go true false false false true = refl
    go true false false false false = refl

-- ---- the message's segments

-- the bytes of the message in its segment n
pub length_piece : (m : List ℕ) (n : ℕ) → length (piece_of m n) ≡ due_of (length m) n
unfolding due_of
length_piece m n = simp (length-take, length-drop) (omega arith)

pub due_bounds : (total n : ℕ) → 1 ≤ n → n ≤ segments_of total → (1 ≤ due_of total n) × (due_of total n ≤ 60)
unfolding due_of segments_of
due_bounds total n l u = (omega arith, omega arith)

-- ---- the sender's frames at the receiver

-- the frame is the key's own, and says b
pub record Reads (s : Setting) (f : Wire) (b : Body) : Type 0 where
  pub key : frame_key f.0 f.1 ≡ s.key
  pub body : body_of s.values.own f.0 f.1 ≡ Some b

pub reads_for : (s : Setting) (f : Wire) (b : Body) → Reads s f b → body_for s f ≡ Some b
unfolding body_for
reads_for s f b h = rw (eq-eqb (frame_key f.0 f.1) s.key h.key) h.body

abbrev id_from : Setting → ℕ → ℕ
id_from s pf = id_to pf (key_in s).da (key_in s).sa

module _ (s : Setting) (fair : Fair s) where
  pub key_fits : KeyFits (key_in s)
  key_fits = let a : s.key / 4096 < 254 = fair.sender in record { sa = omega arith; da = omega arith; session = omega arith }

  id_here : (pf : ℕ) → pf < 256
      → identifier_of (id_from s pf) ≡ fields_to pf (key_in s).da (key_in s).sa
  id_here pf l = id_read_back pf (key_in s).da (key_in s).sa l key_fits.da key_fits.sa

  id_small : (pf : ℕ) → pf < 256 → id_from s pf < 2 ^ 29
  unfolding id_to
  id_small pf l = let a : s.key / 4096 < 254 = fair.sender in omega arith

  -- the key that a frame from the sender names
  key_here : (pf n : ℕ) (rest : List ℕ) → pf < 256 → n < 16
      → frame_key (id_from s pf) (head n (key_in s) ∷ rest) ≡ s.key
  unfolding frame_key
  key_here pf n rest l u =
      let i = id_here pf l in
      let a : (identifier_of (id_from s pf)).sa.0 ≡ s.key / 4096 = ap (λ (f : Identifier). f.sa.0) i in
      let b : (identifier_of (id_from s pf)).ps ≡ s.key / 16 % 256 = ap (λ (f : Identifier). f.ps) i in
      let c : (n + 16 * (s.key % 16)) % 256 / 16 % 16 ≡ s.key % 16 = omega arith in
      rw (a, b, c) (omega arith)

  aimed_here : (eqb (s.key / 16 % 256) s.values.own.0 || eqb (s.key / 16 % 256) 255) ≡ true
  aimed_here = go fair.aimed
    where
      go : (s.key / 16 % 256 ≡ s.values.own.0) ⊎ (s.key / 16 % 256 ≡ 255) → (eqb (s.key / 16 % 256) s.values.own.0 || eqb (s.key / 16 % 256) 255) ≡ true
      go (inl e) = rw (eq-eqb (s.key / 16 % 256) s.values.own.0 e)
      go (inr e) = rw (eq-eqb (s.key / 16 % 256) 255 e) (last (eqb (s.key / 16 % 256) s.values.own.0))
        where
          last : (t : Bool) → (t || true) ≡ true
          last true = refl
          last false = refl

  -- the tests of OwnFrames on an identifier's fields
  abbrev fields_taken : Identifier → Bool
  fields_taken f =
      eqb f.extended_data_page 0
      && (eqb f.data_page 0
      && ((eqb f.ps s.values.own.0 || eqb f.ps 255)
      && (ltb f.sa.0 254
      && not (eqb f.sa.0 s.values.own.0))))

  fields_taken_lem : (pf : ℕ) → fields_taken (fields_to pf (key_in s).da (key_in s).sa) ≡ true
  fields_taken_lem pf = rw (aimed_here, lt-ltb (s.key / 4096) 254 fair.sender, ne_eqb (s.key / 4096) s.values.own.0 fair.apart)

  taken_here_lem : (pf : ℕ) (d : List ℕ) → pf < 256 → is_one_of (length d) fd_lengths ≡ true
      → taken s.values.own (id_from s pf) d ≡ true
  unfolding taken
  taken_here_lem pf d l e =
      both _ _ (lt-ltb (id_from s pf) (2 ^ 29) (id_small pf l))
      (both _ _ e (ap fields_taken (id_here pf l) ∙ fields_taken_lem pf))

  control_reads : (n : ℕ) (rest : List ℕ) (b : Body) → n < 16 → length rest ≡ 11 → body_in (control_of (head n (key_in s) ∷ rest)) ≡ Some b
      → Reads s (id_from s 77, head n (key_in s) ∷ rest) b
  unfolding body_of
  control_reads n rest b u l e =
      let id : ℕ = id_from s 77 in
      let d : List ℕ = head n (key_in s) ∷ rest in
      let long : length d ≡ 12 = omega arith in
      let pf : (identifier_of id).pf ≡ 77 = ap (λ (f : Identifier). f.pf) (id_here 77 (omega arith)) in
      let mine : taken s.values.own id d ≡ true = taken_here_lem 77 d (omega arith) (rw long (unfold is_one_of fd_lengths in refl)) in
      record {
        key = key_here 77 n rest (omega arith) u;
        body = rw (mine, eq-eqb (identifier_of id).pf 77 pf, control_same d) e;
      }

  pub few_segments : segments_of (length s.message) ≤ 69
  unfolding segments_of
  few_segments = omega (arith, fair.few_bytes)

  three_total : Three (length s.message)
  three_total = omega (arith, fair.few_bytes)

  three_segments : Three (segments_of (length s.message))
  three_segments = omega (arith, few_segments)

  pub three_pgn : Three s.pgn
  three_pgn = let h : s.pgn < 262144 = ltb-true s.pgn 262144 (and_elim_left (ltb s.pgn 262144) _ fair.in_form) in omega arith

  -- the receiver reads what was announced
  pub on_offer : Reads s (offer_wire (offer s)) (announce (announcement_of (offer s)))
  on_offer =
      control_reads (control_for (announcement_of (offer s)).kind) _ (announce (announcement_of (offer s))) (small (announcement_of (offer s)).kind) refl
      (ap body_in (announcement_read_back (key_in s) key_fits (announcement_of (offer s)) three_total three_segments three_pgn))
    where
      small : (κ : Kind) → control_for κ < 16
      small Rts = omega arith
      small Bam = omega arith

  -- and that it is over
  pub on_status : Reads s (status_wire (offer s)) (status (status_of (offer s)))
  on_status =
      control_reads 2 _ (status (status_of (offer s))) (omega arith) refl
      (ap body_in (status_read_back (key_in s) key_fits (status_of (offer s)) three_total three_segments three_pgn))

  -- and that the transfer was given up, with n
  pub on_ending : (n : Refusal) → Reads s (to_responder (key_in s), abort_bytes Originator (abort_for (ending_of (offer s) n))) (abort s.pgn)
  on_ending n =
      control_reads 15 _ (abort s.pgn) (omega arith) refl
      (ap body_in (abort_read_back (abort_for (ending_of (offer s) n)) key_fits three_pgn))

  -- segment n, with what fills its frame up
  abbrev pub frame_of : ℕ → List ℕ
  frame_of n = (segment_wire (key_in s) s.message n).1

  module _ (n : ℕ) (first : 1 ≤ n) (last : n ≤ segments_of (length s.message)) where
    piece_bounds : (1 ≤ length (piece_of s.message n)) × (length (piece_of s.message n) ≤ 60)
    piece_bounds = rw (length_piece s.message n) (due_bounds (length s.message) n first last)

    three_number : Three n
    three_number = let c : segments_of (length s.message) ≤ 69 = few_segments in omega arith

    long : length (frame_of n) ≡ frame_length (4 + length (piece_of s.message n))
    long = segment_long (key_in s) key_fits n three_number (piece_of s.message n) piece_bounds.0 piece_bounds.1

    fd_length : is_one_of (length (frame_of n)) fd_lengths ≡ true
    fd_length =
        let u : length (piece_of s.message n) ≤ 60 = piece_bounds.1 in
        rw (long, length_same (frame_length (4 + length (piece_of s.message n))))
        (frame_least (4 + length (piece_of s.message n)) (omega arith)).member

    longer : 4 + length (piece_of s.message n) ≤ length (frame_of n)
    longer =
        let u : length (piece_of s.message n) ≤ 60 = piece_bounds.1 in
        rw long (frame_bounds (4 + length (piece_of s.message n)) (omega arith)).0

    data_body_lem : data_body (frame_of n) ≡ Some (segment 0 n (data_at (frame_of n)))
    unfolding data_body segment_bytes
    data_body_lem =
        let l : 1 ≤ length (piece_of s.message n) = piece_bounds.0 in
        let h : 4 + length (piece_of s.message n) ≤ length (frame_of n) = longer in
        let format : format_at (frame_of n) ≡ 0 = omega arith in
        let number : number_at (frame_of n) ≡ n = low24_read_back n three_number in
        rw (le-ltb (length (frame_of n)) 5 (omega arith), format, number)

    -- the receiver reads the number and the data, and what fills the frame up comes after it
    pub on_segment : Reads s (segment_wire (key_in s) s.message n) (segment 0 n (data_at (frame_of n)))
    unfolding body_of segment_bytes
    on_segment =
        let id : ℕ = id_from s 78 in
        let pf : (identifier_of id).pf ≡ 78 = ap (λ (f : Identifier). f.pf) (id_here 78 (omega arith)) in
        let mine : taken s.values.own id (frame_of n) ≡ true = taken_here_lem 78 (frame_of n) (omega arith) fd_length in
        record {
          key = key_here 78 0 _ (omega arith) (omega arith);
          body = rw (mine, ne_eqb (identifier_of id).pf 77 (λ e. omega arith), eq-eqb (identifier_of id).pf 78 pf) data_body_lem;
        }

    pub data_whole : take (due_of (length s.message) n) (data_at (frame_of n)) ≡ piece_of s.message n
    data_whole =
        ap (λ (c : ℕ). take c (data_at (frame_of n))) (sym (length_piece s.message n))
        ∙ data_read_back (key_in s) key_fits n three_number (piece_of s.message n) piece_bounds.0 piece_bounds.1

    -- as the rules take it
    pub data_taken : take (due (length s.message) n) (data_at (frame_of n)) ≡ piece_of s.message n
    data_taken = rw (due_same (length s.message) n first) data_whole

    pub data_long : due_of (length s.message) n ≤ length (data_at (frame_of n))
    data_long =
        let h : 4 + length (piece_of s.message n) ≤ length (frame_of n) = longer in
        let z : length (data_at (frame_of n)) ≡ length (frame_of n) - 4 = length-drop 4 (frame_of n) in
        let e : length (piece_of s.message n) ≡ due_of (length s.message) n = length_piece s.message n in
        omega arith

-- ---- the receiver's frames at the sender

abbrev pub cts_wire : Setting → ℕ → ℕ → Wire
cts_wire s n c = (response_id (cts_frame s.key n c s.pgn), response_bytes (cts_frame s.key n c s.pgn))

abbrev pub eoma_wire : Setting → Wire
eoma_wire s = (response_id (eoma_frame s.key (announcement_of (offer s))), response_bytes (eoma_frame s.key (announcement_of (offer s))))

-- by its cause
abbrev pub abort_wire : Setting → Cause → Wire
abort_wire s c = (response_id (abort_frame s.key c s.pgn), response_bytes (abort_frame s.key c s.pgn))

module _ (s : Setting) (fair : Fair s) where
  own_number : key_number (key_in s) ≡ s.key
  own_number = omega arith

  pub cts_read : (n c : ℕ) → Three n → response_of (route_of (identifier_of (cts_wire s n c).0)) (cts_wire s n c).1 ≡ read_of (cts_frame s.key n c s.pgn)
  cts_read n c l = (read_back (cts_frame s.key n c s.pgn) (key_fits s fair, l, three_pgn s fair)).0

  pub on_cts : (x : Option Transfer) (last n c : ℕ) → Three n → heard s x last (cts_wire s n c) ≡ hears x (read_of (cts_frame s.key n c s.pgn)) last
  unfolding heard
  on_cts x last n c l = ap (if_for s.key x last) (cts_read n c l) ∙ rw (eq-eqb (key_number (key_in s)) s.key own_number)

  pub eoma_read : response_of (route_of (identifier_of (eoma_wire s).0)) (eoma_wire s).1 ≡ read_of (eoma_frame s.key (announcement_of (offer s)))
  eoma_read =
      (read_back (eoma_frame s.key (announcement_of (offer s))) (key_fits s fair, three_total s fair, three_segments s fair, three_pgn s fair)).0

  pub on_eoma : (x : Option Transfer) (last : ℕ) → heard s x last (eoma_wire s) ≡ hears x (read_of (eoma_frame s.key (announcement_of (offer s)))) last
  unfolding heard
  on_eoma x last = ap (if_for s.key x last) eoma_read ∙ rw (eq-eqb (key_number (key_in s)) s.key own_number)

  pub abort_read : (c : Cause) → response_of (route_of (identifier_of (abort_wire s c).0)) (abort_wire s c).1 ≡ read_of (abort_frame s.key c s.pgn)
  abort_read c = (read_back (abort_frame s.key c s.pgn) (key_fits s fair, three_pgn s fair)).0

  pub on_abort : (x : Option Transfer) (last : ℕ) (c : Cause) → heard s x last (abort_wire s c) ≡ hears x (read_of (abort_frame s.key c s.pgn)) last
  unfolding heard
  on_abort x last c = ap (if_for s.key x last) (abort_read c) ∙ rw (eq-eqb (key_number (key_in s)) s.key own_number)

  -- a response of 12 bytes is a control frame to the sender
  pub response_judged : (key_in s).da.0 ≡ s.values.own.0
      → judged (key_in s).sa (to_originator (key_in s)) 12 ≡ Ok (Control (record { sa = (key_in s).da; da = (key_in s).sa }))
  unfolding judged id_to
  response_judged e =
      let id : ℕ = to_originator (key_in s) in
      let r : s.values.own.0 < 254 = fair.receiver in
      let small : id < 536870912 = reply_small in
      sym (else (leb 536870912 id) _ _ _ (lt-leb 536870912 id small) refl)
      ∙ ap (λ (f : Identifier). cond (not (route_taken (key_in s).sa f)) (Err NotTaken) (by_format f.pf (route_of f)))
      (id_read_back 77 (key_in s).sa (key_in s).da (omega arith) (key_fits s fair).sa (key_fits s fair).da)
      ∙ rw (
        eq-eqb (s.key / 4096) (s.key / 4096) refl,
        ne_eqb (s.key / 16 % 256) 254 (λ z. omega arith),
        ne_eqb (s.key / 16 % 256) 255 (λ z. omega arith),
        ne_eqb (s.key / 16 % 256) (s.key / 4096) (λ z. fair.apart (omega arith)),
      )
      (unfold by_format in refl)
    where
      reply_small : to_originator (key_in s) < 536870912
      reply_small = let a : s.key / 4096 < 254 = fair.sender in omega arith
