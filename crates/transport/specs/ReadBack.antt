-- What one end writes is what the other reads.
use Prim.Native.Nat.{ℕ, ◌+◌, ◌-◌, ◌*◌, ◌/◌, ◌%◌, ◌≤◌, ◌<◌}
use Rattle.std.specs.Prelude.{◌≡◌, eqb, ltb, take, Ok, Result}
use Rattle.std.proofs.Math.Path.{refl, sym, ap}
use Rattle.std.proofs.Common.{◌∙◌, eq-eqb, le-ltb}
use Rattle.std.proofs.Math.Bool.{not}
use mathlib.Core.List.{List, [], ◌∷◌, ◌++◌}
use Rattle.std.proofs.Math.ListN.{length, length-append, length-replicate}
use Rattle.std.proofs.Math.Seq.{take_at}
use Rattle.laws.specs.Choice.{else}
use native.Mathlib.Omega.{arith}
use Rattle.frame.specs.Identifiers.{identifier_of}
use Rattle.frame.specs.Inverse.{read_of_id}
use Rattle.frame.specs.Judge.{route_of}
use Rattle.frame.specs.Lengths.{frame_length}
use Rattle.frame.proofs.LengthLaws.{frame_bounds}
use Rattle.frame.specs.Octets.{low3, low24}
use Rattle.frame.specs.declared.Address.{Address}
use Rattle.frame.specs.declared.identifier.Identifier.{Identifier}
use Rattle.transport.specs.declared.Key.{Key}
use Rattle.transport.specs.declared.Kind.{Kind}
use Rattle.transport.specs.declared.Kind.TheVariants.{Rts, Bam}
use Rattle.transport.specs.declared.abort.Abort as abort
use Rattle.transport.specs.declared.abort.Role.TheVariants.{Originator}
use Rattle.transport.specs.declared.announcement.Announcement.{Announcement}
use Rattle.transport.specs.declared.eoms.Status.{Status}
use Rattle.transport.specs.declared.control.Control.TheVariants as control
use Rattle.transport.specs.declared.response.Response.{Response}
use Rattle.transport.specs.declared.response.Response.TheVariants.{Cts, Eoma, Abort}
use Rattle.transport.specs.declared.response.ResponseRead.TheVariants as read
use Rattle.transport.specs.Heads.{head, control_at, key_of, id_to}
use Rattle.transport.specs.Announcements.{announcement_bytes}
use Rattle.transport.specs.Eoms.{status_bytes}
use Rattle.transport.specs.Aborts.{abort_bytes}
use Rattle.transport.specs.Segments.{data_at, data_frame_of, filler, segment_bytes}
use Rattle.transport.specs.Control.{by_control, control_of}
use Rattle.frame.specs.declared.refusal.Refusal.{Refusal}
use Rattle.transport.specs.declared.control.Control.{Control}
use Rattle.transport.specs.declared.response.ResponseRead.{ResponseRead}

-- Three bytes hold a number below 2^24.
abbrev pub Three : ℕ → Type 0
Three n = n < 16777216

abbrev pub three_bytes : ℕ → ℕ
three_bytes n = low24 (low3 n []) 0

pub low24_read_back : (n : ℕ) → Three n → three_bytes n ≡ n
low24_read_back n h = omega arith

pub two_read_back : {A : Type 0} (g : ℕ → ℕ → A) (a b : ℕ) → Three a → Three b → g (three_bytes a) (three_bytes b) ≡ g a b
two_read_back g a b p q =
    ap (λ (x : ℕ). g x (three_bytes b)) (low24_read_back a p) ∙ ap (g a) (low24_read_back b q)

pub three_read_back : {A : Type 0} (g : ℕ → ℕ → ℕ → A) (a b c : ℕ) → Three a → Three b → Three c → g (three_bytes a) (three_bytes b) (three_bytes c) ≡ g a b c
three_read_back g a b c p q r =
    ap (λ (x : ℕ). g x (three_bytes b) (three_bytes c)) (low24_read_back a p) ∙ two_read_back (g a) b c q r

-- ---- the identifier and the first byte

pub record KeyFits (k : Key) : Type 0 where
  pub sa : k.sa.0 < 256
  pub da : k.da.0 < 256
  pub session : k.session.0 < 16

-- priority 7, both pages 0
abbrev pub fields_to : ℕ → Address → Address → Identifier
fields_to pf to from =
    record { priority = 7; extended_data_page = 0; data_page = 0; pf = pf; ps = to.0; sa = from }

pub id_read_back : (pf : ℕ) (to from : Address) → pf < 256 → to.0 < 256 → from.0 < 256 → identifier_of (id_to pf to from) ≡ fields_to pf to from
unfolding id_to
id_read_back pf to from p t f =
    read_of_id (fields_to pf to from) (record { pf = p; ps = t; sa = f })
    (record { priority = omega arith; extended = omega arith; page = omega arith })

module _ (k : Key) (fits : KeyFits k) (n : ℕ) (small : n < 16) (rest : List ℕ) where
  pub session_back : (n + 16 * k.session.0) % 256 / 16 % 16 ≡ k.session.0
  session_back = let s : k.session.0 < 16 = fits.session in omega arith

  pub control_back : control_at (head n k ∷ rest) ≡ n
  control_back = let s : k.session.0 < 16 = fits.session in omega arith

  -- a frame of the originator's, control or data
  pub key_read_back : (pf : ℕ) → key_of (route_of (fields_to pf k.da k.sa)) (head n k ∷ rest) ≡ k
  key_read_back pf = ap (λ (x : ℕ). record { sa = k.sa; da = k.da; session = record { 0 = x } }) session_back

  module _ (long : length rest ≡ 11) where
    -- a frame with the control n is read by what n says
    by_control_lem : control_of (head n k ∷ rest) ≡ by_control (head n k ∷ rest) n
    unfolding control_of
    by_control_lem =
        let d : List ℕ = head n k ∷ rest in
        sym (else (not (eqb (length d) 12)) _ _ _ (ap not (eq-eqb (length d) 12 (omega arith))) refl)
        ∙ ap (by_control d) control_back

-- ---- a responder's frames

-- The fields of a response are no larger than their places. (Count and reason are a byte of the frame as they are.)
abbrev pub Fits : Response → Type 0
Fits (Cts f) = KeyFits f.key × Three f.next.0 × Three f.pgn
Fits (Eoma f) = KeyFits f.key × Three f.total.0 × Three f.segments.0 × Three f.pgn
Fits (Abort f) = KeyFits f.key × Three f.pgn

-- what an originator reads of it
abbrev pub read_of : Response → Result ResponseRead Refusal
read_of (Cts f) = Ok (read.Cts (record { cts = f; request = 0 }))
read_of (Eoma f) = Ok (read.Eoma f)
read_of (Abort f) = Ok (read.Abort f)

abbrev pub reply_fields : Key → Identifier
reply_fields k = fields_to 77 k.sa k.da

-- ---- an originator's frames: the receiver reads what was announced, that it is over, that it is broken off

module _ (k : Key) (fits : KeyFits k) where
  pub announcement_read_back : (a : Announcement) → Three a.total.0 → Three a.segments.0 → Three a.pgn
      → control_of (announcement_bytes k a) ≡ Ok (control.Announce a)
  announcement_read_back a n s p = by_kind_lem a.kind
    where
      of : Kind → ℕ → ℕ → ℕ → Announcement
      of kind total segments pgn =
          record { kind = kind; total = record { 0 = total }; segments = record { 0 = segments }; max = a.max; assurance = a.assurance; pgn = pgn }

      made : Kind → ℕ → ℕ → ℕ → Result Control Refusal
      made kind total segments pgn = Ok (control.Announce (of kind total segments pgn))

      by_kind_lem : (kind : Kind) → control_of (announcement_bytes k (of kind a.total.0 a.segments.0 a.pgn)) ≡ made kind a.total.0 a.segments.0 a.pgn
      by_kind_lem Rts = by_control_lem k fits 0 (omega arith) _ refl ∙ three_read_back (made Rts) a.total.0 a.segments.0 a.pgn n s p
      by_kind_lem Bam = by_control_lem k fits 4 (omega arith) _ refl ∙ three_read_back (made Bam) a.total.0 a.segments.0 a.pgn n s p

  pub status_read_back : (st : Status) → Three st.total.0 → Three st.segments.0 → Three st.pgn
      → control_of (status_bytes k st) ≡ Ok (control.EndOfMessage st)
  status_read_back st n s p =
      let made : ℕ → ℕ → ℕ → Result Control Refusal =
      λ (total segments pgn : ℕ). Ok (control.EndOfMessage (record { total = record { 0 = total }; segments = record { 0 = segments }; assurance = st.assurance; pgn = pgn })) in
      by_control_lem k fits 2 (omega arith) _ refl ∙ three_read_back made st.total.0 st.segments.0 st.pgn n s p

pub abort_read_back : (f : abort.Abort) → KeyFits f.key → Three f.pgn → control_of (abort_bytes Originator f) ≡ Ok (control.Abort f.pgn)
abort_read_back f fits p =
    by_control_lem f.key fits 15 (omega arith) _ refl ∙ ap (λ x. Ok (control.Abort x)) (low24_read_back f.pgn p)

-- ---- a data frame: the receiver reads its number and its data, and whatever fills it up comes after

module _ (k : Key) (fits : KeyFits k) (n : ℕ) (fit : Three n) (d : List ℕ) (some : 1 ≤ length d) (few : length d ≤ 60) where
  pub segment_long : length (segment_bytes k n d) ≡ frame_length (4 + length d)
  unfolding segment_bytes
  segment_long =
      let b = frame_bounds (4 + length d) (omega arith) in
      let gap : length (filler (4 + length d)) ≡ frame_length (4 + length d) - (4 + length d) = length-replicate _ _ in
      let all : length (d ++ filler (4 + length d)) ≡ length d + length (filler (4 + length d)) = length-append d (filler (4 + length d)) in
      omega arith

  pub segment_read_back : data_frame_of (segment_bytes k n d)
      ≡ Ok (record { format = 0; number = record { 0 = n }; room = frame_length (4 + length d) - 4 })
  unfolding data_frame_of segment_bytes
  segment_read_back =
      let b = frame_bounds (4 + length d) (omega arith) in
      let s : k.session.0 < 16 = fits.session in
      let format : (0 + 16 * k.session.0) % 256 % 16 ≡ 0 = omega arith in
      let long : length (segment_bytes k n d) ≡ frame_length (4 + length d) = segment_long in
      sym (else (ltb (length (segment_bytes k n d)) 5) _ _ _ (le-ltb (length (segment_bytes k n d)) 5 (omega arith)) refl)
      ∙ ap (λ (x : ℕ). Ok (record { format = x; number = record { 0 = three_bytes n }; room = length (segment_bytes k n d) - 4 })) format
      ∙ ap (λ (x : ℕ). Ok (record { format = 0; number = record { 0 = x }; room = length (segment_bytes k n d) - 4 })) (low24_read_back n fit)
      ∙ ap (λ (x : ℕ). Ok (record { format = 0; number = record { 0 = n }; room = x - 4 })) long

  pub data_read_back : take (length d) (data_at (segment_bytes k n d)) ≡ d
  unfolding segment_bytes
  data_read_back = take_at d (filler (4 + length d)) (length d) refl
