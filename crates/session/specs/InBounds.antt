-- A session stays in bounds, whatever it decides: 01, "Numbered refusals". Nothing here needs to be believed.
use Rattle.std.specs.Prelude.{◌≡◌, ℕ, ◌≤◌, Bool, true, false, cond, not, ◌||◌, [], ◌∷◌, ◌==◌, nat_eq, nat_le, nat_lt, refl, Ok}
use Rattle.std.proofs.Common.{sym, ap, ◌∙◌, le-leb, ltb-true}
use Rattle.std.proofs.lemmas.Bool.{eqb-false, not-false}
use Rattle.laws.specs.Choice.{each_of, all_of_lem}
use Rattle.laws.specs.Bools.{cond_true}
use Rattle.frame.specs.declared.Address.{Address}
use Rattle.transport.specs.Kinds.{is_rts}
use Rattle.transport.specs.declared.Key.{Key}
use Rattle.transport.specs.declared.Kind.{Kind}
use Rattle.transport.specs.declared.Kind.TheVariants.{Rts, Bam}
use Rattle.transport.specs.declared.announcement.Announcement.{Announcement}
use Rattle.progress.specs.declared.Announced.{Announced}
use Rattle.progress.specs.Forward.{advanced_by}
use Rattle.progress.specs.Requests.{requested_by}
use Rattle.session.specs.declared.Session.{Session}
use Rattle.session.specs.declared.segment.Judged.TheVariants.{Takes}
use Rattle.session.specs.Announcements.{misdirected, form_of, announced_by, session_of}
use Rattle.session.specs.Segments.{judged_of}
use Rattle.session.specs.Ends.{all_in}
use Rattle.session.specs.Bounds.{announced_ok, key_ok, progress_ok, session_ok, AgreedIn, Reached}
use Rattle.session.specs.Laws.{announced_agreed, agreed_announced, progress_reached, reached_progress, opened_agreed, opened_reached, advanced_reached, requested_reached}

-- a key of which frames are taken here
pub record KeyTaken (own : Address) (k : Key) : Type 0 where
  pub da : (k.da.0 == own.0 || k.da.0 == 255) ≡ true
  pub sa : k.sa.0 ≤ 253
  pub foreign : nat_eq k.sa.0 own.0 ≡ false
  pub session : k.session.0 ≤ 15

-- ---- bounds as facts

pub record Sound (own : Address) (s : Session) : Type 0 where
  pub agreed : AgreedIn s.announced
  pub key : key_ok own s.announced ≡ true
  pub reached : Reached s.announced s.progress

pub sound_of : (own : Address) (s : Session) → session_ok own s ≡ true → Sound own s
sound_of own s e =
    let t = each_of (announced_ok s.announced ∷ key_ok own s.announced ∷ progress_ok s.announced s.progress ∷ []) e in
    record {
      agreed = announced_agreed s.announced t.0;
      key = t.1.0;
      reached = progress_reached s.announced s.progress t.1.1.0;
    }

pub of_sound : (own : Address) (s : Session) → Sound own s → session_ok own s ≡ true
of_sound own s h =
    all_of_lem (announced_ok s.announced ∷ key_ok own s.announced ∷ progress_ok s.announced s.progress ∷ []) (
      agreed_announced s.announced h.agreed,
      (h.key, (reached_progress s.announced s.progress h.reached, tt)),
    )

-- ---- a session that opens

-- an announcement that is not misdirected has the DA of its kind
da_fact : (own : Address) (k : Key) → KeyTaken own k → (κ : Kind) → misdirected k.da κ ≡ false
    → (k.da.0 == cond (is_rts κ) own.0 255) ≡ true
da_fact own k h Rts e = go (k.da.0 == own.0) (k.da.0 == 255) h.da e
  where
    go : (a b : Bool) → (a || b) ≡ true → b ≡ false → a ≡ true
    go true b d e = refl
    go false true d e = sym e
    go false false d e = d
da_fact own k h Bam e = not-false (k.da.0 == 255) e

key_fact : (own : Address) (a : Announced) → KeyTaken own a.key → misdirected a.key.da a.kind ≡ false → key_ok own a ≡ true
key_fact own a h e =
    all_of_lem (nat_le a.key.sa.0 253 ∷ not (a.key.sa.0 == own.0) ∷ (a.key.da.0 == cond (is_rts a.kind) own.0 255) ∷ nat_le a.key.session.0 15 ∷ []) (
      le-leb a.key.sa.0 253 h.sa,
      (
        ap not h.foreign,
        (da_fact own a.key h a.kind e, (le-leb a.key.session.0 15 h.session, tt)),
      ),
    )

pub opened_ok : (own : Address) (k : Key) (a : Announcement) (last : ℕ) → KeyTaken own k → misdirected k.da a.kind ≡ false → form_of a ≡ Ok tt
    → session_ok own (session_of k a last) ≡ true
opened_ok own k a last h e f =
    of_sound own (session_of k a last)
    (record { agreed = opened_agreed k a f; key = key_fact own (announced_by k a) h e; reached = opened_reached k a last f })

-- ---- a session that a segment moves on

pub moved_ok : (own : Address) (s : Session) (n room last : ℕ) → session_ok own s ≡ true → judged_of s n room ≡ Takes
    → session_ok own (record { announced = s.announced; progress = advanced_by s.progress s.announced n last }) ≡ true
moved_ok own s n room last e t =
    let h = sound_of own s e in
    of_sound own (record { announced = s.announced; progress = advanced_by s.progress s.announced n last })
    (record { agreed = h.agreed; key = h.key; reached = advanced_reached s n room last h.agreed h.reached t })

-- ---- a session that asks for what is missing

pub asked_ok : (own : Address) (s : Session) (last : ℕ) → session_ok own s ≡ true → is_rts s.announced.kind ≡ true → all_in s ≡ false → nat_lt s.progress.requests 5 ≡ true
    → session_ok own (record { announced = s.announced; progress = requested_by s.progress s.announced last }) ≡ true
asked_ok own s last e r short few =
    let h = sound_of own s e in
    of_sound own (record { announced = s.announced; progress = requested_by s.progress s.announced last })
    (record {
      agreed = h.agreed;
      key = h.key;
      reached = requested_reached s last h.agreed h.reached r (eqb-false s.progress.missing 0 (sym (cond_true (is_rts s.announced.kind) _ _ r) ∙ short)) (ltb-true s.progress.requests 5 few);
    })
