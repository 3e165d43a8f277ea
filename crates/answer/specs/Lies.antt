-- The place of an answer's bytes gives those bytes: 01, the last paragraph of "Life of a session".
use Rattle.std.specs.Prelude.{ℕ, ◌+◌, ◌-◌, ◌*◌, ◌≤◌, ◌<◌, ◌≡◌, refl, List, leb, ltb, length, take, drop, Some}
use Rattle.std.proofs.Common.{sym, arith, le-ltb}
use Rattle.std.proofs.lemmas.Bool.{lt-leb}
use Rattle.laws.specs.Choice.{else}
use Rattle.multi_pg.specs.declared.Group.{Group}
use Rattle.multi_pg.specs.Groups.{trailer_start, end_of, content_of}
use Rattle.answer.specs.declared.place.Place.TheVariants as place
use Rattle.answer.specs.Places.{cut_of, place_bytes}
use Rattle.answer.specs.declared.Message.{Message}
use Rattle.answer.specs.Answers.{message_bytes}

cut_lies : (s : List ℕ) (start len : ℕ) → start + len ≤ length s → cut_of s start len ≡ take len (drop start s)
cut_lies s start len h =
    sym
    (else (ltb (length s) start) _ _ _ (le-ltb (length s) start (omega arith))
    (else (ltb (length s - start) len) _ _ _ (le-ltb (length s - start) len (omega arith)) refl))

-- a message of at most 4,096 bytes in one of the eight slots
pub message_lies : (m : Message) (frame store : List ℕ) → m.slot < 8 → m.total.0 ≤ 4096 → length store ≡ 32768 → place_bytes (Some (place.Message m.slot m.total)) frame store ≡ message_bytes m store
message_lies m frame store h t l =
    sym
    (else (leb 8 m.slot) _ _ _ (lt-leb 8 m.slot h)
    (else (ltb 4096 m.total.0) _ _ _ (le-ltb 4096 m.total.0 t)
    (sym (cut_lies store (4096 * m.slot) m.total.0 (omega arith)))))

-- a group that lies in the frame: its data, and its trailer
module _ (g : Group) (frame store : List ℕ) (h : end_of g ≤ length frame) where
  pub data_lies : place_bytes (Some (place.Group g.start g.len)) frame store ≡ (content_of frame g).bytes
  data_lies = cut_lies frame g.start g.len (omega arith)

  pub trailer_lies : place_bytes (Some (place.Group (trailer_start g) g.trailer)) frame store ≡ (content_of frame g).trailer
  trailer_lies = cut_lies frame (trailer_start g) g.trailer h
