-- A change put into a sender's record is read back as that change, and nothing else is changed.
use Rattle.std.specs.Prelude.{ℕ, zero, suc, ◌+◌, ◌*◌, ◌<◌, ◌≤◌, ◌≡◌, refl, Bool, true, false, length, take, drop, None, Option}
use Rattle.std.specs.Int.{from_bool}
use Rattle.std.proofs.Common.{arith, ap₂, ◌∙◌, inr, length-drop, get_or-take, get_or-drop, ext_get_or, length-take-le}
use Rattle.std.proofs.Math.Path.{sym, ap, fun_ext}
use mathlib.Core.List.{List, [], ◌∷◌, ◌++◌}
use Rattle.std.proofs.Math.ListN.{get_or}
use Rattle.std.proofs.Math.Seq.{paste}
use Rattle.std.proofs.lemmas.List.Edits.{length-paste}
use Rattle.laws.specs.Windows.{take_paste_before, drop_paste_at, window_other}
use Rattle.frame.specs.declared.Address.{Address}
use Rattle.transport.specs.declared.Key.{Key}
use Rattle.words.specs.Words.{low4, low32}
use Rattle.words.specs.Laws.{four_bytes, low32_read_back}
use Rattle.transfer.specs.declared.Offer.{Offer}
use Rattle.transfer.specs.declared.Course.{Course}
use Rattle.transfer.specs.declared.Transfer.{Transfer}
use Rattle.session.specs.declared.Change.{Change}
use Rattle.session.specs.declared.Change.TheVariants.{Stays, Opens, Moves, Ends}
use Rattle.transfer.specs.Kept.{OpensFor, CourseFits, TransferFits}
use Rattle.sender_bytes.specs.Places.{record_length, transfer_length, offer_length, transfer_place, own_place, limit_place, last_place}
use Rattle.sender_bytes.specs.Layout.{flag_at, offer_bytes, course_bytes, transfer_bytes, offer_at, course_at, transfer_at, state_at}
use Rattle.sender_bytes.specs.Layout.{Sender, piece_at, own_at, transfers_at, sender_at, opened_bytes}

unfoldable pub word_by : (ℕ → ℕ) → ℕ
word_by f = f 0 + 256 * f 1 + 65536 * f 2 + 16777216 * f 3

pub course_by : (ℕ → ℕ) → Course
course_by f =
    record {
      next = record { 0 = word_by (λ k. f (3 + k)) };
      granted = record { 0 = word_by (λ k. f (7 + k)) };
      complete = flag_at (f 0);
      reported = flag_at (f 1);
      owed = flag_at (f 2);
      mark = word_by (λ k. f (11 + k));
    }

pub course_behind : (p : List ℕ) → course_at p ≡ course_by (λ k. get_or (drop offer_length p) k 0)
unfolding word_by course_by
course_behind p = ap course_by (fun_ext (λ (k : ℕ). sym (get_or-drop offer_length p k 0)))

-- ---- a transfer read back

flag_back : (t : Bool) → flag_at (from_bool t) ≡ t
flag_back true = refl
flag_back false = refl

course_made : Bool → Bool → Bool → ℕ → ℕ → ℕ → Course
course_made a b c n g m = record { next = record { 0 = n }; granted = record { 0 = g }; complete = a; reported = b; owed = c; mark = m }

flags_back : (c : Course) (n g m : ℕ)
    → course_made (flag_at (from_bool c.complete)) (flag_at (from_bool c.reported)) (flag_at (from_bool c.owed)) n g m
    ≡ course_made c.complete c.reported c.owed n g m
flags_back c n g m = rw (flag_back c.complete, flag_back c.reported, flag_back c.owed) refl

numbers_back : (c : Course) → CourseFits c
    → course_made c.complete c.reported c.owed (four_bytes c.next.0) (four_bytes c.granted.0) (four_bytes c.mark) ≡ c
unfolding course_made
numbers_back c f =
    let made : ℕ → ℕ → ℕ → Course = course_made c.complete c.reported c.owed in
    ap (λ (n : ℕ). made n (four_bytes c.granted.0) (four_bytes c.mark)) (low32_read_back c.next.0 f.next)
    ∙ ap (λ (n : ℕ). made c.next.0 n (four_bytes c.mark)) (low32_read_back c.granted.0 f.granted)
    ∙ ap (λ (n : ℕ). made c.next.0 c.granted.0 n) (low32_read_back c.mark f.mark)

pub course_back : (c : Course) (rest : List ℕ) → CourseFits c → course_by (λ k. get_or (course_bytes c ++ rest) k 0) ≡ c
unfolding word_by course_by course_made
course_back c rest f = flags_back c _ _ _ ∙ numbers_back c f

offer_back : (o : Offer) (rest : List ℕ) → o.total.0 < 4294967296 → o.pgn < 4294967296 → offer_at o.key.sa (offer_bytes o ++ rest) ≡ o
offer_back o rest h g =
    let made : ℕ → ℕ → Offer = λ (n m : ℕ). record { key = o.key; total = record { 0 = n }; pgn = m } in
    ap (λ (n : ℕ). made n (four_bytes o.pgn)) (low32_read_back o.total.0 h) ∙ ap (made o.total.0) (low32_read_back o.pgn g)

pub read_back : (t : Transfer) → TransferFits t → transfer_at t.offer.key.sa (transfer_bytes t) ≡ t
read_back t f =
    ap (λ (o : Offer). record { offer = o; course = course_at (transfer_bytes t) })
    (offer_back t.offer (course_bytes t.course) f.total f.pgn)
    ∙ ap (λ (c : Course). record { offer = t.offer; course = c })
    (course_behind (transfer_bytes t) ∙ course_back t.course [] f.course)

-- ---- the transfers of a record by their numbers

pub transfer_at_lem : (b : List ℕ) (i : ℕ) → i < 4 → get_or (transfers_at b) i None ≡ state_at (own_at b) (piece_at b i)
unfolding transfers_at
transfer_at_lem b zero h = refl
transfer_at_lem b (suc zero) h = refl
transfer_at_lem b (suc (suc zero)) h = refl
transfer_at_lem b (suc (suc (suc zero))) h = refl
transfer_at_lem b (suc (suc (suc (suc i)))) h = absurd (omega arith)

pub four_transfers : (b : List ℕ) → length (transfers_at b) ≡ 4
unfolding transfers_at
four_transfers b = refl

pub whole_piece : (b : List ℕ) (i : ℕ) → length b ≡ record_length → i < 4 → length (piece_at b i) ≡ transfer_length
whole_piece b i long low =
    length-take-le transfer_length (drop (transfer_place i) b) (simp length-drop (omega arith))

-- a transfer that opens is of the record's own address
abbrev pub OwnOf : List ℕ → Change Transfer Course → Type 0
OwnOf b Stays = Unit {0}
OwnOf b (Opens t) = t.offer.key.sa ≡ own_at b
OwnOf b (Moves c) = Unit {0}
OwnOf b Ends = Unit {0}

pub own_of : (b : List ℕ) (k : Key) (c : Change Transfer Course) → k.sa ≡ own_at b → OpensFor k c → OwnOf b c
own_of b k Stays e o = tt
own_of b k (Opens t) e o = ap (λ (κ : Key). κ.sa) o ∙ e
own_of b k (Moves c) e o = tt
own_of b k Ends e o = tt

-- ---- what a front that stays keeps

module _ (p q : List ℕ) (n : ℕ) (same : take n p ≡ take n q) where
  byte_same : (k : ℕ) → k < n → get_or p k 0 ≡ get_or q k 0
  byte_same k h = sym (get_or-take n p k 0 h) ∙ ap (λ (l : List ℕ). get_or l k 0) same ∙ get_or-take n q k 0 h

  pub word_same : (at : ℕ) → at + 4 ≤ n → low32 p at ≡ low32 q at
  word_same at h =
      rw (byte_same at (omega arith), byte_same (at + 1) (omega arith), byte_same (at + 2) (omega arith), byte_same (at + 3) (omega arith)) refl

  pub own_same : 1 ≤ n → own_at p ≡ own_at q
  own_same h = ap (λ (k : ℕ). record { 0 = k }) (byte_same own_place (omega arith))

pub same_sender : {a a' : Address} {n n' m m' : ℕ} {ts ts' : List (Option Transfer)} → a ≡ a' → n ≡ n' → m ≡ m' → ts ≡ ts'
    → ◌≡◌ {A = Sender} (record { own = a; limit = n; last = m; transfers = ts }) (record { own = a'; limit = n'; last = m'; transfers = ts' })
same_sender e f g h = rw (e, f, g, h) refl

-- ---- a record as it is opened

pub opened_at : (own : Address) (limit reading : ℕ) → limit < 4294967296 → reading < 4294967296
    → sender_at (opened_bytes own limit reading) ≡ record { own = own; limit = limit; last = reading; transfers = None ∷ None ∷ None ∷ None ∷ [] }
unfolding transfers_at
opened_at own limit reading h g =
    ap₂ (λ (n m : ℕ). record { own = own; limit = n; last = m; transfers = None ∷ None ∷ None ∷ None ∷ [] })
    (low32_read_back limit h)
    (low32_read_back reading g)

-- ---- another last reading

module _ (b : List ℕ) (reading : ℕ) (long : length b ≡ record_length) (fits : reading < 4294967296) where
  abbrev y : List ℕ
  y = paste b last_place (low4 reading []) 4

  pub length_put_last : length y ≡ record_length
  length_put_last = length-paste b last_place (low4 reading []) 4 (omega arith) (omega arith) ∙ long

  before_last : take last_place y ≡ take last_place b
  before_last = take_paste_before b last_place (low4 reading []) 4 (omega arith) last_place (omega arith)

  last_read : low32 y last_place ≡ reading
  unfolding word_by
  last_read =
      ap word_by (fun_ext (λ (k : ℕ). sym (get_or-drop last_place y k 0)))
      ∙ ap (λ (l : List ℕ). word_by (λ k. get_or l k 0)) (drop_paste_at b last_place (low4 reading []) 4 (omega arith))
      ∙ low32_read_back reading fits

  pieces_same : (i : ℕ) → piece_at y i ≡ piece_at b i
  pieces_same i =
      window_other b last_place (low4 reading []) 4 (omega arith) (omega arith) (transfer_place i) transfer_length (inr (omega arith))

  own_kept : own_at y ≡ own_at b
  own_kept = own_same y b last_place before_last (omega arith)

  transfers_same : transfers_at y ≡ transfers_at b
  transfers_same =
      ext_get_or None (transfers_at y) (transfers_at b) (four_transfers y ∙ sym (four_transfers b)) (λ j h.
      let four : length (transfers_at y) ≡ 4 = four_transfers y in
      transfer_at_lem y j (omega arith)
      ∙ ap₂ (λ (a : Address) (p : List ℕ). state_at a p) own_kept (pieces_same j)
      ∙ sym (transfer_at_lem b j (omega arith)))

  pub put_last_at : sender_at y ≡ record { own = own_at b; limit = low32 b limit_place; last = reading; transfers = transfers_at b }
  put_last_at = same_sender own_kept (word_same y b last_place before_last limit_place (omega arith)) last_read transfers_same
