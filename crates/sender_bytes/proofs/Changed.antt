-- A change put into a sender's record is read back as that change, and nothing else is changed.
use Rattle.std.specs.Prelude.{ℕ, ◌+◌, ◌<◌, ◌≤◌, min, ◌≡◌, refl, ◌⊎◌, cond, eqb, ltb, length, set, take, drop, None, Option, Some}
use Rattle.std.proofs.Common.{arith, ap₂, subst, ◌∙◌, inl, inr, length-take, length-set, get_or-take, get_or-set_same, get_or-set_other, ext_get_or, ltb-true, ltb-false}
use Rattle.std.proofs.Math.Decide.{dec_lt, ℕ_discrete}
use Rattle.std.proofs.Math.Path.{sym, ap, fun_ext}
use mathlib.Core.List.{List, [], ◌∷◌}
use Rattle.std.proofs.Math.ListN.{get_or, get_or-eq_default}
use Rattle.std.proofs.Math.Seq.{paste}
use Rattle.std.proofs.lemmas.List.Edits.{length-paste}
use Rattle.laws.specs.Bools.{by_test, cond_true, cond_false, over_cond}
use Rattle.laws.specs.Windows.{take_paste_before, drop_paste_at, window_in, window_other, window_same}
use Rattle.frame.specs.declared.Address.{Address}
use Rattle.words.specs.Words.{low32}
use Rattle.transfer.specs.declared.Offer.{Offer}
use Rattle.transfer.specs.declared.Course.{Course}
use Rattle.transfer.specs.declared.Transfer.{Transfer}
use Rattle.session.specs.declared.Change.{Change}
use Rattle.session.specs.declared.Change.TheVariants.{Stays, Opens, Moves, Ends}
use Rattle.transfer.specs.Decisions.{moved, after}
use Rattle.transfer.specs.Kept.{CourseFits, TransferFits, ChangeFits}
use Rattle.sender_bytes.specs.Places.{record_length, head_length, transfer_length, course_length, offer_length, transfer_place, limit_place, last_place, state_place}
use Rattle.sender_bytes.specs.Layout.{course_bytes, transfer_bytes, offer_at, course_at, transfer_at, state_at}
use Rattle.sender_bytes.specs.Layout.{piece_at, own_at, transfers_at, sender_at, changed, with_transfer}
use Rattle.sender_bytes.specs.Changed.{word_by, course_by, course_behind, course_back, read_back, transfer_at_lem, four_transfers, whole_piece, OwnOf, word_same, own_same, same_sender}

-- ---- what is read, from the bytes by their numbers

-- of a front, and none behind it
taken : (n : ℕ) (p : List ℕ) (k : ℕ) → get_or (take n p) k 0 ≡ cond (ltb k n) (get_or p k 0) 0
taken n p k =
    by_test (ltb k n)
    (λ e. get_or-take n p k 0 (ltb-true _ _ e) ∙ sym (cond_true (ltb k n) (get_or p k 0) 0 e))
    (λ e.
    let far : n ≤ k = ltb-false _ _ e in
    let l : length (take n p) ≡ min n (length p) = length-take n p in
    get_or-eq_default (take n p) 0 (omega arith) ∙ sym (cond_false (ltb k n) (get_or p k 0) 0 e))

offer_by : Address → (ℕ → ℕ) → Offer
offer_by own f =
    record {
      key = record { sa = own; da = record { 0 = f 1 }; session = record { 0 = f 2 } };
      total = record { 0 = word_by (λ k. f (3 + k)) };
      pgn = word_by (λ k. f (7 + k));
    }

-- an offer is in the front of a piece, a course behind it
offer_front : (own : Address) (p : List ℕ) → offer_at own (take offer_length p) ≡ offer_at own p
unfolding word_by offer_by
offer_front own p = ap (offer_by own) (fun_ext (taken offer_length p))

-- ---- a piece after each change

module _ (own : Address) (p : List ℕ) (whole : length p ≡ transfer_length) (c : Course) (fits : CourseFits c) where
  abbrev q : List ℕ
  q = paste p offer_length (course_bytes c) course_length

  same_front : take offer_length q ≡ take offer_length p
  same_front = take_paste_before p offer_length (course_bytes c) course_length (omega arith) offer_length (omega arith)

  same_code : get_or q state_place 0 ≡ get_or p state_place 0
  same_code =
      sym (taken offer_length q state_place) ∙ ap (λ (l : List ℕ). get_or l state_place 0) same_front ∙ taken offer_length p state_place

  same_offer : offer_at own q ≡ offer_at own p
  same_offer = sym (offer_front own q) ∙ ap (offer_at own) same_front ∙ offer_front own p

  new_course : course_at q ≡ c
  new_course =
      course_behind q
      ∙ ap (λ (l : List ℕ). course_by (λ k. get_or l k 0)) (drop_paste_at p offer_length (course_bytes c) course_length (omega arith))
      ∙ course_back c (drop transfer_length p) fits

  moved_piece : state_at own q ≡ moved (state_at own p) c
  moved_piece =
      ap (λ (n : ℕ). cond (eqb n 1) (Some (transfer_at own q)) None) same_code
      ∙ ap₂ (λ (o : Offer) (d : Course). cond (eqb (get_or p state_place 0) 1) (Some (record { offer = o; course = d })) None) same_offer new_course
      ∙ over_cond (λ (x : Option Transfer). moved x c) (eqb (get_or p state_place 0) 1) (Some (transfer_at own p)) None

opened_piece : (own : Address) (t : Transfer) → t.offer.key.sa ≡ own → TransferFits t → state_at own (transfer_bytes t) ≡ Some t
opened_piece own t e f = ap (λ (a : Address). Some (transfer_at a (transfer_bytes t))) (sym e) ∙ ap Some (read_back t f)

-- ---- bytes put into one piece

module _ (b : List ℕ) (i : ℕ) (long : length b ≡ record_length) (low : i < 4) where
  module _ (at : ℕ) (s : List ℕ) (n : ℕ) (inside : at + n ≤ transfer_length) (enough : n ≤ length s) where
    abbrev new : List ℕ
    new = paste b (transfer_place i + at) s n

    put_length : length new ≡ record_length
    put_length = length-paste b (transfer_place i + at) s n (omega arith) enough ∙ long

    put_head : take head_length new ≡ take head_length b
    put_head = take_paste_before b (transfer_place i + at) s n (omega arith) head_length (omega arith)

    put_this : piece_at new i ≡ paste (piece_at b i) at s n
    put_this = window_in b (transfer_place i) transfer_length at s n inside (omega arith) enough

    put_other : (j : ℕ) → (j ≡ i → ⊥) → piece_at new j ≡ piece_at b j
    put_other j ne =
        window_other b (transfer_place i + at) s n (omega arith) enough (transfer_place j) transfer_length (side (dec_lt j i))
      where
        side : Dec (j < i) → (transfer_place j + transfer_length ≤ transfer_place i + at) ⊎ (transfer_place i + at + n ≤ transfer_place j)
        side (yes h) = inl (omega arith)
        side (no h) = inr (omega arith)

  -- a change puts nothing, or bytes into one piece
  as_put : (P : List ℕ → Type 0) → P b
      → ((at : ℕ) (s : List ℕ) (n : ℕ) → at + n ≤ transfer_length → n ≤ length s → P (paste b (transfer_place i + at) s n))
      → (c : Change Transfer Course) → P (changed b i c)
  as_put P same put Stays = same
  as_put P same put (Opens t) =
      let z : transfer_place i + 0 ≡ transfer_place i = omega arith in
      subst (λ (k : ℕ). P (paste b k (transfer_bytes t) transfer_length)) z (put 0 (transfer_bytes t) transfer_length (omega arith) (omega arith))
  as_put P same put (Moves c) = put offer_length (course_bytes c) course_length (omega arith) (omega arith)
  as_put P same put Ends =
      let z : transfer_place i + 0 ≡ transfer_place i = omega arith in
      subst (λ (k : ℕ). P (paste b k (0 ∷ []) 1)) z (put 0 (0 ∷ []) 1 (omega arith) (omega arith))

  -- ---- what a change leaves

  module _ (c : Change Transfer Course) where
    pub length_changed : length (changed b i c) ≡ record_length
    length_changed = as_put (λ (x : List ℕ). length x ≡ record_length) long put_length c

    pub head_changed : take head_length (changed b i c) ≡ take head_length b
    head_changed = as_put (λ (x : List ℕ). take head_length x ≡ take head_length b) refl put_head c

    pub own_changed : own_at (changed b i c) ≡ own_at b
    own_changed = own_same (changed b i c) b head_length head_changed (omega arith)

    pub limit_changed : low32 (changed b i c) limit_place ≡ low32 b limit_place
    limit_changed = word_same (changed b i c) b head_length head_changed limit_place (omega arith)

    pub last_changed : low32 (changed b i c) last_place ≡ low32 b last_place
    last_changed = word_same (changed b i c) b head_length head_changed last_place (omega arith)

    pub other_changed : (j : ℕ) → (j ≡ i → ⊥) → piece_at (changed b i c) j ≡ piece_at b j
    other_changed j ne =
        as_put (λ (x : List ℕ). piece_at x j ≡ piece_at b j) refl (λ at s n h g. put_other at s n h g j ne) c

  -- ---- what it makes of its own piece

  pub this_changed : (c : Change Transfer Course) → ChangeFits c → OwnOf b c → state_at (own_at b) (piece_at (changed b i c) i) ≡ after (state_at (own_at b) (piece_at b i)) c
  this_changed Stays fits own = refl
  this_changed (Opens t) fits own =
      ap (state_at (own_at b)) (window_same b (transfer_place i) (transfer_bytes t) transfer_length (omega arith) (omega arith))
      ∙ opened_piece (own_at b) t own fits
  this_changed (Moves c) fits own =
      ap (state_at (own_at b)) (put_this offer_length (course_bytes c) course_length (omega arith) (omega arith))
      ∙ moved_piece (own_at b) (piece_at b i) (whole_piece b i long low) c fits
  this_changed Ends fits own =
      let z : transfer_place i ≡ transfer_place i + 0 = omega arith in
      ap (λ (k : ℕ). state_at (own_at b) (piece_at (paste b k (0 ∷ []) 1) i)) z
      ∙ ap (state_at (own_at b)) (put_this 0 (0 ∷ []) 1 (omega arith) (omega arith))

  -- ---- the record after a change

  module _ (c : Change Transfer Course) (fits : ChangeFits c) (own : OwnOf b c) where
    abbrev x : List ℕ
    x = changed b i c

    abbrev made : Option Transfer
    made = after (get_or (transfers_at b) i None) c

    abbrev other : List (Option Transfer)
    other = set (transfers_at b) i made

    this_transfer : get_or (transfers_at x) i None ≡ get_or other i None
    this_transfer =
        let four : length (transfers_at b) ≡ 4 = four_transfers b in
        transfer_at_lem x i low
        ∙ ap (λ (a : Address). state_at a (piece_at x i)) (own_changed c)
        ∙ this_changed c fits own
        ∙ ap (λ (s : Option Transfer). after s c) (sym (transfer_at_lem b i low))
        ∙ sym (get_or-set_same (transfers_at b) i made None (omega arith))

    other_transfer : (j : ℕ) → j < 4 → (j ≡ i → ⊥) → get_or (transfers_at x) j None ≡ get_or other j None
    other_transfer j h ne =
        transfer_at_lem x j h
        ∙ ap₂ (λ (a : Address) (p : List ℕ). state_at a p) (own_changed c) (other_changed c j ne)
        ∙ sym (transfer_at_lem b j h)
        ∙ sym (get_or-set_other (transfers_at b) i j made None ne)

    transfers_changed : transfers_at x ≡ other
    transfers_changed =
        ext_get_or None (transfers_at x) other
        (four_transfers x ∙ sym (four_transfers b) ∙ sym (length-set (transfers_at b) i made))
        (λ j h. by_number j (let four : length (transfers_at x) ≡ 4 = four_transfers x in omega arith) (ℕ_discrete j i))
      where
        by_number : (j : ℕ) → j < 4 → Dec (j ≡ i) → get_or (transfers_at x) j None ≡ get_or other j None
        by_number j h (yes e) = subst (λ (k : ℕ). get_or (transfers_at x) k None ≡ get_or other k None) (sym e) this_transfer
        by_number j h (no ne) = other_transfer j h ne

    pub changed_at : sender_at (changed b i c) ≡ with_transfer (sender_at b) i c
    changed_at = same_sender (own_changed c) (limit_changed c) (last_changed c) transfers_changed
