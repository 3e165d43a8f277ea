use native.Mathlib.Omega.{arith}
use mathlib.Core.Path.{◌≡◌, ap}
use lib.ListN.{length}
use Rattle.text.specs.Put.{put_by}
use Rattle.text.specs.Line.{numbers}
use Rattle.text.proofs.Parts.{own_numbers, word_copied, text_room, fields_room, octets_room, feed_room, line_put}
use Rattle.text.proofs.line.Line.put.Goals as goal

pub slice_bounds-copy_from_slice-end : goal.slice_bounds-copy_from_slice-end
slice_bounds-copy_from_slice-end c =
    let l = c.args.self in
    text_room l.word.now l.fields.now l.octets.now c.args.out.now _ c.requires

pub put_numbers-second-requires : goal.put_numbers-second-requires
put_numbers-second-requires c =
    let l = c.args.self in
    let e : length (numbers l.fields.now) ≡ _ = ap length (own_numbers l.fields.now) in
    omega (arith, e, fields_room l.word.now l.fields.now l.octets.now _ _ c.requires _ _ (word_copied c.args.out.now c.args.at l.word.now c.copy_from_slice.new.self c.copy_from_slice.ensures.after))

pub put_numbers-third-requires : goal.put_numbers-third-requires
put_numbers-third-requires c =
    let l = c.args.self in
    let e : length (numbers l.octets.now) ≡ _ = ap length (own_numbers l.octets.now) in
    let word = word_copied c.args.out.now c.args.at l.word.now c.copy_from_slice.new.self c.copy_from_slice.ensures.after in
    omega (arith, e, octets_room l.word.now l.fields.now l.octets.now _ _ c.requires _ _ word _ _ (put_by (own_numbers _) c.put_numbers-second.ensures))

pub bounds-out-third : goal.bounds-out-third
bounds-out-third c =
    let l = c.args.self in
    let word = word_copied c.args.out.now c.args.at l.word.now c.copy_from_slice.new.self c.copy_from_slice.ensures.after in
    feed_room l.word.now l.fields.now l.octets.now _ _ c.requires _ _ word _ _ (put_by (own_numbers _) c.put_numbers-second.ensures) _ _ (put_by (own_numbers _) c.put_numbers-third.ensures)

pub overflow_add-result : goal.overflow_add-result
overflow_add-result c =
    let l = c.args.self in
    let word = word_copied c.args.out.now c.args.at l.word.now c.copy_from_slice.new.self c.copy_from_slice.ensures.after in
    let h = feed_room l.word.now l.fields.now l.octets.now _ _ c.requires _ _ word _ _ (put_by (own_numbers _) c.put_numbers-second.ensures) _ _ (put_by (own_numbers _) c.put_numbers-third.ensures) in
    omega (arith, h, c.well_formed)

pub returns : goal.returns
returns c =
    let l = c.args.self in
    let word = word_copied c.args.out.now c.args.at l.word.now c.copy_from_slice.new.self c.copy_from_slice.ensures.after in
    line_put l.word.now l.fields.now l.octets.now _ _ c.requires _ _ word _ _ (put_by (own_numbers _) c.put_numbers-second.ensures) _ _ (put_by (own_numbers _) c.put_numbers-third.ensures)
