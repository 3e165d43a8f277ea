use Rattle.std.proofs.Common.{◌≡◌, sym, rules, get_or, true, false, None}
use Rattle.std.proofs.lemmas.Iterator.{first_from_Range}
use Rattle.sender_bytes.specs.Layout.{transfers_at}
use Rattle.sender.specs.Transfers.{is_free}
use Rattle.slots.specs.Searches.{first_found}
use Rattle.sender_bytes.specs.Changed.{four_transfers}
use Rattle.sender.proofs.search.find_free.Goals as goal

pub returns : goal.returns
returns c =
    let ts = transfers_at c.args.bytes.now in
    first_found None is_free ts 4 (sym (four_transfers c.args.bytes.now)) _
    (first_from_Range _ _ _ _ (λ i. is_free (get_or ts i None) ≡ true) (λ i. is_free (get_or ts i None) ≡ false) c.find.ensures.ran (λ x q k. search rules) (λ x q k. (search rules, search rules)))
