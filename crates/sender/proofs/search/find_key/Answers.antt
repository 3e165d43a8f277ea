use Rattle.std.proofs.Common.{◌≡◌, sym, rules, get_or, true, false, None}
use Rattle.std.proofs.lemmas.Iterator.{first_from_Range}
use Rattle.sender_bytes.specs.Layout.{transfers_at}
use Rattle.sender.specs.Transfers.{holds}
use Rattle.sender.specs.Held.{held_open}
use Rattle.slots.specs.Searches.{first_found}
use Rattle.sender_bytes.specs.Changed.{four_transfers}
use Rattle.sender.proofs.search.find_key.Goals as goal

pub returns : goal.returns
returns c =
    let ts = transfers_at c.args.bytes.now in
    let k = c.args.k in
    let found = first_found None (holds k) ts 4 (sym (four_transfers c.args.bytes.now)) c.find.result
    (first_from_Range _ _ _ _ (λ i. holds k (get_or ts i None) ≡ true) (λ i. holds k (get_or ts i None) ≡ false) c.find.ensures.ran (λ x q k. search rules) (λ x q k. (search rules, search rules))) in
    (found.0, found.1, held_open k ts c.find.result found.0)
