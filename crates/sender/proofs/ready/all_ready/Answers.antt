use Rattle.std.proofs.Common.{◌≡◌, ◌+◌, refl, sym, rules, get_or, drop, true, false, None}
use Rattle.std.proofs.lemmas.Iterator.{YieldsList-from_range, cases_from_all}
use Rattle.sender_bytes.specs.Layout.{transfers_at}
use Rattle.sender_bytes.specs.Changed.{four_transfers}
use Rattle.sender.specs.Transfers.{one_ok}
use Rattle.sender.proofs.Searched.{all_found}
use Rattle.sender.proofs.ready.all_ready.Goals as goal

pub returns : goal.returns
returns c =
    let ts = transfers_at c.args.bytes.now in
    all_found ts 4 _ (sym (four_transfers c.args.bytes.now))
    (cases_from_all _ _ _ (λ i. one_ok (get_or ts i None) (drop (i + 1) ts) ≡ true) (λ i. one_ok (get_or ts i None) (drop (i + 1) ts) ≡ false) c.all.ensures.ran (YieldsList-from_range 0 4 4 refl refl) (λ x q k. (search rules, search rules)) (λ x q k. search rules))
