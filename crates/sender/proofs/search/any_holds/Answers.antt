use Rattle.std.proofs.Common.{◌≡◌, ◌-◌, refl, arith, rules, get_or, true, false, None}
use Rattle.std.proofs.lemmas.Iterator.{YieldsList-from_range, cases_from_any}
use Rattle.sender_bytes.specs.Layout.{transfers_at}
use Rattle.sender_bytes.specs.Changed.{four_transfers}
use Rattle.sender.specs.Transfers.{holds}
use Rattle.sender.proofs.Searched.{any_found}
use Rattle.sender.proofs.search.any_holds.Goals as goal

pub returns : goal.returns
returns c =
    let ts = transfers_at c.args.bytes.now in
    let k = c.args.k in
    let from = c.args.from in
    any_found k ts from (4 - from) (omega (arith, four_transfers c.args.bytes.now)) _
    (cases_from_any _ _ _ (λ i. holds k (get_or ts i None) ≡ true) (λ i. holds k (get_or ts i None) ≡ false) c.any.ensures.ran (YieldsList-from_range from 4 (4 - from) refl refl) (λ x q k. search rules) (λ x q k. (search rules, search rules)))
