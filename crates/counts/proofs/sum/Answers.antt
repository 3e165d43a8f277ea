use Rattle.std.proofs.Common.{ℕ, ◌≡◌, ◌+◌, List, [], ◌∷◌, ◌∙◌, refl, rules, arith, ap, sum}
use Rattle.std.proofs.lemmas.List.Sums.{sum_by-cons}
use Rattle.counts.specs.Counts.{sum_of}
use Rattle.counts.proofs.sum.Goals as goal

-- the library's sum
sum_is : (xs : List ℕ) → sum xs ≡ sum_of xs
unfolding sum_of
sum_is [] = refl
sum_is (x ∷ xs) = sum_by-cons (λ (y : ℕ). y) x xs ∙ ap (λ (s : ℕ). x + s) (sum_is xs)

pub returns : goal.returns
returns c =
    let all : c.from.result ≡ sum c.args.counts.now = search rules in
    let same : c.from.result ≡ sum_of c.args.counts.now = all ∙ sum_is c.args.counts.now in
    omega (arith, same)
