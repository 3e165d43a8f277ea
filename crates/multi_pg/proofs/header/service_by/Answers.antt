use Rattle.std.proofs.Common.{arith, ◌≡◌, ℕ, ◌+◌, ◌*◌, ◌/◌, ◌%◌, ap, ◌∙◌}
use Rattle.multi_pg.specs.Services.{service_of}
use Rattle.multi_pg.proofs.header.service_by.Goals as goal

pub returns : goal.returns
returns c =
    let s = c.args.service in
    let f = c.args.format in
    let es : (32 * s + 4 * f) / 32 ≡ s = omega arith in
    let ef : (32 * s + 4 * f) / 4 % 8 ≡ f = omega arith in
    c.service_of.ensures ∙ ap (λ (x : ℕ). service_of x ((32 * s + 4 * f) / 4 % 8)) es ∙ ap (service_of s) ef
