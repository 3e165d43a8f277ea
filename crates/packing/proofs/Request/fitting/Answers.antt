use mathlib.Core.Path.{sym, ◌∙◌}
use Rattle.packing.specs.Packing.{request_of}
use Rattle.packing.proofs.Fits.{many, uneven, undue, over_sums, cut, fits}
use Rattle.packing.proofs.Request.fitting.Goals as goal

pub returns-then-n-gt16 : goal.returns-then-n-gt16
returns-then-n-gt16 c = many (request_of c.args.self) c.args.out c.if-n-gt16.true

pub returns-then-not-self-n : goal.returns-then-not-self-n
returns-then-not-self-n c = uneven (request_of c.args.self) c.args.out c.if-not-self-n.true

pub returns-in_err-bytes : goal.returns-in_err-bytes
returns-in_err-bytes c = c.from_residual.ensures ∙ undue (request_of c.args.self) c.args.out (sym c.in_err-bytes.was ∙ c.added_up.ensures.sums)

pub returns-then-need-gt64 : goal.returns-then-need-gt64
returns-then-need-gt64 c = over_sums (request_of c.args.self) c.args.out c.in_ok-bytes.bytes (sym c.in_ok-bytes.was ∙ c.added_up.ensures.sums) c.if-need-gt64.true

pub returns-then-not-self-bytes : goal.returns-then-not-self-bytes
returns-then-not-self-bytes c =
    cut (request_of c.args.self) c.args.out c.in_ok-bytes.bytes (sym c.in_ok-bytes.was ∙ c.added_up.ensures.sums) c.if-need-gt64.false c.if-not-self-n.false c.if-not-self-bytes.true

pub returns : goal.returns
returns c =
    fits (request_of c.args.self) c.args.out c.in_ok-bytes.bytes (sym c.in_ok-bytes.was ∙ c.added_up.ensures.sums) c.if-need-gt64.false c.if-not-self-n.false c.if-not-self-bytes.false
