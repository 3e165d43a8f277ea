use mathlib.Core.Path.{◌≡◌, sym, ap, ◌∙◌}
use lib.ListN.{length}
use native.Mathlib.Omega.{arith}
use Rattle.frame.specs.Lengths.{frame_length}
use Rattle.frame.proofs.LengthLaws.{frame_bounds}
use Rattle.packing.specs.Packing.{Request, request_of, needed}
use Rattle.packing.proofs.Outcomes.{fitted_true, fitted_need, fitted_met, fitted_none, faulty, eight, accepted}
use Rattle.packing.proofs.Request.pack.Goals as goal

pub returns-in_default : goal.returns-in_default
returns-in_default c =
    let q : Request = request_of c.args.self in
    faulty q c.args.out.now c.first_fault.result c.first_fault.ensures (fitted_none q (length c.args.out.now) (sym c.in_default.is ∙ c.fitting.ensures))

pub returns-then-not-all_pgns : goal.returns-then-not-all_pgns
returns-then-not-all_pgns c =
    let q : Request = request_of c.args.self in
    let o = length c.args.out.now in
    let e = sym c.in-Some.is ∙ c.fitting.ensures in
    eight q c.args.out.now (fitted_met q o c.in-Some.bytes e) (fitted_true q o c.in-Some.bytes e) (sym c.all_pgns.ensures ∙ c.if-not-all_pgns.true)

pub write_groups-requires-clause-even : goal.write_groups-requires-clause-even
write_groups-requires-clause-even c = (fitted_met (request_of c.args.self) (length c.args.out.now) c.in-Some.bytes (sym c.in-Some.is ∙ c.fitting.ensures)).even

pub write_groups-requires-clause-trailers_in_bounds : goal.write_groups-requires-clause-trailers_in_bounds
write_groups-requires-clause-trailers_in_bounds c =
    let m = fitted_met (request_of c.args.self) (length c.args.out.now) c.in-Some.bytes (sym c.in-Some.is ∙ c.fitting.ensures) in
    (omega (arith, m.small, m.output), omega (arith, m.output))

pub overflow_sub-n : goal.overflow_sub-n
overflow_sub-n c =
    let q : Request = request_of c.args.self in
    let o = length c.args.out.now in
    let e = sym c.in-Some.is ∙ c.fitting.ensures in
    let n : c.in-Some.bytes ≡ needed q = fitted_need q o c.in-Some.bytes e in
    omega (arith, frame_bounds (needed q) (fitted_met q o c.in-Some.bytes e).small, c.frame_length-n.ensures ∙ ap frame_length n, n)

pub pad-requires : goal.pad-requires
pad-requires c =
    let q : Request = request_of c.args.self in
    let o = length c.args.out.now in
    let e = sym c.in-Some.is ∙ c.fitting.ensures in
    let m = fitted_met q o c.in-Some.bytes e in
    let n : c.in-Some.bytes ≡ needed q = fitted_need q o c.in-Some.bytes e in
    omega (arith, frame_bounds (needed q) m.small, c.frame_length-n.ensures ∙ ap frame_length n, n, c.write_groups.auto, m.output)

pub returns : goal.returns
returns c =
    let q : Request = request_of c.args.self in
    let o = length c.args.out.now in
    let b = c.in-Some.bytes in
    let e = sym c.in-Some.is ∙ c.fitting.ensures in
    accepted q c.args.out.now c.write_groups.new.out c.pad.new.out c.frame_length-n.result b (fitted_met q o b e)
    (sym c.all_pgns.ensures ∙ c.if-not-all_pgns.false) (fitted_true q o b e) (fitted_need q o b e) c.frame_length-n.ensures c.write_groups.ensures c.pad.ensures
