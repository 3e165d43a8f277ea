use Rattle.std.proofs.Common.{arith}
use Rattle.packing.specs.Packing.{Request, request_of}
use Rattle.packing.proofs.Turns.{groups_turn, written_all}
use Rattle.packing.proofs.Request.write_groups.Goals as goal

pub loop-i-preserved : goal.loop-i-preserved
loop-i-preserved c =
    let q : Request = request_of c.args.self in
    let l = c.loop-i in
    groups_turn q c.args.out.now l.out l.i l.at l.from l.taken c.requires.even c.requires.trailers_in_bounds.0 l.invariant c.loop-i-test.true _ _ _ _ _ _ _ (omega arith)
    c.from-n.ensures c.from-m.ensures c.header-head.ensures c.copy.ensures c.copy-in-loop-i.ensures c.copy-in-loop-i-2.ensures

pub returns : goal.returns
returns c =
    let l = c.loop-i in
    written_all (request_of c.args.self) c.args.out.now l.out l.i l.at l.from l.taken c.requires.even c.requires.trailers_in_bounds.0 l.invariant c.loop-i-test.false
