use Prim.Native.Nat.{◌+◌, ◌*◌, ◌≤◌}
use mathlib.Core.Path.{◌≡◌}
use lib.ListN.{drop}
use Rattle.packing.specs.Packing.{sum, trailers_ok}
use Rattle.packing.proofs.Request.added_up.Given as goal

abbrev pub invariant-loop-i : goal.invariant-loop-i
invariant-loop-i l =
    record {
      checked : trailers_ok (drop l.i l.self.services.now) (drop l.i l.self.formats.now) (drop l.i l.self.trailers.now) ≡ trailers_ok l.self.services.now l.self.formats.now l.self.trailers.now;
      data_added : l.data + sum (drop l.i l.self.lengths.now) ≡ sum l.self.lengths.now;
      tails_added : l.tails + sum (drop l.i l.self.trailers.now) ≡ sum l.self.trailers.now;
      data_bounded : l.data ≤ 255 * l.i;
      tails_bounded : l.tails ≤ 255 * l.i;
    }
