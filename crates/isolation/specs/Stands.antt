-- The state of the rules that a record and a store stand for: each key's session as its slot and the slot's bytes have it.
use Rattle.std.specs.Prelude.{ℕ, zero, suc, ◌+◌, ◌*◌, Bool, cond, List, [], ◌∷◌, get_or, take, drop, None, Option, Some}
use Rattle.receiver.specs.declared.Receiver.{Receiver}
use Rattle.session.specs.Segments.{already_in}
use Rattle.slots.specs.Slots.{key_place, free_slot, on_found}
use Rattle.isolation.specs.OwnFrames.{key_at}
use Rattle.isolation.specs.Rules.{Values, Open, Piece, due}
use Rattle.isolation.specs.World.{World}
use Rattle.session.specs.declared.Session.{Session}

abbrev pub values_of : Receiver → Values
values_of r = record { own = r.own; limits = r.limits }

-- of segments 1 to n of the message in slot i those that are in, the latest number first
unfoldable pub pieces_of : (ℕ → Bool) → ℕ → List ℕ → ℕ → ℕ → List Piece
pieces_of is_in i m total zero = []
pieces_of is_in i m total (suc n) =
    cond (is_in (suc n))
    (record { number = suc n; bytes = take (due total (suc n)) (drop (4096 * i + 60 * n) m) } ∷ pieces_of is_in i m total n)
    (pieces_of is_in i m total n)

-- those in the record of an RTS, and below a BAM's next, are in; no session announces assurance data
unfoldable pub open_of : ℕ → List ℕ → Option Session → Option Open
open_of i m None = None
open_of i m (Some s) =
    Some (record {
      told = record {
        kind = s.announced.kind;
        total = s.announced.total;
        segments = s.announced.segments;
        max = s.announced.max;
        assurance = 0;
        pgn = s.announced.pgn;
      };
      mark = s.progress.mark;
      wait = s.progress.wait;
      granted = s.progress.granted.0;
      requests = s.progress.requests;
      pieces = pieces_of (already_in s) i m s.announced.total.0 s.announced.segments.0;
    })

unfoldable pub stands_for : Receiver → List ℕ → World
stands_for r m =
    λ k. record {
      last = r.last;
      session = on_found (key_place (key_at k) r.slots) (λ i. open_of i m (get_or r.slots i free_slot)) None;
    }
