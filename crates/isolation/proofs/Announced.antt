-- What an announcement comes to by the rules, in three cases: what is shown of each holds of every announcement.
use Rattle.std.specs.Prelude.{None, Option, Some}
use Prim.Native.Nat.{ℕ}
use mathlib.Core.Path.{◌≡◌}
use mathlib.Core.Bool.{Bool, false, not}
use lib.Dec.{eqb, ltb}
use Rattle.frame.specs.declared.Address.{Address}
use Rattle.transport.specs.declared.announcement.Announcement.{Announcement}
use Rattle.isolation.specs.Standard.{Cause, in_pgn_form}
use Rattle.isolation.specs.Replies.{refuse, reject}
use Rattle.isolation.specs.Rules.{Open, Out, misdirected, bad_numbers, opens, starts_anew, admitted, announced}
use Rattle.isolation.proofs.Tests.{either_way}

-- it is refused, and the session is as it was; or it is accepted, for a closed key or as a restart
pub data Comes (k last : ℕ) (x : Option Open) (a : Announcement) : Out → Type 0 where
  astray : Comes k last x a (x, refuse 11)
  refused : (c : Cause) → Comes k last x a (x, reject k a c)
  accepted : bad_numbers a ≡ false → Comes k last x a (opens k last a)

module _ (k last : ℕ) (a : Announcement) where
  by_session : (eight : Bool) (x : Option Open) → bad_numbers a ≡ false → Comes k last x a (admitted k last eight x a)
  unfolding admitted
  by_session eight None good = either_way (Comes k last None a) eight (λ _. refused _) (λ _. accepted good)
  by_session eight (Some ρ) good = either_way (Comes k last (Some ρ) a) (starts_anew a ρ) (λ _. accepted good) (λ _. refused _)

  pub comes : (own : Address) (eight : Bool) (x : Option Open) → Comes k last x a (announced own k last eight x a)
  unfolding announced
  comes own eight x =
      either_way (Comes k last x a) (misdirected own k a.kind) (λ _. astray) (λ _.
      either_way (Comes k last x a) (bad_numbers a) (λ _. refused _) (λ good.
      either_way (Comes k last x a) (ltb 4096 a.total.0) (λ _. refused _) (λ _.
      either_way (Comes k last x a) (not (eqb a.assurance 0)) (λ _. refused _) (λ _.
      either_way (Comes k last x a) (not (in_pgn_form a.pgn)) (λ _. refused _) (λ _.
      by_session eight x good)))))
