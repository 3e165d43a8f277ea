-- The bounds of an open session in the order in which they are tested: what each kind has, then what goes by the kind.
-- That this is `session_ok` is a law (proofs/ByKind.antt).
use Rattle.std.specs.Prelude.{ℕ, ◌+◌, ◌/◌, Bool, not, ◌&&◌, eqb, leb}
use Rattle.segments.specs.Model.{agrees}
use Rattle.frame.specs.declared.Address.{Address}
use Rattle.frame.specs.Pgn.{pgn_ok}
use Rattle.transport.specs.declared.Key.{Key}
use Rattle.transport.specs.declared.Kind.{Kind}
use Rattle.transport.specs.declared.Kind.TheVariants.{Rts, Bam}
use Rattle.progress.specs.declared.Announced.{Announced}
use Rattle.progress.specs.declared.Progress.{Progress}
use Rattle.progress.specs.declared.wait.Wait.{Wait}
use Rattle.progress.specs.Waits.{is_second}

abbrev pub numbers_ok : ℕ → ℕ → ℕ → Bool
numbers_ok total segments pgn =
    leb 1 total && leb total 4096 && eqb segments ((total + 59) / 60) && pgn_ok pgn

-- SA and session number as they are taken here; the DA goes by the kind
abbrev pub source_ok : Key → Address → Bool
source_ok k own = leb k.sa.0 253 && not (eqb k.sa.0 own.0) && leb k.session.0 15

-- to the own address, with MAX SGMTS, at most five requests, and granted
abbrev pub rts_ok : ℕ → ℕ → ℕ → ℕ → ℕ → ℕ → Bool
rts_ok da own max requests granted segments =
    eqb da own && (leb 1 max && (leb requests 5 && (leb 1 granted && leb granted segments)))

-- to all, in sequence, and only in the second wait
abbrev pub bam_ok : ℕ → ℕ → ℕ → Wait → Bool
bam_ok da next segments wait = eqb da 255 && (leb 1 next && (leb next (segments + 1) && is_second wait))

abbrev pub kind_ok : Address → Announced → Progress → Kind → Bool
kind_ok own a p Rts =
    rts_ok a.key.da.0 own.0 a.max p.requests p.granted.0 a.segments.0
    && agrees p.taken a.segments.0 p.missing
kind_ok own a p Bam = bam_ok a.key.da.0 p.next.0 a.segments.0 p.wait
