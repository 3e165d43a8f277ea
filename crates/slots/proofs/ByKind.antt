-- The bounds of an open session, as the code tests them and as they are said.
use Prim.Native.Nat.{◌+◌}
use mathlib.Core.Path.{◌≡◌, refl, sym, ap, ◌∙◌}
use mathlib.Core.Bool.{Bool, true, false, cond, not, ◌&&◌, and-true, and-false, and_assoc}
use lib.Dec.{eqb, leb}
use Rattle.segments.specs.Model.{agrees}
use Rattle.frame.specs.declared.Address.{Address}
use Rattle.transport.specs.Kinds.{is_rts}
use Rattle.transport.specs.declared.Kind.{Kind}
use Rattle.transport.specs.declared.Kind.TheVariants.{Rts, Bam}
use Rattle.progress.specs.Waits.{is_second}
use Rattle.session.specs.declared.Session.{Session}
use Rattle.session.specs.Bounds.{counts_ok, taken_here, gathered_ok, sequence_ok, session_ok}
use Rattle.slots.specs.ByKind.{numbers_ok, source_ok, kind_ok}

last_first : (g q l h : Bool) → ((q && (l && h)) && g) ≡ (g && q && l && h)
last_first true q l h = and-true (q && (l && h)) ∙ sym (and_assoc q l h)
last_first false q l h = and-false (q && (l && h))

-- n: the numbers; k: SA; s: the session number; d: the DA; m: MAX SGMTS; q, l, h: requests and the last granted; g: the record
by_rts : (n k s d m q l h g : Bool)
    → (n && (k && s) && ((d && (m && (q && (l && h)))) && g)) ≡ (n && m && (k && d && s) && (g && q && l && h))
by_rts false k s d m q l h g = refl
by_rts true k s true false q l h g = and-false (k && s)
by_rts true k s false false q l h g = and-false (k && s)
by_rts true true s false true q l h g = and-false s
by_rts true false s false true q l h g = refl
by_rts true false s true true q l h g = refl
by_rts true true s true true q l h g = ap (λ (t : Bool). s && t) (last_first g q l h)

-- x, y: the next segment; w: the wait
by_bam : (n k s d x y w : Bool) → (n && (k && s) && (d && (x && (y && w)))) ≡ (n && true && (k && d && s) && (x && y && w))
by_bam false k s d x y w = refl
by_bam true true s true x y w = ap (λ (t : Bool). s && t) (sym (and_assoc x y w))
by_bam true false s true x y w = refl
by_bam true true s false x y w = and-false s
by_bam true false s false x y w = refl

module _ (own : Address) (s : Session) where
  abbrev numbers : Bool
  numbers = numbers_ok s.announced.total.0 s.announced.segments.0 s.announced.pgn

  abbrev source : Bool
  source = leb s.announced.key.sa.0 253 && not (eqb s.announced.key.sa.0 own.0)

  by : (κ : Kind)
      → (numbers && source_ok s.announced.key own && kind_ok own s.announced s.progress κ)
      ≡ (counts_ok s.announced.total.0 s.announced.segments.0 s.announced.pgn (is_rts κ) s.announced.max
      && taken_here s.announced.key (cond (is_rts κ) own.0 255) own
      && cond (is_rts κ) (gathered_ok s.progress.taken s.progress.missing s.progress.requests s.progress.granted.0 s.announced.segments.0)
      (sequence_ok s.progress.next.0 s.announced.segments.0 s.progress.wait))
  by Rts =
      by_rts numbers source (leb s.announced.key.session.0 15) (eqb s.announced.key.da.0 own.0) (leb 1 s.announced.max)
      (leb s.progress.requests 5) (leb 1 s.progress.granted.0) (leb s.progress.granted.0 s.announced.segments.0)
      (agrees s.progress.taken s.announced.segments.0 s.progress.missing)
  by Bam =
      by_bam numbers source (leb s.announced.key.session.0 15) (eqb s.announced.key.da.0 255) (leb 1 s.progress.next.0)
      (leb s.progress.next.0 (s.announced.segments.0 + 1)) (is_second s.progress.wait)

  pub by_kind_lem : (numbers && source_ok s.announced.key own && kind_ok own s.announced s.progress s.announced.kind) ≡ session_ok own s
  by_kind_lem = by s.announced.kind
