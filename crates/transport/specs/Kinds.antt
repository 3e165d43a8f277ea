-- RTS or BAM.
use Rattle.std.specs.Prelude.{Bool, true, false}
use Rattle.transport.specs.declared.Kind.{Kind}
use Rattle.transport.specs.declared.Kind.TheVariants.{Rts, Bam}

abbrev pub is_rts : Kind → Bool
is_rts Rts = true
is_rts Bam = false
