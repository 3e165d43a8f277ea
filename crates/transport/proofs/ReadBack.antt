-- What one end writes is what the other reads.
use Prim.Native.Nat.{ℕ, ◌<◌}
use Rattle.std.specs.Prelude.{◌≡◌, eqb, Ok, Result}
use Rattle.std.proofs.Math.Path.{refl, sym, ap}
use Rattle.std.proofs.Common.{◌∙◌, eq-eqb}
use Rattle.std.proofs.Math.Bool.{not}
use mathlib.Core.List.{List, ◌∷◌}
use Rattle.std.proofs.Math.ListN.{length}
use Rattle.laws.specs.Choice.{else}
use native.Mathlib.Omega.{arith}
use Rattle.frame.specs.Identifiers.{identifier_of}
use Rattle.frame.specs.Judge.{route_of}
use Rattle.frame.specs.declared.identifier.Identifier.{Identifier}
use Rattle.transport.specs.declared.Key.{Key}
use Rattle.transport.specs.declared.response.Response.{Response}
use Rattle.transport.specs.declared.response.Response.TheVariants.{Cts, Eoma, Abort}
use Rattle.transport.specs.declared.response.ResponseRead.TheVariants as read
use Rattle.transport.specs.Heads.{head, control_at, session_key_of, to_originator}
use Rattle.transport.specs.Responses.{response_id, response_key, response_bytes, by_response, response_of}
use Rattle.transport.specs.ReadBack.{low24_read_back, two_read_back, three_read_back, KeyFits, fields_to, id_read_back, session_back, control_back, Fits, read_of, reply_fields}
use Rattle.frame.specs.declared.refusal.Refusal.{Refusal}
use Rattle.transport.specs.declared.response.ResponseRead.{ResponseRead}

module _ (k : Key) (fits : KeyFits k) (n : ℕ) (small : n < 16) (rest : List ℕ) where
  reply_key_back : session_key_of (route_of (fields_to 77 k.sa k.da)) (head n k ∷ rest) ≡ k
  reply_key_back = ap (λ (x : ℕ). record { sa = k.sa; da = k.da; session = record { 0 = x } }) (session_back k fits n small rest)

  module _ (long : length rest ≡ 11) where
    by_response_lem : response_of (route_of (identifier_of (to_originator k))) (head n k ∷ rest) ≡ by_response k (head n k ∷ rest) n
    unfolding response_of
    by_response_lem =
        let d : List ℕ = head n k ∷ rest in
        ap (λ (i : Identifier). response_of (route_of i) d) (id_read_back 77 k.sa k.da (omega arith) fits.sa fits.da)
        ∙ sym (else (not (eqb (length d) 12)) _ _ _ (ap not (eq-eqb (length d) 12 (omega arith))) refl)
        ∙ ap (λ (x : Key). by_response x d (control_at d)) reply_key_back
        ∙ ap (by_response k d) (control_back k fits n small rest)

reply_read_back : (k : Key) → KeyFits k → identifier_of (to_originator k) ≡ reply_fields k
reply_read_back k fits = id_read_back 77 k.sa k.da (omega arith) fits.sa fits.da

-- The frame that is written for a response, identifier and bytes, is read as that response.
pub read_back : (f : Response) → Fits f
    → (response_of (route_of (identifier_of (response_id f))) (response_bytes f) ≡ read_of f)
    × (identifier_of (response_id f) ≡ reply_fields (response_key f))
unfolding response_bytes
read_back (Cts f) (k, n, p) =
    let made : ℕ → ℕ → Result ResponseRead Refusal =
    λ (next pgn : ℕ). Ok (read.Cts (record { cts = record { key = f.key; next = record { 0 = next }; count = f.count; pgn = pgn }; request = 0 })) in
    (by_response_lem f.key k 1 (omega arith) _ refl ∙ two_read_back made f.next.0 f.pgn n p, reply_read_back f.key k)
read_back (Eoma f) (k, n, s, p) =
    let made : ℕ → ℕ → ℕ → Result ResponseRead Refusal =
    λ (total segments pgn : ℕ). Ok (read.Eoma (record { key = f.key; total = record { 0 = total }; segments = record { 0 = segments }; pgn = pgn })) in
    (by_response_lem f.key k 3 (omega arith) _ refl ∙ three_read_back made f.total.0 f.segments.0 f.pgn n s p, reply_read_back f.key k)
read_back (Abort f) (k, p) =
    let made : ℕ → Result ResponseRead Refusal =
    λ (pgn : ℕ). Ok (read.Abort (record { key = f.key; reason = f.reason; pgn = pgn })) in
    (by_response_lem f.key k 15 (omega arith) _ refl ∙ ap made (low24_read_back f.pgn p), reply_read_back f.key k)
