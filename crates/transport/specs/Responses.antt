-- Control frames that a responder sends: a receiver writes them, and a sender takes them.
use Rattle.std.specs.Prelude.{ℕ, cond, not, List, eqb, length, Err, Ok, Result}
use Rattle.frame.specs.declared.judge.Route.{Route}
use Rattle.frame.specs.declared.refusal.Refusal.TheVariants.{TransferLength, NeitherTakes}
use Rattle.transport.specs.declared.Key.{Key}
use Rattle.transport.specs.declared.abort.Role.TheVariants.{Responder}
use Rattle.transport.specs.declared.response.ResponseRead.TheVariants as read
use Rattle.transport.specs.declared.response.Response.{Response}
use Rattle.transport.specs.declared.response.Response.TheVariants.{Cts, Eoma, Abort}
use Rattle.transport.specs.Heads.{control_at, session_key_of, to_originator}
use Rattle.transport.specs.Cts.{cts_at, cts_bytes}
use Rattle.transport.specs.Eoma.{eoma_at, eoma_bytes}
use Rattle.transport.specs.Aborts.{role_at, abort_at, abort_bytes}
use Rattle.frame.specs.declared.refusal.Refusal.{Refusal}
use Rattle.transport.specs.declared.response.ResponseRead.{ResponseRead}

unfoldable pub response_bytes : Response → List ℕ
response_bytes (Cts f) = cts_bytes f
response_bytes (Eoma f) = eoma_bytes f
response_bytes (Abort f) = abort_bytes Responder f

abbrev pub response_key : Response → Key
response_key (Cts f) = f.key
response_key (Eoma f) = f.key
response_key (Abort f) = f.key

abbrev pub response_id : Response → ℕ
response_id f = to_originator (response_key f)

-- the responder's
abbrev pub abort_response_of : Key → List ℕ → Result ResponseRead Refusal
abort_response_of k d = cond (eqb (role_at d) 1) (Ok (read.Abort (abort_at k d))) (Err NeitherTakes)

-- CTS 1, EOMA 3, Abort 15 from the responder; no other is a receiver's frame
abbrev pub by_response : Key → List ℕ → ℕ → Result ResponseRead Refusal
by_response k d control =
    cond (eqb control 1) (Ok (read.Cts (cts_at k d)))
    (cond (eqb control 3) (Ok (read.Eoma (eoma_at k d)))
    (cond (eqb control 15) (abort_response_of k d)
    (Err NeitherTakes)))

unfoldable pub response_of : Route → List ℕ → Result ResponseRead Refusal
response_of route d =
    cond (not (eqb (length d) 12)) (Err TransferLength)
    (by_response (session_key_of route d) d (control_at d))
