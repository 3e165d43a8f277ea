-- The whole case of document 01's "Program", as the theorem observes it for key 128, 33, 3.
use Rattle.std.specs.Prelude.{Ok, None, Some}
use Prim.Native.Nat.{ℕ, ◌+◌, ◌*◌}
use mathlib.Core.Path.{◌≡◌, refl}
use mathlib.Core.List.{List, [], ◌∷◌}
use lib.ListN.{replicate}
use Rattle.segments.specs.Digits.{digit}
use Rattle.segments.specs.Model.{is_in, missing_of}
use Rattle.progress.specs.declared.wait.IdleLimits.{IdleLimits}
use Rattle.frame.specs.Judge.{judged, by_format}
use Rattle.multi_pg.specs.Groups as Groups
use Rattle.transport.specs.Control.{control_of}
use Rattle.transport.specs.Segments.{data_frame_of}
use Rattle.transport.specs.Heads.{id_to}
use Rattle.transport.specs.Responses.{response_bytes}
use Rattle.progress.specs.Forward.{grant_of}
use Rattle.session.specs.Announcements.{form_of}
use Rattle.session.specs.Decisions.{announced_to, segment_to}
use Rattle.session.specs.Segments.{due_of, judged_of}
use Rattle.session.specs.Ends.{elapsed}
use Rattle.slots.specs.Bounds.{slots_ok}
use Rattle.receiver.specs.Bounds.{in_bounds, opened}
use Rattle.receiver.specs.Calls.{announce_step, control_step, segment_step, frame_all, reading_step}
use Rattle.isolation.specs.Standard.{fd_lengths, is_one_of}
use Rattle.isolation.specs.OwnFrames.{key_at, frame_key, body_of, taken, control_body, data_body}
use Rattle.isolation.specs.Replies.{granted, took}
use Rattle.isolation.specs.Rules.{answer, reading}
use Rattle.isolation.specs.World.{Call, lent, frame, clock}
use Rattle.isolation.specs.Observe.{observed, shows, record_after, store_after, frame_seen, is_own, is_body, strays, lost, open_in, touches, reply_of, says_of, reading_seen, endings_of, ending_of}

k : ℕ
k = 128 * 4096 + 33 * 16 + 3

calls : List Call
calls =
    lent (clock 0)
    ∷ lent (frame 0x18252180 (0x40 ∷ 0xEA ∷ 0 ∷ 3 ∷ 0xCA ∷ 0xFE ∷ 0 ∷ []))
    ∷ lent (frame 0x1C4D2180 (0x30 ∷ 61 ∷ 0 ∷ 0 ∷ 2 ∷ 0 ∷ 0 ∷ 255 ∷ 0 ∷ 0xCA ∷ 0xFE ∷ 0 ∷ []))
    ∷ lent (frame 0x1C4E2180 (0x30 ∷ 2 ∷ 0 ∷ 0 ∷ 0x11 ∷ []))
    ∷ []

-- the opening is accepted, so the theorem speaks of it
-- the program's: one limit for both
abbrev limits : IdleLimits
limits = record { first = 1250; second = 1250 }

accepted : (opened (record { 0 = 33 }) limits 0).answer ≡ Ok tt
unfolding opened
accepted = refl

-- the CTS, with identifier and bytes; segment 2 is taken before segment 1 (02, E6)
whole_case_lem : observed (record { own = record { 0 = 33 }; limits = limits }) k (opened (record { 0 = 33 }) limits 0).receiver (replicate 32768 0) calls
    ≡ reading 0 []
    ∷ answer (record {
      number = 0;
      says = granted (key_at k) 1 2 65226;
      sends = Some (0x1C4D8021, 0x31 ∷ 255 ∷ 255 ∷ 255 ∷ 1 ∷ 0 ∷ 0 ∷ 2 ∷ 0 ∷ 0xCA ∷ 0xFE ∷ 0 ∷ []);
    })
    ∷ answer (record { number = 0; says = took (key_at k) 2; sends = None })
    ∷ []
unfolding opened in_bounds slots_ok frame_all judged by_format control_step control_of announce_step form_of announced_to grant_of
    data_frame_of segment_step segment_to judged_of is_in missing_of digit due_of reading_step elapsed Groups.groups_read Groups.read_from response_bytes id_to
    k calls observed shows record_after store_after frame_seen is_own is_body strays lost open_in touches reply_of says_of
    reading_seen endings_of ending_of frame_key body_of taken is_one_of fd_lengths control_body data_body
whole_case_lem = refl
