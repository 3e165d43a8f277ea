-- How many groups a frame has: each takes 4 bytes at least, and a CAN FD frame has at most 64.
use Rattle.std.specs.Prelude.{ℕ, ◌+◌, ◌*◌, ◌≤◌, ◌≡◌, refl, true, List, length}
use Rattle.std.proofs.Common.{arith}
use Rattle.frame.specs.Lengths.{is_length}
use Rattle.frame.proofs.LengthLaws.{length_to}
use Rattle.multi_pg.specs.declared.Group.{Group}
use Rattle.multi_pg.specs.Groups.{GroupsRead, good, bad, groups_read, groups_in, groups_of}
use Rattle.multi_pg.specs.Places.{here_end}
use Rattle.multi_pg.specs.Reader.{Chain, last, link, good_chain}

chain_room : (d : List ℕ) {at : ℕ} {gs : List Group} → at ≤ length d → Chain d at gs → at + 4 * length gs ≤ length d
chain_room d h (last e) = omega arith
chain_room d {at} h (link {n = n} p c) =
    let e = here_end d at n p in omega (arith, p.whole, chain_room d (omega (arith, p.whole)) c)

pub few : (d : List ℕ) (gs : List Group) → groups_read d ≡ good gs → 4 * length gs ≤ length d
few d gs e = omega (arith, chain_room d (omega arith) (good_chain d gs e))

groups_few : (d : List ℕ) (r : GroupsRead) → groups_read d ≡ r → 4 * length (groups_in r) ≤ length d
groups_few d (good gs) e = few d gs e
groups_few d (bad r) e = omega arith

-- a frame of a CAN FD length has at most 16 groups, so that 96 numbers hold them
pub at_most_16 : (d : List ℕ) → is_length (length d) ≡ true → length (groups_of d) ≤ 16
at_most_16 d e = omega (arith, length_to (length d) e, groups_few d (groups_read d) refl)
