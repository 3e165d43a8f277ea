use Rattle.std.proofs.Common.{arith, ◌≡◌, suc, length, sym, ap, subst, ◌∙◌}
use Rattle.std.specs.Prelude.{option_map}
use Rattle.std.specs.Iterator.{YieldsFirst}
use Rattle.multi_pg.specs.declared.Group.{Group}
use Rattle.multi_pg.specs.declared.Cursor.{Cursor}
use Rattle.reader.specs.declared.Reader.{Reader}
use Rattle.reader.specs.Runs.{behind, groups_left}
use Rattle.reader.proofs.Runs.{left_none, left_first}
use Rattle.reader.proofs.ReaderIterator.next.Goals as goal

pub returns-in_err-group-clause-steps : goal.returns-in_err-group-clause-steps
returns-in_err-group-clause-steps c =
    let r = c.args.self.now in
    let e = sym c.next.ensures ∙ c.in_err-group.was in
    let none = left_none r e in (
      c.from_residual.ensures ∙ sym (ap (option_map (λ (next : Group × Cursor). next.0)) e),
      ap (λ n. record { frame = r.frame; at = n }) (sym (ap (behind r.at) e)),
      subst (λ given. YieldsFirst groups_left r given r) (sym c.from_residual.ensures) (none, none),
    )

pub returns-clause-steps : goal.returns-clause-steps
returns-clause-steps c =
    let r = c.args.self.now in
    let e = sym c.next.ensures ∙ c.in_ok-group.was in (
      sym (ap (option_map (λ (next : Group × Cursor). next.0)) e),
      ap (λ n. record { frame = r.frame; at = n }) (sym (ap (behind r.at) e)),
      left_first r c.in_ok-group.group c.in_ok-group.behind e,
    )

pub returns-clause-goes : goal.returns-clause-goes
returns-clause-goes c =
    let r = c.args.self.now in
    let rest : Reader = record { frame = r.frame; at = c.in_ok-group.behind.at } in
    let fewer : length (groups_left r) ≡ suc (length (groups_left rest)) = ap length (returns-clause-steps c).2 in
    record { on = λ _. (tt, tt, omega arith); keeps = tt; rests = λ _. tt }
