use Rattle.std.proofs.Common.{refl}
use Rattle.trace.specs.Placing.{room_told, written_all, written_record, put_both, size_both}
use Rattle.trace.specs.Records.{reading, record_bytes}
use Rattle.trace.specs.Numbers.{number_bytes}
use Rattle.trace.proofs.record.write_reading.Goals as goal

pub returns : goal.returns
returns c =
    let size = size_both (number_bytes 0) (number_bytes c.args.value) c.size.ensures.0 c.size-2.ensures.0 in
    written_record (reading c.args.value) refl
    (written_all c.args.out.now c.args.at (record_bytes (reading c.args.value)) size c.in_ok-check_room.ensures
    (put_both (number_bytes c.args.value) c.put-next.ensures
    (room_told c.args.out.now c.args.at (record_bytes (reading c.args.value)) size c.in_ok-check_room.ensures) c.put.ensures))
