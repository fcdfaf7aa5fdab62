-- One byte, or one byte and the rest.
use Rattle.std.proofs.Common.{arith}
use Rattle.std.proofs.lemmas.Nat.{div-add-mod'}
use Rattle.event_buffer.proofs.Leb128.{room-small, room-large, room-rest, put-small, put-large}
use Rattle.event_buffer.proofs.numbers.+put_bytes.Goals as goal

pub put_byte-requires : goal.put_byte-requires
put_byte-requires t c = record { room = room-small c.args.number _ _ c.if-number-lt128.true c.requires.room }

pub put_byte-requires-else-number-lt128 : goal.put_byte-requires-else-number-lt128
put_byte-requires-else-number-lt128 t c = record { room = (room-large c.args.number _ _ c.if-number-lt128.false c.requires.room).0 }

pub put_bytes-requires : goal.put_bytes-requires
put_bytes-requires t c =
    let parts = div-add-mod' c.args.number 128 in (
      omega (arith, parts, c.decreases, c.if-number-lt128.false),
      room-rest _ c.args.number _ _ _ c.if-number-lt128.false c.requires.room c.put_byte-else-number-lt128.ensures,
    )

pub returns-then-number-lt128 : goal.returns-then-number-lt128
returns-then-number-lt128 t c = put-small _ c.args.number _ _ c.if-number-lt128.true c.put_byte.ensures

pub returns-else-number-lt128 : goal.returns-else-number-lt128
returns-else-number-lt128 t c = put-large _ c.args.number _ _ _ c.if-number-lt128.false c.put_byte-else-number-lt128.ensures c.put_bytes.ensures
