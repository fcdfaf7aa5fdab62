use Rattle.event_buffer.proofs.Leb128.{room-small, put-small}
use Rattle.event_buffer.proofs.numbers.put_number.Goals as goal

pub put_byte-requires : goal.put_byte-requires
put_byte-requires c = record { room = room-small c.args.number _ _ c.if-number-lt128.true c.requires.room }

pub returns-then-number-lt128 : goal.returns-then-number-lt128
returns-then-number-lt128 c = put-small _ c.args.number _ _ c.if-number-lt128.true c.put_byte.ensures
