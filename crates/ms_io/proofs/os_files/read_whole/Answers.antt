use Rattle.std.proofs.Common.{◌++◌, take, arith, length-append, length-take}
use Rattle.ms_io.proofs.Known.{Consumes-Consumes}
use Rattle.ms_io.proofs.os_files.read_whole.Goals as goal

pub returns-in-Ok-clause-taken : goal.returns-in-Ok-clause-taken
returns-in-Ok-clause-taken g c =
    let known = c.loop.bytes.ok.0 in
    let room = c.read.auto.buf in
    let least = c.min-room.ensures in
    let more = c.saturating_add.ensures in
    let part = c.in-Ok.ensures.bound in (
      c.loop.bytes.items ++ take c.in-Ok.count c.read.new.buf,
      rw length-append (omega (arith, known, room, least, more, part.0, part.1, c.len.ensures, c.loop.invariant.within, length-take c.min-room.result c.loop.chunk)),
      Consumes-Consumes _ _ _ _ _ c.loop.invariant.consumed c.in-Ok.ensures.bytes.0,
    )

pub returns-in_err-map_err-in-Ok-2-clause-taken : goal.returns-in_err-map_err-in-Ok-2-clause-taken
returns-in_err-map_err-in-Ok-2-clause-taken g c =
    let known = c.loop.bytes.ok.0 in
    let part = c.in-Ok-2.ensures.bound in (
      c.loop.bytes.items ++ take c.in-Ok-2.count c.read.new.buf,
      rw length-append (omega (arith, known, part.1, c.if-count-most.false, c.loop.invariant.within)),
      Consumes-Consumes _ _ _ _ _ c.loop.invariant.consumed c.in-Ok-2.ensures.bytes.0,
    )
