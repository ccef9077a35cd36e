-- `put::put_chunk` meets its contract: a byte's first bits are its head, and past the end of the buffer nothing is stored.
use mathlib.Core.Path.{sym, ◌∙◌}
use native.Mathlib.Omega.{arith}
use lib.Seq.{set_out}
use Rattle.bits.proofs.Bytes.{prefix}
use Rattle.put.proofs.BitsPut.{put-in-byte}
use Rattle.put.proofs.put_chunk.Goals as goal

pub returns-then-byte-buffer : goal.returns-then-byte-buffer
returns-then-byte-buffer c =
    let a = c.args in
    rw (
      c.joined.ensures,
      put-in-byte a.buffer.now a.byte a.from a.take a.value (omega arith) (omega arith),
      prefix a.buffer.now a.byte a.from (omega arith) (omega arith),
    )

pub returns-else-byte-buffer : goal.returns-else-byte-buffer
returns-else-byte-buffer c =
    let a = c.args in
    sym (put-in-byte a.buffer.now a.byte a.from a.take a.value (omega arith) (omega arith) ∙ set_out a.buffer.now a.byte _ c.if-byte-buffer.false)
