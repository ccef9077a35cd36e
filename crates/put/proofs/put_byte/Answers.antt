-- `put::put_byte` meets its contract: past the end of the buffer nothing is stored.
use mathlib.Core.Path.{sym, ◌∙◌}
use lib.Seq.{set_out}
use Rattle.put.proofs.BitsPut.{put-whole-byte}
use Rattle.put.proofs.put_byte.Goals as goal

pub returns-then-byte-buffer : goal.returns-then-byte-buffer
returns-then-byte-buffer c = sym (put-whole-byte _ _ _)

pub returns-else-byte-buffer : goal.returns-else-byte-buffer
returns-else-byte-buffer c =
    let a = c.args in
    sym (put-whole-byte a.buffer.now a.byte a.value ∙ set_out a.buffer.now a.byte _ c.if-byte-buffer.false)
