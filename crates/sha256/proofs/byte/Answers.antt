-- `sha256::byte` meets its contract: each way out is a part of the padded message, or past its end.
use Rattle.std.proofs.Common.{sym, arith}
use Rattle.sha256.proofs.Padding.{of-message, behind-message, of-zeros, of-shifted-length}
use Rattle.sha256.proofs.byte.Goals as goal

pub returns-then-i-n : goal.returns-then-i-n
returns-then-i-n c = sym (of-message _ _ c.if-i-n.true)

pub returns-then-i-n-2 : goal.returns-then-i-n-2
returns-then-i-n-2 c = rw c.if-i-n-2.true (sym (behind-message _))

pub returns-then-behind-ge-LENGTH : goal.returns-then-behind-ge-LENGTH
returns-then-behind-ge-LENGTH c = sym (of-zeros _ _ (omega arith) (omega (arith, c.padded_len-end.ensures)))

pub returns : goal.returns
returns c = of-shifted-length _ _ _ (omega (arith, c.padded_len-end.ensures)) (omega arith)
