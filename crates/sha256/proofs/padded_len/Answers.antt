-- `sha256::padded_len` meets its contract, by the law of the padded message's length.
use Rattle.std.proofs.Common.{sym}
use Rattle.sha256.proofs.Padding.{padded-length}
use Rattle.sha256.proofs.padded_len.Goals as goal

pub returns : goal.returns
returns c = sym (padded-length c.args.bytes.now)
