use Rattle.std.proofs.Common.{zero-add, arith}
use Rattle.std.proofs.lemmas.List.FromFn.{get_or-map-range_with_len}
use Rattle.checksum.specs.Crc.{shift, eight}
use Rattle.checksum.proofs.entry.Goals as goal

-- the rule of the whole table at once: antt computes the eight shifts of each byte, and finds the table
pub returns : goal.returns
unfolding eight shift
returns c = get_or-map-range_with_len eight 0 256 c.args.b c.args.b 0 (omega arith) (zero-add c.args.b)
